-- Choice texts as they are read: item by item, up to the first bad one.
use Rattle.std.specs.Prelude.{ℕ, ◌&&◌, nat_lt, Bool, List, [], ◌∷◌, ◌++◌, Option, Some, None, if◌then◌else◌}
use Rattle.std.specs.declared.result.Result.{Result}
use Rattle.std.specs.declared.result.Result.TheVariants.{Ok, Err}
use Rattle.machine.specs.declared.choice.Choice.{Choice}
use Rattle.text_items.specs.Numbers.{number_of, has_mark, unmarked, before_byte, from_byte}
use Rattle.text_items.specs.Reading.{values_of}
use Rattle.sched_text.specs.declared.run.Run.{Run}
use Rattle.sched_text.specs.declared.choice_text.ChoiceFault.{ChoiceFault}
use Rattle.sched_text.specs.declared.choice_text.ChoiceFault.TheVariants.{BadChoice, NoHart}
use Rattle.sched_text.specs.Runs.{choice_run, expanded_runs}

-- a count from 1 to 16777216
abbrev pub count_in : Option ℕ → Option ℕ
count_in None = None
count_in (Some n) = if nat_lt 0 n && nat_lt n 16777217 then Some n else None

-- the count of a choice, by the part that begins with `*`
abbrev pub count_of : List ℕ → Option ℕ
count_of [] = Some 1
count_of (star ∷ digits) = count_in (number_of digits)

-- the run of a hart's choices, if number and count are valid and the hart exists
abbrev pub run_by : Option ℕ → Option ℕ → ℕ → ℕ → Bool → Result Run ChoiceFault
run_by None count harts at refuse = Err (BadChoice at)
run_by (Some hart) None harts at refuse = Err (BadChoice at)
run_by (Some hart) (Some count) harts at refuse =
    if nat_lt hart harts then Ok (choice_run (record { hart = hart; refuse = refuse }) count) else Err (NoHart at)

-- the run that an item denotes, for this number of harts
abbrev pub run_of : ℕ → ℕ → List ℕ → Result Run ChoiceFault
run_of harts at item =
    run_by (number_of (unmarked (before_byte 42 item))) (count_of (from_byte 42 item)) harts at (has_mark (before_byte 42 item))

-- these choices, and then those of runs
abbrev pub expanded_after : List Choice → Result (List Run) ChoiceFault → Result (List Choice) ChoiceFault
expanded_after choices (Ok runs) = Ok (choices ++ expanded_runs runs)
expanded_after choices (Err fault) = Err fault

-- the choices of a text for this number of harts
abbrev pub choices_read : ℕ → List ℕ → Result (List Choice) ChoiceFault
choices_read harts text = expanded_after [] (values_of (run_of harts) text)
