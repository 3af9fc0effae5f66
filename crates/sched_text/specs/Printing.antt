-- Choice texts as they are printed.
use Rattle.std.specs.Prelude.{ℕ, ◌==◌, List, [], ◌∷◌, ◌++◌, if◌then◌else◌}
use Rattle.std.specs.Fmt.{decimal}
use Rattle.machine.specs.declared.choice.Choice.{Choice}
use Rattle.text_items.specs.Numbers.{mark_of}
use Rattle.text_items.specs.Printing.{text_of}
use Rattle.sched_text.specs.declared.run.Run.{Run}
use Rattle.sched_text.specs.Runs.{longest_runs}

-- the hart's number in decimal, and `!` if its store-conditional is refused
abbrev pub item_text : Choice → List ℕ
item_text c = decimal c.hart ++ mark_of c.refuse

-- one space between items, LF at the end, and nothing for no choices
abbrev pub choices_text : List Choice → List ℕ
choices_text choices = text_of item_text choices

-- `*` and the count of a choice, if that isn't 1
abbrev pub count_text : ℕ → List ℕ
count_text n = if n == 1 then [] else 42 ∷ decimal n

-- the hart's number in decimal, the mark, and the count
abbrev pub run_text : Run → List ℕ
run_text r = decimal r.choice.hart ++ (mark_of r.choice.refuse ++ count_text r.count)

-- the longest runs, one space between items, LF at the end, and nothing for no choices
abbrev pub runs_text : List Choice → List ℕ
runs_text choices = text_of run_text (longest_runs choices)
