-- The numbers of a campaign over schedules with a bounded number of preemptions.
use Rattle.std.specs.Prelude.{ℕ, ◌+◌, ◌-◌, ◌^◌, List, Option, Some, None}
use Rattle.std.specs.Borrow.{Bor}
use Rattle.cli_args.specs.Numbers.{number_below}
use Rattle.cli_values.specs.declared.bounds.BoundedNumbers.{BoundedNumbers}

-- the first schedule, 0 by default
abbrev pub first_schedule_said : Option (Bor (List ℕ)) → Option ℕ
first_schedule_said None = Some 0
first_schedule_said (Some text) = number_below (2 ^ 64 - 1) text.now

-- the number of schedules from the first one on; by default all that have a number below 2 ^ 64 - 1
abbrev pub schedules_said : ℕ → Option (Bor (List ℕ)) → Option ℕ
schedules_said first None = Some (2 ^ 64 - 1 - first)
schedules_said first (Some text) = number_below (2 ^ 64 - 1 - first + 1) text.now

-- these numbers
abbrev pub bounds_of : ℕ → Option ℕ → Option ℕ → Option ℕ → Option BoundedNumbers
bounds_of first None steps preemptions = None
bounds_of first (Some count) None preemptions = None
bounds_of first (Some count) (Some steps) None = None
bounds_of first (Some count) (Some steps) (Some preemptions) =
    Some (record { first = first; count = count; steps = steps; preemptions = preemptions })

-- the numbers from the first one on
abbrev pub bounds_from : Option ℕ → Option (Bor (List ℕ)) → List ℕ → List ℕ → Option BoundedNumbers
bounds_from None count steps preemptions = None
bounds_from (Some first) count steps preemptions = bounds_of first (schedules_said first count)
    (number_below (2 ^ 32) steps) (number_below (2 ^ 32) preemptions)
