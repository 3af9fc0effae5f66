-- Properties as they were judged.
use Rattle.std.specs.Prelude.{ℕ, List, Option, Some, None, ◌||◌, if◌then◌else◌}
use Rattle.std.specs.Option.{option_or}
use Rattle.machine.specs.World.{World}
use Rattle.machine.specs.declared.choice.Choice.{Choice}
use Rattle.hart_step.specs.Hart.{HartValue}
use Rattle.property_judge.specs.Property.{holds_in, is_kept_by}
use Rattle.property_judge.specs.Broken.{broken_from}
use Rattle.property_judge.specs.declared.judged.Judged.{Judged}

-- a property that is broken after k choices unless it was before, or there is no k
abbrev pub broken_too : Judged → Option ℕ → Judged
broken_too judged later = record { property = judged.property; broken = option_or judged.broken later }

-- judged in the world to which k choices have led
abbrev pub judged_at : ℕ → World → Judged → Judged
judged_at k w judged = broken_too judged (if holds_in judged.property w then None else Some k)

-- judged in the world to which k choices have led, the last of them of this hart
abbrev pub judged_after : ℕ → World → HartValue → Judged → Judged
judged_after k w hart judged = broken_too judged (if is_kept_by judged.property hart || holds_in judged.property w then None else Some k)

-- judged in the worlds of a run, to the first of which k choices have led
abbrev pub judged_from : ℕ → World → List Choice → Judged → Judged
judged_from k w choices judged = broken_too judged (broken_from judged.property k w choices)

-- judged in all worlds of a run
abbrev pub judged_run : World → List Choice → Judged → Judged
judged_run w choices judged = judged_from 0 w choices judged
