-- Schedules without draws: the harts in turn, and one hart alone.
use Rattle.std.specs.Prelude.{ℕ, ◌%◌, false, List, map}
use Rattle.std.specs.List.{range_with_len}
use Rattle.machine.specs.declared.choice.Choice.{Choice}

-- the choice of a hart whose store-conditional isn't refused
abbrev pub plain_choice : ℕ → Choice
plain_choice hart = record { hart = hart; refuse = false }

-- n steps of the harts in turn, from a step on: step i is of hart i mod harts
abbrev pub turns_from : ℕ → ℕ → ℕ → List Choice
turns_from step harts steps = map (λ i. plain_choice (i % harts)) (range_with_len step steps)

-- n steps of the harts in turn, from hart 0 on
abbrev pub turns : ℕ → ℕ → List Choice
turns harts steps = turns_from 0 harts steps

-- n steps of one hart, from a step on
abbrev pub alone_from : ℕ → ℕ → ℕ → List Choice
alone_from step hart steps = map (λ i. plain_choice hart) (range_with_len step steps)

-- n steps of one hart
abbrev pub alone : ℕ → ℕ → List Choice
alone hart steps = alone_from 0 hart steps
