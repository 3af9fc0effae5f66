-- Texts that spell choices.
use Rattle.std.specs.Prelude.{◌≡◌, ℕ, List, Ok}
use Rattle.machine.specs.declared.choice.Choice.{Choice}
use Rattle.sched_text.specs.Reading.{choices_read}

-- a text spells choices for this number of harts
abbrev pub IsSpelled : ℕ → List ℕ → Type 0
IsSpelled harts text = (choices : List Choice) × (choices_read harts text ≡ Ok choices)
