-- The run of a choice text.
use Rattle.std.specs.Prelude.{◌≡◌, ℕ, List, take, Ok}
use Rattle.machine.specs.World.{World, run}
use Rattle.machine.specs.Chosen.{is_chosen}
use Rattle.machine.specs.declared.choice.Choice.{Choice}
use Rattle.sched_text.specs.declared.choice_text.ChoiceFault.{ChoiceFault}
use Rattle.sched_text.specs.declared.choice_text.ChoiceFault.TheVariants.{BadChoice, NoHart, Memory}
use Rattle.sched_text.specs.Reading.{choices_read}
use Rattle.sched_run.specs.Harts.{Harts}

-- a text spells choices whose run leads from one world to another, and chooses these harts
pub record LeadsTo (harts : ℕ) (text : List ℕ) (old new : World) (chosen : Harts) : Type 0 where
  pub choices : List Choice
  pub read : choices_read harts text ≡ Ok choices
  pub led : new ≡ run old choices
  pub told : (k : ℕ) → chosen k ≡ is_chosen choices k

-- the offset of the bad item; out of memory names none
abbrev pub bad_item_at : ChoiceFault → ℕ
bad_item_at (BadChoice at) = at
bad_item_at (NoHart at) = at
bad_item_at Memory = 0

-- what a text has before its bad item spells choices whose run leads from one world to another
pub record LeadsBefore (harts : ℕ) (text : List ℕ) (fault : ChoiceFault) (old new : World) : Type 0 where
  pub choices : List Choice
  pub read : choices_read harts (take (bad_item_at fault) text) ≡ Ok choices
  pub led : new ≡ run old choices
