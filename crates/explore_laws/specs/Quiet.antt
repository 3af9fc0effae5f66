-- Steps that no other hart sees, and what lets them wait.
use Rattle.std.specs.Prelude.{◌≡◌, ℕ, Bool, true, List, [], ◌∷◌}
use Rattle.std.specs.List.{All}
use Rattle.hart_step.specs.Laws.{IsAligned}
use Rattle.hart_local.specs.LocalRuns.{plain_choices}
use Rattle.machine.specs.World.{World, step}
use Rattle.machine.specs.declared.choice.Choice.{Choice}
use Rattle.explore_laws.specs.Bounds.{runs_in}
use Rattle.explore_laws.specs.Settling.{Stride}

-- something of a hart's next step in a world, by the hart's number
abbrev pub OfNextStep : Type 0
OfNextStep = World → ℕ → Bool

-- each choice's step is quiet when it is taken
abbrev pub AreQuiet : OfNextStep → World → List Choice → Type 0
AreQuiet quiet w [] = Unit {0}
AreQuiet quiet w (c ∷ choices) = (quiet w c.hart ≡ true) × AreQuiet quiet (step w c) choices

-- each hart's next instruction stands at a multiple of 4
abbrev pub AreAligned : World → Type 0
AreAligned w = All IsAligned w.harts

-- quiet steps can wait: another hart's step that is clear of them leads to the same world before
-- them as behind them
pub record CanWait (quiet clear : OfNextStep) (stride : Stride) : Type 0 where
  -- a hart whose next step is quiet runs, and no refusal changes that step
  pub runs : (w : World) (h : ℕ) → quiet w h ≡ true → runs_in w h ≡ true
  pub alike : (w : World) (c d : Choice) → quiet w c.hart ≡ true → d.hart ≡ c.hart → step w d ≡ step w c
  -- another hart's step leaves it quiet
  pub stays : (w : World) (h : ℕ) (c : Choice) → AreAligned w → (h ≡ c.hart → ⊥) → quiet w h ≡ true → quiet (step w c) h ≡ true
  -- a quiet step is clear of the others', and makes no other hart's step clear that wasn't
  pub is_clear : (w : World) (h : ℕ) → AreAligned w → quiet w h ≡ true → clear w h ≡ true
  pub was_clear : (w : World) (c : Choice) (h : ℕ) → AreAligned w → (h ≡ c.hart → ⊥) → quiet w c.hart ≡ true
      → clear (step w c) h ≡ true → clear w h ≡ true
  -- a quiet step and one that is clear may be taken in either order
  pub swaps : (w : World) (d c : Choice) → AreAligned w → (d.hart ≡ c.hart → ⊥) → quiet w d.hart ≡ true → clear w c.hart ≡ true
      → step (step w d) c ≡ step (step w c) d
  -- a stride is of quiet steps alone, and another hart's quiet step leaves it as long as it is
  pub strides : (w : World) (h : ℕ) → AreAligned w → AreQuiet quiet w (plain_choices h (stride w h))
  pub paces : (w : World) (c : Choice) (h : ℕ) → AreAligned w → (h ≡ c.hart → ⊥) → quiet w c.hart ≡ true
      → stride (step w c) h ≡ stride w h
