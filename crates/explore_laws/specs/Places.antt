-- Where turns lead: a choice, and the steps that its hart takes at once behind it.
use Rattle.std.specs.Prelude.{ℕ, ◌==◌, Bool, false, ◌||◌, List, [], ◌∷◌}
use Rattle.machine.specs.World.{World, step}
use Rattle.machine.specs.declared.choice.Choice.{Choice}
use Rattle.explore_laws.specs.Settling.{Stride, world_settled}

-- a world, which harts were chosen on the way to it (a rule asks no more of a run), and how many
-- steps harts take at once
pub record Place : Type 0 where
  pub stride : Stride
  pub world : World
  pub chosen : ℕ → Bool

-- a world before any choice
abbrev pub place_begun : Stride → World → Place
place_begun stride w = record { stride = stride; world = w; chosen = λ k. false }

-- one choice further
abbrev pub place_stepped : Place → Choice → Place
place_stepped p c = record { stride = p.stride; world = step p.world c; chosen = λ k. (c.hart == k) || p.chosen k }

-- hart h has taken the steps that it takes at once
abbrev pub place_settled : Place → ℕ → Place
place_settled p h = record { stride = p.stride; world = world_settled p.stride p.world h; chosen = p.chosen }

-- one turn further
abbrev pub place_after : Place → Choice → Place
place_after p c = place_settled (place_stepped p c) c.hart

-- where turns lead
unfoldable pub place_reached : Place → List Choice → Place
place_reached p [] = p
place_reached p (c ∷ turns) = place_reached (place_after p c) turns
