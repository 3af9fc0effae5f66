-- A hart that has stopped takes no step and stays as it is.
use Rattle.std.proofs.Common.{◌≡◌, ℕ, Bool, false, List, [], ◌∷◌, set, Option, Some, None, refl, ap, sym, ◌∙◌, inl, inr}
use Rattle.std.proofs.lemmas.Bool.{cases_eq}
use Rattle.std.proofs.lemmas.List.{set-get_or}
use Rattle.std.proofs.lemmas.Option.{get_or_from_slice_get}
use Rattle.std.specs.List.{slice_get}
use Rattle.hart_step.specs.Hart.{HartValue}
use Rattle.hart_step.specs.Effect.{Site, site}
use Rattle.hart_step.specs.Step.{by_state, stepped}
use Rattle.hart_step.specs.declared.hart.HartState.{HartState}
use Rattle.hart_step.specs.declared.hart.HartState.TheVariants.{Running, Exited, Faulted}
use Rattle.machine.specs.World.{World, placed, step_of, step, run}
use Rattle.machine.specs.declared.choice.Choice.{Choice}
use Rattle.explore_laws.specs.Bounds.{not_stopped, still_runs, runs_in}
use Rattle.explore_laws.proofs.ListLemmas.{get_set_other}

-- ---- one step
state_stopped : (state : HartState) (s : Site) (h : ℕ) (refuse : Bool) → not_stopped state ≡ false → by_state state s h refuse ≡ s
state_stopped Running s h refuse stopped = absurd (cc)
state_stopped (Exited status) s h refuse stopped = refl
state_stopped (Faulted cause) s h refuse stopped = refl

site_stopped : (h : ℕ) (refuse : Bool) (s : Site) → not_stopped s.hart.state ≡ false → stepped h refuse s ≡ s
unfolding stepped
site_stopped h refuse s stopped = state_stopped s.hart.state s h refuse stopped

hart_stopped : (w : World) (c : Choice) (o : Option HartValue) → slice_get w.harts c.hart ≡ o → still_runs o ≡ false → step_of w c o ≡ w
hart_stopped w c None there stopped = refl
hart_stopped w c (Some v) there stopped =
    ap (placed w c.hart) (site_stopped c.hart c.refuse (site v w.memory w.reserved) stopped)
    ∙ ap (λ harts. record w { harts = harts })
    (ap (set w.harts c.hart) (sym (get_or_from_slice_get w.harts c.hart v v there)) ∙ set-get_or w.harts c.hart v)

-- the step of a hart that has stopped changes nothing
pub step_stopped : (w : World) (c : Choice) → runs_in w c.hart ≡ false → step w c ≡ w
unfolding step
step_stopped w c stopped = hart_stopped w c (slice_get w.harts c.hart) refl stopped

-- another hart's step leaves a hart as it is
other_of : (w : World) (c : Choice) (o : Option HartValue) (h : ℕ) → (h ≡ c.hart → ⊥) → slice_get (step_of w c o).harts h ≡ slice_get w.harts h
other_of w c None h other = refl
other_of w c (Some v) h other =
    get_set_other w.harts c.hart h (stepped c.hart c.refuse (site v w.memory w.reserved)).hart other

pub other_step : (w : World) (c : Choice) (h : ℕ) → (h ≡ c.hart → ⊥) → slice_get (step w c).harts h ≡ slice_get w.harts h
unfolding step
other_step w c h other = other_of w c (slice_get w.harts c.hart) h other

-- ---- runs
stays_stopped : (w : World) (c : Choice) (h : ℕ) → runs_in w h ≡ false → runs_in (step w c) h ≡ false
stays_stopped w c h stopped = elim (cases_eq h c.hart) [
  | inl same ↦ ap (λ (x : World). runs_in x h) (step_stopped w c (ap (runs_in w) (sym same) ∙ stopped)) ∙ stopped
  | inr other ↦ ap still_runs (other_step w c h other) ∙ stopped
]

pub run_stopped : (w : World) (choices : List Choice) (h : ℕ) → runs_in w h ≡ false → runs_in (run w choices) h ≡ false
unfolding run
run_stopped w [] h stopped = stopped
run_stopped w (c ∷ choices) h stopped = run_stopped (step w c) choices h (stays_stopped w c h stopped)
