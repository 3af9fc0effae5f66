-- Choices of harts that have stopped change nothing.
use Rattle.std.proofs.Common.{◌≡◌, ℕ, zero, suc, Bool, false, List, [], ◌∷◌, Option, Some, None, set, refl, ap, sym, ◌∙◌}
use Rattle.std.specs.Prelude.{replicate}
use Rattle.std.specs.List.{All, slice_get}
use Rattle.std.proofs.lemmas.List.{set-get_or}
use Rattle.std.proofs.lemmas.List.Elements.{All-head, All-tail}
use Rattle.std.proofs.lemmas.Option.{get_or_from_slice_get}
use Rattle.hart_step.specs.Hart.{HartValue}
use Rattle.hart_step.specs.Effect.{Site, site}
use Rattle.hart_step.specs.Step.{by_state, stepped}
use Rattle.hart_step.specs.declared.hart.HartState.{HartState}
use Rattle.hart_step.specs.declared.hart.HartState.TheVariants.{Running, Exited, Faulted}
use Rattle.machine.specs.World.{World, placed, step_of, step, run}
use Rattle.machine.specs.declared.choice.Choice.{Choice}
use Rattle.machine.specs.Running.{is_running, goes, runs}

by_state-stopped : (state : HartState) (s : Site) (h : ℕ) (refuse : Bool) → is_running state ≡ false → by_state state s h refuse ≡ s
by_state-stopped Running s h refuse stopped = absurd (cc)
by_state-stopped (Exited status) s h refuse stopped = refl
by_state-stopped (Faulted cause) s h refuse stopped = refl

stepped-stopped : (h : ℕ) (refuse : Bool) (s : Site) → is_running s.hart.state ≡ false → stepped h refuse s ≡ s
unfolding stepped
stepped-stopped h refuse s stopped = by_state-stopped s.hart.state s h refuse stopped

step_of-stopped : (w : World) (c : Choice) (o : Option HartValue) → slice_get w.harts c.hart ≡ o → goes o ≡ false → step_of w c o ≡ w
step_of-stopped w c None there stopped = refl
step_of-stopped w c (Some h) there stopped =
    ap (placed w c.hart) (stepped-stopped c.hart c.refuse (site h w.memory w.reserved) stopped)
    ∙ ap (λ harts. record w { harts = harts })
    (ap (set w.harts c.hart) (sym (get_or_from_slice_get w.harts c.hart h h there)) ∙ set-get_or w.harts c.hart h)

pub step-stopped : (w : World) (c : Choice) → runs w.harts c.hart ≡ false → step w c ≡ w
unfolding step
step-stopped w c stopped = step_of-stopped w c (slice_get w.harts c.hart) refl stopped

pub run-stopped : (w : World) (choices : List Choice) → All (λ c. runs w.harts c.hart ≡ false) choices → run w choices ≡ w
unfolding run
run-stopped w [] stopped = refl
run-stopped w (c ∷ choices) stopped =
    ap (λ v. run v choices) (step-stopped w c (All-head (λ (c : Choice). runs w.harts c.hart ≡ false) c choices stopped))
    ∙ run-stopped w choices (All-tail (λ (c : Choice). runs w.harts c.hart ≡ false) c choices stopped)

-- equal choices, however many
pub repeat-stopped : (w : World) (c : Choice) (n : ℕ) → runs w.harts c.hart ≡ false → run w (replicate n c) ≡ w
unfolding run
repeat-stopped w c zero stopped = refl
repeat-stopped w c (suc n) stopped = ap (λ v. run v (replicate n c)) (step-stopped w c stopped) ∙ repeat-stopped w c n stopped
