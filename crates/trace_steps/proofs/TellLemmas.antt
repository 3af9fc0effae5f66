-- What is told of lists of choices.
use Rattle.std.proofs.Common.{◌≡◌, ◌≢◌, ℕ, zero, suc, ◌<◌, ◌≤◌, List, [], ◌∷◌, ◌++◌, length, get_or, set, take, Option, Some, None, refl, ap, sym, subst, ◌∙◌, arith}
use Rattle.std.specs.List.{All, slice_get}
use Rattle.std.proofs.lemmas.List.{get_or-set_other}
use Rattle.std.proofs.lemmas.List.Elements.{All-head, All-tail}
use Rattle.hart_step.specs.Hart.{HartValue}
use Rattle.hart_step.specs.Effect.{site}
use Rattle.hart_step.specs.Step.{stepped}
use Rattle.machine.specs.World.{World, step_of, step, run}
use Rattle.machine.specs.declared.choice.Choice.{Choice}
use Rattle.trace_steps.specs.Told.{nobody, hart_at, told_choice}
use Rattle.trace_steps.specs.Tells.{tells}
use Rattle.trace_steps.specs.declared.told.Told.{Told}
use Rattle.trace_steps.specs.Covers.{IsOfAnother}

pub tells_append : (w : World) (choices more : List Choice) → tells w (choices ++ more) ≡ tells w choices ++ tells (run w choices) more
unfolding tells run
tells_append w [] more = refl
tells_append w (c ∷ choices) more = ap (λ l. told_choice w c ∷ l) (tells_append (step w c) choices more)

some-same : (a b : Choice) → ◌≡◌ {A = Option Choice} (Some a) (Some b) → a ≡ b
some-same a b e = cc

pub told_in_place : (w : World) (choices : List Choice) (k : ℕ) (c : Choice) → slice_get choices k ≡ Some c
    → slice_get (tells w choices) k ≡ Some (told_choice (run w (take k choices)) c)
unfolding tells run
told_in_place w [] k c e = absurd (let f : ◌≡◌ {A = Option Choice} None (Some c) = e in cc)
told_in_place w (x ∷ choices) zero c e = ap (λ (d : Choice). Some (told_choice w d)) (some-same x c e)
told_in_place w (x ∷ choices) (suc k) c e = told_in_place (step w x) choices k c e

-- ---- a hart of which nothing is told
other-of : (w : World) (c : Choice) (k : ℕ) (o : Option HartValue) → c.hart ≢ k → hart_at (step_of w c o) k ≡ hart_at w k
other-of w c k None away = refl
other-of w c k (Some h) away = get_or-set_other w.harts c.hart k _ nobody (λ same. away (sym same))

other_stays : (w : World) (c : Choice) (k : ℕ) → c.hart ≢ k → hart_at (step w c) k ≡ hart_at w k
unfolding step
other_stays w c k away = other-of w c k (slice_get w.harts c.hart) away

told-hart : (w : World) (c : Choice) → (told_choice w c).choice ≡ c
unfolding told_choice
told-hart w c = refl

pub untold_stays : (w : World) (choices : List Choice) (k : ℕ) → All (IsOfAnother k) (tells w choices) → hart_at (run w choices) k ≡ hart_at w k
unfolding tells run
untold_stays w [] k all = refl
untold_stays w (c ∷ choices) k all =
    untold_stays (step w c) choices k (All-tail (IsOfAnother k) (told_choice w c) (tells (step w c) choices) all)
    ∙ other_stays w c k (λ same. All-head (IsOfAnother k) (told_choice w c) (tells (step w c) choices) all (ap (λ (d : Choice). d.hart) (told-hart w c) ∙ same))
