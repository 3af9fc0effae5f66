-- Runs and the harts of a start, one by one.
use Rattle.std.proofs.Common.{◌≡◌, ℕ, suc, ◌+◌, ◌<◌, List, [], ◌∷◌, ◌++◌, length, get_or, take, map, ◌∙◌, ap, ap₂, sym, refl, arith}
use Rattle.std.proofs.lemmas.List.{take_more, length-take-le, map-append}
use Rattle.hart_step.specs.Hart.{hart_of}
use Rattle.hart_step.specs.declared.hart.Hart.{Hart}
use Rattle.machine.specs.Start.{first_hart, first_harts}
use Rattle.machine.specs.World.{World, step, run}
use Rattle.machine.specs.declared.choice.Choice.{Choice}

run-push : (w : World) (choices : List Choice) (c : Choice) → run w (choices ++ c ∷ []) ≡ step (run w choices) c
unfolding run
run-push w [] c = refl
run-push w (x ∷ choices) c = run-push (step w x) choices c

-- one list of events after another
pub run_append : (w : World) (choices more : List Choice) → run w (choices ++ more) ≡ run (run w choices) more
unfolding run
run_append w [] more = refl
run_append w (c ∷ choices) more = run_append (step w c) choices more

pub run_none : (w : World) → run w [] ≡ w
unfolding run
run_none w = refl

-- one event more
pub run_more : (w : World) (choices : List Choice) (i : ℕ) (d : Choice) → i < length choices
    → run w (take (i + 1) choices) ≡ step (run w (take i choices)) (get_or choices i d)
run_more w choices i d h = rw (take_more choices i d h) (run-push w (take i choices) (get_or choices i d))

first_harts-push : (entry n h : ℕ) (inputs : List ℕ) (x : ℕ)
    → first_harts entry n h (inputs ++ x ∷ []) ≡ first_harts entry n h inputs ++ first_hart entry n (h + length inputs) x ∷ []
first_harts-push entry n h [] x = let e : h + 0 ≡ h = omega arith in rw e
first_harts-push entry n h (y ∷ inputs) x =
    let e : h + suc (length inputs) ≡ h + 1 + length inputs = omega arith in
    rw e (ap (λ t. first_hart entry n h y ∷ t) (first_harts-push entry n (h + 1) inputs x))

-- one hart more
harts_more : (entry n : ℕ) (inputs : List ℕ) (i d : ℕ) → i < length inputs
    → first_harts entry n 0 (take (i + 1) inputs)
    ≡ first_harts entry n 0 (take i inputs) ++ first_hart entry n i (get_or inputs i d) ∷ []
harts_more entry n inputs i d h =
    let e : 0 + length (take i inputs) ≡ i = omega (arith, length-take-le i inputs (omega arith)) in
    rw (take_more inputs i d h) (first_harts-push entry n 0 (take i inputs) (get_or inputs i d)
    ∙ ap (λ k. first_harts entry n 0 (take i inputs) ++ first_hart entry n k (get_or inputs i d) ∷ []) e)

-- a hart more was made
pub harts_pushed : (entry n : ℕ) (inputs : List ℕ) (i d : ℕ) (old new : List Hart) (h : Hart) → i < length inputs
    → new ≡ old ++ h ∷ [] → hart_of h ≡ first_hart entry n i (get_or inputs i d)
    → map hart_of old ≡ first_harts entry n 0 (take i inputs) → map hart_of new ≡ first_harts entry n 0 (take (i + 1) inputs)
harts_pushed entry n inputs i d old new h below pushed made so_far =
    ap (map hart_of) pushed ∙ map-append hart_of old (h ∷ []) ∙ ap₂ (λ xs x. xs ++ x ∷ []) so_far made
    ∙ sym (harts_more entry n inputs i d below)
