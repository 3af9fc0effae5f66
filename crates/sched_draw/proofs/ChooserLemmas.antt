-- Choices that are made one by one: the run over them, and their list.
use Rattle.std.proofs.Common.{◌≡◌, ℕ, ◌<◌, ◌≤◌, ◌==◌, Bool, false, true, ◌||◌, List, [], ◌∷◌, ◌++◌, get_or, append-nil, append_assoc, eqb-true, refl, ap, sym, ◌∙◌}
use Rattle.std.specs.List.{All}
use Rattle.std.proofs.lemmas.List.Elements.{All-head, All-tail}
use Rattle.hart_step.specs.Hart.{HartValue}
use Rattle.machine.specs.Running.{runs}
use Rattle.machine.specs.World.{World, step, run}
use Rattle.machine.specs.Chosen.{is_chosen}
use Rattle.machine.specs.declared.choice.Choice.{Choice}
use Rattle.machine.proofs.StoppedLemmas.{run-stopped}
use Rattle.machine.proofs.WorldLemmas.{run_append, run_none}
use Rattle.sched_run.specs.Harts.{Harts, with_hart}
use Rattle.sched_run.proofs.ChosenLemmas.{any-append, choice_chosen, or-none}
use Rattle.sched_draw.specs.Schedules.{RanOver}
use Rattle.sched_draw.specs.Partway.{Partway}

-- where each was chosen, no other hart is chosen
all_named : (harts : Harts) (choices : List Choice) (k : ℕ) → All (λ c. harts c.hart ≡ true) choices
    → harts k ≡ (harts k || is_chosen choices k)
all_named harts [] k named = sym (or-none (harts k))
all_named harts (c ∷ choices) k named =
    by (c.hart == k) refl (all_named harts choices k (All-tail (λ (c : Choice). harts c.hart ≡ true) c choices named))
  where
    by : (b : Bool) → (c.hart == k) ≡ b → harts k ≡ (harts k || is_chosen choices k) → harts k ≡ (harts k || (b || is_chosen choices k))
    by true same later =
        let here : harts k ≡ true =
        ap harts (sym (eqb-true c.hart k same)) ∙ All-head (λ (c : Choice). harts c.hart ≡ true) c choices named in
        here ∙ ap (λ b. b || (true || is_chosen choices k)) (sym here)
    by false other later = later

-- no choice was taken
pub begun : (all left : List Choice) (world : World) (chosen : Harts) → left ≡ all → chosen ≡ (λ _. false) → Partway all left world world chosen
begun all left world chosen whole none = record {
  done = [];
  order = sym whole;
  led = sym (run_none world);
  told = λ k. ap (λ (harts : Harts). harts k) none;
}

run_one : (w : World) (c : Choice) → run w (c ∷ []) ≡ step w c
unfolding run
run_one w c = refl

-- one choice more was taken
pub one_more : (all left next : List Choice) (old before after : World) (chosen more : Harts) (c : Choice)
    → left ≡ c ∷ next → after ≡ step before c → more ≡ with_hart chosen c.hart
    → Partway all left old before chosen → Partway all next old after more
one_more all left next old before after chosen more c is stepped added s = record {
  done = s.done ++ c ∷ [];
  order = s.order ∙ ap (λ cs. s.done ++ cs) is ∙ sym (append_assoc s.done (c ∷ []) next);
  led = stepped ∙ ap (λ w. step w c) s.led ∙ sym (run_one (run old s.done) c) ∙ sym (run_append old s.done (c ∷ []));
  told = λ k. ap (λ (harts : Harts). harts k) added ∙ choice_chosen s.done c chosen k (s.told k);
}

-- all were taken
pub all_done : (all left : List Choice) (old now : World) (chosen : Harts) → left ≡ []
    → Partway all left old now chosen → RanOver all old now chosen
all_done all left old now chosen none s =
    let whole : s.done ≡ all = sym (s.order ∙ ap (λ cs. s.done ++ cs) none ∙ append-nil s.done) in
    (s.led ∙ ap (run old) whole, λ k. s.told k ∙ ap (λ cs. is_chosen cs k) whole)

-- those that are left are of these harts, which have stopped and were chosen
pub ended : (all left : List Choice) (old now : World) (chosen : Harts) (first last : ℕ) (harts : List HartValue) → harts ≡ now.harts
    → All (λ c. (first ≤ c.hart) × (c.hart < last)) left
    → ((hart : ℕ) → first ≤ hart → hart < last → (runs harts hart ≡ false) × (chosen hart ≡ true))
    → Partway all left old now chosen → RanOver all old now chosen
ended all left old now chosen first last harts same among idle s =
    let done : All (λ c. (runs harts c.hart ≡ false) × (chosen c.hart ≡ true)) left =
    λ i c below. idle (get_or left i c).hart (among i c below).0 (among i c below).1 in
    let stopped : All (λ c. runs now.harts c.hart ≡ false) left =
    λ i c below. ap (λ hs. runs hs (get_or left i c).hart) (sym same) ∙ (done i c below).0 in (
      sym (ap (run old) s.order ∙ run_append old s.done left ∙ ap (λ w. run w left) (sym s.led) ∙ run-stopped now left stopped),
      λ k.
          all_named chosen left k (λ i c below. (done i c below).1) ∙ ap (λ b. b || is_chosen left k) (s.told k)
          ∙ sym (any-append s.done left k) ∙ sym (ap (λ cs. is_chosen cs k) s.order),
    )

-- the choices so far, and then those that are left
module _ (old left whole : List Choice) (so_far : old ++ left ≡ whole) where
  -- one more is listed
  pub one_listed : (next new : List Choice) (c : Choice) → left ≡ c ∷ next → new ≡ old ++ c ∷ [] → new ++ next ≡ whole
  one_listed next new c is pushed =
      ap (λ cs. cs ++ next) pushed ∙ append_assoc old (c ∷ []) next ∙ ap (λ cs. old ++ cs) (sym is) ∙ so_far

  -- all are listed
  pub all_listed : left ≡ [] → old ≡ whole
  all_listed none = sym (ap (λ cs. old ++ cs) none ∙ append-nil old) ∙ so_far
