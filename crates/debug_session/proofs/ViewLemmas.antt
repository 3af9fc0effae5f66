-- The steps that are given, one by one.
use Rattle.std.proofs.Common.{◌≡◌, ℕ, ◌+◌, ◌<◌, ◌≤◌, List, [], ◌∷◌, ◌++◌, length, get_or, drop, ◌∙◌, sym, ap, refl, arith}
use Rattle.std.proofs.lemmas.List.{drop_more, drop_all, append-nil, append_assoc}
use Rattle.std.specs.List.{slice_get}
use Rattle.machine.specs.World.{World, step}
use Rattle.machine.specs.declared.choice.Choice.{Choice}
use Rattle.debug_session.specs.Steps.{view_of, steps_from}
use Rattle.debug_session.specs.declared.step_view.StepView.{StepView}

steps_one : (w : World) (k : ℕ) (c : Choice) (cs : List Choice) → steps_from w k (c ∷ cs) ≡ view_of k c w.memory (slice_get w.harts c.hart) ++ steps_from (step w c) (k + 1) cs
unfolding steps_from
steps_one w k c cs = refl

steps_none : (w : World) (k : ℕ) → steps_from w k [] ≡ []
unfolding steps_from
steps_none w k = refl

-- one step more
pub views_more : (views new all : List StepView) (view : StepView) (w x : World) (c : Choice) (cs : List Choice) (first i : ℕ) → i < length cs → c ≡ get_or cs i c
    → view ∷ [] ≡ view_of (first + i) c w.memory (slice_get w.harts c.hart) → x ≡ step w c → new ≡ views ++ view ∷ []
    → views ++ steps_from w (first + i) (drop i cs) ≡ all → new ++ steps_from x (first + (i + 1)) (drop (i + 1) cs) ≡ all
views_more views new all view w x c cs first i inside read seen is pushed left =
    let place : first + (i + 1) ≡ first + i + 1 = omega arith in
    let rest : steps_from w (first + i) (drop i cs) ≡ (view ∷ []) ++ steps_from (step w c) (first + i + 1) (drop (i + 1) cs)
    = ap (steps_from w (first + i)) (drop_more cs i c inside ∙ ap (λ (d : Choice). d ∷ drop (i + 1) cs) (sym read))
    ∙ steps_one w (first + i) c (drop (i + 1) cs)
    ∙ ap (λ (vs : List StepView). vs ++ steps_from (step w c) (first + i + 1) (drop (i + 1) cs)) (sym seen) in
    ap (λ (vs : List StepView). vs ++ steps_from x (first + (i + 1)) (drop (i + 1) cs)) pushed
    ∙ append_assoc views (view ∷ []) (steps_from x (first + (i + 1)) (drop (i + 1) cs))
    ∙ ap (λ (n : ℕ). views ++ ((view ∷ []) ++ steps_from x n (drop (i + 1) cs))) place
    ∙ ap (λ (u : World). views ++ ((view ∷ []) ++ steps_from u (first + i + 1) (drop (i + 1) cs))) is
    ∙ ap (λ (vs : List StepView). views ++ vs) (sym rest) ∙ left

-- no step is left
pub views_end : (views all : List StepView) (w : World) (cs : List Choice) (k i : ℕ) → length cs ≤ i → views ++ steps_from w k (drop i cs) ≡ all → views ≡ all
views_end views all w cs k i past left =
    sym (append-nil views) ∙ ap (λ (vs : List StepView). views ++ vs) (sym (ap (steps_from w k) (drop_all i cs past) ∙ steps_none w k)) ∙ left
