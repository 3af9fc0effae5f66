-- How many choices and marks a list has once one of them is gone.
use Rattle.std.proofs.Common.{◌≡◌, ℕ, zero, suc, ◌+◌, ◌-◌, ◌<◌, Bool, true, false, List, [], ◌∷◌, ◌++◌, length, get_or, map, take, drop, refl, sym, subst, ◌∙◌, arith}
use Rattle.machine.specs.declared.choice.Choice.{Choice}
use Rattle.cmd_shrink.specs.Less.{weight_of, weight}
use Rattle.cmd_shrink.specs.Edits.{unmarked_choice, left_out, marks_taken}

some_weight : (mark : Bool) → 0 < weight_of mark
some_weight true = omega arith
some_weight false = omega arith

pub weight-more : (c : Choice) (list : List Choice) → weight (c ∷ list) ≡ weight_of c.refuse + weight list
unfolding weight
weight-more c list = refl

lighter_choice : (k : ℕ) (list : List Choice) → k < length list → weight (take k list ++ drop (suc k) list) < weight list
lighter_choice k [] there = absurd (omega (arith, there))
lighter_choice zero (c ∷ list) there = rw (weight-more c list) (omega (arith, some_weight c.refuse))
lighter_choice (suc k) (c ∷ list) there =
    rw (weight-more c list) (rw (weight-more c (take k list ++ drop (suc k) list))
    (omega (arith, lighter_choice k list (omega (arith, there)))))

-- a list without one choice is lighter
pub lighter_left_out : (k : ℕ) (list given : List Choice) → k < length given → list ≡ left_out k (k + 1) given → weight list < weight given
lighter_left_out k list given there is =
    let e : k + 1 ≡ suc k = omega arith in
    subst (λ l. weight l < weight given) (sym is) (subst (λ n. weight (take k given ++ drop n given) < weight given) (sym e)
    (lighter_choice k given there))

lighter_mark : (k : ℕ) (d : Choice) (list : List Choice) → k < length list → (get_or list k d).refuse ≡ true
    → weight (take k list ++ (map unmarked_choice (take 1 (drop k list)) ++ drop (suc k) list)) < weight list
lighter_mark k d [] there marked = absurd (omega (arith, there))
lighter_mark zero d (c ∷ list) there marked =
    rw (weight-more c list) (rw (weight-more (unmarked_choice c) list) (rw marked (omega arith)))
lighter_mark (suc k) d (c ∷ list) there marked =
    rw (weight-more c list) (rw (weight-more c (take k list ++ (map unmarked_choice (take 1 (drop k list)) ++ drop (suc k) list)))
    (omega (arith, lighter_mark k d list (omega (arith, there)) marked)))

-- a list without one mark is lighter
pub lighter_marks_taken : (k : ℕ) (d : Choice) (list given : List Choice) → k < length given → (get_or given k d).refuse ≡ true
    → list ≡ marks_taken k (k + 1) given → weight list < weight given
lighter_marks_taken k d list given there marked is =
    let e : k + 1 ≡ suc k = omega arith in
    let one : k + 1 - k ≡ 1 = omega arith in
    let here : marks_taken k (k + 1) given ≡ take k given ++ (map unmarked_choice (take 1 (drop k given)) ++ drop (suc k) given)
    = rw one (rw e refl) in
    subst (λ l. weight l < weight given) (sym (is ∙ here)) (lighter_mark k d given there marked)
