-- Properties that are judged one after another in a world.
use Rattle.std.proofs.Common.{◌≡◌, ℕ, zero, suc, ◌+◌, ◌<◌, List, [], ◌∷◌, length, get_or, set, map, ◌∙◌, arith, refl, ap}
use Rattle.property_judge.specs.declared.judged.Judged.{Judged}

-- the first n as they are judged, the others as they were
abbrev pub first_judged : (Judged → Judged) → ℕ → List Judged → List Judged
first_judged judge zero js = js
first_judged judge (suc n) [] = []
first_judged judge (suc n) (j ∷ js) = judge j ∷ first_judged judge n js

length-first : (judge : Judged → Judged) (n : ℕ) (js : List Judged) → length (first_judged judge n js) ≡ length js
length-first judge zero js = refl
length-first judge (suc n) [] = refl
length-first judge (suc n) (j ∷ js) = ap suc (length-first judge n js)

one_more : (judge : Judged → Judged) (n : ℕ) (js : List Judged) (d : Judged) → n < length js
    → set (first_judged judge n js) n (judge (get_or (first_judged judge n js) n d)) ≡ first_judged judge (suc n) js
one_more judge n [] d lt = absurd (omega arith)
one_more judge zero (j ∷ js) d lt = refl
one_more judge (suc n) (j ∷ js) d lt = ap (λ t. judge j ∷ t) (one_more judge n js d (omega arith))

-- one more is judged
pub judged_more : (judge : Judged → Judged) (js items : List Judged) (n : ℕ) (old new : Judged)
    → items ≡ first_judged judge n js → n < length items → old ≡ get_or items n old → new ≡ judge old
    → set items n new ≡ first_judged judge (n + 1) js
judged_more judge js items n old new is inside there made =
    let next : n + 1 ≡ suc n = omega arith in
    let room : n < length js = omega (arith, ap length is, length-first judge n js) in
    let made_here : new ≡ judge (get_or (first_judged judge n js) n old) = made ∙ ap judge (there ∙ ap (λ t. get_or t n old) is) in
    rw next (ap (λ t. set t n new) is ∙ ap (λ x. set (first_judged judge n js) n x) made_here ∙ one_more judge n js old room)

first_all : (judge : Judged → Judged) (js : List Judged) → first_judged judge (length js) js ≡ map judge js
first_all judge [] = refl
first_all judge (j ∷ js) = ap (λ t. judge j ∷ t) (first_all judge js)

-- all are judged
pub all_judged : (judge : Judged → Judged) (js items : List Judged) (n : ℕ) → items ≡ first_judged judge n js → n ≡ length items
    → items ≡ map judge js
all_judged judge js items n is at_end =
    let same : n ≡ length js = omega (arith, at_end, ap length is, length-first judge n js) in
    is ∙ ap (λ k. first_judged judge k js) same ∙ first_all judge js
