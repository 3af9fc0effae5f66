-- Lists with choices left out and marks removed.
use Rattle.std.proofs.Common.{◌≡◌, ℕ, zero, suc, ◌+◌, ◌-◌, ◌≤◌, List, [], ◌∷◌, ◌++◌, map, take, drop, refl, sym, subst, ◌∙◌, inl, inr, arith}
use Rattle.machine.specs.declared.choice.Choice.{Choice}
use Rattle.cmd_shrink.specs.Less.{IsSofter, IsLess}
use Rattle.cmd_shrink.specs.Edits.{unmarked_choice, left_out, edited}
use Rattle.cmd_shrink.specs.declared.edits.Edit.{Edit}
use Rattle.cmd_shrink.specs.declared.edits.Edit.TheVariants as edits

softer-same : (c : Choice) → IsSofter c c
softer-same c = (refl, λ marked. marked)

softer-without_mark : (c : Choice) → IsSofter (unmarked_choice c) c
softer-without_mark c = (refl, λ marked. absurd (cc))

softer-trans : (a b c : Choice) → IsSofter a b → IsSofter b c → IsSofter a c
softer-trans a b c f g = (f.0 ∙ g.0, λ marked. g.1 (f.1 marked))

pub less_none : (given : List Choice) → IsLess [] given
unfolding IsLess
less_none given = tt

pub one_more : (c d : Choice) (list given : List Choice) → IsSofter c d → IsLess list given → IsLess (c ∷ list) (d ∷ given)
unfolding IsLess
one_more c d list given soft less = inl (soft, less)

pub one_left : (d : Choice) (list given : List Choice) → IsLess list given → IsLess list (d ∷ given)
unfolding IsLess
one_left d [] given less = tt
one_left d (c ∷ list) given less = inr less

pub less_same : (list : List Choice) → IsLess list list
less_same [] = less_none []
less_same (c ∷ list) = one_more c c list list (softer-same c) (less_same list)

-- less of less is less
pub less_trans : (a b c : List Choice) → IsLess a b → IsLess b c → IsLess a c
unfolding IsLess
less_trans [] b c f g = tt
less_trans (x ∷ a) [] c f g = absurd f
less_trans (x ∷ a) (y ∷ b) [] f g = absurd g
less_trans (x ∷ a) (y ∷ b) (z ∷ c) (inl f) (inl g) = inl (softer-trans x y z f.0 g.0, less_trans a b c f.1 g.1)
less_trans (x ∷ a) (y ∷ b) (z ∷ c) (inr f) (inl g) = inr (less_trans (x ∷ a) b c f g.1)
less_trans (x ∷ a) (y ∷ b) (z ∷ c) f (inr g) = inr (less_trans (x ∷ a) (y ∷ b) c f g)

-- the first choices of a list
pub less_take : (n : ℕ) (list : List Choice) → IsLess (take n list) list
less_take zero list = less_none list
less_take (suc n) [] = less_none []
less_take (suc n) (c ∷ list) = one_more c c (take n list) list (softer-same c) (less_take n list)

less-drop : (n : ℕ) (list : List Choice) → IsLess (drop n list) list
less-drop zero list = less_same list
less-drop (suc n) [] = less_none []
less-drop (suc n) (c ∷ list) = one_left c (drop n list) list (less-drop n list)

-- a list without a part
less-left_out : (from to : ℕ) (list : List Choice) → from ≤ to → IsLess (left_out from to list) list
less-left_out zero to list order = less-drop to list
less-left_out (suc from) zero list order = absurd (omega (arith, order))
less-left_out (suc from) (suc to) [] order = less_none []
less-left_out (suc from) (suc to) (c ∷ list) order =
    one_more c c (left_out from to list) list (softer-same c) (less-left_out from to list (omega (arith, order)))

-- the first choices without their marks, and the others
less-marks : (n : ℕ) (list : List Choice) → IsLess (map unmarked_choice (take n list) ++ drop n list) list
less-marks zero list = less_same list
less-marks (suc n) [] = less_none []
less-marks (suc n) (c ∷ list) =
    one_more (unmarked_choice c) c (map unmarked_choice (take n list) ++ drop n list) list (softer-without_mark c) (less-marks n list)

-- a list without the marks of a part
less-marks_taken : (from to size : ℕ) (list : List Choice) → from + size ≡ to
    → IsLess (take from list ++ (map unmarked_choice (take size (drop from list)) ++ drop to list)) list
less-marks_taken zero to size list sum =
    let e : size ≡ to = omega (arith, sum) in
    subst (λ n. IsLess (map unmarked_choice (take size list) ++ drop n list) list) e (less-marks size list)
less-marks_taken (suc from) zero size list sum = absurd (omega (arith, sum))
less-marks_taken (suc from) (suc to) zero [] sum = less_none []
less-marks_taken (suc from) (suc to) (suc size) [] sum = less_none []
less-marks_taken (suc from) (suc to) size (c ∷ list) sum =
    one_more c c (take from list ++ (map unmarked_choice (take size (drop from list)) ++ drop to list)) list (softer-same c)
    (less-marks_taken from to size list (omega (arith, sum)))

-- a list after an edit of a part
pub less_edited : (edit : Edit) (from to : ℕ) (list given : List Choice) → list ≡ edited edit from to given → from ≤ to → IsLess list given
less_edited edits.LeaveOut from to list given is order =
    subst (λ l. IsLess l given) (sym is) (less-left_out from to given order)
less_edited edits.TakeMarks from to list given is order =
    subst (λ l. IsLess l given) (sym is) (less-marks_taken from to (to - from) given (omega (arith, order)))
