-- Sets and lists of accesses, as tests.
use Rattle.std.proofs.Common.{◌≡◌, ℕ, ◌+◌, Bool, true, false, List, [], ◌∷◌, ◌++◌, drop, length, ◌<◌, refl, ap, sym, ◌∙◌, zero, suc, arith, append_assoc}
use Rattle.std.specs.Prelude.{◌||◌, ◌&&◌, slice_index_or, cond}
use Rattle.std.specs.Ordering.{eq_by_cmp}
use Rattle.std.specs.BTreeSet.{BTreeSet}
use Rattle.bank_laws.specs.declared.access.LoggedAccess.{LoggedAccess}
use Rattle.bank_merge.specs.Matching.{access_cmp, has_access, is_among, are_in}

-- the item at an index, and those after it
pub drop_item : {X : Type 0} (xs : List X) (i : ℕ) (x : X) → i < length xs → x ≡ slice_index_or xs i x → drop i xs ≡ x ∷ drop (i + 1) xs
drop_item [] i x low is = absurd (omega (arith, low))
drop_item {X} (y ∷ xs) zero x low is = ap (λ (z : X). z ∷ xs) (sym is)
drop_item {X} (y ∷ xs) (suc i) x low is =
    let same : suc (i + 1) ≡ suc i + 1 = omega arith in
    drop_item xs i x (omega (arith, low)) is ∙ ap (λ (k : ℕ). x ∷ drop k (y ∷ xs)) same

pub item_at : {X : Type 0} (xs : List X) (i : ℕ) (d : X) → i < length xs → drop i xs ≡ slice_index_or xs i d ∷ drop (i + 1) xs
item_at [] i d low = absurd (omega (arith, low))
item_at (y ∷ xs) zero d low = refl
item_at (y ∷ xs) (suc i) d low =
    let same : suc (i + 1) ≡ suc i + 1 = omega arith in
    item_at xs i d (omega (arith, low)) ∙ ap (λ k. slice_index_or xs i d ∷ drop k (y ∷ xs)) same

or_assoc : (x y z : Bool) → (x || (y || z)) ≡ ((x || y) || z)
or_assoc true y z = refl
or_assoc false y z = refl

and_assoc : (x y z : Bool) → (x && (y && z)) ≡ ((x && y) && z)
and_assoc true y z = refl
and_assoc false y z = refl

turned : (p q r : Bool) → (q || (p || r)) ≡ ((p || q) || r)
turned true true r = refl
turned true false r = refl
turned false q r = refl

-- the test of a set with one more, as an `or`
or_of : (x y : Bool) → cond x true y ≡ ((x || false) || y)
or_of true y = refl
or_of false y = refl

pub one_in : (old new : BTreeSet LoggedAccess) (x a : LoggedAccess) → has_access new a ≡ cond (eq_by_cmp access_cmp x a) true (has_access old a)
    → has_access new a ≡ (is_among (x ∷ []) a || has_access old a)
one_in old new x a e = e ∙ or_of (eq_by_cmp access_cmp x a) (has_access old a)

pub among_both : (xs ys : List LoggedAccess) (a : LoggedAccess) → is_among (xs ++ ys) a ≡ (is_among xs a || is_among ys a)
among_both [] ys a = refl
among_both (x ∷ xs) ys a = ap (λ (b : Bool). eq_by_cmp access_cmp x a || b) (among_both xs ys a) ∙ or_assoc (eq_by_cmp access_cmp x a) (is_among xs a) (is_among ys a)

are_both : (set : BTreeSet LoggedAccess) (xs ys : List LoggedAccess) → are_in set (xs ++ ys) ≡ (are_in set xs && are_in set ys)
are_both set [] ys = refl
are_both set (x ∷ xs) ys = ap (λ (b : Bool). has_access set x && b) (are_both set xs ys) ∙ and_assoc (has_access set x) (are_in set xs) (are_in set ys)

-- a set takes what comes first, and the rest is left
pub more_in : (old new : BTreeSet LoggedAccess) (front xs ys : List LoggedAccess) (rhs : LoggedAccess → Bool) → front ≡ xs ++ ys
    → ((a : LoggedAccess) → (is_among front a || has_access old a) ≡ rhs a) → ((a : LoggedAccess) → has_access new a ≡ (is_among xs a || has_access old a))
    → (a : LoggedAccess) → (is_among ys a || has_access new a) ≡ rhs a
more_in old new front xs ys rhs is so_far put a =
    ap (λ (b : Bool). is_among ys a || b) (put a)
    ∙ turned (is_among xs a) (is_among ys a) (has_access old a)
    ∙ ap (λ (b : Bool). b || has_access old a) (sym (among_both xs ys a))
    ∙ ap (λ (l : List LoggedAccess). is_among l a || has_access old a) (sym is)
    ∙ so_far a

-- a list takes what comes first, and the rest is left
pub more_taken : {X : Type 0} (old new xs front ys all : List X) → new ≡ old ++ xs → front ≡ xs ++ ys → old ++ front ≡ all → new ++ ys ≡ all
more_taken {X} old new xs front ys all put is so_far =
    ap (λ (l : List X). l ++ ys) put ∙ append_assoc old xs ys ∙ ap (λ (l : List X). old ++ l) (sym is) ∙ so_far

-- what comes first is there, so the rest decides
pub still_in : (set : BTreeSet LoggedAccess) (front xs ys : List LoggedAccess) (all : Bool) → front ≡ xs ++ ys → are_in set front ≡ all → are_in set xs ≡ true
    → are_in set ys ≡ all
still_in set front xs ys all is so_far there =
    ap (λ (b : Bool). b && are_in set ys) (sym there) ∙ sym (are_both set xs ys) ∙ ap (are_in set) (sym is) ∙ so_far

-- what comes first isn't all there
pub not_in : (set : BTreeSet LoggedAccess) (front xs ys : List LoggedAccess) (all : Bool) → front ≡ xs ++ ys → are_in set front ≡ all → are_in set xs ≡ false
    → false ≡ all
not_in set front xs ys all is so_far there =
    ap (λ (b : Bool). b && are_in set ys) (sym there) ∙ sym (are_both set xs ys) ∙ ap (are_in set) (sym is) ∙ so_far

-- the access at an index, and those after it
pub item_in : (old new : BTreeSet LoggedAccess) (xs : List LoggedAccess) (i : ℕ) (d : LoggedAccess) (rhs : LoggedAccess → Bool) → i < length xs
    → ((a : LoggedAccess) → (is_among (drop i xs) a || has_access old a) ≡ rhs a) → ((a : LoggedAccess) → has_access new a ≡ (is_among (slice_index_or xs i d ∷ []) a || has_access old a))
    → (a : LoggedAccess) → (is_among (drop (i + 1) xs) a || has_access new a) ≡ rhs a
item_in old new xs i d rhs low so_far put =
    more_in old new (drop i xs) (slice_index_or xs i d ∷ []) (drop (i + 1) xs) rhs (item_at xs i d low) so_far put

pub item_still_in : (set : BTreeSet LoggedAccess) (xs : List LoggedAccess) (i : ℕ) (d : LoggedAccess) → i < length xs → are_in set (drop i xs) ≡ are_in set xs
    → are_in set (slice_index_or xs i d ∷ []) ≡ true → are_in set (drop (i + 1) xs) ≡ are_in set xs
item_still_in set xs i d low so_far there =
    still_in set (drop i xs) (slice_index_or xs i d ∷ []) (drop (i + 1) xs) (are_in set xs) (item_at xs i d low) so_far there

pub item_not_in : (set : BTreeSet LoggedAccess) (xs : List LoggedAccess) (i : ℕ) (d : LoggedAccess) → i < length xs → are_in set (drop i xs) ≡ are_in set xs
    → are_in set (slice_index_or xs i d ∷ []) ≡ false → false ≡ are_in set xs
item_not_in set xs i d low so_far there =
    not_in set (drop i xs) (slice_index_or xs i d ∷ []) (drop (i + 1) xs) (are_in set xs) (item_at xs i d low) so_far there
