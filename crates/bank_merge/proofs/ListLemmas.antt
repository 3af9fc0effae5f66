-- Lists, place by place, and what a filter takes of them.
use Rattle.std.proofs.Common.{◌≡◌, ℕ, zero, suc, ◌+◌, ◌<◌, ◌≤◌, Bool, true, false, List, [], ◌∷◌, length, map, drop, get_or, refl, ap, sym, subst, arith, inl, inr, ⊎_elim}
use Rattle.std.specs.Prelude.{◌↔◌, if◌then◌else◌, replicate}
use Rattle.std.specs.List.{AllByRecursion, filter}
use Rattle.std.proofs.lemmas.Bool.{cases_lt}
use Rattle.bank_laws.specs.Order.{In}

-- the rest of a list from an index on begins with the element there
pub drop_here : {A : Type 0} (xs : List A) (i : ℕ) (a : A) → i < length xs → a ≡ get_or xs i a → drop i xs ≡ a ∷ drop (i + 1) xs
drop_here [] i a low e = absurd (omega (arith, low))
drop_here (x ∷ xs) zero a low e = ap (λ y. y ∷ xs) (sym e)
drop_here (x ∷ xs) (suc i) a low e =
    let next : suc i + 1 ≡ suc (i + 1) = omega arith in
    rw next (drop_here xs i a (omega (arith, low)) e)

-- the element at an index, seen through a function
pub map_here : {A B : Type 0} (f : A → B) (xs : List A) (i : ℕ) (a : A) (d : B) → i < length xs → a ≡ get_or xs i a → get_or (map f xs) i d ≡ f a
map_here f [] i a d low e = absurd (omega (arith, low))
map_here f (x ∷ xs) zero a d low e = ap f (sym e)
map_here f (x ∷ xs) (suc i) a d low e = map_here f xs i a d (omega (arith, low)) e

pub get_past : {A : Type 0} (xs : List A) (i : ℕ) (d : A) → length xs ≤ i → get_or xs i d ≡ d
get_past [] i d past = refl
get_past (x ∷ xs) zero d past = absurd (omega (arith, past))
get_past (x ∷ xs) (suc i) d past = get_past xs i d (omega (arith, past))

pub zeros : (n k : ℕ) → ◌≡◌ {A = ℕ} (get_or (replicate n 0) k 0) 0
zeros zero k = refl
zeros (suc n) zero = refl
zeros (suc n) (suc k) = zeros n k

-- ---- what a filter takes
pub taken_first : {A : Type 0} (p : A → Bool) (x : A) (xs : List A) → p x ≡ true → filter p (x ∷ xs) ≡ x ∷ filter p xs
taken_first p x xs e = rw e refl

pub left_out : {A : Type 0} (p : A → Bool) (x : A) (xs : List A) → p x ≡ false → filter p (x ∷ xs) ≡ filter p xs
left_out p x xs e = rw e refl

pub filter_in : {A : Type 0} (p : A → Bool) (xs : List A) (a : A) → In a (filter p xs) → In a xs
filter_in p [] a i = absurd i
filter_in {A} p (x ∷ xs) a i = at_test (λ (j : In a (filter p xs)). filter_in p xs a j) (p x) i
  where
    at_test : (In a (filter p xs) → In a xs) → (t : Bool) → In a (if t then x ∷ filter p xs else filter p xs) → In a (x ∷ xs)
    at_test more true (inl e) = inl e
    at_test more true (inr j) = inr (more j)
    at_test more false j = inr (more j)

-- ---- a fact of all
pub each_in : {A : Type 0} (P : A → Type 0) (xs : List A) (a : A) → AllByRecursion P xs → In a xs → P a
each_in P [] a each i = absurd i
each_in P (x ∷ xs) a each (inl e) = subst P (sym e) each.0
each_in P (x ∷ xs) a each (inr i) = each_in P xs a each.1 i

-- the rest has it exactly where all have it
pub each_next : {A : Type 0} (P : A → Type 0) (xs : List A) (i : ℕ) (x : A) → i < length xs → x ≡ get_or xs i x → P x
    → AllByRecursion P (drop i xs) ↔ AllByRecursion P xs → AllByRecursion P (drop (i + 1) xs) ↔ AllByRecursion P xs
each_next {A} P xs i x low is here so_far = (
  λ rest. so_far.0 (subst (λ (ys : List A). AllByRecursion P ys) (sym (drop_here xs i x low is)) (here, rest)),
  λ all. (subst (λ (ys : List A). AllByRecursion P ys) (drop_here xs i x low is) (so_far.1 all)).1,
)

pub each_not : {A : Type 0} (P : A → Type 0) (xs : List A) (i : ℕ) (x : A) → i < length xs → x ≡ get_or xs i x → (P x → ⊥)
    → AllByRecursion P (drop i xs) ↔ AllByRecursion P xs → AllByRecursion P xs → ⊥
each_not {A} P xs i x low is not_here so_far all = not_here (subst (λ (ys : List A). AllByRecursion P ys) (drop_here xs i x low is) (so_far.1 all)).0

pub drop_none : {A : Type 0} (xs : List A) (n : ℕ) → length xs ≤ n → drop n xs ≡ []
drop_none [] zero e = refl
drop_none [] (suc n) e = refl
drop_none (x ∷ xs) zero e = absurd (omega (arith, e))
drop_none (x ∷ xs) (suc n) e = drop_none xs n (omega (arith, e))

pub each_all : {A : Type 0} (P : A → Type 0) (xs : List A) (i : ℕ) → length xs ≤ i → AllByRecursion P (drop i xs) ↔ AllByRecursion P xs → AllByRecursion P xs
each_all {A} P xs i past so_far = so_far.0 (subst (λ (ys : List A). AllByRecursion P ys) (sym (drop_none xs i past)) tt)

-- ---- a fact of all places below one
pub below_next : (P : ℕ → Type 0) (i : ℕ) → ((k : ℕ) → k < i → P k) → P i → (k : ℕ) → k < i + 1 → P k
below_next P i before here k low = ⊎_elim
    (λ (less : k < i). before k less)
    (λ (other : i ≤ k). let e : i ≡ k = omega (arith, low, other) in subst P e here)
    (cases_lt k i)
