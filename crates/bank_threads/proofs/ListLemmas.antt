-- Lists, place by place.
use Rattle.std.proofs.Common.{◌≡◌, ℕ, zero, suc, ◌+◌, ◌<◌, ◌≤◌, Bool, true, false, List, [], ◌∷◌, length, get_or, Some, inl, inr, refl, ap, ap₂, sym, subst, ◌∙◌, arith, ⊎_elim}
use Rattle.std.specs.Prelude.{slice_get}
use Rattle.std.specs.List.{list_all}
use Rattle.std.proofs.lemmas.Bool.{cases_Bool, cases_eq}
use Rattle.std.proofs.lemmas.List.Folds.{list_all_at}

get_here : {A : Type 0} (xs : List A) (i : ℕ) (a d : A) → i < length xs → d ≡ get_or xs i a → slice_get xs i ≡ Some d
get_here [] i a d low e = absurd (omega (arith, low))
get_here (x ∷ xs) zero a d low e = ap Some (sym e)
get_here (x ∷ xs) (suc i) a d low e = get_here xs i a d (omega (arith, low)) e

pub get_inside : {A : Type 0} (xs : List A) (i : ℕ) (a : A) → slice_get xs i ≡ Some a → i < length xs
get_inside [] i a e = cc (e)
get_inside (x ∷ xs) zero a e = omega arith
get_inside (x ∷ xs) (suc i) a e = let low = get_inside xs i a e in omega (arith, low)

pub get_it : {A : Type 0} (xs : List A) (i : ℕ) (a : A) → slice_get xs i ≡ Some a → get_or xs i a ≡ a
get_it [] i a e = refl
get_it (x ∷ xs) zero a e = cc (e)
get_it (x ∷ xs) (suc i) a e = get_it xs i a e

-- where all answers are yes, each is
pub each_yes : (answers : List Bool) (i : ℕ) → i < length answers → list_all (λ answer. answer) answers ≡ true → get_or answers i false ≡ true
each_yes answers i low all = elim (cases_Bool (get_or answers i false)) [
  | inl there ↦ there
  | inr missing ↦ let none = list_all_at (λ (answer : Bool). answer) answers i false low missing in absurd (cc (all, none))
]

-- ---- a fact of all places below one
abbrev pub Below : {A : Type 0} → (ℕ → A → Type 0) → List A → ℕ → Type 0
Below {A} P xs n = (k : ℕ) (x : A) → k < n → slice_get xs k ≡ Some x → P k x

pub below_none : {A : Type 0} (P : ℕ → A → Type 0) (xs : List A) → Below P xs 0
below_none P xs k x low e = absurd (omega (arith, low))

pub below_next : {A : Type 0} (P : ℕ → A → Type 0) (xs : List A) (i : ℕ) (a : A) → Below P xs i → i < length xs → a ≡ get_or xs i a → P i a → Below P xs (i + 1)
below_next {A} P xs i a before inside is p k x low e =
    ⊎_elim
    (λ (same : k ≡ i).
    let here : Some a ≡ Some x = sym (get_here xs i a a inside is) ∙ ap (slice_get xs) (sym same) ∙ e in
    let it : a ≡ x = cc (here) in
    subst (λ (j : ℕ). P j x) (sym same) (subst (λ (y : A). P i y) it p))
    (λ (other : k ≡ i → ⊥). before k x (omega (arith, low, other)) e)
    (cases_eq k i)

pub below_all : {A : Type 0} (P : ℕ → A → Type 0) (xs : List A) (n : ℕ) → length xs ≤ n → Below P xs n → (k : ℕ) (x : A) → slice_get xs k ≡ Some x → P k x
below_all P xs n long all k x e = let low = get_inside xs k x e in all k x (omega (arith, low, long)) e

-- ---- lists that are the same
abbrev pub SameBelow : {A : Type 0} → List A → List A → ℕ → Type 0
SameBelow xs ys n = (k : ℕ) → k < n → slice_get xs k ≡ slice_get ys k

pub same_none : {A : Type 0} (xs ys : List A) → SameBelow xs ys 0
same_none xs ys k low = absurd (omega (arith, low))

pub same_next : {A : Type 0} (xs ys : List A) (i : ℕ) (a b : A) → SameBelow xs ys i → i < length xs → i < length ys → a ≡ get_or xs i a → b ≡ get_or ys i b → a ≡ b
    → SameBelow xs ys (i + 1)
same_next xs ys i a b before inside inside2 is is2 p k low =
    ⊎_elim
    (λ (same : k ≡ i). ap (slice_get xs) same ∙ get_here xs i a a inside is ∙ ap Some p ∙ sym (get_here ys i b b inside2 is2) ∙ ap (slice_get ys) (sym same))
    (λ (other : k ≡ i → ⊥). before k (omega (arith, low, other)))
    (cases_eq k i)

pub same_all : {A : Type 0} (xs ys : List A) → length xs ≡ length ys → SameBelow xs ys (length xs) → xs ≡ ys
same_all [] [] e f = refl
same_all [] (y ∷ ys) e f = absurd (omega (arith, e))
same_all (x ∷ xs) [] e f = absurd (omega (arith, e))
same_all (x ∷ xs) (y ∷ ys) e f =
    let first : Some x ≡ Some y = f 0 (omega arith) in
    let head : x ≡ y = cc (first) in
    ap₂ (λ a zs. a ∷ zs) head (same_all xs ys (omega (arith, e)) (λ k low. f (suc k) (omega (arith, low))))
