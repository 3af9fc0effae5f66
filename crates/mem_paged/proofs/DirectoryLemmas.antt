-- the places of pages, before and after one more
use Rattle.std.proofs.Common.{◌≡◌, ℕ, zero, suc, ◌+◌, ◌-◌, ◌<◌, ◌≤◌, true, false, eqb, ltb, List, [], ◌∷◌, ◌++◌, length, set, arith, Option, Some, None, rules, ◌∙◌, sym, ap, refl, inl, inr}
use Rattle.std.proofs.lemmas.Bool.{cases_Bool, cases_eq, cases_lt}
use Rattle.std.proofs.lemmas.Bool.Decides.{nat_tests}
use Rattle.std.proofs.lemmas.Option.{slice_get_past, slice_get_within}
use Rattle.std.specs.List.{slice_get}
use Rattle.mem_paged.specs.Directory.{DirectoryValue, proposed, owned, place_if, page_place, with_page}
use Rattle.mem_paged.specs.Pages.{kept_at}

pub some : {X : Type 0} (a b : X) → Some a ≡ Some b → a ≡ b
some a b e = search rules

-- a list with another element at its end
pub get-push : {X : Type 0} (xs : List X) (x : X) (i : ℕ) → i < length xs → slice_get (xs ++ x ∷ []) i ≡ slice_get xs i
get-push [] x i h = absurd (omega arith)
get-push (y ∷ xs) x zero h = refl
get-push (y ∷ xs) x (suc i) h = get-push xs x i (omega arith)

pub get-pushed : {X : Type 0} (xs : List X) (x : X) → slice_get (xs ++ x ∷ []) (length xs) ≡ Some x
get-pushed [] x = refl
get-pushed (y ∷ xs) x = get-pushed xs x

get-pushed_past : {X : Type 0} (xs : List X) (x : X) (i : ℕ) → length xs < i → slice_get (xs ++ x ∷ []) i ≡ None
get-pushed_past [] x zero h = absurd (omega arith)
get-pushed_past [] x (suc i) h = refl
get-pushed_past (y ∷ xs) x zero h = absurd (omega arith)
get-pushed_past (y ∷ xs) x (suc i) h = get-pushed_past xs x i (omega arith)

-- a list with another element in it
pub get-set_same : {X : Type 0} (xs : List X) (i : ℕ) (y : X) → i < length xs → slice_get (set xs i y) i ≡ Some y
get-set_same [] i y h = absurd (omega arith)
get-set_same (x ∷ xs) zero y h = refl
get-set_same (x ∷ xs) (suc i) y h = get-set_same xs i y (omega arith)

pub get-set_other : {X : Type 0} (xs : List X) (i j : ℕ) (y : X) → (j ≡ i → ⊥) → slice_get (set xs i y) j ≡ slice_get xs j
get-set_other [] i j y h = refl
get-set_other (x ∷ xs) zero zero y h = absurd (h refl)
get-set_other (x ∷ xs) zero (suc j) y h = refl
get-set_other (x ∷ xs) (suc i) zero y h = refl
get-set_other (x ∷ xs) (suc i) (suc j) y h = get-set_other xs i j y (λ e. h (ap suc e))

-- a place has one owner
owned_by : (k j n : ℕ) (o : Option ℕ) → owned j n o ≡ Some k → (j ≡ k) × (o ≡ Some n)
owned_by k j n None e = absurd (search rules)
owned_by k j n (Some owner) e = elim (cases_Bool (eqb owner n)) [
  | inl is ↦ (let same : owner ≡ n = search rules in (some j k (rw is at e), ap Some same))
  | inr off ↦ absurd (let bad : None ≡ Some k = rw off at e in search rules)
]

pub owner_of : (owners : List ℕ) (n k : ℕ) (place : Option ℕ) → place_if owners n place ≡ Some k → slice_get owners k ≡ Some n
owner_of owners n k None e = absurd (search rules)
owner_of owners n k (Some j) e = let both = owned_by k j n (slice_get owners j) e in rw (← both.0) both.1

-- the place of another page, after one more owner
place_kept : (owners : List ℕ) (n m : ℕ) (o : Option ℕ) → (m ≡ n → ⊥) → place_if (owners ++ n ∷ []) m o ≡ place_if owners m o
place_kept owners n m None ne = refl
place_kept owners n m (Some j) ne = elim (cases_lt j (length owners)) [
  | inl low ↦ ap (owned j m) (get-push owners n j low)
  | inr high ↦ (let old : slice_get owners j ≡ None = slice_get_past owners j high in
      elim (cases_eq j (length owners)) [
        | inl at ↦ (let off : eqb n m ≡ false = grind (arith, nat_tests) in rw (old, at, get-pushed owners n, off))
        | inr past ↦ rw (old, get-pushed_past owners n j (omega arith)) refl
      ])
]

module _ (d : DirectoryValue) (n : ℕ) (from : d.first ≤ n) (to : n < d.first + length d.index) where
  -- a page that was added is there
  pub place-added : page_place (with_page d n) n ≡ Some (length d.owners)
  place-added =
      let low : ltb n d.first ≡ false = grind (arith, nat_tests) in
      let is : eqb n n ≡ true = search rules in
      rw (low, get-set_same d.index (n - d.first) (length d.owners) (omega arith), get-pushed d.owners n, is)

  -- and the others keep their places
  pub place-others : (m : ℕ) → (m ≡ n → ⊥) → page_place (with_page d n) m ≡ page_place d m
  place-others m ne = elim (cases_Bool (ltb m d.first)) [
    | inl low ↦ rw low refl
    | inr high ↦ (let above : d.first ≤ m = grind (arith, nat_tests) in
        let apart : m - d.first ≡ n - d.first → ⊥ = λ e. ne (omega arith) in
        rw high (ap (place_if (d.owners ++ n ∷ []) m) (get-set_other d.index (n - d.first) (m - d.first) (length d.owners) apart)
        ∙ place_kept d.owners n m (slice_get d.index (m - d.first)) ne))
  ]

-- an item at a place with an owner stays when one more is pushed
pub kept-push : {X : Type 0} (d : DirectoryValue) (m : ℕ) (xs : List X) (y : X) → length xs ≡ length d.owners → kept_at (xs ++ y ∷ []) (page_place d m) ≡ kept_at xs (page_place d m)
kept-push d m xs y len = at_place (page_place d m) refl
  where
    at_place : (p : Option ℕ) → page_place d m ≡ p → kept_at (xs ++ y ∷ []) p ≡ kept_at xs p
    at_place None e = refl
    at_place (Some k) e =
        let low : k < length d.owners = slice_get_within d.owners k m (owner_of d.owners m k (proposed d m) e) in
        get-push xs y k (omega (arith, low, len))

-- the item of a page stays when another page's is replaced
pub kept-set_other : {X : Type 0} (d : DirectoryValue) (n m k : ℕ) (xs : List X) (y : X) → (m ≡ n → ⊥) → page_place d n ≡ Some k → kept_at (set xs k y) (page_place d m) ≡ kept_at xs (page_place d m)
kept-set_other d n m k xs y ne has = at_place (page_place d m) refl
  where
    mine : slice_get d.owners k ≡ Some n
    mine = owner_of d.owners n k (proposed d n) has

    at_place : (p : Option ℕ) → page_place d m ≡ p → kept_at (set xs k y) p ≡ kept_at xs p
    at_place None e = refl
    at_place (Some j) e = get-set_other xs k j y (λ is. ne (some m n (sym (owner_of d.owners m j (proposed d m) e) ∙ ap (slice_get d.owners) is ∙ mine)))
