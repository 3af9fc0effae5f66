-- Lists that go on as others do.
use Rattle.std.proofs.Common.{◌≡◌, ℕ, zero, suc, ◌<◌, List, [], ◌∷◌, ◌++◌, length, Some, refl, ap, ◌∙◌, arith, inl, inr, ◌⊎◌}
use Rattle.std.specs.List.{Contains, slice_get}
use Rattle.std.proofs.lemmas.Option.{slice_get-get_or}

-- what stands in a list stands in a longer one
pub get_begun : {X : Type 0} (xs ys : List X) (k : ℕ) (x : X) → slice_get xs k ≡ Some x → slice_get (xs ++ ys) k ≡ Some x
get_begun [] ys k x e = absurd (cc)
get_begun (y ∷ xs) ys zero x e = e
get_begun (y ∷ xs) ys (suc k) x e = get_begun xs ys k x e

-- what comes last
pub get_behind : {X : Type 0} (xs : List X) (y : X) → slice_get (xs ++ y ∷ []) (length xs) ≡ Some y
get_behind [] y = refl
get_behind (x ∷ xs) y = get_behind xs y

-- an element of a list with one more is one of the list, or comes last
pub get_either : {X : Type 0} (xs : List X) (y x : X) (k : ℕ) → slice_get (xs ++ y ∷ []) k ≡ Some x
    → (slice_get xs k ≡ Some x) ⊎ ((k ≡ length xs) × (y ≡ x))
get_either [] y x zero e = inr (refl, cc)
get_either [] y x (suc k) e = absurd (cc)
get_either (z ∷ xs) y x zero e = inl e
get_either (z ∷ xs) y x (suc k) e = elim (get_either xs y x k e) [ inl there ↦ inl there | inr last ↦ inr (ap suc last.0, last.1) ]

-- within a list there is an element
pub get_there : {X : Type 0} (xs : List X) (k : ℕ) → k < length xs → (x : X) × (slice_get xs k ≡ Some x)
get_there [] k h = absurd (omega (arith, h))
get_there (x ∷ xs) zero h = (x, refl)
get_there (x ∷ xs) (suc k) h = get_there xs k (omega (arith, h))

-- where an element stands
pub at_contains : {X : Type 0} (xs : List X) (x : X) → Contains xs x → (k : ℕ) × (slice_get xs k ≡ Some x)
at_contains xs x c = (c.0, slice_get-get_or xs c.0 x c.1 ∙ ap Some c.2)
