-- What holds of each element of a list.
use Rattle.std.proofs.Common.{◌≡◌, ℕ, suc, ◌<◌, Bool, true, List, [], ◌∷◌, ◌++◌, length, Result, Ok, refl, subst, arith}
use Rattle.std.specs.Prelude.{IfOk, slice_index}
use Rattle.std.specs.List.{list_all}

abbrev pub Each : {X : Type 0} → (X → Type 0) → List X → Type 0
Each holds [] = Unit {0}
Each holds (x ∷ xs) = holds x × Each holds xs

pub each_both : {X : Type 0} (holds : X → Type 0) (xs ys : List X) → Each holds xs → Each holds ys → Each holds (xs ++ ys)
each_both holds [] ys h g = g
each_both holds (x ∷ xs) ys h g = (h.0, each_both holds xs ys h.1 g)

pub each_cut : {X : Type 0} (holds : X → Type 0) (xs ys : List X) → Each holds (xs ++ ys) → Each holds xs × Each holds ys
each_cut holds [] ys h = (tt, h)
each_cut holds (x ∷ xs) ys h = let more = each_cut holds xs ys h.1 in ((h.0, more.0), more.1)

pub at_ok : {X E : Type 0} (holds : X → Type 0) (r : Result X E) (x : X) → r ≡ Ok x → IfOk r holds → holds x
at_ok holds r x e h = subst (λ q. IfOk q holds) e h

pub all_pass : (test : ℕ → Bool) (xs : List ℕ) → ((i : ℕ) → i < length xs → test (slice_index xs i) ≡ true) → list_all test xs ≡ true
all_pass test [] h = refl
all_pass test (x ∷ xs) h =
    let first : test x ≡ true = h 0 (omega arith) in
    let more : list_all test xs ≡ true = all_pass test xs (λ i below. h (suc i) (omega (arith, below))) in
    rw first more
