-- Arrays of one length with the same registers are the same.
use Rattle.std.proofs.Common.{◌≡◌, ℕ, Bool, true, false, List, length, MatchBool, ap}
use Rattle.std.proofs.lemmas.List.{ext_get_or}
use Rattle.hart_step.specs.Hart.{Registers, registers_of}

same_words : (xs ys : List ℕ) → length xs ≡ length ys → registers_of xs ≡ registers_of ys → xs ≡ ys
same_words xs ys long same = ext_get_or 0 xs ys long (λ r inside. ap (λ (x : Registers). x r) same)

pub same_registers : (b : Bool) (xs ys : List ℕ) → length xs ≡ length ys → MatchBool b (xs ≡ ys) (xs ≡ ys → ⊥)
    → MatchBool b (registers_of xs ≡ registers_of ys) (registers_of xs ≡ registers_of ys → ⊥)
same_registers true xs ys long h = ap registers_of h
same_registers false xs ys long h = λ same. h (same_words xs ys long same)
