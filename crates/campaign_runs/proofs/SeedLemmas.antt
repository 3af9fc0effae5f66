-- Ranges of seeds, cut.
use Rattle.std.proofs.Common.{◌≡◌, ℕ, zero, suc, ◌+◌, [], ◌∷◌, ◌++◌, length, arith, ap, sym, ◌∙◌}
use Rattle.std.proofs.lemmas.List.FromFn.{length-range_with_len}
use Rattle.std.specs.Prelude.{min}
use Rattle.std.specs.List.{range_with_len}

-- a range is its front and the rest
range-append : (a n m : ℕ) → range_with_len a n ++ range_with_len (a + n) m ≡ range_with_len a (n + m)
range-append a zero m =
    let here : a + 0 ≡ a = omega arith in
    let all : 0 + m ≡ m = omega arith in
    ap (λ k. range_with_len k m) here ∙ ap (range_with_len a) (sym all)
range-append a (suc n) m =
    let far : a + suc n ≡ a + 1 + n = omega arith in
    let more : suc n + m ≡ suc (n + m) = omega arith in
    ap (λ k. a ∷ (range_with_len (a + 1) n ++ range_with_len k m)) far
    ∙ ap (λ seeds. a ∷ seeds) (range-append (a + 1) n m)
    ∙ ap (range_with_len a) (sym more)

pub seeds_none : (a n : ℕ) → n ≡ 0 → range_with_len a n ≡ []
seeds_none a n e = ap (range_with_len a) e

-- a block and the seeds that follow it
pub seeds_split : (a n m all b : ℕ) → all ≡ n + m → b ≡ a + n → range_with_len a all ≡ range_with_len a n ++ range_with_len b m
seeds_split a n m all b e f =
    ap (range_with_len a) e ∙ sym (range-append a n m) ∙ ap (λ k. range_with_len a n ++ range_with_len k m) (sym f)

-- the size of a block, by how many seeds are left
pub seeds_size : (a left most size : ℕ) → size ≡ min left most → size ≡ min (length (range_with_len a left)) most
seeds_size a left most size e = e ∙ ap (λ n. min n most) (sym (length-range_with_len a left))
