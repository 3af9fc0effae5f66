-- The hash of a key, word by word.
use Rattle.std.proofs.Common.{◌≡◌, ℕ, zero, suc, ◌+◌, ◌<◌, ◌≤◌, List, [], ◌∷◌, length, get_or, drop, refl, ap, sym, ◌∙◌, arith}
use Rattle.explore_table.specs.Buckets.{mixed, hash_from}

suc_more : (i : ℕ) → suc i + 1 ≡ suc (suc i)
suc_more i = omega arith

-- one word of what is left
pub hash_more : (hash : ℕ) (key : List ℕ) (i : ℕ) → i < length key
    → hash_from (mixed hash (get_or key i 0)) (drop (i + 1) key) ≡ hash_from hash (drop i key)
unfolding hash_from
hash_more hash [] i h = absurd (omega (arith, h))
hash_more hash (word ∷ key) zero h = refl
hash_more hash (word ∷ key) (suc i) h =
    let more : i + 1 ≡ suc i = omega arith in
    ap (λ n. hash_from (mixed hash (get_or key i 0)) (drop n (word ∷ key))) (suc_more i)
    ∙ sym (ap (λ n. hash_from (mixed hash (get_or key i 0)) (drop n key)) more) ∙ hash_more hash key i (omega (arith, h))

-- nothing is left
pub hash_done : (hash : ℕ) (key : List ℕ) (i : ℕ) → length key ≤ i → hash_from hash (drop i key) ≡ hash
unfolding hash_from
hash_done hash [] zero h = refl
hash_done hash [] (suc i) h = refl
hash_done hash (word ∷ key) zero h = absurd (omega (arith, h))
hash_done hash (word ∷ key) (suc i) h = hash_done hash key i (omega (arith, h))
