-- Registers one by one.
use Rattle.std.proofs.Common.{◌≡◌, ℕ, List, map, length, slice_index, refl}
use Rattle.std.specs.List.{range_with_len}
use Rattle.std.proofs.lemmas.List.FromFn.{fill_by_all}

-- a list is its elements in order
pub by_numbers : (words : List ℕ) (n : ℕ) → length words ≡ n
    → words ≡ map (slice_index words) (range_with_len 0 n)
by_numbers words n long = fill_by_all (slice_index words) words n 0 long (λ k lt. refl)
