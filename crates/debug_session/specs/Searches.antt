-- The ends of searches, in the user's words.
use Rattle.std.specs.Prelude.{◌≡◌, ℕ, ◌+◌, ◌<◌, ◌≤◌, Option, Some, None}

-- `reason i` is the reason to stop at the position after choice i, if any. Position k, with this
-- reason, is the least one with a reason above `from` and at most `to`; or there is none, and k is
-- `to`
abbrev pub IsLeastStop : {R : Type 0} → (ℕ → Option R) → ℕ → ℕ → ℕ → Option R → Type 0
IsLeastStop reason from to k None = (k ≡ to) × ((i : ℕ) → from ≤ i → i < to → reason i ≡ None)
IsLeastStop reason from to k (Some why) =
    (from < k) × (k ≤ to) × ((i : ℕ) → i + 1 ≡ k → reason i ≡ Some why) × ((i : ℕ) → from ≤ i → i + 1 < k → reason i ≡ None)

-- k is the greatest position with a reason from 1 to `to`; or there is none, and k is 0
abbrev pub IsGreatestStop : {R : Type 0} → (ℕ → Option R) → ℕ → ℕ → Option R → Type 0
IsGreatestStop reason to k None = (k ≡ 0) × ((i : ℕ) → i < to → reason i ≡ None)
IsGreatestStop reason to k (Some why) =
    (0 < k) × (k ≤ to) × ((i : ℕ) → i + 1 ≡ k → reason i ≡ Some why) × ((i : ℕ) → k ≤ i → i < to → reason i ≡ None)
