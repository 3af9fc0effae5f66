-- How the keys of a bucket are linked.
use Rattle.std.specs.Prelude.{◌≡◌, ℕ, suc, ◌<◌, ◌≤◌, ◌^◌, List, [], length, slice_index, slice_index_or}
use Rattle.explore_table.specs.Buckets.{bucket_of}

-- key number k
abbrev pub key_at : List (List ℕ) → ℕ → List ℕ
key_at keys k = slice_index_or keys k []

-- key number k is of this bucket, of so many
abbrev pub IsIn : ℕ → ℕ → List (List ℕ) → ℕ → Type 0
IsIn buckets bucket keys k = bucket_of (key_at keys k) buckets ≡ bucket

-- a link leads to the last key of a bucket among the first n keys: to number k by k + 1, and
-- nowhere by 0
pub record IsLast (buckets bucket n : ℕ) (keys : List (List ℕ)) (link : ℕ) : Type 0 where
  pub within : link ≤ n
  pub inside : (k : ℕ) → suc k ≡ link → IsIn buckets bucket keys k
  pub last : (k : ℕ) → link ≤ k → k < n → IsIn buckets bucket keys k → ⊥

-- the first n keys have each a link to the one before it in its bucket, and each bucket one to its
-- last of them
pub record IsLinkedTo (n : ℕ) (keys : List (List ℕ)) (befores lasts : List ℕ) : Type 0 where
  pub some : 0 < length lasts
  pub even : length befores ≡ length keys
  pub each : (k : ℕ) → k < n
      → IsLast (length lasts) (bucket_of (key_at keys k) (length lasts)) k keys (slice_index befores k)
  pub heads : (b : ℕ) → b < length lasts → IsLast (length lasts) b n keys (slice_index lasts b)

-- so have all keys, and a word holds each of their numbers
pub record IsLinked (keys : List (List ℕ)) (befores lasts : List ℕ) : Type 0 where
  pub few : length keys < 2 ^ 32
  pub all : IsLinkedTo (length keys) keys befores lasts

-- a key that is looked for in its bucket, of so many, is none from where a link leads on
pub record IsSought (buckets : ℕ) (keys : List (List ℕ)) (key : List ℕ) (link : ℕ) : Type 0 where
  pub within : link ≤ length keys
  pub inside : (k : ℕ) → suc k ≡ link → IsIn buckets (bucket_of key buckets) keys k
  pub none : (k : ℕ) → link ≤ k → k < length keys → key_at keys k ≡ key → ⊥
