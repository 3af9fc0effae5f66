-- The places of pages.
use Rattle.std.specs.Prelude.{ℕ, ◌-◌, ◌==◌, nat_lt, if◌then◌else◌, Option, Some, None, List, [], ◌∷◌, ◌++◌, length, slice_get, slice_set}

-- the lowest page's number, the place proposed for each page from it on, and each place's owner
pub record DirectoryValue : Type 0 where
  pub first : ℕ
  pub index : List ℕ
  pub owners : List ℕ

-- the place proposed for page n, if any
abbrev pub proposed : DirectoryValue → ℕ → Option ℕ
proposed d n = if nat_lt n d.first then None else slice_get d.index (n - d.first)

-- place k, if its owner is page n
abbrev pub owned : ℕ → ℕ → Option ℕ → Option ℕ
owned k n None = None
owned k n (Some owner) = if owner == n then Some k else None

-- a proposed place, if its owner is page n
abbrev pub place_if : List ℕ → ℕ → Option ℕ → Option ℕ
place_if owners n None = None
place_if owners n (Some k) = owned k n (slice_get owners k)

-- the place of page n, if it exists
abbrev pub page_place : DirectoryValue → ℕ → Option ℕ
page_place d n = place_if d.owners n (proposed d n)

-- the directory with page n at the next place
abbrev pub with_page : DirectoryValue → ℕ → DirectoryValue
with_page d n = record {
  first = d.first;
  index = slice_set d.index (n - d.first) (length d.owners);
  owners = d.owners ++ n ∷ [];
}
