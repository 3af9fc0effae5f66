-- How a bank keeps its words: a map has those that stores changed, all others are the image's.
use Rattle.std.specs.Prelude.{◌≡◌, ℕ, ◌≤◌, ◌==◌, Bool, true, false, List, Option, Some, length, if◌then◌else◌}
use Rattle.std.specs.List.{AllByRecursion}
use Rattle.std.specs.Ordering.{nat_cmp}
use Rattle.std.specs.Option.{unwrap_or}
use Rattle.std.specs.BTreeMap as tree
use Rattle.std.specs.BTreeMap.{BTreeMap}
use Rattle.image.specs.Image.{ImageValue}
use Rattle.mem_store.specs.Image.{image_memory}
use Rattle.hart_reservations.specs.Marks.{Marks}
use Rattle.hart_reservations.specs.Limit.{most_harts}
use Rattle.bank_laws.specs.declared.access.LoggedAccess.{LoggedAccess}
use Rattle.bank_laws.specs.Banks.{WordBytes, is_store, after_log, IsLogged}
use Rattle.bank_laws.specs.Words.{bytes_at}
use Rattle.bank_laws.specs.Merged.{bank_of, first_bank}
use Rattle.bank_memory.specs.Rising.{rises}

-- the bytes of a word
abbrev pub value_in : ImageValue → BTreeMap ℕ WordBytes → ℕ → WordBytes
value_in image changed x = unwrap_or (tree.get nat_cmp changed x) (bytes_at (image_memory image).bytes x)

-- the map's entry for a word after an access
abbrev pub stored_at : BTreeMap ℕ WordBytes → LoggedAccess → ℕ → Option WordBytes
stored_at changed a x =
    if is_store a.kind then (if x == a.word then Some a.after else tree.get nat_cmp changed x) else tree.get nat_cmp changed x

-- the map has the bytes that an access stores; or it is unchanged
abbrev pub StoresAt : Bool → BTreeMap ℕ WordBytes → BTreeMap ℕ WordBytes → LoggedAccess → Type 0
StoresAt true old new a = (x : ℕ) → tree.get nat_cmp new x ≡ stored_at old a x
StoresAt false old new a = (x : ℕ) → tree.get nat_cmp new x ≡ tree.get nat_cmp old x

-- bytes and marks are the log's, whose accesses are the bank's, in order, and found what was there
pub record BankHolds (image : ImageValue) (inputs : List ℕ) (number : ℕ) (log : List LoggedAccess) (changed : BTreeMap ℕ WordBytes) (held : Marks) : Type 0 where
  pub harts : length inputs ≤ most_harts
  pub values : (x : ℕ) → value_in image changed x ≡ (after_log (first_bank image) log).values x
  pub marks : held ≡ (after_log (first_bank image) log).marks
  pub of_bank : AllByRecursion (λ a. bank_of a.word ≡ number) log
  pub order : rises log ≡ true
  pub logged : IsLogged (first_bank image) log
