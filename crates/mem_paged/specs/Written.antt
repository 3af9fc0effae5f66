-- The pages after a write into one of them.
use Rattle.std.specs.Prelude.{◌≡◌, ℕ, List, Some, Result, Ok, Err, length, slice_get, slice_set}
use Rattle.mem_flat.specs.Blocks.{spelled}
use Rattle.mem_paged.specs.declared.page.Page.{Page}

-- page k has changed: n bytes from an offset on spell a value's low digits, the rest is the same
pub record IsWritten (n k offset value : ℕ) (old new : List Page) : Type 0 where
  pub old_page : Page
  pub new_page : Page
  pub there : slice_get old k ≡ Some old_page
  pub long : length old_page.bytes ≡ 4096
  pub spells : new_page.bytes ≡ spelled n old_page.bytes offset value
  pub pages : new ≡ slice_set old k new_page

-- a write of n bytes into page k: its result, and the pages after it
abbrev pub Writes : {E : Type 0} → ℕ → ℕ → ℕ → ℕ → List Page → List Page → Result (Unit {0}) E → Type 0
Writes n k offset value old new (Ok _) = IsWritten n k offset value old new
Writes n k offset value old new (Err _) = new ≡ old
