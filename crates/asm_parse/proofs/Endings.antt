-- Names that end in other bytes.
use Rattle.std.proofs.Common.{◌≡◌, ◌≢◌, ℕ, ◌-◌, false, List, length, ap}
use Rattle.std.specs.Prelude.{slice_index}
use Rattle.std.specs.Str.{bytes_eq}
use Rattle.std.proofs.lemmas.Bool.{false_from_ne_true}
use Rattle.std.proofs.lemmas.Slice.Eq.{bytes_eq-Decides}

abbrev last_of : List ℕ → ℕ
last_of text = slice_index text (length text - 1)

pub others_end_otherwise : (one other : List ℕ) → last_of one ≢ last_of other → bytes_eq one other ≡ false
others_end_otherwise one other differ = false_from_ne_true (bytes_eq one other) (λ same. differ (ap last_of ((bytes_eq-Decides one other).0 same)))
