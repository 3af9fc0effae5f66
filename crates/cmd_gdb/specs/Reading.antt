-- Packets and acknowledgments read from the front of a source.
use Rattle.std.specs.Prelude.{◌≡◌, ⊤, ℕ, List, [], Option, Some, None}
use Rattle.gdb_frames.specs.Items.{frames_from, onto}
use Rattle.gdb_frames.specs.Reading.{ReaderState}
use Rattle.gdb_frames.specs.declared.found.Found.{Found}

-- nothing is read behind what was found; if nothing was, all was read
abbrev pub IsWhere : Option Found → List ℕ → Type 0
IsWhere None rest = rest ≡ []
IsWhere (Some found) rest = ⊤

-- what a reader finds in the bytes that were left is this, and then what it finds in those that are
-- left now
abbrev pub ReadsTo : Option (List ℕ) → Option (List ℕ) → ReaderState → ReaderState → Option Found
    → Type 0
ReadsTo None new r s found = ⊤
ReadsTo (Some bytes) None r s found = ⊥
ReadsTo (Some bytes) (Some rest) r s found =
    (frames_from r bytes ≡ onto found s.body (frames_from s rest)) × IsWhere found rest
