-- What is read of a source.
use Rattle.std.proofs.Common.{refl, ◌≡◌, ◌≢◌, ℕ, List, [], ◌∷◌, length, take, Option, Some, None, rules, subst, ap, sym, ◌∙◌}
use Rattle.std.proofs.lemmas.Grind.{common_steps}
use Rattle.std.specs.List.{slice_index}
use Rattle.std.specs.Io.KnownBytes.{Consumes, IsAtEnd}
use Rattle.gdb_frames.specs.Items.{frames_from, onto}
use Rattle.gdb_frames.specs.Reading.{found_at, state_after, ReaderState}
use Rattle.gdb_frames.specs.declared.found.Found.{Found}
use Rattle.cmd_gdb.specs.Reading.{ReadsTo}

-- what is found in all bytes is this, and then what is found in those that are left
abbrev pub ReadsOnto : Option (List ℕ) → Option (List ℕ) → ReaderState → ReaderState
    → Option Found → Type 0
ReadsOnto None now r s found = Unit {0}
ReadsOnto (Some bytes) None r s found = ⊥
ReadsOnto (Some bytes) (Some rest) r s found =
    frames_from r bytes ≡ onto found s.body (frames_from s rest)

pub starts : (old : Option (List ℕ)) (r : ReaderState) → ReadsOnto old old r r None
starts None r = tt
starts (Some bytes) r = refl

-- the source is at its end
pub ends : (old l0 l1 : Option (List ℕ)) (r s : ReaderState)
    → ReadsOnto old l0 r s None → Consumes l0 l1 [] → IsAtEnd l1 → ReadsTo old l1 r s None
ends None l0 l1 r s so_far took end = tt
ends (Some bytes) None l1 r s so_far took end = absurd so_far
ends (Some bytes) (Some rest) None r s so_far took end = absurd took
ends (Some bytes) (Some rest) (Some more) r s so_far took end =
    (so_far ∙ ap (frames_from s) took, end)

-- something was found
pub finds : (old now : Option (List ℕ)) (r s : ReaderState) (found : Found)
    → ReadsOnto old now r s (Some found) → ReadsTo old now r s (Some found)
finds None now r s found read = tt
finds (Some bytes) None r s found read = absurd read
finds (Some bytes) (Some rest) r s found read = (read, tt)

-- a read of one byte
byte_of : (piece : List ℕ) (n : ℕ) → length piece ≡ 1 → n ≢ 0
    → take n piece ≡ slice_index piece 0 ∷ []
byte_of piece n one some = search (rules, common_steps)

by_byte : (s : ReaderState) (b : ℕ) (rest : List ℕ) (found : Option Found) → found ≡ found_at s b
    → frames_from s (b ∷ rest)
    ≡ onto found (state_after s b).body (frames_from (state_after s b) rest)
unfolding frames_from
by_byte s b rest found is =
    ap (λ f. onto f (state_after s b).body (frames_from (state_after s b) rest)) (sym is)

onto_byte : (old l0 l1 : Option (List ℕ)) (r s : ReaderState) (b : ℕ) (found : Option Found)
    → ReadsOnto old l0 r s None → Consumes l0 l1 (b ∷ []) → found ≡ found_at s b
    → ReadsOnto old l1 r (state_after s b) found
onto_byte None l0 l1 r s b found so_far took is = tt
onto_byte (Some bytes) None l1 r s b found so_far took is = absurd so_far
onto_byte (Some bytes) (Some rest) None r s b found so_far took is = absurd took
onto_byte (Some bytes) (Some rest) (Some more) r s b found so_far took is =
    so_far ∙ ap (frames_from s) took ∙ by_byte s b more found is

-- one byte was read
pub one_read : (old l0 l1 : Option (List ℕ)) (r s t : ReaderState) (piece : List ℕ) (n : ℕ)
    (found : Option Found)
    → ReadsOnto old l0 r s None → length piece ≡ 1 → n ≢ 0 → Consumes l0 l1 (take n piece)
    → found ≡ found_at s (slice_index piece 0) → t ≡ state_after s (slice_index piece 0)
    → ReadsOnto old l1 r t found
one_read old l0 l1 r s t piece n found so_far one some took is after =
    subst (λ u. ReadsOnto old l1 r u found) (sym after)
    (onto_byte old l0 l1 r s (slice_index piece 0) found so_far
    (subst (Consumes l0 l1) (byte_of piece n one some) took) is)
