-- The mark under a part of a line.
use Rattle.std.specs.Prelude.{ℕ, List, [], ◌∷◌, take, if◌then◌else◌, nat_eq, nat_le}
use Rattle.std.specs.List.{flat_map}

-- the padding under a byte: a tab under a tab, nothing under a continuation byte, else a space
abbrev pub pad : ℕ → List ℕ
pad byte = if nat_eq byte 9 then 9 ∷ [] else if nat_le 0x80 byte then (if nat_le byte 0xbf then [] else 32 ∷ []) else 32 ∷ []

-- the padding before the mark of what begins at a byte of a line: as wide as the line before it
abbrev pub room_before : List ℕ → ℕ → List ℕ
room_before line start = flat_map pad (take start line)
