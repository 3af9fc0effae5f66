-- A small program, for an example of a run.
use Rattle.std.specs.Prelude.{ℕ, ◌/◌, ◌%◌, ◌^◌, List, [], ◌∷◌, map, false}
use Rattle.image.specs.Image.{ImageValue}
use Rattle.machine.specs.World.{World, run}
use Rattle.machine.specs.Start.{started}
use Rattle.machine.specs.declared.choice.Choice.{Choice}

-- the bytes of words, little-endian
abbrev pub example_bytes : List ℕ → List ℕ
example_bytes [] = []
example_bytes (w ∷ words) =
    w % 256 ∷ w / 2 ^ 8 % 256 ∷ w / 2 ^ 16 % 256 ∷ w / 2 ^ 24 % 256 ∷ example_bytes words

-- words as a program at 0x00010000, in one segment of 8192 bytes with all rights
abbrev pub example_image : List ℕ → ImageValue
example_image words = record {
  entry = 0x00010000;
  segments = record { base = 0x00010000; size = 8192; rights = 7; bytes = example_bytes words } ∷ [];
}

-- each hart stores its input at one address, loads the word that is there, and exits with it
abbrev pub store_and_load : ImageValue
store_and_load = example_image (
    0x000112B7 ∷  -- lui t0, 0x11
    0x00B2A023 ∷  -- sw a1, 0(t0)
    0x0002A503 ∷  -- lw a0, 0(t0)
    0x05D00893 ∷  -- addi a7, x0, 93
    0x00000073 ∷  -- ecall
    [])

-- the choice of a hart, without a refusal
abbrev pub choice_of : ℕ → Choice
choice_of h = record { hart = h; refuse = false }

-- hart 0 (input 7) stores, then hart 1 (input 9) stores, and only then hart 0 loads
abbrev pub after_both : World
after_both = run (started store_and_load (7 ∷ 9 ∷ []))
    (map choice_of (0 ∷ 0 ∷ 1 ∷ 1 ∷ 0 ∷ 0 ∷ 0 ∷ 1 ∷ 1 ∷ 1 ∷ []))
