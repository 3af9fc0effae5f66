-- The programs of the consensus objects: their words, and their images.
use Rattle.std.specs.Prelude.{◌≡◌, ℕ, ◌+◌, ◌-◌, ◌*◌, ◌/◌, ◌%◌, ◌^◌, List, [], ◌∷◌, length, Option, Some, None, slice_index}
use Rattle.image.specs.Image.{ImageValue}
use Rattle.image.specs.Segment.{SegmentValue}
use Rattle.mem_store.specs.Image.{segment_at}
use Rattle.hart_reservations.specs.Limit.{most_harts}
use Rattle.object_library.specs.declared.kind.Kind.{Kind}
use Rattle.object_library.specs.declared.kind.Kind.TheVariants.{Swap, Add, LrSc, AdoptCommit, Rounds}

-- the bytes of words, little-endian
abbrev pub bytes_of : List ℕ → List ℕ
bytes_of [] = []
bytes_of (w ∷ words) =
    w % 256 ∷ w / 2 ^ 8 % 256 ∷ w / 2 ^ 16 % 256 ∷ w / 2 ^ 24 % 256 ∷ bytes_of words

-- an object's image: executable text at 0x00010000, and this many writable zeros at 0x00011000
abbrev pub object_image : List ℕ → ℕ → ImageValue
object_image words zeros = record {
  entry = 0x00010000;
  segments = record { base = 0x00010000; size = 4 * length words; rights = 5; bytes = bytes_of words }
      ∷ record { base = 0x00011000; size = zeros; rights = 6; bytes = [] } ∷ [];
}

-- the race by one atomic instruction, `word`: the hart that changes the first word from 0 wins, and
-- each hart's input is in a word of its own after it
abbrev pub race_words : ℕ → List ℕ
race_words word =
    0x00011437 ∷  -- lui s0, 0x11
    0x00251293 ∷  -- slli t0, a0, 2
    0x008282B3 ∷  -- add t0, t0, s0
    0x00B2A223 ∷  -- sw a1, 4(t0)
    0x00100313 ∷  -- addi t1, zero, 1
    word ∷  -- amoswap.w or amoadd.w t2, t1, (s0)
    0x00038A63 ∷  -- beq t2, zero, win
    0x00154293 ∷  -- xori t0, a0, 1
    0x00229293 ∷  -- slli t0, t0, 2
    0x008282B3 ∷  -- add t0, t0, s0
    0x0042A583 ∷  -- lw a1, 4(t0)
    0x00058513 ∷  -- win: addi a0, a1, 0
    0x00100593 ∷  -- addi a1, zero, 1
    0x05D00893 ∷  -- addi a7, zero, 93
    0x00000073 ∷  -- ecall
    []

-- the race by a swap: amoswap.w t2, t1, (s0)
abbrev pub swap_words : List ℕ
swap_words = race_words 0x086423AF

-- the race by an addition: amoadd.w t2, t1, (s0)
abbrev pub add_words : List ℕ
add_words = race_words 0x006423AF

-- the first word is 0, or 1 plus the number of the winner
abbrev pub lrsc_words : List ℕ
lrsc_words =
    0x00011437 ∷  -- lui s0, 0x11
    0x00251293 ∷  -- slli t0, a0, 2
    0x008282B3 ∷  -- add t0, t0, s0
    0x00B2A223 ∷  -- sw a1, 4(t0)
    0x00150313 ∷  -- addi t1, a0, 1
    0x100423AF ∷  -- retry: lr.w t2, (s0)
    0x00039863 ∷  -- bne t2, zero, done
    0x18642E2F ∷  -- sc.w t3, t1, (s0)
    0xFE0E1AE3 ∷  -- bne t3, zero, retry
    0x00030393 ∷  -- addi t2, t1, 0
    0x00239393 ∷  -- done: slli t2, t2, 2
    0x008383B3 ∷  -- add t2, t2, s0
    0x0003A503 ∷  -- lw a0, 0(t2)
    0x00100593 ∷  -- addi a1, zero, 1
    0x05D00893 ∷  -- addi a7, zero, 93
    0x00000073 ∷  -- ecall
    []

-- each hart's record: value, whether it is present, mark (1 adopt, 2 commit), one unused word
abbrev pub adopt_words : List ℕ
adopt_words =
    0x00011437 ∷  -- lui s0, 0x11
    0x00451493 ∷  -- slli s1, a0, 4
    0x008484B3 ∷  -- add s1, s1, s0
    0x00461313 ∷  -- slli t1, a2, 4
    0x00830333 ∷  -- add t1, t1, s0
    0x00200913 ∷  -- addi s2, zero, 2
    0x00B4A023 ∷  -- sw a1, 0(s1)
    0x00100393 ∷  -- addi t2, zero, 1
    0x0074A223 ∷  -- sw t2, 4(s1)
    0x00040293 ∷  -- addi t0, s0, 0
    0x0042A383 ∷  -- look: lw t2, 4(t0)
    0x00038863 ∷  -- beq t2, zero, next
    0x0002AE03 ∷  -- lw t3, 0(t0)
    0x00BE0463 ∷  -- beq t3, a1, next
    0x00100913 ∷  -- addi s2, zero, 1
    0x01028293 ∷  -- next: addi t0, t0, 16
    0xFE6294E3 ∷  -- bne t0, t1, look
    0x0124A423 ∷  -- sw s2, 8(s1)
    0x00100993 ∷  -- addi s3, zero, 1
    0x00058A13 ∷  -- addi s4, a1, 0
    0x00040293 ∷  -- addi t0, s0, 0
    0x00100E93 ∷  -- addi t4, zero, 1
    0x0082A383 ∷  -- mark: lw t2, 8(t0)
    0x00038A63 ∷  -- beq t2, zero, after
    0x01D39663 ∷  -- bne t2, t4, commit
    0x00000993 ∷  -- addi s3, zero, 0
    0x0080006F ∷  -- jal zero, after
    0x0002AA03 ∷  -- commit: lw s4, 0(t0)
    0x01028293 ∷  -- after: addi t0, t0, 16
    0xFE6292E3 ∷  -- bne t0, t1, mark
    0x000A0513 ∷  -- addi a0, s4, 0
    0x00098593 ∷  -- addi a1, s3, 0
    0x05D00893 ∷  -- addi a7, zero, 93
    0x00000073 ∷  -- ecall
    []

-- four adopt-commit objects in succession: a hart that commits goes to the end with its value; one
-- that adopts goes on to the next object with it, 512 bytes on; s5 counts the objects left
abbrev pub rounds_words : List ℕ
rounds_words =
    0x00011437 ∷  -- lui s0, 0x11
    0x00400A93 ∷  -- addi s5, zero, 4
    0x00451493 ∷  -- round: slli s1, a0, 4
    0x008484B3 ∷  -- add s1, s1, s0
    0x00461313 ∷  -- slli t1, a2, 4
    0x00830333 ∷  -- add t1, t1, s0
    0x00200913 ∷  -- addi s2, zero, 2
    0x00B4A023 ∷  -- sw a1, 0(s1)
    0x00100393 ∷  -- addi t2, zero, 1
    0x0074A223 ∷  -- sw t2, 4(s1)
    0x00040293 ∷  -- addi t0, s0, 0
    0x0042A383 ∷  -- look: lw t2, 4(t0)
    0x00038863 ∷  -- beq t2, zero, next
    0x0002AE03 ∷  -- lw t3, 0(t0)
    0x00BE0463 ∷  -- beq t3, a1, next
    0x00100913 ∷  -- addi s2, zero, 1
    0x01028293 ∷  -- next: addi t0, t0, 16
    0xFE6294E3 ∷  -- bne t0, t1, look
    0x0124A423 ∷  -- sw s2, 8(s1)
    0x00100993 ∷  -- addi s3, zero, 1
    0x00058A13 ∷  -- addi s4, a1, 0
    0x00040293 ∷  -- addi t0, s0, 0
    0x00100E93 ∷  -- addi t4, zero, 1
    0x0082A383 ∷  -- mark: lw t2, 8(t0)
    0x00038A63 ∷  -- beq t2, zero, after
    0x01D39663 ∷  -- bne t2, t4, commit
    0x00000993 ∷  -- addi s3, zero, 0
    0x0080006F ∷  -- jal zero, after
    0x0002AA03 ∷  -- commit: lw s4, 0(t0)
    0x01028293 ∷  -- after: addi t0, t0, 16
    0xFE6292E3 ∷  -- bne t0, t1, mark
    0x000A0593 ∷  -- addi a1, s4, 0
    0x00099863 ∷  -- bne s3, zero, out
    0x20040413 ∷  -- addi s0, s0, 512
    0xFFFA8A93 ∷  -- addi s5, s5, -1
    0xF60A9EE3 ∷  -- bne s5, zero, round
    0x00058513 ∷  -- out: addi a0, a1, 0
    0x00098593 ∷  -- addi a1, s3, 0
    0x05D00893 ∷  -- addi a7, zero, 93
    0x00000073 ∷  -- ecall
    []

-- the race by an atomic instruction, for two harts
abbrev pub race_image : ℕ → ImageValue
race_image word = object_image (race_words word) 12

-- the race by a swap
abbrev pub swap_image : ImageValue
swap_image = race_image 0x086423AF

-- the race by an addition
abbrev pub add_image : ImageValue
add_image = race_image 0x006423AF

-- the race by load-reserved and store-conditional, for this many harts
abbrev pub lrsc_image : ℕ → ImageValue
lrsc_image slots = object_image lrsc_words (4 + 4 * slots)

-- adopt-commit by loads and stores, for this many harts
abbrev pub adopt_image : ℕ → ImageValue
adopt_image slots = object_image adopt_words (16 * slots)

-- four objects of adopt-commit, each with records for 32 harts
abbrev pub rounds_image : ImageValue
rounds_image = object_image rounds_words 2048

-- ---- by kind, with as many slots as a machine has harts
-- the words of an object's text
abbrev pub words_of : Kind → List ℕ
words_of Swap = swap_words
words_of Add = add_words
words_of LrSc = lrsc_words
words_of AdoptCommit = adopt_words
words_of Rounds = rounds_words

-- the number of an object's data bytes
abbrev pub zeros_of : Kind → ℕ
zeros_of Swap = 12
zeros_of Add = 12
zeros_of LrSc = 4 + 4 * most_harts
zeros_of AdoptCommit = 16 * most_harts
zeros_of Rounds = 2048

-- the image of an object
abbrev pub image_of : Kind → ImageValue
image_of kind = object_image (words_of kind) (zeros_of kind)

-- ---- the same image, whatever its segments
-- the byte at an address of a segment, and its rights, if there is a segment
abbrev pub cell_in : Option SegmentValue → ℕ → Option (ℕ × ℕ)
cell_in None a = None
cell_in (Some s) a = Some (slice_index s.bytes (a - s.base), s.rights)

-- the byte at an address and its rights
abbrev pub cell : List SegmentValue → ℕ → Option (ℕ × ℕ)
cell segments a = cell_in (segment_at segments a) a

-- the same entry, and at each address the same byte with the same rights, or nothing in both
abbrev pub IsSame : ImageValue → ImageValue → Type 0
IsSame m n = (m.entry ≡ n.entry) × ((a : ℕ) → cell m.segments a ≡ cell n.segments a)
