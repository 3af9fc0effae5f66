-- An adopt-commit object by itself: where it stands, how harts come to it, and the rule that they
-- keep where they come out of it.
use Rattle.std.specs.Prelude.{◌≡◌, ◌≢◌, ◌⊎◌, ℕ, ◌+◌, ◌*◌, ◌^◌, ◌<◌, ◌≤◌, List, [], ◌∷◌, length, slice_index, slice_index_or}
use Rattle.std.specs.List.{All}
use Rattle.mem_store.specs.Image.{image_memory}
use Rattle.hart_reservations.specs.Marks.{Marks}
use Rattle.hart_step.specs.Hart.{HartValue, Registers}
use Rattle.hart_step.specs.declared.hart.HartState.TheVariants.{Running}
use Rattle.machine.specs.World.{World, step, run}
use Rattle.machine.specs.declared.choice.Choice.{Choice}
use Rattle.object_library.specs.Images.{object_image}
use Rattle.machine.specs.Chosen.{own}
use Rattle.object_library.specs.Rules.{AreAlike, IsProposed}

-- its 29 instructions
abbrev pub object_words : List ℕ
object_words =
    0x00451493 ∷  -- slli s1, a0, 4
    0x008484B3 ∷  -- add s1, s1, s0
    0x00461313 ∷  -- slli t1, a2, 4
    0x00830333 ∷  -- add t1, t1, s0
    0x00200913 ∷  -- addi s2, zero, 2
    0x00B4A023 ∷  -- sw a1, 0(s1)
    0x00100393 ∷  -- addi t2, zero, 1
    0x0074A223 ∷  -- sw t2, 4(s1)
    0x00040293 ∷  -- addi t0, s0, 0
    0x0042A383 ∷  -- look: lw t2, 4(t0)
    0x00038863 ∷  -- beq t2, zero, next
    0x0002AE03 ∷  -- lw t3, 0(t0)
    0x00BE0463 ∷  -- beq t3, a1, next
    0x00100913 ∷  -- addi s2, zero, 1
    0x01028293 ∷  -- next: addi t0, t0, 16
    0xFE6294E3 ∷  -- bne t0, t1, look
    0x0124A423 ∷  -- sw s2, 8(s1)
    0x00100993 ∷  -- addi s3, zero, 1
    0x00058A13 ∷  -- addi s4, a1, 0
    0x00040293 ∷  -- addi t0, s0, 0
    0x00100E93 ∷  -- addi t4, zero, 1
    0x0082A383 ∷  -- mark: lw t2, 8(t0)
    0x00038A63 ∷  -- beq t2, zero, after
    0x01D39663 ∷  -- bne t2, t4, commit
    0x00000993 ∷  -- addi s3, zero, 0
    0x0080006F ∷  -- jal zero, after
    0x0002AA03 ∷  -- commit: lw s4, 0(t0)
    0x01028293 ∷  -- after: addi t0, t0, 16
    0xFE6292E3 ∷  -- bne t0, t1, mark
    []

-- the address of instruction number `index` of a text
abbrev pub place_of : ℕ → ℕ
place_of index = 0x00010000 + 4 * index

-- the address of word number `shift` of the data
abbrev pub base_of : ℕ → ℕ
base_of shift = 0x00011000 + 4 * shift

-- where a hart stands that has come out of the object whose first instruction is number `index`
abbrev pub past_of : ℕ → ℕ
past_of index = place_of index + 116

-- a text has the object's instructions from number `index` on, and behind `shift` words of the data
-- there is room for a record of four words for each of n harts
pub record HasObject (text : List ℕ) (zeros index shift n : ℕ) : Type 0 where
  pub short : length text ≤ 1024
  pub whole : index + 29 ≤ length text
  pub same : (j : ℕ) → j < 29 → slice_index text (index + j) ≡ slice_index object_words j
  pub room : 4 * shift + 16 * n ≤ zeros
  pub few : zeros ≤ 2 ^ 24

-- the world of this text and so many zeros, in which no hart has stored yet
abbrev pub untouched : List ℕ → ℕ → List HartValue → Marks → World
untouched text zeros harts reserved = record { harts = harts; memory = image_memory (object_image text zeros); reserved = reserved }

-- a hart that runs
abbrev pub running : Registers → ℕ → HartValue
running registers pc = record { registers = registers; pc = pc; state = Running }

-- hart k of n is about to enter the object, and brings this value; register 21, s5, which the
-- object leaves alone, is the same in all harts
pub record Enters (index shift count n k value : ℕ) (hart : HartValue) : Type 0 where
  pub registers : Registers
  pub stands : hart ≡ running registers (place_of index)
  pub zero_is : registers 0 ≡ 0
  pub base_is : registers 8 ≡ base_of shift
  pub number_is : registers 10 ≡ k
  pub value_is : registers 11 ≡ value
  pub harts_are : registers 12 ≡ n
  pub count_is : registers 21 ≡ count

-- there is a hart for each value, and it is about to enter the object with that value
pub record AllEnter (index shift count : ℕ) (values : List ℕ) (harts : List HartValue) : Type 0 where
  pub number : length harts ≡ length values
  pub each : (k : ℕ) (d : HartValue) → k < length values
      → Enters index shift count (length values) k (slice_index values k) (slice_index_or harts k d)

-- no hart is chosen that has come to this place
abbrev pub StayBefore : ℕ → World → List Choice → Type 0
StayBefore past w [] = Unit {0}
StayBefore past w (c ∷ choices) =
    ((d : HartValue) → (slice_index_or w.harts c.hart d).pc ≢ past) × StayBefore past (step w c) choices

-- what holds after every passage of 1 to 32 harts through an object, wherever it stands, whatever
-- they bring, and in every schedule in which who has come out of it waits
abbrev pub InEveryPassage : (ℕ → ℕ → ℕ → List ℕ → List Choice → List HartValue → Type 0) → Type 0
InEveryPassage Rule =
    (text : List ℕ) (zeros index shift count : ℕ) (values : List ℕ) (harts : List HartValue) (reserved : Marks) (choices : List Choice)
    → length values ≤ 32 → All (λ v. v < 2 ^ 32) values → HasObject text zeros index shift (length values)
    → AllEnter index shift count values harts → All (λ c. c.hart < length values) choices
    → StayBefore (past_of index) (untouched text zeros harts reserved) choices
    → Rule (past_of index) (base_of shift) count values choices (run (untouched text zeros harts reserved) choices).harts

-- adopt-commit (Gafni, "Round-by-Round Fault Detectors", 1998), of harts that come to this place:
-- register 20, s4, has a hart's value, and register 19, s3, is 1 where it commits to it
pub record KeepsPassage (past base count : ℕ) (values : List ℕ) (choices : List Choice) (harts : List HartValue) : Type 0 where
  -- a hart comes out with the value of a hart that was chosen
  pub valid : All (λ h. h.pc ≡ past → IsProposed values choices (h.registers 20)) harts
  -- a hart that has come out adopts, 0, or commits, 1
  pub answered : All (λ h. h.pc ≡ past → (h.registers 19 ≡ 0) ⊎ (h.registers 19 ≡ 1)) harts
  -- where one hart commits, all harts that have come out have its value
  pub committed : All (λ h. All (λ k. h.pc ≡ past → k.pc ≡ past → h.registers 19 ≡ 1 → h.registers 20 ≡ k.registers 20) harts) harts
  -- where the harts that were chosen bring the same value, each hart that has come out commits
  pub convergent : AreAlike values choices → All (λ h. h.pc ≡ past → h.registers 19 ≡ 1) harts
  -- a hart that has come out still has the address of the records, the number of harts and its
  -- count, as whoever chains objects needs
  pub framed : All (λ h. h.pc ≡ past → (h.registers 8 ≡ base) × (h.registers 12 ≡ length values) × (h.registers 21 ≡ count)) harts
  -- no hart has stopped
  pub sound : All (λ h. h.state ≡ Running) harts

-- no hart takes more steps in the object than this
abbrev pub IsBounded : ℕ → ℕ → ℕ → List ℕ → List Choice → List HartValue → Type 0
IsBounded past base count values choices harts = (h : ℕ) → h < length values → own choices h ≤ 14 + 14 * length values
