-- Where logs of a program's harts and banks begin, and the world in which they end.
use Rattle.std.specs.Prelude.{◌≡◌, ℕ, ◌/◌, ◌%◌, ◌<◌, List, map, None, Some, length, slice_get, slice_index}
use Rattle.image.specs.Image.{ImageValue}
use Rattle.mem_store.specs.Image.{image_memory}
use Rattle.hart_step.specs.Hart.{HartValue}
use Rattle.machine.specs.World.{World}
use Rattle.machine.specs.Start.{first_hart}
use Rattle.machine.specs.declared.choice.Choice.{Choice}
use Rattle.bank_laws.specs.Banks.{BankState, joined_mark}
use Rattle.bank_laws.specs.Segments.{LoggedSegment, HartSlot, segment_turns}
use Rattle.bank_laws.specs.Words.{bytes_at}
use Rattle.bank_laws.specs.Worlds.{choice_of_turn}

-- number of banks
abbrev pub most_banks : ℕ
most_banks = 16

-- the bank of the word at an address: consecutive words are in consecutive banks
abbrev pub bank_of : ℕ → ℕ
bank_of x = x / 4 % most_banks

-- hart h as a program begins, with no LR yet
abbrev pub first_slot : ImageValue → List ℕ → ℕ → HartSlot HartValue
first_slot image inputs h =
    record { hart = first_hart image.entry (length inputs) h (slice_index inputs h); named = None }

-- a bank as a program begins: its words are the image's, and it has no marks
abbrev pub first_bank : ImageValue → BankState
first_bank image = record { values = λ x. bytes_at (image_memory image).bytes x; marks = λ h. None }

-- the choices of segments: for each its local steps, then one choice with its refusal
abbrev pub segment_choices : List LoggedSegment → List Choice
segment_choices es = map choice_of_turn (segment_turns es)

-- a program's world has the slots' harts, the image's rights, each bank's bytes at its own words,
-- and as reservation of a hart the word that its slot names, where that word's bank has its mark
pub record EndsIn (image : ImageValue) (inputs : List ℕ) (w : World) (ends : ℕ → HartSlot HartValue) (banks : ℕ → BankState) : Type 0 where
  pub count : length w.harts ≡ length inputs
  pub harts : (h : ℕ) → h < length inputs → slice_get w.harts h ≡ Some (ends h).hart
  pub rights : w.memory.rights ≡ (image_memory image).rights
  pub bytes : (x : ℕ) → x % 4 ≡ 0 → bytes_at w.memory.bytes x ≡ (banks (bank_of x)).values x
  pub reserved : (h : ℕ) → w.reserved h ≡ joined_mark bank_of banks h (ends h).named
