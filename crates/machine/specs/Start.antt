-- The start of a machine.
use Rattle.std.specs.Prelude.{◌≡◌, ℕ, ◌+◌, ◌<◌, ◌≤◌, ◌==◌, List, [], ◌∷◌, None, length, if◌then◌else◌}
use Rattle.image.specs.Image.{ImageValue}
use Rattle.mem_store.specs.Image.{image_memory}
use Rattle.hart_reservations.specs.Limit.{most_harts}
use Rattle.hart_step.specs.Hart.{HartValue, Registers}
use Rattle.hart_step.specs.declared.hart.HartState.TheVariants.{Running}
use Rattle.machine.specs.World.{World}
use Rattle.machine.specs.declared.inputs.StartFault.{StartFault}
use Rattle.machine.specs.declared.inputs.StartFault.TheVariants.{NoHarts, TooManyHarts}

-- a0 (register 10) is the hart's number, a1 (11) its input, a2 (12) the number of harts
abbrev pub first_registers : ℕ → ℕ → ℕ → Registers
first_registers h input n r = if r == 10 then h else if r == 11 then input else if r == 12 then n else 0

-- hart h of n, with its input, at the entry
abbrev pub first_hart : ℕ → ℕ → ℕ → ℕ → HartValue
first_hart entry n h input =
    record { registers = first_registers h input n; pc = entry; state = Running }

-- the harts of n from number h on, one for each input
abbrev pub first_harts : ℕ → ℕ → ℕ → List ℕ → List HartValue
first_harts entry n h [] = []
first_harts entry n h (input ∷ inputs) = first_hart entry n h input ∷ first_harts entry n (h + 1) inputs

-- the world at a program's start: its image in memory, a hart for each input, no reservation
unfoldable pub started : ImageValue → List ℕ → World
started image inputs = record {
  harts = first_harts image.entry (length inputs) 0 inputs;
  memory = image_memory image;
  reserved = λ h. None;
}

-- there can be a hart for each input
abbrev pub IsStartable : List ℕ → Type 0
IsStartable inputs = (0 < length inputs) × (length inputs ≤ most_harts)

-- the reason why there cannot be a hart for each input
abbrev pub RefusesStart : List ℕ → StartFault → Type 0
RefusesStart inputs NoHarts = length inputs ≡ 0
RefusesStart inputs TooManyHarts = most_harts < length inputs
