-- Sites for examples of steps: a program at 0x00010000 and a word of data at 0x00011000, over
-- memory with all rights below 0x00012000.
use Rattle.std.specs.Prelude.{ℕ, ◌+◌, ◌==◌, nat_lt, false, List, [], ◌∷◌, Some, None, if◌then◌else◌}
-- for examples of runs, in crates that do not use the table themselves
unfoldable pub use Rattle.isa_table.specs.Decoded.{decoded}
use Rattle.mem_store.specs.Memory.{Memory, stored, number_at}
use Rattle.hart_step.specs.Effect.{Site, site}
use Rattle.hart_step.specs.Step.{stepped}
use Rattle.hart_step.specs.declared.hart.HartState.TheVariants.{Running}

-- words from an address on, over other bytes
abbrev pub spelling : ℕ → List ℕ → (ℕ → ℕ) → ℕ → ℕ
spelling address [] bytes = bytes
spelling address (word ∷ words) bytes = stored 4 address word (spelling (address + 4) words bytes)

-- a program's words, and a number as the word of data
abbrev pub example_memory : List ℕ → ℕ → Memory
example_memory words number = record {
  rights = λ a. if nat_lt a 0x00012000 then Some 7 else None;
  bytes = spelling 0x00010000 words (stored 4 0x00011000 number (λ a. 0));
}

-- hart 0 at the program's first word, with values of x1 and x2
abbrev pub before : List ℕ → ℕ → ℕ → ℕ → Site
before words number x1 x2 = site (record {
  registers = λ r. if r == 1 then x1 else if r == 2 then x2 else 0;
  pc = 0x00010000;
  state = Running;
}) (example_memory words number) (λ h. None)

-- hart 0 has executed one word
abbrev pub after : ℕ → ℕ → ℕ → ℕ → Site
after word number x1 x2 = stepped 0 false (before (word ∷ []) number x1 x2)

-- a register of the hart
abbrev pub register : Site → ℕ → ℕ
register s r = s.hart.registers r

-- the word of data
abbrev pub data_of : Site → ℕ
data_of s = number_at s.memory.bytes 4 0x00011000

-- hart h, with the registers of hart 0, executes the word at an address; then hart 0 goes on
abbrev pub meanwhile : ℕ → ℕ → Site → Site
meanwhile h pc s =
    let t = stepped h false (record s { hart = record s.hart { pc = pc } }) in
    record t { hart = s.hart }

-- hart 0, with the address of the data word (8) in x1 and 9 in x2, has executed this program's LR
abbrev pub reserving : Site
reserving = stepped 0 false (before (
    0x1000A1AF ∷  -- 0x00010000: lr.w x3, (x1)
    0x1820A22F ∷  -- 0x00010004: sc.w x4, x2, (x1)
    0x1820A2AF ∷  -- 0x00010008: sc.w x5, x2, (x1)
    0x0030A023 ∷  -- 0x0001000C: sw x3, 0(x1)
    0x00308223 ∷  -- 0x00010010: sb x3, 4(x1)
    []) 8 0x00011000 9)
