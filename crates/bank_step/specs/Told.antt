-- A memory with an image's rights and bytes, of which some words are given in place of the image's,
-- and one word alone is writable.
use Rattle.std.specs.Prelude.{◌≡◌, ℕ, ◌+◌, ◌%◌, ◌==◌, Bool, true, false, ◌&&◌, nat_le, nat_lt, if◌then◌else◌, Option, Some, None, Result, Ok, Err}
use Rattle.mem_store.specs.Memory.{Memory, grants, granted, to_execute, to_load, to_write}
use Rattle.mem_store.specs.Instruction.{instruction_at}
use Rattle.mem_store.specs.declared.store.FetchFault.{FetchFault}
use Rattle.hart_reservations.specs.Marks.{word_of}
use Rattle.isa_table.specs.declared.instr.Instr.{Instr}
use Rattle.hart_step.specs.Hart.{HartValue}
use Rattle.hart_step.specs.Locality.{access_by}
use Rattle.hart_step.specs.Effect.{Site}
use Rattle.hart_step.specs.declared.data_access.Access.{Access}
use Rattle.hart_step.specs.declared.data_access.AccessKind.{AccessKind}
use Rattle.hart_step.specs.declared.data_access.AccessKind.TheVariants.{Load, Store, LoadReserved, StoreConditional, Amo}
use Rattle.bank_laws.specs.Banks.{WordBytes}
use Rattle.bank_laws.specs.Runs.{Touch}
use Rattle.bank_laws.specs.Words.{bytes_at, with_four}
use Rattle.bank_laws.specs.Carried.{act_of, touch_of}
use Rattle.bank_step.specs.declared.words.Word.{Word}
use Rattle.bank_step.specs.declared.steps.PlannedTouch.{PlannedTouch}

-- the word that a step touches, and how
abbrev pub as_touch : PlannedTouch → Touch
as_touch t = record { act = act_of t.kind; word = t.word }

-- bytes with those of a given word
abbrev pub with_told : (ℕ → ℕ) → Option Word → ℕ → ℕ
with_told bytes None = bytes
with_told bytes (Some w) = with_four bytes w.address w.bytes

-- whether an address is in a word
abbrev pub is_in_word : Option Word → ℕ → Bool
is_in_word None a = false
is_in_word (Some w) a = nat_le w.address a && nat_lt a (w.address + 4)

-- whether a word at an address has all of the n bytes from another on
abbrev pub word_has_all : ℕ → ℕ → ℕ → Bool
word_has_all first address n = nat_le first address && nat_le (address + n) (first + 4)

-- rights without the write right. A writable byte is loadable, and stays so
abbrev pub without_write : Option ℕ → Option ℕ
without_write None = None
without_write (Some r) = Some (if grants to_write (Some r) then (if grants to_execute (Some r) then 5 else 4) else r)

-- an image's rights, with the write right inside one word only
abbrev pub rights_told : Memory → Option Word → ℕ → Option ℕ
rights_told m target a = if is_in_word target a then m.rights a else without_write (m.rights a)

-- the image's memory with a word of code, a word of data, and the writable word
abbrev pub told_memory : Memory → Option Word → Option Word → Option Word → Memory
told_memory m code touched target = record {
  rights = rights_told m target;
  bytes = with_told (with_told (with_told m.bytes code) touched) target;
}

-- a word with its given bytes, if there is a word
abbrev pub told_word : Option ℕ → WordBytes → Option Word
told_word None bytes = None
told_word (Some x) bytes = Some (record { address = x; bytes = bytes })

-- the right that an access needs
abbrev pub wanted : AccessKind → ℕ
wanted Load = to_load
wanted Store = to_write
wanted LoadReserved = to_load
wanted StoreConditional = to_write
wanted Amo = to_write

-- whether an access has no fault
abbrev pub is_granted : Memory → Access → Bool
is_granted m c = c.address % c.size == 0 && granted (wanted c.kind) m c.size c.address

-- whether an access is a store-conditional's
abbrev pub is_conditional : AccessKind → Bool
is_conditional Load = false
is_conditional Store = false
is_conditional LoadReserved = false
is_conditional StoreConditional = true
is_conditional Amo = false

-- the word that an access touches, unless it faults
abbrev pub touch_by : Memory → Option Access → Option Touch
touch_by m None = None
touch_by m (Some c) = if is_granted m c then touch_of (Some c) else None

-- the word of an access, with its bytes
abbrev pub word_by : (ℕ → ℕ) → Option Access → Option Word
word_by bytes None = None
word_by bytes (Some c) = Some (record { address = word_of c.address; bytes = bytes_at bytes (word_of c.address) })

-- whether there is an access, and it is a store-conditional's
abbrev pub tries_by : Option Access → Bool
tries_by None = false
tries_by (Some c) = is_conditional c.kind

-- the access of an instruction, if there is one
abbrev pub touched_if : Result Instr FetchFault → HartValue → Option Access
touched_if (Ok i) h = access_by i h.registers
touched_if (Err fault) h = None

-- the access of a hart's instruction in a memory, whether it faults or not
abbrev pub touched_at : Memory → HartValue → Option Access
touched_at m h = touched_if (instruction_at m h.pc) h

-- hart and bytes are those of a site
pub record LeavesSite (h : HartValue) (bytes : ℕ → ℕ) (s : Site) : Type 0 where
  pub hart : h ≡ s.hart
  pub bytes_are : bytes ≡ s.memory.bytes
