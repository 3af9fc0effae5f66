-- What a hart meets at its step.
use Rattle.std.specs.Prelude.{◌≡◌, IfSome, option_and_then}
use Rattle.mem_store.specs.Memory.{Memory}
use Rattle.isa_table.specs.Decoded.{decoded}
use Rattle.hart_step.specs.Hart.{HartValue}
use Rattle.hart_step.specs.Locality.{access_if}
use Rattle.trace_steps.specs.Bytes.{bytes_number, IsSize}
use Rattle.trace_steps.specs.Told.{word_met}
use Rattle.trace_steps.specs.declared.met.Met.{Met}

-- this is what a hart meets in a memory
pub record IsMet (met : Met) (h : HartValue) (m : Memory) : Type 0 where
  pub pc : met.pc ≡ h.pc
  pub word : met.word ≡ word_met h.state m h.pc
  pub instr : met.instr ≡ option_and_then decoded met.word
  pub access : met.access ≡ access_if met.instr h.registers
  pub before : met.before ≡ bytes_number m met.access
  pub size : IfSome met.access (λ a. IsSize a.size)
