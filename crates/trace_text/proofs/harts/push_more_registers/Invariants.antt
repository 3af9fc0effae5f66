use Rattle.std.proofs.Common.{◌≡◌, ◌++◌, ◌-◌}
use Rattle.hart_step.specs.Hart.{registers_of}
use Rattle.trace_text.specs.Head.{head_registers}
use Rattle.trace_text.proofs.harts.push_more_registers.Given as goal

-- the text so far, and then the registers that are left
abbrev pub invariant-registers : goal.invariant-registers
invariant-registers g l = l.out.items ++ head_registers (registers_of l.hart.registers) l.number (32 - l.number)
    ≡ l.initial.out.items ++ head_registers (registers_of l.hart.registers) 1 31
