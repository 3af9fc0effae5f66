use Rattle.std.proofs.Common.{◌≡◌, ◌++◌, ◌-◌, string_bytes}
use Rattle.hart_step.specs.Hart.{hart_of}
use Rattle.debug_text.specs.Texts.{registers_from, hart_text}
use Rattle.debug_text.proofs.registers_text.hart_text.Given as goal

-- the text so far, and then the registers that are left
abbrev pub invariant-registers : goal.invariant-registers
invariant-registers g l = string_bytes l.text ++ registers_from (hart_of l.hart).registers l.register (32 - l.register)
    ≡ hart_text l.number (hart_of l.hart)
