use Rattle.std.proofs.Common.{◌≡◌, ◌++◌, string_bytes, drop}
use Rattle.std.specs.List.{flat_map}
use Rattle.hart_step.specs.Hart.{hart_of}
use Rattle.debug_text.specs.Texts.{named_entry}
use Rattle.debug_text.proofs.registers_text.push_registers.Given as goal

-- the text so far, and then the lines that are left
abbrev pub invariant-registers : goal.invariant-registers
invariant-registers g l = string_bytes l.text ++ flat_map (named_entry (hart_of l.hart)) (drop l.register-index l.registers)
    ≡ string_bytes l.initial.text ++ flat_map (named_entry (hart_of l.hart)) l.registers
