use Rattle.std.proofs.Common.{rules, arith, ◌+◌, ◌-◌, string_bytes}
use Rattle.hart_step.specs.Hart.{hart_of}
use Rattle.debug_text.proofs.TextLemmas.{registers_more, registers_end, lines_more, lines_end}
use Rattle.debug_text.proofs.registers_text.hart_text.Goals as goal

pub registers-preserved : goal.registers-preserved
registers-preserved g c =
    lines_more (string_bytes c.registers.text) (string_bytes c.push_register.new.text) _ _ _ _ c.in_ok-push_register.ensures
    (registers_more (hart_of c.args.hart.now).registers c.registers.register 32 c.registers-test.true) c.registers.invariant

pub returns : goal.returns
returns g c =
    lines_end (string_bytes c.registers.text) _ _
    (registers_end (hart_of c.args.hart.now).registers c.registers.register 32 (omega (arith, c.registers-test.false))) c.registers.invariant
