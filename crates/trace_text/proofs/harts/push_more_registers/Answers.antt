use Rattle.std.proofs.Common.{rules, ◌≡◌, ◌++◌, ◌∷◌, [], decimal, ◌<◌}
use Rattle.hart_step.specs.Hart.{registers_of}
use Rattle.trace_text.proofs.HeadLemmas.{next_register}
use Rattle.trace_text.proofs.harts.push_more_registers.Goals as goal

-- src/harts.rt:22:5
pub registers-preserved : goal.registers-preserved
registers-preserved g c =
    let x = registers_of c.args.hart.now.registers in
    let r = c.registers.number in
    let before = c.registers.out.items in
    let comma = c.push.new.self.items in
    let value = c.from.result in
    let left : r < 32 = search rules in
    let is_value : value ≡ x r = search rules in
    let is_comma : comma ≡ before ++ 44 ∷ [] = search rules in
    let is_longer : c.push_number.new.out.items ≡ comma ++ decimal value = search rules in
    next_register before comma _ _ x r value left is_value is_comma is_longer c.registers.invariant
