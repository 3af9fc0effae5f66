use Rattle.std.proofs.Common.{rules, ◌≡◌, ◌++◌, codes, decimal, ◌<◌}
use Rattle.trace_text.proofs.TableLemmas.{next_name}
use Rattle.trace_text.proofs.table.push_names.Goals as goal

pub harts-preserved : goal.harts-preserved
harts-preserved g c =
    let h = c.harts.hart in
    let before = c.harts.out.items in
    let a = c.extend_from_slice.new.self.items in
    let b = c.push_number.new.out.items in
    let longer = c.extend_from_slice-in-harts.new.self.items in
    let left : h < c.args.harts = search rules in
    let is_a : a ≡ before ++ codes " Hart " = search rules in
    let is_b : b ≡ a ++ decimal h = search rules in
    let is_longer : longer ≡ b ++ codes " |" = search rules in
    next_name before a b longer _ h c.args.harts left is_a is_b is_longer c.harts.invariant
