use Rattle.std.proofs.Common.{rules, ◌≡◌, ◌++◌, codes, ◌<◌}
use Rattle.trace_text.proofs.TableLemmas.{next_rule}
use Rattle.trace_text.proofs.table.push_rules.Goals as goal

pub harts-preserved : goal.harts-preserved
harts-preserved g c =
    let i = c.harts._hart in
    let before = c.harts.out.items in
    let longer = c.extend_from_slice.new.self.items in
    let left : i < c.args.harts = search rules in
    let is_longer : longer ≡ before ++ codes "---|" = search rules in
    next_rule before longer _ i c.args.harts left is_longer c.harts.invariant
