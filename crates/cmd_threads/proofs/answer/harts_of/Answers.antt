use Rattle.std.proofs.Common.{rules, ◌≡◌, ◌<◌, ◌∙◌, length, slice_index_or}
use Rattle.cmd_threads.proofs.RunLemmas.{more_harts}
use Rattle.cmd_threads.proofs.answer.harts_of.Goals as goal

pub logs-preserved : goal.logs-preserved
logs-preserved g c =
    let xs = c.args.logs.now in
    let x = c.log-item.result in
    let low : c.logs.log-index < length xs = search rules in
    let is : x ≡ slice_index_or xs c.logs.log-index x = search rules in
    more_harts c.logs.harts.items c.push.new.self.items xs c.logs.log-index x c.slot.result.now low is c.slot.ensures c.in_ok-push.ensures.items c.logs.invariant
