use Rattle.std.proofs.Common.{◌-◌, suc, ◌≤◌, length, arith}
use Rattle.cmd_shrink.proofs.SwitchLemmas.{switches-last}
use Rattle.cmd_shrink.proofs.runs.switches.Goals as goal

pub returns : goal.returns
returns c =
    let few = c.choices.invariant.few in
    let all = c.choices.invariant.all in
    let end = c.choices-test.false in
    let last : length c.args.choices.now ≤ suc (c.choices.at - 1) = omega (arith, few, end) in
    let none = switches-last (c.choices.at - 1) c.args.choices.now last in
    omega (arith, all, none)
