use Rattle.std.proofs.Common.{sym, ◌∙◌}
use Rattle.machine.specs.State.{state}
use Rattle.cmd_trace.proofs.TellerLemmas.{none_reserved, so_many_harts}
use Rattle.cmd_trace.proofs.teller.Teller.new.Goals as goal

pub invariant_of-result : goal.invariant_of-result
invariant_of-result g c = record {
  known = c.new.ensures _ (none_reserved c.args.image.now c.args.inputs.now (state c.in_ok-machine.machine) c.in_ok-machine.ensures.begun);
  there = so_many_harts c.args.image.now c.args.inputs.now (state c.in_ok-machine.machine) c.in_ok-machine.ensures.begun
      ∙ sym c.harts.ensures.harts ∙ sym c.new-3.ensures.harts;
}
