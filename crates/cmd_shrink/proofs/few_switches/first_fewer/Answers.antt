use Rattle.std.proofs.Common.{Ok, ap}
use Rattle.cmd_shrink.proofs.RunLemmas.{tried_more}
use Rattle.cmd_shrink.proofs.few_switches.first_fewer.Goals as goal

pub runs-preserved : goal.runs-preserved
runs-preserved g c = record {
  run = c.run_end-to.ensures;
  tried = tried_more c.args.choices.now (g.F.Failing.fails c.args.test.now) c.runs.from c.runs.middle c.run_end-to.result
      c.runs.invariant.run c.run_end-to.ensures c.runs.invariant.tried (c.in_ok-fewer.ensures.none (ap Ok c.in_default.is));
}
