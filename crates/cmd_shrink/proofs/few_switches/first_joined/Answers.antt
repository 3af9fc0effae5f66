use Rattle.std.proofs.Common.{Ok, ap, arith}
use Rattle.cmd_shrink.proofs.RunLemmas.{moved_all, moved_more, next_begins}
use Rattle.cmd_shrink.proofs.few_switches.first_joined.Goals as goal

pub runs-preserved : goal.runs-preserved
runs-preserved g c = record {
  begins = next_begins c.args.choices.now c.runs.from c.run_end-to.result c.run_end-to.ensures;
  moved = moved_more c.args.choices.now (g.F.Failing.fails c.args.test.now) c.runs.from c.run_end-to.result c.run_end-to.ensures
      c.runs.invariant.moved (c.in_ok-joined.ensures.none (ap Ok c.in_default.is));
}

pub returns-clause-none : goal.returns-clause-none
returns-clause-none g c = λ _.
    let end = c.runs-test.false in
    moved_all c.args.choices.now (g.F.Failing.fails c.args.test.now) c.runs.from (omega (arith, end)) c.runs.invariant.moved
