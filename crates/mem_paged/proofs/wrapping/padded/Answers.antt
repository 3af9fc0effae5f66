use Rattle.std.proofs.Common.{arith}
use Rattle.mem_paged.proofs.TableLemmas.{begins_first, begins_more}
use Rattle.mem_paged.proofs.wrapping.padded.Goals as goal

pub blanks-init : goal.blanks-init
blanks-init g c = record {
  begins = begins_first c.args.pages.now c.in_ok-all.all.items c.in_ok-all.ensures.values;
  count = omega (arith, c.in_ok-all.ensures.len);
  from = omega arith;
}

pub blanks-preserved : goal.blanks-preserved
blanks-preserved g c = record {
  begins = begins_more c.args.pages.now c.blanks.all.items _ _ _ c.blanks.all.ok.0 (omega (arith, c.blanks.invariant.count, c.blanks.invariant.from)) c.in_ok-push.ensures.items c.blanks.invariant.begins;
  count = omega (arith, c.in_ok-push.ensures.len, c.blanks.invariant.count);
  from = omega (arith, c.blanks.invariant.from);
}
