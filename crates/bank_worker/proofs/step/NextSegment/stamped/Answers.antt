use Rattle.std.proofs.Common.{refl, sym, ◌∙◌}
use Rattle.bank_memory.proofs.StampLemmas.{next_above_own}
use Rattle.bank_worker.proofs.step.NextSegment.stamped.Goals as goal

pub returns-in-Some-clause-walked : goal.returns-in-Some-clause-walked
returns-in-Some-clause-walked c = record {
  hart = refl;
  local = refl;
  refuse = refl;
  above = next_above_own c.args.self.now.last_stamp c.args.banks.now c.in-Some.stamp (sym c.next_stamp.ensures ∙ c.in-Some.is);
}
