use Rattle.std.proofs.Common.{subst}
use Rattle.bank_threads.specs.Banked.{IsBanked}
use Rattle.bank_threads.proofs.RunLemmas.{seen_banked}
use Rattle.bank_threads.proofs.runner.run_banked.Goals as goal

pub returns : goal.returns
returns g c = record {
  banked = subst (λ words. IsBanked c.args.image.now words c.args.budget c.args.plan.now.keys c.in-Ok-run_all.logs.items c.in-Ok-unlocked.banks.items)
      c.words-words.ensures.same
      (seen_banked _ _ _ _ _ _ _ _ c.deref.ensures.value c.deref-2.ensures.value (c.in-Ok-are_of_a_run.ensures c.if-not-all.false));
}
