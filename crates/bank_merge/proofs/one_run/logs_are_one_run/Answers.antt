use Rattle.bank_merge.proofs.MergeLemmas.{one_run}
use Rattle.bank_merge.proofs.one_run.logs_are_one_run.Goals as goal

pub returns : goal.returns
returns g c = one_run c.args.logs.now c.args.banks.now c.requires.one c.see_harts.ensures c.see_banks.ensures c.requires.matched c.requires.rising
