use Rattle.bank_merge.proofs.MergeLemmas.{are_apart}
use Rattle.bank_merge.proofs.one_run.equal_stamps_are_apart.Goals as goal

pub returns : goal.returns
returns g c = are_apart c.args.logs.now c.args.banks.now c.requires.one c.see_harts.ensures c.see_banks.ensures c.requires.matched
