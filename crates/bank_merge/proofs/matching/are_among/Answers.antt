use Rattle.bank_merge.proofs.MatchLemmas.{covers_test}
use Rattle.bank_merge.proofs.matching.are_among.Goals as goal

pub returns : goal.returns
returns g c = covers_test c.in_ok-set.set c.args.accesses.now c.args.others.now c.are_in.result c.in_ok-set.ensures c.are_in.ensures
