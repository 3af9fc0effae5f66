use Rattle.property_judge.proofs.FirstLemmas.{is_first, is_kept}
use Rattle.property_judge.proofs.laws.break_is_the_first.Goals as goal

pub returns-clause-broken : goal.returns-clause-broken
returns-clause-broken g property w choices k e = is_first property w choices k e

pub returns-clause-kept : goal.returns-clause-kept
returns-clause-kept g property w choices e = is_kept property w choices e
