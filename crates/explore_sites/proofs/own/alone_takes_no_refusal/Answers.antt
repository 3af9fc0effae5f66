use Rattle.explore_sites.proofs.LoneLemmas.{never_refused}
use Rattle.explore_sites.proofs.own.alone_takes_no_refusal.Goals as goal

pub returns : goal.returns
returns c = never_refused
