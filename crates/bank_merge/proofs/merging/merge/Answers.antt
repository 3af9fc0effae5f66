use Rattle.bank_merge.proofs.MergeLemmas.{numbered_of}
use Rattle.bank_merge.proofs.merging.merge.Goals as goal

pub is_matched-requires : goal.is_matched-requires
is_matched-requires g c = numbered_of c.args.logs.now c.args.banks.now c.requires

pub merge_matched-requires-clause-matched : goal.merge_matched-requires-clause-matched
merge_matched-requires-clause-matched g c = c.in-Ok.ensures.0 c.if-not-matched.false

pub merge_matched-requires-clause-rising : goal.merge_matched-requires-clause-rising
merge_matched-requires-clause-rising g c = c.stamps_rise.ensures.0 c.if-not-stamps_rise.false
