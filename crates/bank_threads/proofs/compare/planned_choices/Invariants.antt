use Rattle.std.proofs.Common.{◌≤◌, drop}
use Rattle.bank_threads.proofs.ChoiceLemmas.{Goes}
use Rattle.bank_threads.proofs.compare.planned_choices.Given as goal

abbrev pub invariant-segments : goal.invariant-segments
invariant-segments g l = Goes l.plan.keys l.hart l.segments (drop l.segment-index l.segments) l.made × (l.made ≤ l.budget)
