use Rattle.std.proofs.Common.{◌≡◌, drop}
use Rattle.property_judge.specs.Reach.{reach_of, reach_with}
use Rattle.property_judge.proofs.reach.reach_of.Given as goal

abbrev pub invariant-properties : goal.invariant-properties
invariant-properties l = reach_with l.reach (drop l.each-index l.judged) ≡ reach_of l.judged
