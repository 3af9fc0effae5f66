use Rattle.std.proofs.Common.{[], None}
use Rattle.campaign_bounded.specs.Bounded.{bounded}
use Rattle.campaign_bounded.proofs.DistinctLemmas.{apart, distinct_bounded}
use Rattle.campaign_bounded.proofs.laws.each_schedule_is_one.Goals as goal

pub returns : goal.returns
returns c = λ harts most k start i j less inside same.
    apart (bounded harts most k start None) [] i j (distinct_bounded harts most k start None) less inside same
