use Rattle.std.proofs.Common.{None, ◌++◌}
use Rattle.campaign_bounded.specs.Bounded.{bounded}
use Rattle.campaign_bounded.proofs.AmongLemmas.{contains}
use Rattle.campaign_bounded.proofs.BoundedLemmas.{begins}
use Rattle.campaign_bounded.proofs.laws.each_list_begins_a_schedule.Goals as goal

pub returns : goal.returns
returns c = λ harts most k start choices fits steps few short.
    let at = begins harts most k start None choices fits steps few short in
    (at.0, contains (bounded harts most k start None) (choices ++ at.0) at.1)
