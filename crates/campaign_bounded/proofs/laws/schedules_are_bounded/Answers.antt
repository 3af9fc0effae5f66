use Rattle.std.proofs.Common.{None}
use Rattle.campaign_bounded.specs.Bounded.{bounded}
use Rattle.campaign_bounded.proofs.AmongLemmas.{among, contains}
use Rattle.campaign_bounded.proofs.BoundedLemmas.{bounded_are, are_bounded}
use Rattle.campaign_bounded.proofs.laws.schedules_are_bounded.Goals as goal

pub returns-clause-only : goal.returns-clause-only
returns-clause-only c = λ harts most k start choices fits h.
    let is = bounded_are harts most k start None choices fits (among (bounded harts most k start None) choices h) in
    record { steps = is.steps; few = is.few; whole = is.whole }

pub returns-clause-all : goal.returns-clause-all
returns-clause-all c = λ harts most k start choices fits h.
    contains (bounded harts most k start None) choices (are_bounded harts most k start None choices fits h.steps h.few h.whole)
