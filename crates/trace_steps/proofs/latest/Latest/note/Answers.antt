use Rattle.std.proofs.Common.{◌∙◌, sym, rules}
use Rattle.hart_reservations.specs.Reserve.{marks}
use Rattle.trace_steps.proofs.MarkLemmas.{none_made, noted, unnoted}
use Rattle.trace_steps.proofs.latest.Latest.note.Goals as goal

pub returns-in_default : goal.returns-in_default
returns-in_default c = none_made _ _ _ _ c.in_default.is c.requires.known

pub returns-then-holds : goal.returns-then-holds
returns-then-holds c =
    noted c.args.self.now.words c.args.access _ c.args.hart (marks c.args.reserve.now) c.in-Some.is c.requires.known (search rules)
    (sym c.holds.ensures ∙ c.if-holds.true)

pub returns-else-holds : goal.returns-else-holds
returns-else-holds c =
    unnoted c.args.self.now.words c.args.access _ c.args.hart (marks c.args.reserve.now) c.in-Some.is c.requires.known
    (sym c.holds.ensures ∙ c.if-holds.false)
