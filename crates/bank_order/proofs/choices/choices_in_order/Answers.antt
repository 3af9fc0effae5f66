use Rattle.std.proofs.Common.{rules, ◌≡◌}
use Rattle.bank_laws.specs.Merged.{segment_choices}
use Rattle.bank_order.specs.Logs.{segment_logs, borrowed_segments}
use Rattle.bank_order.proofs.ChoiceLemmas.{leads}
use Rattle.bank_order.proofs.choices.choices_in_order.Goals as goal

pub returns-clause-leads : goal.returns-clause-leads
returns-clause-leads g c =
    let are : c.in_ok-choices.choices.items ≡ segment_choices (borrowed_segments c.in_ok-segments.segments.items) = search rules in
    leads (segment_logs c.args.logs.now) (borrowed_segments c.in_ok-segments.segments.items) c.in_ok-choices.choices.items c.in_ok-segments.ensures are c.requires.rising
