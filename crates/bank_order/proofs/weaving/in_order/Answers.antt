use Rattle.std.proofs.Common.{List, subst, sym}
use Rattle.bank_laws.specs.Segments.{LoggedSegment}
use Rattle.bank_laws.specs.Order.{IsMerged}
use Rattle.bank_order.specs.Weaving.{log_of}
use Rattle.bank_order.specs.Logs.{segment_logs}
use Rattle.bank_order.proofs.MergedLemmas.{woven_is_merged}
use Rattle.bank_order.proofs.weaving.in_order.Goals as goal

pub returns : goal.returns
returns g c = subst (λ (es : List LoggedSegment). IsMerged (log_of (segment_logs c.args.logs.now)) es) (sym c.in_ok-out.ensures) (woven_is_merged (segment_logs c.args.logs.now) c.requires.own c.requires.rising)
