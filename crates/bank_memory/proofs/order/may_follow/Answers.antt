use Rattle.std.proofs.Common.{◌∙◌, sym}
use Rattle.bank_memory.proofs.OrderLemmas.{follow_full, follow_first}
use Rattle.bank_memory.proofs.order.may_follow.Goals as goal

pub returns-then-is_empty : goal.returns-then-is_empty
returns-then-is_empty c = sym (follow_first c.args.log.now c.args.access.now (sym c.is_empty.ensures ∙ c.if-is_empty.true))

pub returns : goal.returns
returns c = c.is_before.ensures ∙ sym (follow_full c.args.log.now c.args.access.now _ c.requires (sym c.is_empty.ensures ∙ c.if-is_empty.false))
