use Rattle.asm_lex.proofs.Spans.{spans_from}
use Rattle.asm_lex.proofs.laws.spans_do_not_matter.Goals as goal

pub returns : goal.returns
returns c = spans_from
