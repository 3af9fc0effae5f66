use Rattle.std.proofs.Common.{arith}
use Rattle.asm_lex.proofs.Marks.{mark_at}
use Rattle.asm_lex.proofs.bytes.is_marked.Goals as goal

pub returns : goal.returns
returns c = mark_at c.args.marks.now c.args.byte c.requires (omega arith)
