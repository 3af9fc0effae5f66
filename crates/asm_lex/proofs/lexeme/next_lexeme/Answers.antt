use Rattle.std.proofs.Common.{rules}
use Rattle.asm_lex.proofs.LexemeSteps.{lexeme_step}
use Rattle.asm_lex.proofs.lexeme.next_lexeme.Goals as goal

pub returns-in-Lexeme : goal.returns-in-Lexeme
returns-in-Lexeme c =
    lexeme_step c.args.source.now c.args.from c.gaps.at (search rules) (search rules)
    c.in-Lexeme.kind c.in-Lexeme.len c.lexeme_of.result (search rules) (search rules) (search rules) (search rules) (search rules)
