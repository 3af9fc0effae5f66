use Rattle.std.proofs.Common.{rules}
use Rattle.std.proofs.lemmas.Result.{err_from_is_err_and}
use Rattle.asm_parse.proofs.Lines.{line_refused}
use Rattle.asm_parse.proofs.read.push_lines.Goals as goal

pub returns-in_err-section-in-Lexeme : goal.returns-in_err-section-in-Lexeme
returns-in_err-section-in-Lexeme g c =
    let p = err_from_is_err_and c.from_residual.result c.from_residual.ensures.1 in
    rw (p.1, p.2) (line_refused c.lexemes.place c.lexemes.statements.items c.lexemes.part.items _ _ c.lexemes.invariant.same
    c.in-Lexeme.lexeme _ c.in_err-section-in-Lexeme.field-0.0 c.in-Lexeme.ensures.2 (search rules) (search rules))
