use Rattle.asm_lex.proofs.Found.{given_by}
use Rattle.asm_lex.proofs.Unique.{only_memory_by}
use Rattle.asm_lex.proofs.read.tokens.Goals as goal

pub returns-clause-found : goal.returns-clause-found
returns-clause-found g c = given_by (λ v. v.items) c.all_tokens.result c.args.text.now c.all_tokens.ensures.ok

pub returns-clause-only : goal.returns-clause-only
returns-clause-only g c = only_memory_by c.all_tokens.result c.args.text.now c.all_tokens.ensures.err
