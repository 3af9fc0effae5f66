use Rattle.asm_laws.proofs.TokensLemmas.{lexemes_are, tokens_exist}
use Rattle.asm_laws.proofs.tokens.tokens_are_lexed.Goals as goal

pub returns-clause-lexemes : goal.returns-clause-lexemes
returns-clause-lexemes c = lexemes_are

pub returns-clause-tokens : goal.returns-clause-tokens
returns-clause-tokens c = tokens_exist
