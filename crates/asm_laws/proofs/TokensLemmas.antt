-- A text's lexemes are those of its tokens.
use Rattle.std.proofs.Common.{◌≡◌, ℕ, true, List, Option, Some, None, refl, sym, ap, ◌∙◌, true≢false}
use Rattle.asm_lex.specs.declared.token.Token.{Token}
use Rattle.asm_lex.specs.declared.fault.TextFault.{TextFault}
use Rattle.asm_lex.specs.Grammar.{Reads}
use Rattle.asm_lex.specs.Reading.{Reading, reading, whole}
use Rattle.asm_lex.specs.Lexemes.{Lexed, lexemes_in, is_none, lexed_of, lexed}
use Rattle.asm_lex.proofs.Found.{reads}
use Rattle.asm_lex.proofs.Spans.{spans_from}
use Rattle.asm_lex.proofs.Unique.{read_so}

pub lexemes_are : (text : List ℕ) (ts : List Token) → Reads 0 text ts → lexed 0 text ≡ record { lexemes = lexemes_in text ts; whole = true }
lexemes_are text ts h = sym (spans_from text) ∙ ap (lexed_of text) (read_so 0 text ts h)

no_fault : (o : Option TextFault) → is_none o ≡ true → o ≡ None
no_fault None e = refl
no_fault (Some f) e = absurd (true≢false (sym e))

whole_reading : (r : Reading) → r.fault ≡ None → r ≡ whole r.tokens
whole_reading r e = ap (λ (f : Option TextFault). record { tokens = r.tokens; fault = f }) e

pub tokens_exist : (text : List ℕ) → (lexed 0 text).whole ≡ true → (ts : List Token) × Reads 0 text ts
tokens_exist text e =
    let read : Reading = reading 0 0 text in
    let none : read.fault ≡ None = no_fault read.fault (ap (λ (l : Lexed). l.whole) (spans_from text) ∙ e) in
    (read.tokens, reads text read.tokens (whole_reading read none))
