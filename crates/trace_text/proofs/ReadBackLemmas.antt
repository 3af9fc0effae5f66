use Rattle.std.proofs.Common.{◌≡◌, ℕ, ◌<◌, ◌^◌, List, [], ◌∷◌, sym, ap, ◌∙◌, decimal}
use Rattle.std.proofs.lemmas.List.{append-nil}
use Rattle.json.specs.Lex.{tokens}
use Rattle.json.specs.Print.{quoted, print, print_from, ArePrintable, IsNumber}
use Rattle.json.specs.Token.{number, string}
use Rattle.json.proofs.Printed.Tokens.{tokens-print}
use Rattle.json.proofs.Printed.Decimals.{IsNumber-decimal}

-- a list of one string prints as its text
one_string : (text : List ℕ) → print (string text ∷ []) ≡ quoted text
unfolding print_from
one_string text = append-nil (quoted text)

can_print_string : (text : List ℕ) → ArePrintable (string text ∷ [])
unfolding ArePrintable
can_print_string text = (tt, tt)

pub string_alone : (text : List ℕ) → tokens (quoted text) ≡ string text ∷ []
string_alone text = ap tokens (sym (one_string text)) ∙ tokens-print (string text ∷ []) (can_print_string text)

-- a list of one number prints as its text
one_number : (digits : List ℕ) → print (number digits ∷ []) ≡ digits
unfolding print_from
one_number digits = append-nil digits

can_print_number : (digits : List ℕ) → IsNumber digits → ArePrintable (number digits ∷ [])
unfolding ArePrintable
can_print_number digits is_number = (is_number, tt)

pub number_alone : (n : ℕ) → n < 2 ^ 64 → tokens (decimal n) ≡ number (decimal n) ∷ []
number_alone n small =
    let digits = decimal n in
    ap tokens (sym (one_number digits)) ∙ tokens-print (number digits ∷ []) (can_print_number digits (IsNumber-decimal n small))
