-- How the words of a text go on from its front.
use Rattle.std.proofs.Common.{zero, suc, ◌≡◌, ℕ, ◌+◌, ◌^◌, ◌<◌, List, [], ◌∷◌, ◌++◌, Option, Some, None, Ok, Err, refl, arith, ap, sym, ◌∙◌, append_assoc, append-nil, eq-eqb, ne_eqb}
use Rattle.std.specs.Prelude.{◌==◌, if◌then◌else◌}
use Rattle.std.specs.declared.result.Result.{Result}
use Rattle.text_items.specs.Items.{items_from, text_between, IsFirstItem}
use Rattle.program_open.specs.declared.hex.HexFault.{HexFault}
use Rattle.program_open.specs.declared.hex.HexFault.TheVariants.{BadWord, TooMany}
use Rattle.program_open.specs.HexText.{most_words}
use Rattle.program_open.specs.HexText.{hex_word, hex_words, words_named, word_then, words_before}

followed_by-more : (words : List ℕ) (word : ℕ) (r : Result (List ℕ) HexFault)
    → words_before words (words_before (word ∷ []) r) ≡ words_before (words ++ word ∷ []) r
followed_by-more words word (Ok more) = ap Ok (sym (append_assoc words (word ∷ []) more))
followed_by-more words word (Err fault) = refl

-- reading has come so far in a text, and an item follows
module _ (from begin end number : ℕ) (text : List ℕ) (old : List ℕ) (at : IsFirstItem from text begin end)
    (so_far : hex_words text ≡ words_before old (words_named number (items_from from text))) where
  next : hex_words text ≡ words_before old (if number == most_words then Err (TooMany most_words)
      else word_then (hex_word (text_between begin end text)) number (words_named (number + 1) (items_from end text)))
  next = so_far ∙ ap (λ items. words_before old (words_named number items)) at.first

  pub too_many : number ≡ most_words → hex_words text ≡ Err (TooMany most_words)
  too_many full =
      next ∙ ap (λ b. words_before old (if b then Err (TooMany most_words)
      else word_then (hex_word (text_between begin end text)) number (words_named (number + 1) (items_from end text)))) (eq-eqb number most_words full)

  word_next : (number ≡ most_words → ⊥) → (word : Option ℕ) → hex_word (text_between begin end text) ≡ word
      → hex_words text ≡ words_before old (word_then word number (words_named (number + 1) (items_from end text)))
  word_next room word e =
      next ∙ ap (λ b. words_before old (if b then Err (TooMany most_words)
      else word_then (hex_word (text_between begin end text)) number (words_named (number + 1) (items_from end text)))) (ne_eqb number most_words room)
      ∙ ap (λ word. words_before old (word_then word number (words_named (number + 1) (items_from end text)))) e

  pub bad_word : (number ≡ most_words → ⊥) → hex_word (text_between begin end text) ≡ None → hex_words text ≡ Err (BadWord number)
  bad_word room e = word_next room None e

  pub goes_on : (number ≡ most_words → ⊥) → (word : ℕ) → hex_word (text_between begin end text) ≡ Some word
      → hex_words text ≡ words_before (old ++ word ∷ []) (words_named (number + 1) (items_from end text))
  goes_on room word e = word_next room (Some word) e ∙ followed_by-more old word (words_named (number + 1) (items_from end text))

-- reading has come to the end of a text
pub read_whole : (from number : ℕ) (text words : List ℕ) → items_from from text ≡ []
    → hex_words text ≡ words_before words (words_named number (items_from from text)) → hex_words text ≡ Ok words
read_whole from number text words none so_far =
    so_far ∙ ap (λ items. words_before words (words_named number items)) none ∙ ap Ok (append-nil words)

-- a number of less than eight hexadecimal digits
pub short_word : (i word : ℕ) → i < 8 → word < 16 ^ i → word < 2 ^ 28
short_word zero word few small = omega arith
short_word (suc zero) word few small = omega arith
short_word (suc (suc zero)) word few small = omega arith
short_word (suc (suc (suc zero))) word few small = omega arith
short_word (suc (suc (suc (suc zero)))) word few small = omega arith
short_word (suc (suc (suc (suc (suc zero))))) word few small = omega arith
short_word (suc (suc (suc (suc (suc (suc zero)))))) word few small = omega arith
short_word (suc (suc (suc (suc (suc (suc (suc zero))))))) word few small = omega arith
short_word (suc (suc (suc (suc (suc (suc (suc (suc i)))))))) word few small = absurd (omega arith)
