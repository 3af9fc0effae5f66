-- Reading lexemes on after a piece.
use Rattle.std.proofs.Common.{◌≡◌, ℕ, zero, suc, ◌+◌, ◌-◌, ◌<◌, ◌≤◌, List, [], ◌∷◌, length, take, drop, true, refl, ap, ◌∙◌, arith, length-drop}
use Rattle.std.proofs.lemmas.List.{drop-drop, drop_all, drop_more}
use Rattle.asm_lex.specs.declared.lexeme.Lexeme as program
use Rattle.asm_lex.specs.declared.lexeme.Next.TheVariants as nexts
use Rattle.asm_lex.specs.declared.token.Kind.{Kind}
use Rattle.asm_lex.specs.declared.piece.Piece.TheVariants as pieces
use Rattle.std.specs.Prelude.{slice_index}
use Rattle.asm_lex.specs.Bytes.{is_space_or_tab}
use Rattle.asm_lex.specs.Pieces.{front}
use Rattle.asm_lex.specs.Lexemes.{IsNext, lexeme, lexeme_in, lexed, broken, by_piece, seen}

-- the bytes that belong to the piece before are skipped
skips : (n : ℕ) (bytes : List ℕ) → n ≤ length bytes → lexed n bytes ≡ lexed 0 (drop n bytes)
unfolding lexed
skips zero bytes le = refl
skips (suc n) [] le = absurd (omega arith)
skips (suc n) (b ∷ bs) le = skips n bs (omega arith)

-- reading goes by the piece at the front
stepped : (bytes : List ℕ) → 0 < length bytes → lexed 0 bytes ≡ by_piece (front bytes) bytes (λ n. lexed (n - 1) (drop 1 bytes))
unfolding lexed
stepped [] lt = absurd (omega arith)
stepped (b ∷ bs) lt = refl

-- and then after it
behind_piece : (n : ℕ) (bytes : List ℕ) → 0 < n → n ≤ length bytes → lexed (n - 1) (drop 1 bytes) ≡ lexed 0 (drop n bytes)
behind_piece n [] pos le = absurd (omega arith)
behind_piece zero (b ∷ bs) pos le = absurd (omega arith)
behind_piece (suc n) (b ∷ bs) pos le = let m : suc n - 1 ≡ n = omega arith in rw m (skips n bs (omega arith))

gap_of_blank : (b : ℕ) (bs : List ℕ) → is_space_or_tab b ≡ true → front (b ∷ bs) ≡ pieces.Gap 1
unfolding front
gap_of_blank b bs blank = rw blank refl

module _ (all : List ℕ) (from at : ℕ) (lt : at < length all) (so_far : lexed 0 (drop from all) ≡ lexed 0 (drop at all)) where
  here : lexed 0 (drop from all) ≡ by_piece (front (drop at all)) (drop at all) (λ n. lexed (n - 1) (drop 1 (drop at all)))
  here = let left : 0 < length (drop at all) = omega (arith, length-drop at all) in so_far ∙ stepped (drop at all) left

  next : (n : ℕ) → 0 < n → n ≤ length (drop at all) → lexed (n - 1) (drop 1 (drop at all)) ≡ lexed 0 (drop (at + n) all)
  next n pos le = behind_piece n (drop at all) pos le ∙ ap (lexed 0) (drop-drop n at all)

  pub gap_step : (n : ℕ) → front (drop at all) ≡ pieces.Gap n → 0 < n → n ≤ length (drop at all) → lexed 0 (drop from all) ≡ lexed 0 (drop (at + n) all)
  gap_step n is pos le = rw (← next n pos le) (rw is at here)

  pub blank_step : is_space_or_tab (slice_index all at) ≡ true → lexed 0 (drop from all) ≡ lexed 0 (drop (at + 1) all)
  blank_step blank =
      let split : drop at all ≡ slice_index all at ∷ drop (at + 1) all = drop_more all at 0 lt in
      let is : front (drop at all) ≡ pieces.Gap 1 = rw split (gap_of_blank (slice_index all at) (drop (at + 1) all) blank) in
      gap_step 1 is (omega arith) (omega (arith, length-drop at all))

  pub lexeme_step : (kind : Kind) (n : ℕ) (l : program.Lexeme) → from ≤ at → front (drop at all) ≡ pieces.Lexeme kind n → 0 < n → n ≤ length (drop at all)
      → seen l ≡ lexeme_in all (record { kind = kind; start = at; end = at + n })
      → IsNext all from (nexts.Lexeme l (at + n))
  lexeme_step kind n l le is pos within same =
      let e : at + n - at ≡ n = omega arith in
      let word : seen l ≡ lexeme kind (take n (drop at all)) = rw e at same in
      (omega arith, omega (arith, length-drop at all), rw (word, ← next n pos within) (rw is at here))

  pub bad_char : front (drop at all) ≡ pieces.BadChar → lexed 0 (drop from all) ≡ broken
  bad_char is = rw is at here

  pub bad_number : front (drop at all) ≡ pieces.BadNumber → lexed 0 (drop from all) ≡ broken
  bad_number is = rw is at here

  pub open_text : front (drop at all) ≡ pieces.OpenText → lexed 0 (drop from all) ≡ broken
  open_text is = rw is at here

pub at_end : (all : List ℕ) (from at : ℕ) → length all ≤ at → lexed 0 (drop from all) ≡ lexed 0 (drop at all) → lexed 0 (drop from all) ≡ record { lexemes = []; whole = true }
unfolding lexed
at_end all from at le so_far = rw (drop_all at all le) at so_far
