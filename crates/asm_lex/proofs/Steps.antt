-- Reading on after a piece.
use Rattle.std.proofs.Common.{◌≡◌, ℕ, zero, suc, ◌+◌, ◌-◌, ◌<◌, ◌≤◌, List, [], ◌∷◌, ◌++◌, length, drop, Some, None, refl, sym, ap, ◌∙◌, arith, add-zero, append_assoc, length-drop}
use Rattle.std.proofs.lemmas.List.{drop-drop, drop_all, append-nil}
use Rattle.asm_lex.specs.declared.token.Kind.{Kind}
use Rattle.asm_lex.specs.declared.token.Token.{Token}
use Rattle.asm_lex.specs.declared.fault.TextFault.TheVariants as faults
use Rattle.asm_lex.specs.declared.piece.Piece.TheVariants as pieces
use Rattle.asm_lex.specs.Pieces.{front}
use Rattle.asm_lex.specs.Reading.{Reading, with_token, with_piece, reading}

-- what was read before, and what is still read
abbrev pub with_front : List Token → Reading → Reading
with_front front r = record { tokens = front ++ r.tokens; fault = r.fault }

-- the bytes that belong to the piece before are skipped
pub skips : (n at : ℕ) (bytes : List ℕ) → n ≤ length bytes → reading n at bytes ≡ reading 0 (at + n) (drop n bytes)
unfolding reading
skips zero at bytes le = rw add-zero refl
skips (suc n) at [] le = absurd (omega arith)
skips (suc n) at (b ∷ bs) le = let e : at + suc n ≡ (at + 1) + n = omega arith in rw e (skips n (at + 1) bs (omega arith))

-- reading goes by the piece at the front
pub stepped : (at : ℕ) (bytes : List ℕ) → 0 < length bytes → reading 0 at bytes ≡ with_piece at (front bytes) (λ n. reading (n - 1) (at + 1) (drop 1 bytes))
unfolding reading
stepped at [] lt = absurd (omega arith)
stepped at (b ∷ bs) lt = refl

-- and then after it
pub behind_piece : (at n : ℕ) (bytes : List ℕ) → 0 < n → n ≤ length bytes → reading (n - 1) (at + 1) (drop 1 bytes) ≡ reading 0 (at + n) (drop n bytes)
behind_piece at n [] pos le = absurd (omega arith)
behind_piece at zero (b ∷ bs) pos le = absurd (omega arith)
behind_piece at (suc n) (b ∷ bs) pos le =
    let e : at + suc n ≡ (at + 1) + n = omega arith in
    let m : suc n - 1 ≡ n = omega arith in
    rw (e, m) (skips n (at + 1) bs (omega arith))

regroup : (front : List Token) (t : Token) (r : Reading) → with_front front (with_token t r) ≡ with_front (front ++ t ∷ []) r
regroup front t r = ap (λ (l : List Token). record { tokens = l; fault = r.fault }) (simp append_assoc)

module _ (all : List ℕ) (before : List Token) (at : ℕ) (total : Reading) (lt : at < length all) (so_far : with_front before (reading 0 at (drop at all)) ≡ total) where
  here : with_front before (with_piece at (front (drop at all)) (λ n. reading (n - 1) (at + 1) (drop 1 (drop at all)))) ≡ total
  here = let left : 0 < length (drop at all) = omega (arith, length-drop at all) in rw (← stepped at (drop at all) left) so_far

  next : (n : ℕ) → 0 < n → n ≤ length (drop at all) → reading (n - 1) (at + 1) (drop 1 (drop at all)) ≡ reading 0 (at + n) (drop (at + n) all)
  next n pos le = behind_piece at n (drop at all) pos le ∙ ap (reading 0 (at + n)) (drop-drop n at all)

  pub gap_step : (n : ℕ) → front (drop at all) ≡ pieces.Gap n → 0 < n → n ≤ length (drop at all) → with_front before (reading 0 (at + n) (drop (at + n) all)) ≡ total
  gap_step n is pos le = rw (← next n pos le) (rw is at here)

  pub lexeme_step : (kind : Kind) (n : ℕ) → front (drop at all) ≡ pieces.Lexeme kind n → 0 < n → n ≤ length (drop at all)
      → with_front (before ++ record { kind = kind; start = at; end = at + n } ∷ []) (reading 0 (at + n) (drop (at + n) all)) ≡ total
  lexeme_step kind n is pos le = rw (← regroup, ← next n pos le) (rw is at here)

  pub bad_char : front (drop at all) ≡ pieces.BadChar → total ≡ record { tokens = before; fault = Some (faults.BadChar at) }
  bad_char is = sym (rw (is, append-nil) at here)

  pub bad_number : front (drop at all) ≡ pieces.BadNumber → total ≡ record { tokens = before; fault = Some (faults.BadNumber at) }
  bad_number is = sym (rw (is, append-nil) at here)

  pub open_text : front (drop at all) ≡ pieces.OpenText → total ≡ record { tokens = before; fault = Some (faults.OpenText at) }
  open_text is = sym (rw (is, append-nil) at here)

pub at_end : (all : List ℕ) (before : List Token) (at : ℕ) (total : Reading) → length all ≤ at → with_front before (reading 0 at (drop at all)) ≡ total → total ≡ record { tokens = before; fault = None }
unfolding reading
at_end all before at total le so_far = sym (rw (drop_all at all le, append-nil) at so_far)
