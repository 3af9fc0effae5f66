-- Pieces of a text.
use Rattle.std.proofs.Common.{◌≡◌, ℕ, ◌+◌, ◌<◌, ◌≤◌, min, nat_lt, Bool, true, false, if◌then◌else◌, List, ◌∷◌, ◌++◌, length, take, drop, refl, ap, sym, ◌∙◌, arith, ltb-true, ltb-false}
use Rattle.std.proofs.lemmas.List.{drop-drop, length-take-le, take-append-drop}
use Rattle.gdb_replies.specs.Pieces.{ComesInPieces, piece_text}

first_same : (a b : ℕ) (l m : List ℕ) → a ∷ l ≡ b ∷ m → a ≡ b
first_same a b l m e = cc

-- a part that isn't the last is shorter than what is left
cut_more : (rest text : List ℕ) (size : ℕ) (t : Bool) → nat_lt size (length rest) ≡ t
    → (if t then 109 ∷ take size rest else 108 ∷ rest) ≡ 109 ∷ text
    → (size < length rest) × (take size rest ≡ text)
cut_more rest text size true e is = (ltb-true size (length rest) e, cc)
cut_more rest text size false e is = absurd (omega (arith, first_same 108 109 rest text is))

-- the last part is what is left
cut_last : (rest text : List ℕ) (size : ℕ) (t : Bool) → nat_lt size (length rest) ≡ t
    → (if t then 109 ∷ take size rest else 108 ∷ rest) ≡ 108 ∷ text → rest ≡ text
cut_last rest text size true e is = absurd (omega (arith, first_same 109 108 (take size rest) text is))
cut_last rest text size false e is = cc

-- a part and what is behind it
joined : (whole text rest : List ℕ) (from size : ℕ) → size < length (drop from whole)
    → take size (drop from whole) ≡ text → rest ≡ drop (from + length text) whole
    → text ++ rest ≡ drop from whole
joined whole text rest from size inside is behind =
    let len : length text ≡ size = ap length (sym is) ∙ length-take-le size (drop from whole) (omega (arith, inside)) in
    let place : from + length text ≡ from + size = omega (arith, len) in
    ap (λ l. l ++ rest) (sym is)
    ∙ ap (λ l. take size (drop from whole) ++ l) (behind ∙ ap (λ k. drop k whole) place ∙ sym (drop-drop size from whole))
    ∙ take-append-drop size (drop from whole)

-- what comes in pieces from a place on is the text from there on
pub from_pieces : {whole : List ℕ} {from : ℕ} {text : List ℕ} → ComesInPieces whole from text → text ≡ drop from whole
from_pieces {whole} (ComesInPieces.last from count text is) =
    let rest = drop from whole in
    sym (cut_last rest text (min 16383 count) (nat_lt (min 16383 count) (length rest)) refl is)
from_pieces {whole} (ComesInPieces.more from count text rest is behind) =
    let left = drop from whole in
    let part = cut_more left text (min 16383 count) (nat_lt (min 16383 count) (length left)) refl is in
    joined whole text rest from (min 16383 count) part.0 part.1 (from_pieces behind)

-- a piece that isn't the last has a byte
pub goes_on : (whole text : List ℕ) (from count : ℕ) → piece_text whole from count ≡ 109 ∷ text
    → 0 < count → 0 < length text
goes_on whole text from count is some =
    let left = drop from whole in
    let part = cut_more left text (min 16383 count) (nat_lt (min 16383 count) (length left)) refl is in
    let len : length text ≡ min 16383 count
    = ap length (sym part.1) ∙ length-take-le (min 16383 count) left (omega (arith, part.0)) in
    omega (arith, len, some)

cut_fits : (rest : List ℕ) (size : ℕ) (t : Bool) → size ≤ 16383 → nat_lt size (length rest) ≡ t
    → length (if t then 109 ∷ take size rest else 108 ∷ rest) ≤ 16384
cut_fits rest size true most e =
    let inside : size < length rest = ltb-true size (length rest) e in
    omega (arith, length-take-le size rest (omega arith))
cut_fits rest size false most e = omega (arith, ltb-false size (length rest) e)

-- a piece fits into an answer
pub fits : (whole : List ℕ) (from count : ℕ) → length (piece_text whole from count) ≤ 16384
fits whole from count =
    cut_fits (drop from whole) (min 16383 count) (nat_lt (min 16383 count) (length (drop from whole))) (omega arith) refl
