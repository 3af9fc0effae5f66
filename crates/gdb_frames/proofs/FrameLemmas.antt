-- Framed texts.
use Rattle.std.proofs.Common.{◌≡◌, ◌≢◌, ℕ, ◌/◌, ◌%◌, ◌<◌, ◌==◌, Bool, true, false, Some, List, [], ◌∷◌, ◌++◌, ap, sym, subst, refl, ◌∙◌, append_assoc, eqb-true, ne_eqb, arith}
use Rattle.std.proofs.lemmas.List.Elements.{All-nil, All-cons, All-append, All-head, All-tail}
use Rattle.std.specs.List.{All}
use Rattle.gdb_frames.specs.Digits.{hex_value, hex_digit}
use Rattle.gdb_frames.specs.Frames.{checksum, escape_of, escaped, framed, is_special}
use Rattle.gdb_frames.specs.Escapes.{text_after, unescaped}
use Rattle.gdb_frames.specs.Items.{FrameItem, frames_of}
use Rattle.gdb_frames.specs.Grammar.{IsData, IsChecksum, ReadsFrames}
use Rattle.gdb_frames.proofs.GrammarLemmas.{items_read, reads_of}

pub hex_value-hex_digit : (n : ℕ) → n < 16 → hex_value (hex_digit n) ≡ Some n
hex_value-hex_digit n small = grind arith

-- the digits that are written are read as the checksum
written_checksum : (body : List ℕ) → IsChecksum (hex_digit (checksum body / 16)) (hex_digit (checksum body % 16)) body
written_checksum body = record {
  high = checksum body / 16;
  low = checksum body % 16;
  first_digit = hex_value-hex_digit (checksum body / 16) (omega arith);
  second_digit = hex_value-hex_digit (checksum body % 16) (omega arith);
  sum = omega arith;
}

-- a special byte is one of four
module _ (P : ℕ → Type 0) (at_35 : P 35) (at_36 : P 36) (at_42 : P 42) (at_125 : P 125) where
  pub at_special : (b : ℕ) → ((is_special b ≡ false) → P b) → P b
  at_special b other = by35 (b == 35) refl
    where
      by125 : (t : Bool) → (b == 125) ≡ t → (b == 42) ≡ false → (b == 36) ≡ false → (b == 35) ≡ false → P b
      by125 true e n42 n36 n35 = subst P (sym (eqb-true b 125 e)) at_125
      by125 false e n42 n36 n35 = other (rw (n35, n36, n42, e) refl)

      by42 : (t : Bool) → (b == 42) ≡ t → (b == 36) ≡ false → (b == 35) ≡ false → P b
      by42 true e n36 n35 = subst P (sym (eqb-true b 42 e)) at_42
      by42 false e n36 n35 = by125 (b == 125) refl e n36 n35

      by36 : (t : Bool) → (b == 36) ≡ t → (b == 35) ≡ false → P b
      by36 true e n35 = subst P (sym (eqb-true b 36 e)) at_36
      by36 false e n35 = by42 (b == 42) refl e n35

      by35 : (t : Bool) → (b == 35) ≡ t → P b
      by35 true e = subst P (sym (eqb-true b 35 e)) at_35
      by35 false e = by36 (b == 36) refl e

plain_special : (b : ℕ) → is_special b ≡ false → (b ≢ 36) × (b ≢ 35) × (b ≢ 125)
plain_special b plain = (
  λ e. let f : is_special 36 ≡ false = rw e at plain in cc,
  λ e. let f : is_special 35 ≡ false = rw e at plain in cc,
  λ e. let f : is_special 125 ≡ false = rw e at plain in cc,
)

abbrev IsDataByte : ℕ → Type 0
IsDataByte b = (b ≢ 36) × (b ≢ 35)

two_bytes : (x y : ℕ) → IsDataByte x → IsDataByte y → IsData (x ∷ (y ∷ []))
two_bytes x y a b = All-cons IsDataByte x (y ∷ []) a (All-cons IsDataByte y [] b (All-nil IsDataByte))

escape_data : (b : ℕ) → IsData (escape_of b)
escape_data b =
    at_special (λ x. IsData (escape_of x))
    (two_bytes 125 3 (omega arith, omega arith) (omega arith, omega arith))
    (two_bytes 125 4 (omega arith, omega arith) (omega arith, omega arith))
    (two_bytes 125 10 (omega arith, omega arith) (omega arith, omega arith))
    (two_bytes 125 93 (omega arith, omega arith) (omega arith, omega arith))
    b
    (λ plain. let p = plain_special b plain in rw plain (All-cons IsDataByte b [] (p.0, p.1) (All-nil IsDataByte)))

-- the data of a framed text has no byte that ends it
pub escaped_data : (text : List ℕ) → IsData (escaped text)
unfolding escaped
escaped_data [] = All-nil IsDataByte
escaped_data (b ∷ text) = All-append IsDataByte (escape_of b) (escaped text) (escape_data b) (escaped_data text)

escape_undone : (b : ℕ) (body : List ℕ) → text_after false (escape_of b ++ body) ≡ b ∷ text_after false body
unfolding text_after
escape_undone b body =
    at_special (λ x. text_after false (escape_of x ++ body) ≡ x ∷ text_after false body) refl refl refl refl b other
  where
    other : is_special b ≡ false → text_after false (escape_of b ++ body) ≡ b ∷ text_after false body
    other plain = let n125 : (b == 125) ≡ false = ne_eqb b 125 (plain_special b plain).2 in rw (plain, n125) refl

-- the data of a framed text gives the text
pub unescaped-escaped : (text : List ℕ) → unescaped (escaped text) ≡ text
unfolding escaped
unescaped-escaped [] = unfold text_after in refl
unescaped-escaped (b ∷ text) = escape_undone b (escaped text) ∙ ap (λ l. b ∷ l) (unescaped-escaped text)

-- a text without special bytes is its own data
pub escaped-plain : (text : List ℕ) → All (λ b. is_special b ≡ false) text → escaped text ≡ text
unfolding escaped
escaped-plain [] plain = refl
escaped-plain (b ∷ text) plain =
    let first : is_special b ≡ false = All-head (λ x. is_special x ≡ false) b text plain in
    rw first (ap (λ l. b ∷ l) (escaped-plain text (All-tail (λ x. is_special x ≡ false) b text plain)))

-- a framed text is read, whatever stands behind it
pub framed_read : (text rest : List ℕ) → frames_of (framed text ++ rest) ≡ FrameItem.whole (escaped text) ∷ frames_of rest
framed_read text rest =
    let body = escaped text in
    let c = hex_digit (checksum body / 16) in
    let d = hex_digit (checksum body % 16) in
    ap (λ l. frames_of (36 ∷ l)) (append_assoc body (35 ∷ (c ∷ (d ∷ []))) rest)
    ∙ items_read (ReadsFrames.packet body c d rest (frames_of rest) (escaped_data text) (written_checksum body) (reads_of rest)) []
