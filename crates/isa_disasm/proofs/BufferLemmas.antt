-- the line that a buffer holds
use Rattle.std.proofs.Common.{◌≡◌, ℕ, ◌+◌, ◌-◌, ◌≤◌, List, ◌++◌, length, take, drop, sym, subst, append_assoc, length-append, arith, ◌∙◌, ap}
use Rattle.std.specs.Str.{IsUtf8}
use Rattle.std.proofs.lemmas.List.{length-take, length-drop, take-append-le, take-append-drop}
use Rattle.std.proofs.Math.Seq.{take-append-add}
use Rattle.std.proofs.lemmas.Slice.{take-put_mid}
use Rattle.std.proofs.lemmas.Str.{IsUtf8-append}
use borrow.Rule.Slice.PartMut.{put_mid, post_of}

-- a text appended to a line of so many bytes
pub appended : (bytes text now : List ℕ) (at k : ℕ) → at ≤ 64 → length bytes ≡ 64 → now ≡ text
    → take (at + length text) (put_mid at k bytes now) ≡ take at bytes ++ text
appended bytes text now at k low all same =
    let end : at + length text ≡ at + length now = omega (arith, ap length same) in
    take-put_mid at k bytes now (at + length text) end (omega arith) ∙ ap (λ l. take at bytes ++ l) same

-- which is a text
pub stays_text : (bytes text now : List ℕ) (at k : ℕ) → at ≤ 64 → length bytes ≡ 64 → now ≡ text
    → IsUtf8 (take at bytes) → IsUtf8 text → IsUtf8 (take (at + length text) (put_mid at k bytes now))
stays_text bytes text now at k low all same line more =
    subst IsUtf8 (sym (appended bytes text now at k low all same)) (IsUtf8-append (take at bytes) text line more)

-- and has room, since its line has
pub has_room : (bytes line : List ℕ) (at more : ℕ) → at ≤ 64 → length bytes ≡ 64 → line ≡ take at bytes → length line + more ≤ 64 → at + more ≤ 64
has_room bytes line at more low all is room = omega (arith, ap length is, length-take at bytes)

-- a digit behind others that are in the line
pub room_for_digit : (old front new whole : List ℕ) → new ≡ old ++ front → length whole ≡ length front + 1 → length old + length whole ≤ 64 → length new + 1 ≤ 64
room_for_digit old front new whole is more room = omega (arith, ap length is, length-append old front)

pub digit_joins : (old front new whole last line : List ℕ) → new ≡ old ++ front → line ≡ new ++ last → whole ≡ front ++ last → line ≡ old ++ whole
digit_joins old front new whole last line is after all =
    after ∙ ap (λ l. l ++ last) is ∙ append_assoc old front last ∙ ap (λ l. old ++ l) (sym all)

pub short_after : (old text new : List ℕ) (most : ℕ) → new ≡ old ++ text → length text ≤ most → length new ≤ length old + most
short_after old text new most is short = omega (arith, ap length is, length-append old text)

-- the front of a part that was written
front_written : (bytes text : List ℕ) (at k m : ℕ) → at ≤ length bytes → m ≤ length text
    → take (at + m) (put_mid at k bytes text) ≡ take at bytes ++ take m text
front_written bytes text at k m low few =
    let size : length (take at bytes) ≡ at = omega (arith, length-take at bytes) in
    let behind = text ++ post_of at k bytes in
    ap (λ n. take (n + m) (take at bytes ++ behind)) (sym size)
    ∙ take-append-add (take at bytes) behind m
    ∙ ap (λ l. take at bytes ++ l) (take-append-le m text (post_of at k bytes) few)

-- the first two bytes of a text, and then its last two over them
pub ends_join : (bytes text first last : List ℕ) (at k l : ℕ) → at + 4 ≤ 64 → length bytes ≡ 64
    → 2 ≤ length text → length text ≤ 4 → first ≡ take 2 text → last ≡ drop (length text - 2) text
    → take (at + length text) (put_mid (at + length text - 2) l (put_mid at k bytes first) last) ≡ take at bytes ++ text
ends_join bytes text first last at k l room all some few is_first is_last =
    let m = length text - 2 in
    let place : at + length text - 2 ≡ at + m = omega arith in
    let first_size : length first ≡ 2 = omega (arith, ap length is_first, length-take 2 text) in
    let last_size : length last ≡ 2 = omega (arith, ap length is_last, length-drop m text) in
    let inner = put_mid at k bytes first in
    let inside : at + m ≤ length inner = omega (arith, length-append (take at bytes) (first ++ post_of at k bytes), length-append first (post_of at k bytes), length-take at bytes) in
    let outer : take (at + length text) (put_mid (at + m) l inner last) ≡ take (at + m) inner ++ last
    = take-put_mid (at + m) l inner last (at + length text) (omega arith) inside in
    let front : take (at + m) inner ≡ take at bytes ++ take m first = front_written bytes first at k m (omega arith) (omega arith) in
    let cut : length (take 2 text) ≡ 2 = omega (arith, length-take 2 text) in
    let shorter : take m first ≡ take m text
    = ap (take m) is_first ∙ sym (take-append-le m (take 2 text) (drop 2 text) (omega arith)) ∙ ap (take m) (take-append-drop 2 text) in
    ap (λ p. take (at + length text) (put_mid p l inner last)) place
    ∙ outer ∙ ap (λ l. l ++ last) (front ∙ ap (λ l. take at bytes ++ l) shorter)
    ∙ append_assoc (take at bytes) (take m text) last
    ∙ ap (λ l. take at bytes ++ l) (ap (λ l. take m text ++ l) is_last ∙ take-append-drop m text)
