-- A line that is being read.
use Rattle.std.proofs.Common.{refl, ◌≡◌, ◌≢◌, ℕ, ◌+◌, ◌≤◌, ◌==◌, true, false, not, List, [], ◌∷◌, ◌++◌, length, take, Option, arith, rules, subst, inl, ◌∙◌}
use Rattle.std.proofs.KnownBytes.{Consumes-nil, Consumes-trans}
use Rattle.std.proofs.lemmas.Grind.{common_steps}
use Rattle.std.proofs.lemmas.List.{length-append}
use Rattle.std.proofs.lemmas.List.Folds.{list_all-append}
use Rattle.std.specs.List.{slice_index}
use Rattle.std.specs.Io.KnownBytes.{Consumes}
use Rattle.std.specs.Str.Lines.{strip_carriage_return}
use Rattle.cmd_debug.specs.Lines.{has_no_end, TakesLine}

-- bytes of a line were taken; room is left for what the source can still give
pub record IsTaking (old new : Option (List ℕ)) (before now : ℕ) (line : List ℕ) : Type 0 where
  pub plain : has_no_end line ≡ true
  pub took : Consumes old new line
  pub room : now + length line ≤ before

pub starts : (old : Option (List ℕ)) (before : ℕ) → IsTaking old old before before []
starts old before = record { plain = refl; took = Consumes-nil old; room = omega arith }

-- a read of one byte
byte_of : (piece : List ℕ) (n : ℕ) → length piece ≡ 1 → n ≢ 0 → take n piece ≡ slice_index piece 0 ∷ []
byte_of piece n one some = search (rules, common_steps)

plain_more : (bytes : List ℕ) (b : ℕ) → has_no_end bytes ≡ true → (b == 10) ≡ false → has_no_end (bytes ++ b ∷ []) ≡ true
plain_more bytes b plain other =
    let one : has_no_end (b ∷ []) ≡ true = rw other refl in
    list_all-append (λ b. not (b == 10)) bytes (b ∷ []) ∙ rw (plain, one) refl

no_lf : (b : ℕ) → b ≢ 10 → (b == 10) ≡ false
no_lf b other = search (rules, common_steps)

-- one more byte of a line was read
module _ (old l0 l1 : Option (List ℕ)) (before r0 r1 : ℕ) (line piece : List ℕ) (n : ℕ)
    (so_far : IsTaking old l0 before r0 line) (one : length piece ≡ 1) (some : n ≢ 0)
    (took : Consumes l0 l1 (take n piece)) (nearer : r1 + n ≤ r0) where
  abbrev pub byte : ℕ
  byte = slice_index piece 0

  abbrev pub more : List ℕ
  more = line ++ byte ∷ []

  took_more : Consumes old l1 more
  took_more = Consumes-trans old l0 l1 line (byte ∷ []) so_far.took (subst (Consumes l0 l1) (byte_of piece n one some) took)

  room_more : r1 + length more ≤ before
  room_more =
      let grown : length (line ++ byte ∷ []) ≡ length line + 1 = length-append line (byte ∷ []) in
      omega (arith, so_far.room, nearer, some, grown)

  pub one_is_kept : byte ≢ 10 → IsTaking old l1 before r1 more
  one_is_kept other = record {
    plain = plain_more line byte so_far.plain (no_lf byte other);
    took = took_more;
    room = room_more;
  }

  pub line_ends : (byte == 10) ≡ true → (stripped : List ℕ) → stripped ≡ strip_carriage_return line → TakesLine old l1 stripped
  line_ends end stripped is =
      let lf : byte ≡ 10 = search rules in
      inl (record {
        bytes = line;
        plain = so_far.plain;
        took = subst (λ b. Consumes old l1 (line ++ b ∷ [])) lf took_more;
        is = is;
      })
