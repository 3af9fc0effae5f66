-- The texts of AdoptCommit and of Rounds have the object's instructions.
use Rattle.std.proofs.Common.{◌≡◌, ℕ, ◌+◌, ◌*◌, ◌<◌, ◌≤◌, List, [], ◌∷◌, ◌++◌, length, ◌∙◌, arith}
use Rattle.std.proofs.lemmas.List.{get_or_append_left, get_or-append-add}
use Rattle.std.specs.List.{slice_index}
use Rattle.object_library.specs.Images.{adopt_words, rounds_words}
use Rattle.object_adopt.specs.Passage.{object_words, HasObject}

same_there : (before behind : List ℕ) (j : ℕ) → j < 29
    → slice_index (before ++ (object_words ++ behind)) (length before + j) ≡ slice_index object_words j
same_there before behind j low =
    get_or-append-add before (object_words ++ behind) j 0 ∙ get_or_append_left object_words behind 0 j low

pub adopt_has : (slots n : ℕ) → n ≤ slots → slots ≤ 32 → HasObject adopt_words (16 * slots) 1 0 n
adopt_has slots n within many = record {
  short = omega arith;
  whole = omega arith;
  same = λ j low. same_there (0x00011437 ∷ []) (0x000A0513 ∷ 0x00098593 ∷ 0x05D00893 ∷ 0x00000073 ∷ []) j low;
  room = omega (arith, within);
  few = omega (arith, many);
}

pub rounds_has : (round n : ℕ) → round < 4 → n ≤ 32 → HasObject rounds_words 2048 2 (128 * round) n
rounds_has round n low many = record {
  short = omega arith;
  whole = omega arith;
  same = λ j below. same_there (0x00011437 ∷ 0x00400A93 ∷ [])
      (0x000A0593 ∷ 0x00099863 ∷ 0x20040413 ∷ 0xFFFA8A93 ∷ 0xF60A9EE3 ∷ 0x00058513 ∷ 0x00098593 ∷ 0x05D00893 ∷ 0x00000073 ∷ []) j below;
  room = omega (arith, low, many);
  few = omega arith;
}
