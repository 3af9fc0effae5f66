-- Where the program of an image begins.
use Rattle.std.proofs.Common.{◌≡◌, ℕ, ◌%◌, List, true, false, eqb, inl, inr, arith, rules}
use Rattle.std.proofs.lemmas.Bool.{cases_Bool}
use Rattle.std.proofs.lemmas.Bool.Decides.{nat_tests}
use Rattle.image.specs.Image.{is_sound, IsSound}
use Rattle.image.specs.Segment.{SegmentValue}

-- an image that passes its checks begins at an address of a word
pub entry_aligned : (entry : ℕ) (ss : List SegmentValue) → IsSound entry ss → entry % 4 ≡ 0
unfolding is_sound
entry_aligned entry ss sound = elim (cases_Bool (eqb (entry % 4) 0)) [
  | inl aligned ↦ grind (arith, nat_tests)
  | inr crooked ↦ absurd (let no : false ≡ true = rw crooked at sound in search rules)
]
