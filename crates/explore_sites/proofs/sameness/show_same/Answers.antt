use Rattle.std.proofs.Common.{◌≡◌, Bool, true, false, MatchBool, List, inl, inr}
use Rattle.image.specs.Image.{ImageValue}
use Rattle.explore_sites.specs.Cells.{AreCanonical, WordsDiffer, cell_words, image_words, words_shown}
use Rattle.explore_sites.specs.declared.cell.Cell.{Cell}
use Rattle.explore_sites.proofs.CanonLemmas.{cells_tell, same_cells_show}
use Rattle.explore_sites.proofs.sameness.show_same.Goals as goal

alike : (b : Bool) (one other : List Cell)
    → MatchBool b (cell_words one ≡ cell_words other) (cell_words one ≡ cell_words other → ⊥) → b ≡ true
    → (image : ImageValue) → words_shown image one ≡ words_shown image other
alike true one other is yes_ image = same_cells_show (image_words image) one other is
alike false one other is yes_ image = absurd cc

apart : (b : Bool) (one other : List Cell)
    → MatchBool b (cell_words one ≡ cell_words other) (cell_words one ≡ cell_words other → ⊥) → b ≡ false
    → (image : ImageValue) → AreCanonical image one → AreCanonical image other
    → WordsDiffer (words_shown image one) (words_shown image other)
apart true one other is no_ image p q = absurd cc
apart false one other is no_ image p q = elim (cells_tell image one other p q) [ inl same ↦ absurd (is same) | inr w ↦ w ]

pub returns : goal.returns
returns c = record {
  same = alike c.are_same.result c.args.one.now c.args.other.now c.are_same.ensures;
  differ = apart c.are_same.result c.args.one.now c.args.other.now c.are_same.ensures;
}
