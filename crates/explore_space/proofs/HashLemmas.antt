-- Hashes, word by word, and what they tell.
use Rattle.std.proofs.Common.{◌≡◌, ℕ, zero, suc, ◌+◌, ◌≤◌, List, [], ◌∷◌, length, drop, Some, refl, ap, sym, ◌∙◌, arith}
use Rattle.std.proofs.lemmas.Option.{same_Some}
use Rattle.std.specs.List.{slice_get, slice_index}
use Rattle.hart_reservations.specs.Marks.{Marks}
use Rattle.explore_table.specs.Buckets.{mixed}
use Rattle.explore_sites.specs.declared.cell.Cell.{Cell}
use Rattle.explore_sites.specs.Cells.{cell_words}
use Rattle.explore_space.specs.Hashes.{hash_of_cells, hash_of_mark, hash_of_marks, hash_row}

one_more : (n : ℕ) → n + 1 ≡ suc n
one_more n = omega arith

pub row_none : (hash : ℕ) (row : ℕ → ℕ) → hash_row hash row 0 ≡ hash
unfolding hash_row
row_none hash row = refl

pub row_more : (hash : ℕ) (row : ℕ → ℕ) (n : ℕ) → hash_row hash row (n + 1) ≡ mixed (hash_row hash row n) (row n)
unfolding hash_row
row_more hash row n = ap (hash_row hash row) (one_more n)

pub marks_none : (hash : ℕ) (marks : Marks) → hash_of_marks hash marks 0 ≡ hash
unfolding hash_of_marks
marks_none hash marks = refl

pub marks_more : (hash : ℕ) (marks : Marks) (n : ℕ)
    → hash_of_marks hash marks (n + 1) ≡ hash_of_mark (hash_of_marks hash marks n) n (marks n)
unfolding hash_of_marks
marks_more hash marks n = ap (hash_of_marks hash marks) (one_more n)

-- one cell of those that are left
pub cells_more : (hash : ℕ) (cells : List Cell) (i : ℕ) (cell : Cell) → slice_get cells i ≡ Some cell
    → hash_of_cells hash (cell_words (drop i cells))
    ≡ hash_of_cells (hash_row (mixed hash cell.address) (slice_index cell.bytes) (length cell.bytes)) (cell_words (drop (i + 1) cells))
unfolding hash_of_cells
cells_more hash [] i cell e = absurd (cc)
cells_more hash (c ∷ cells) zero cell e = ap (λ (d : Cell). hash_of_cells (hash_row (mixed hash d.address) (slice_index d.bytes) (length d.bytes)) (cell_words cells)) (same_Some c cell e)
cells_more hash (c ∷ cells) (suc i) cell e =
    let after = hash_row (mixed hash cell.address) (slice_index cell.bytes) (length cell.bytes) in
    cells_more hash cells i cell e ∙ ap (λ n. hash_of_cells after (cell_words (drop n cells))) (one_more i)
    ∙ sym (ap (λ n. hash_of_cells after (cell_words (drop n (c ∷ cells)))) (one_more (suc i)))

-- none is left
pub cells_done : (hash : ℕ) (cells : List Cell) (i : ℕ) → length cells ≤ i → hash_of_cells hash (cell_words (drop i cells)) ≡ hash
unfolding hash_of_cells
cells_done hash [] zero h = refl
cells_done hash [] (suc i) h = refl
cells_done hash (c ∷ cells) zero h = absurd (omega (arith, h))
cells_done hash (c ∷ cells) (suc i) h = cells_done hash cells i (omega (arith, h))
