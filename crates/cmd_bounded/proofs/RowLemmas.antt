-- The lines of outcomes, row by row.
use Rattle.std.proofs.Common.{◌≡◌, ℕ, ◌+◌, List, ◌∷◌, ◌++◌, drop, slice_get, Some, append_assoc, ap, sym, ◌∙◌}
use Rattle.std.proofs.lemmas.List.{drop_more}
use Rattle.std.proofs.lemmas.Option.{get_or_from_slice_get, slice_get_within}
use Rattle.cmd_form.specs.declared.form.Form.{Form}
use Rattle.campaign_runs.specs.Tally.{TallyRow}
use Rattle.cmd_bounded.specs.Lines.{schedules_entry, schedules_entries}

-- one line more is there, and one row less is left
pub one_row_more : (form : Form) (rows : List TallyRow) (place : ℕ) (row : TallyRow) (before after all : List ℕ)
    → slice_get rows place ≡ Some row → after ≡ before ++ schedules_entry form row
    → before ++ schedules_entries form (drop place rows) ≡ all → after ++ schedules_entries form (drop (place + 1) rows) ≡ all
one_row_more form rows place row before after all at more so_far =
    let next : drop place rows ≡ row ∷ drop (place + 1) rows
    = drop_more rows place row (slice_get_within rows place row at) ∙ ap (λ r. r ∷ drop (place + 1) rows) (get_or_from_slice_get rows place row row at) in
    ap (λ text. text ++ schedules_entries form (drop (place + 1) rows)) more
    ∙ append_assoc before (schedules_entry form row) (schedules_entries form (drop (place + 1) rows))
    ∙ ap (λ rest. before ++ schedules_entries form rest) (sym next)
    ∙ so_far
