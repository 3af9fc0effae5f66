-- The steps of a history that a plan refuses.
use Rattle.std.specs.Prelude.{◌≡◌, ℕ, ◌+◌, List, [], ◌∷◌, ◌++◌}
use Rattle.machine.specs.declared.choice.Choice.{Choice}
use Rattle.history.specs.declared.entry.Entry.{Entry}
use Rattle.history.specs.History.{entry_choices}
use Rattle.thread_gate.specs.Plan.{is_planned}
use Rattle.machine.specs.Chosen.{own}

-- each entry, after these choices and the earlier entries, is refused exactly if the plan contains
-- its hart and the number of that hart's choices before the entry's last step
abbrev pub IsFlagged : List (ℕ × ℕ) → List Choice → List Entry → Type 0
IsFlagged plan before [] = Unit {0}
IsFlagged plan before (e ∷ entries) =
    (e.refuse ≡ is_planned plan e.hart (own before e.hart + e.local)) × IsFlagged plan (before ++ entry_choices e) entries
