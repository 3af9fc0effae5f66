-- A list of choices after an edit of a part: from one index up to another, counted from 0.
use Rattle.std.specs.Prelude.{ℕ, ◌-◌, false, List, ◌++◌, map, take, drop}
use Rattle.machine.specs.declared.choice.Choice.{Choice}
use Rattle.cmd_shrink.specs.declared.edits.Edit.{Edit}
use Rattle.cmd_shrink.specs.declared.edits.Edit.TheVariants.{LeaveOut, TakeMarks}

-- a choice without its mark
abbrev pub unmarked_choice : Choice → Choice
unmarked_choice c = record { hart = c.hart; refuse = false }

-- the list without the part
abbrev pub left_out : ℕ → ℕ → List Choice → List Choice
left_out from to choices = take from choices ++ drop to choices

-- the list without the part's marks
abbrev pub marks_taken : ℕ → ℕ → List Choice → List Choice
marks_taken from to choices =
    take from choices ++ (map unmarked_choice (take (to - from) (drop from choices)) ++ drop to choices)

-- the list after an edit of the part
abbrev pub edited : Edit → ℕ → ℕ → List Choice → List Choice
edited LeaveOut from to choices = left_out from to choices
edited TakeMarks from to choices = marks_taken from to choices
