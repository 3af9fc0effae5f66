-- The choices that a history stands for.
use Rattle.std.specs.Prelude.{ℕ, Bool, false, List, [], ◌∷◌, ◌++◌, replicate}
use Rattle.machine.specs.declared.choice.Choice.{Choice}
use Rattle.history.specs.declared.entry.Entry.{Entry}

-- the choice of a hart
abbrev pub choice : ℕ → Bool → Choice
choice hart refuse = record { hart = hart; refuse = refuse }

-- the entry of a hart, with this number of local steps
abbrev pub entry : ℕ → ℕ → Bool → Entry
entry hart local refuse = record { hart = hart; local = local; refuse = refuse }

-- an entry is a plain choice of its hart for each local step, and then one with its mark
abbrev pub entry_choices : Entry → List Choice
entry_choices e = replicate e.local (choice e.hart false) ++ choice e.hart e.refuse ∷ []

-- one entry after another
unfoldable pub expanded : List Entry → List Choice
expanded [] = []
expanded (e ∷ entries) = entry_choices e ++ expanded entries
