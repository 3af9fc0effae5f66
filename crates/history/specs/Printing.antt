-- History texts as they are printed.
use Rattle.std.specs.Prelude.{ℕ, List, ◌∷◌, ◌++◌}
use Rattle.std.specs.Fmt.{decimal}
use Rattle.text_items.specs.Numbers.{mark_of}
use Rattle.text_items.specs.Printing.{text_of}
use Rattle.history.specs.declared.entry.Entry.{Entry}

-- hart number in decimal, `+`, number of local steps, and `!` if the SC is refused
abbrev pub entry_text : Entry → List ℕ
entry_text e = decimal e.hart ++ 43 ∷ (decimal e.local ++ mark_of e.refuse)

-- one space between items, LF at the end, and nothing for no entries
abbrev pub history_text : List Entry → List ℕ
history_text entries = text_of entry_text entries
