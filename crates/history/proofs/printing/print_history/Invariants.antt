use Rattle.std.proofs.Common.{◌≡◌, ◌++◌, string_bytes, drop}
use Rattle.text_items.specs.Printing.{after_item}
use Rattle.history.specs.Printing.{entry_text, history_text}
use Rattle.history.proofs.printing.print_history.Given as goal

-- the text so far, and then what follows its last item
abbrev pub invariant-items : goal.invariant-items
invariant-items g l = string_bytes l.text ++ after_item entry_text (drop l.entry-index l.rest) ≡ history_text l.entries
