use Rattle.std.proofs.Common.{◌≡◌, ◌++◌, string_bytes, drop, map}
use Rattle.text_items.specs.Printing.{after_item}
use Rattle.history.specs.Printing.{entry_text, history_text}
use Rattle.history.specs.Plain.{plain_entry}
use Rattle.history.proofs.plain_text.choices_text.Given as goal

-- the text so far, and then what follows its last item
abbrev pub invariant-choices : goal.invariant-choices
invariant-choices g l = string_bytes l.text ++ after_item entry_text (map plain_entry (drop l.choice-index l.rest)) ≡ history_text (map plain_entry l.choices)
