use Rattle.std.proofs.Common.{◌≡◌, ◌++◌, string_bytes, drop}
use Rattle.text_items.specs.Printing.{after_item}
use Rattle.sched_text.specs.Printing.{item_text, choices_text}
use Rattle.sched_text.proofs.printing.print_choices.Given as goal

-- the text so far, and then what follows its last item
abbrev pub invariant-items : goal.invariant-items
invariant-items g l = string_bytes l.text ++ after_item item_text (drop l.choice-index l.rest) ≡ choices_text l.choices
