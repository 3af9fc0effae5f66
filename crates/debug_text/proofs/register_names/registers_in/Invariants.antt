use Rattle.std.proofs.Common.{◌≡◌, length}
use Rattle.debug_text.specs.Words.{line_words}
use Rattle.debug_text.specs.RegisterNames.{no_registers, registers_named}
use Rattle.debug_text.proofs.register_names.registers_in.Given as goal

-- the list so far, and then the names that are left
abbrev pub invariant-words : goal.invariant-words
invariant-words l = registers_named l.list (line_words l.rest) ≡ registers_named no_registers (line_words l.text)

-- the bytes that are left
abbrev pub decreases-words : goal.decreases-words
decreases-words l = length l.rest
