use Rattle.std.proofs.Common.{◌≡◌, drop, length}
use Rattle.isa_names.specs.Digits.{hex_onto, word_text}
use Rattle.isa_names.proofs.word.digits_of.Given as goal

abbrev pub invariant-places : goal.invariant-places
invariant-places l = (length l.digits ≡ 8) × (hex_onto l.place l.rest (drop l.place l.digits) ≡ word_text l.fn.word)
