use Rattle.std.proofs.Common.{◌≡◌, drop}
use Rattle.std.specs.List.{list_all}
use Rattle.asm_assemble.specs.Valuing.{fits_word}
use Rattle.asm_assemble.proofs.push.fit_words.Given as goal

abbrev pub invariant-values : goal.invariant-values
invariant-values l = list_all fits_word (drop l.value-index l.values) ≡ list_all fits_word l.values
