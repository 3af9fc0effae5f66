use Rattle.std.proofs.Common.{rules, sym, ◌∙◌}
use Rattle.debug_text.proofs.RegisterNameLemmas.{names_end}
use Rattle.debug_text.proofs.register_names.registers_in.Goals as goal

pub returns-then-is_empty : goal.returns-then-is_empty
returns-then-is_empty c = sym (names_end c.words.list c.words.rest.now (search rules)) ∙ c.words.invariant
