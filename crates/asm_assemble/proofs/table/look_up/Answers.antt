use Rattle.std.proofs.Common.{◌∙◌}
use Rattle.asm_assemble.proofs.TableLemmas.{found_entry}
use Rattle.asm_assemble.proofs.table.look_up.Goals as goal

pub returns : goal.returns
returns g c = c.copied.ensures ∙ (c.get.ensures.value ∙ found_entry c.args.table.now.entries c.args.name.now)
