use Rattle.std.proofs.Common.{◌∙◌, ap, ◌∷◌}
use Rattle.asm_assemble.specs.Program.{symbol_list}
use Rattle.asm_assemble.specs.Operands.{found}
use Rattle.asm_assemble.proofs.TableLemmas.{found_put}
use Rattle.asm_assemble.proofs.table.put.Goals as goal

pub returns : goal.returns
returns g c =
    λ q. ap (λ es. found (symbol_list es) q) c.in_ok-insert.ensures.entries
    ∙ (found_put c.args.table.now.entries c.in_ok-from_str.field-0 c.args.value q
    ∙ ap (λ b. found ((b, c.args.value) ∷ symbol_list c.args.table.now.entries) q) c.in_ok-from_str.ensures.ok)
