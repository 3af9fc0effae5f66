use Rattle.std.proofs.Common.{◌≡◌, Err, IfSome, rules, map, string_bytes, subst, sym}
use Rattle.cmd_asm.proofs.AssemblyLemmas.{program_is, statement_is_wrong}
use Rattle.cmd_asm.specs.Assembly.{program_of_sources, IsSourceFault}
use Rattle.cmd_asm.specs.Sources.{all_known}
use Rattle.cmd_asm.proofs.assembling.assembled_program.Goals as goal

pub returns-in-Ok-assemble-clause-ok : goal.returns-in-Ok-assemble-clause-ok
returns-in-Ok-assemble-clause-ok g c =
    program_is _ (map string_bytes c.in-Ok.texts.items) (map (λ s. s.now) c.in-Ok-borrowed_texts.texts.items)
    c.in-Ok.ensures.texts (search rules) c.in-Ok-assemble.program (search rules)

pub returns-clause-err : goal.returns-clause-err
returns-clause-err g c =
    subst (λ fault. IsSourceFault fault → IfSome (all_known (map g.S.Source.left c.args.sources.now)) (λ all. program_of_sources all ≡ Err fault)) (sym c.from.ensures)
    (statement_is_wrong _ (map string_bytes c.in-Ok.texts.items) (map (λ s. s.now) c.deref-2.result.now)
    c.in-Ok.ensures.texts (search rules) c.in-Err-assemble.fault c.in-Err-assemble.ensures.value)
