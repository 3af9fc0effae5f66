use Rattle.std.proofs.Common.{rules}
use Rattle.asm_statement.specs.Statements.{texts_of}
use Rattle.asm_laws.proofs.ProgramsLemmas.{only_program}
use Rattle.cmd_asm.proofs.program.assemble.Goals as goal

pub returns-clause-only : goal.returns-clause-only
returns-clause-only g c =
    only_program (texts_of c.args.sources.now) c.in_ok-statements.statements.items c.assemble_statements.result c.in_ok-statements.ensures (search rules)
