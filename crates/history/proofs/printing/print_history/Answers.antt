use Rattle.std.proofs.Common.{rules, arith, string_bytes}
use Rattle.std.proofs.lemmas.Grind.{common_steps}
use Rattle.history.proofs.PrintLemmas.{spells_printed}
use Rattle.history.proofs.printing.print_history.Goals as goal

pub returns-in_default-clause-spells : goal.returns-in_default-clause-spells
returns-in_default-clause-spells g c = spells_printed (string_bytes c.new-text.result) c.args.entries.now (search rules)

pub returns-clause-spells : goal.returns-clause-spells
returns-clause-spells g c =
    spells_printed (string_bytes c.writeln.new.self) c.args.entries.now (grind (arith, common_steps))
