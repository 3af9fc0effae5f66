use Rattle.std.proofs.Common.{rules, arith, string_bytes, false}
use Rattle.sched_text.specs.Printing.{runs_text}
use Rattle.sched_text.proofs.PrintLemmas.{spells_runs, print_more, print_next, print_last}
use Rattle.sched_text.proofs.printing.print_runs.Goals as goal

pub returns-in_default-clause-spells : goal.returns-in_default-clause-spells
returns-in_default-clause-spells g c = spells_runs (string_bytes c.new-text.result) c.args.choices.now (search rules)

pub choices-preserved-then-goes_on : goal.choices-preserved-then-goes_on
choices-preserved-then-goes_on g c =
    print_more (string_bytes c.choices.text) (runs_text c.args.choices.now) c.choices.run.choice c.choices.run.count c.choices.choice-index c.in-Some.rest.now
    (record { hart = 0; refuse = false }) c.choices.invariant (omega arith) (search rules)

pub choices-preserved : goal.choices-preserved
choices-preserved g c =
    print_next (string_bytes c.choices.text) (runs_text c.args.choices.now) c.choices.run.choice c.choices.run.count c.choices.choice-index c.in-Some.rest.now
    (record { hart = 0; refuse = false }) c.choices.invariant (string_bytes c.write.new.self) (omega arith) (search rules) (search rules)

pub returns-clause-text : goal.returns-clause-text
returns-clause-text g c =
    print_last (string_bytes c.choices.text) (runs_text c.args.choices.now) c.choices.run.choice c.choices.run.count c.choices.choice-index c.in-Some.rest.now
    (record { hart = 0; refuse = false }) c.choices.invariant (string_bytes c.writeln.new.self) (omega arith) (search rules)

pub returns-clause-spells : goal.returns-clause-spells
returns-clause-spells g c =
    spells_runs (string_bytes c.writeln.new.self) c.args.choices.now (returns-clause-text g c)
