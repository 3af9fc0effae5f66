use Rattle.std.proofs.Common.{◌≡◌, ◌++◌, string_bytes, drop}
use Rattle.sched_text.specs.Printing.{runs_text}
use Rattle.sched_text.proofs.PrintLemmas.{text_from}
use Rattle.sched_text.proofs.printing.print_runs.Given as goal

-- the text so far, and then the current run and what follows it
abbrev pub invariant-choices : goal.invariant-choices
invariant-choices g l =
    string_bytes l.text ++ text_from l.run.choice l.run.count (drop l.choice-index l.rest) ≡ runs_text l.choices
