use Rattle.std.proofs.Common.{sym, ◌∙◌}
use Rattle.machine.specs.State.{state}
use Rattle.mem_flat.proofs.ReadLemmas.{all_below_fails}
use Rattle.run_hangs.specs.Hanging.{alone_first, runs_on}
use Rattle.run_hangs.proofs.hanging.runs_on_after_any.Goals as goal

pub returns-then-not-branch : goal.returns-then-not-branch
returns-then-not-branch g c =
    sym (all_below_fails c.args.harts c.harts.hart
    (λ hart. runs_on (state c.args.machine.now) (alone_first c.args.harts c.args.steps hart))
    c.harts-test.true (sym c.in_ok-runs_on_after_one.ensures ∙ c.if-not-branch.true))
