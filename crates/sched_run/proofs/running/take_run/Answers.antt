use Rattle.std.proofs.Common.{◌≡◌, ◌-◌, false, refl, ap, sym, ◌∙◌, arith}
use Rattle.std.specs.Prelude.{replicate}
use Rattle.machine.specs.State.{state}
use Rattle.machine.specs.World.{run}
use Rattle.machine.specs.Running.{runs}
use Rattle.machine.proofs.StoppedLemmas.{repeat-stopped}
use Rattle.machine.proofs.WorldLemmas.{run_none}
use Rattle.sched_text.specs.Runs.{equal_choices}
use Rattle.sched_run.proofs.RunLemmas.{one_less}
use Rattle.sched_run.proofs.running.take_run.Goals as goal

pub steps-init : goal.steps-init
steps-init g c = record { harts = refl; left = refl }

pub take_step-requires : goal.take_step-requires
take_step-requires g c = omega (arith, c.requires, c.steps.invariant.harts)

pub returns-then-not-runs-clause-taken : goal.returns-then-not-runs-clause-taken
returns-then-not-runs-clause-taken g c =
    let now = state c.take_step.new.machine in
    let choice = c.args.equal.choice in
    let stopped : runs now.harts choice.hart ≡ false =
    ap (λ harts. runs harts choice.hart) (sym c.ends.ensures) ∙ sym c.runs.ensures ∙ c.if-not-runs.true in
    sym (repeat-stopped now choice (c.steps.left - 1) stopped)
    ∙ one_less (state c.steps.machine) now (run (state c.args.machine.now) (equal_choices c.args.equal)) choice
    c.steps.left (c.steps.left - 1) c.steps-test.true (omega (arith, c.steps-test.true))
    c.take_step.ensures.taken c.steps.invariant.left

pub returns-then-not-runs-clause-harts : goal.returns-then-not-runs-clause-harts
returns-then-not-runs-clause-harts g c = c.take_step.ensures.harts ∙ c.steps.invariant.harts

pub steps-preserved : goal.steps-preserved
steps-preserved g c = record {
  harts = c.take_step.ensures.harts ∙ c.steps.invariant.harts;
  left = one_less (state c.steps.machine) (state c.take_step.new.machine)
      (run (state c.args.machine.now) (equal_choices c.args.equal)) c.args.equal.choice
      c.steps.left (c.steps.left - 1) c.steps-test.true (omega (arith, c.steps-test.true))
      c.take_step.ensures.taken c.steps.invariant.left;
}

pub returns-clause-taken : goal.returns-clause-taken
returns-clause-taken g c =
    let none : c.steps.left ≡ 0 = omega (arith, c.steps-test.false) in
    sym (run_none (state c.steps.machine))
    ∙ ap (λ n. run (state c.steps.machine) (replicate n c.args.equal.choice)) (sym none)
    ∙ c.steps.invariant.left

pub returns-clause-harts : goal.returns-clause-harts
returns-clause-harts g c = c.steps.invariant.harts
