use Rattle.std.proofs.Common.{refl, sym, ap, ◌∙◌, arith, false}
use Rattle.std.specs.Prelude.{replicate}
use Rattle.machine.specs.World.{run}
use Rattle.machine.specs.State.{state}
use Rattle.machine.proofs.WorldLemmas.{run_none}
use Rattle.history.specs.History.{choice}
use Rattle.history.proofs.ReplayLemmas.{plain_more, entry_done}
use Rattle.history.proofs.replay.replay_entry.Goals as goal

pub locals-init : goal.locals-init
locals-init g c = record { reached = sym (run_none (state c.args.machine.now)); harts = refl }

pub locals-preserved : goal.locals-preserved
locals-preserved g c = record {
  reached = plain_more (state c.args.machine.now) (state c.locals.machine) (state c.take_step.new.machine) c.locals.counter _ c.locals.invariant.reached c.take_step.ensures.taken;
  harts = c.take_step.ensures.harts ∙ c.locals.invariant.harts;
}

pub returns-clause-replayed : goal.returns-clause-replayed
returns-clause-replayed g c =
    entry_done (state c.args.machine.now) (state c.locals.machine) (state c.take_step-2.new.machine) c.args.entry
    (c.locals.invariant.reached ∙ ap (λ n. run (state c.args.machine.now) (replicate n (choice c.args.entry.hart false))) (omega arith))
    c.take_step-2.ensures.taken
