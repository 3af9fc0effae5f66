-- Harts that go on after a run.
use Rattle.std.proofs.Common.{◌≡◌, ℕ, List, ap, sym, ◌∙◌}
use Rattle.hart_step.specs.Hart.{HartValue}
use Rattle.machine.proofs.WorldLemmas.{run_append}
use Rattle.machine.specs.World.{World, run}
use Rattle.sched_draw.specs.Turns.{alone, turns}
use Rattle.outcome.specs.Outcome.{some_run}
use Rattle.run_hangs.specs.Hanging.{alone_first, runs_on}

-- whether some hart runs where one hart has gone on alone, and then all in turn
pub harts_alone_first : (world : World) (harts steps hart : ℕ) (next new : World) (ends : List HartValue)
    → next ≡ run world (alone hart steps) → new ≡ run next (turns harts steps) → ends ≡ new.harts
    → some_run ends ≡ runs_on world (alone_first harts steps hart)
harts_alone_first world harts steps hart next new ends first then same =
    ap some_run (same ∙ ap (λ (w : World). w.harts) (then ∙ ap (λ w. run w (turns harts steps)) first
    ∙ sym (run_append world (alone hart steps) (turns harts steps))))
