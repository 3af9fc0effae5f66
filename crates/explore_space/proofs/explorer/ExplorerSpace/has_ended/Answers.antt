use Rattle.std.proofs.Common.{◌≡◌, List, length, map, not, take, subst}
use Rattle.std.specs.Prelude.{IfOk}
use Rattle.hart_step.specs.declared.hart.Hart.{Hart}
use Rattle.outcome.specs.Outcome.{some_run}
use Rattle.explore_space.specs.Places.{hart_worded}
use Rattle.explore_space.proofs.explorer.ExplorerSpace.has_ended.Goals as goal

pub returns : goal.returns
returns g c =
    subst (λ (hs : List Hart). IfOk c.has_ended_at.result (λ answer. answer
    ≡ not (some_run (map (hart_worded hs) (take (length c.args.self.now.inputs.now) c.args.key.now))))) c.deref.ensures.value
    (subst (λ n. IfOk c.has_ended_at.result (λ answer. answer
    ≡ not (some_run (map (hart_worded c.deref.result.now) (take n c.args.key.now))))) c.harts-count.ensures.harts
    c.has_ended_at.ensures)
