use Rattle.std.proofs.Common.{List, map, not, ap, ◌∙◌}
use Rattle.hart_step.specs.Hart.{HartValue, hart_of}
use Rattle.outcome.specs.Outcome.{some_run}
use Rattle.explore_space.proofs.failing.has_ended_at.Goals as goal

pub returns : goal.returns
returns g c =
    ap not (c.some_run-runs.ensures ∙ ap (λ (hs : List HartValue). some_run hs)
    (ap (map hart_of) c.as_slice.ensures.value ∙ c.in_ok-by_key.ensures))
