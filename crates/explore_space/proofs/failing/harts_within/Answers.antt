use Rattle.std.proofs.Common.{map, ap, ◌∙◌}
use Rattle.hart_step.specs.Hart.{hart_of}
use Rattle.property_judge.specs.Property.{harts_between}
use Rattle.explore_space.proofs.failing.harts_within.Goals as goal

pub returns : goal.returns
returns g c =
    c.count_within-within.ensures ∙ ap (harts_between c.args.section.from c.args.section.to)
    (ap (map hart_of) c.as_slice.ensures.value ∙ c.in_ok-by_key.ensures)
