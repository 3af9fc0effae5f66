use Rattle.std.proofs.Common.{◌≡◌, List, length, map, not, nat_lt, take, ap, sym, ◌∙◌, subst}
use Rattle.hart_step.specs.declared.hart.Hart.{Hart}
use Rattle.property_judge.specs.Property.{harts_between, holds_in}
use Rattle.explore_space.specs.Failing.{breaks_section}
use Rattle.explore_space.specs.Places.{hart_worded, world_of_key}
use Rattle.explore_space.proofs.explorer.Explorer.breaks_section_at.Goals as goal

pub returns : goal.returns
unfolding holds_in
returns g c =
    let e = c.args.self.now in
    let key = c.args.key.now in
    let section = c.in-Some.section in
    let world = world_of_key e.known.image.now (length e.inputs.now) e.known.harts.parts.items e.known.shareds.parts.items key in
    subst (λ s. not (nat_lt c.in_ok-within.within 2) ≡ breaks_section s world) (sym c.in-Some.is)
    (ap (λ k. not (nat_lt k 2)) (c.in_ok-within.ensures
    ∙ ap (λ (hs : List Hart). harts_between section.from section.to (map (hart_worded hs) (take c.harts-count.result key))) c.deref.ensures.value
    ∙ ap (λ n. harts_between section.from section.to (map (hart_worded e.known.harts.parts.items) (take n key))) c.harts-count.ensures.harts))
