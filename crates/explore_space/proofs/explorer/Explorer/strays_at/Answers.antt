use Rattle.std.proofs.Common.{◌==◌, length, ap, sym, ◌∙◌, arith}
use Rattle.explore_space.specs.Habits.{owners_in}
use Rattle.explore_space.specs.Places.{world_of_key}
use Rattle.explore_space.proofs.AstrayLemmas.{some_strays, strays_more, strays_none, strays_one}
use Rattle.explore_space.proofs.explorer.Explorer.strays_at.Goals as goal

pub harts-init : goal.harts-init
harts-init g c =
    let e = c.args.self.now in
    strays_none (owners_in e.known.code.now.words.items)
    (world_of_key e.known.image.now (length e.inputs.now) e.known.harts.parts.items e.known.shareds.parts.items c.args.key.now)

pub harts-preserved : goal.harts-preserved
harts-preserved g c =
    let e = c.args.self.now in
    strays_more (owners_in e.known.code.now.words.items)
    (world_of_key e.known.image.now (length e.inputs.now) e.known.harts.parts.items e.known.shareds.parts.items c.args.key.now)
    c.harts.number c.harts.invariant (sym c.strays_there.ensures ∙ c.if-strays_there.false)

pub returns-then-strays_there : goal.returns-then-strays_there
returns-then-strays_there g c =
    let e = c.args.self.now in
    let words = e.known.code.now.words.items in
    let n = length e.inputs.now in
    let world = world_of_key e.known.image.now n e.known.harts.parts.items e.known.shareds.parts.items c.args.key.now in
    let low = c.harts-test.true in
    let end = c.harts-number-end.ensures.harts in
    sym (some_strays words world n (ap (λ k. k == 0) (sym e.known.code.now.words.ok.0) ∙ sym c.is_empty.ensures ∙ c.if-is_empty.false)
    ∙ strays_one (owners_in words) world n c.harts.number (omega (arith, low, end)) (sym c.strays_there.ensures ∙ c.if-strays_there.true))
