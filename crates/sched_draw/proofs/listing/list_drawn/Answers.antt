use Rattle.std.proofs.Common.{◌≡◌, ◌-◌, ◌+◌, arith, ap, ◌∙◌}
use Rattle.sched_draw.proofs.ChooserLemmas.{all_listed, one_listed}
use Rattle.sched_draw.proofs.listing.list_drawn.Goals as goal

pub steps-preserved : goal.steps-preserved
steps-preserved g c =
    let n = c.args.steps - (c.steps.step + 1) in
    let more : c.args.steps - c.steps.step ≡ n + 1 = omega arith in
    one_listed c.steps.choices.items (g.D.Drawer.drawn c.steps.drawer c.steps.step (c.args.steps - c.steps.step))
    (g.D.Drawer.drawn c.args.drawer 0 c.args.steps) c.steps.invariant
    (g.D.Drawer.drawn c.draw.new.self (c.steps.step + 1) n) c.push.new.self.items c.draw.result
    (ap (g.D.Drawer.drawn c.steps.drawer c.steps.step) more ∙ c.draw.ensures.draws n) c.in_ok-push.ensures.items

pub returns : goal.returns
returns g c =
    let none : c.args.steps - c.steps.step ≡ 0 = omega arith in
    all_listed c.steps.choices.items (g.D.Drawer.drawn c.steps.drawer c.steps.step (c.args.steps - c.steps.step))
    (g.D.Drawer.drawn c.args.drawer 0 c.args.steps) c.steps.invariant
    (ap (g.D.Drawer.drawn c.steps.drawer c.steps.step) none ∙ g.met.D.Drawer.none c.steps.drawer c.steps.step)
