use Rattle.std.proofs.Common.{◌≡◌, ◌-◌, ◌+◌, arith, ap, map, ◌∙◌}
use Rattle.hart_step.specs.Hart.{hart_of}
use Rattle.machine.specs.Machine.{world}
use Rattle.sched_run.specs.Chosen.{harts_of}
use Rattle.sched_draw.proofs.ChooserLemmas.{begun, all_done, ended}
use Rattle.sched_draw.proofs.running.run_by.Goals as goal

pub stretches-init : goal.stretches-init
stretches-init g c =
    let w = world g.S.Store.memory c.args.machine.now in
    let whole : c.args.steps - 0 ≡ c.args.steps = omega arith in
    record {
      few = c.requires.few;
      is_for = c.requires.chooses;
      within = omega arith;
      so_far = begun (g.C.Chooser.choices c.args.chooser 0 c.args.steps w) (g.C.Chooser.choices c.args.chooser 0 (c.args.steps - 0) w) w
          (harts_of c.new-chosen.result) (ap (λ n. g.C.Chooser.choices c.args.chooser 0 n w) whole) c.new-chosen.ensures;
    }

pub returns : goal.returns
returns g c =
    let within = c.stretches.invariant.within in
    let none : c.args.steps - c.stretches.from ≡ 0 = omega (arith, within) in
    let last = world g.S.Store.memory c.stretches.machine in
    all_done (g.C.Chooser.choices c.args.chooser 0 c.args.steps (world g.S.Store.memory c.args.machine.now))
    (g.C.Chooser.choices c.stretches.chooser c.stretches.from (c.args.steps - c.stretches.from) last)
    (world g.S.Store.memory c.args.machine.now) last (harts_of c.stretches.chosen)
    (ap (λ k. g.C.Chooser.choices c.stretches.chooser c.stretches.from k last) none ∙ g.met.C.Chooser.none c.stretches.chooser c.stretches.from last)
    c.stretches.invariant.so_far

pub returns-then-is_over : goal.returns-then-is_over
returns-then-is_over g c =
    let within = c.stretches.invariant.within in
    let least = c.min.ensures in
    let first = world g.S.Store.memory c.args.machine.now in
    let last = world g.S.Store.memory c.run.new.machine in
    let to = c.stretches.from + c.min.result in
    ended (g.C.Chooser.choices c.args.chooser 0 c.args.steps first)
    (g.C.Chooser.choices c.run.new.self to (c.args.steps - to) last) first last (harts_of c.run.new.chosen)
    c.span.result.start c.span.result.end (map hart_of c.ends.result.now) c.ends.ensures
    (c.span.ensures.among to (c.args.steps - to) last) (c.is_over.ensures c.if-is_over.true)
    (c.in_ok-run.ensures.ran c.args.steps (omega (arith, within, least))
    (g.C.Chooser.choices c.args.chooser 0 c.args.steps first) first c.stretches.invariant.so_far)
