use Rattle.std.proofs.Common.{◌||◌, ap, option_map, ◌∙◌}
use Rattle.rand_pcg.specs.Pcg.{pcg32}
use Rattle.hart_step.specs.Hart.{hart_of}
use Rattle.machine.specs.Machine.{world}
use Rattle.sched_draw.specs.Drawn.{drawing, watch_of, drawing_watched}
use Rattle.sched_draw.specs.Priorities.{waiting_fallen}
use Rattle.sched_draw.specs.Spinning.{pauses, spins}
use Rattle.sched_draw.proofs.FirstLemmas.{no_point-after}
use Rattle.sched_draw.proofs.PriorityLemmas.{chosen, gone_on}
use Rattle.sched_draw.proofs.priorities.ByPriorities.go_on.Goals as goal

pub returns-clause-choice : goal.returns-clause-choice
returns-clause-choice g c =
    let d = drawing c.args.self.now.priorities.value in
    chosen c.args.self.now.refusals (world g.S.Store.memory c.args.machine.now).harts d c.args.hart c.draw_word-word.result
    (pcg32 d.generator).1 c.requires.first
    (ap (λ n. (n, (pcg32 d.generator).1))
    (c.draw_word-word.ensures.word ∙ ap (λ p. (pcg32 (drawing p).generator).0) c.deref_mut.ensures.value))
    c.does_refuse-refuse.result (c.does_refuse-refuse.ensures ∙ c.requires.same c.draw_word-word.result)

pub returns-clause-state : goal.returns-clause-state
returns-clause-state g c = λ place none.
    let w = world g.S.Store.memory c.args.machine.now in
    gone_on c.args.self.now.refusals place w (drawing_watched c.args.self.now)
    (record { hart = c.args.hart; refuse = c.does_refuse-refuse.result }) (hart_of c.hart-now.result.now)
    (drawing c.draw_word-word.new.self) (drawing c.let_waiting_fall.new.self) c.waits-does_wait.result
    (option_map watch_of c.waits-does_wait.new.watch) (returns-clause-choice g c) c.hart-now.ensures
    (c.draw_word-word.ensures.state
    ∙ ap (λ p. record (drawing p) { generator = (pcg32 (drawing p).generator).1 }) c.deref_mut.ensures.value
    ∙ no_point-after place w.harts (drawing c.args.self.now.priorities.value) none)
    (c.waits-does_wait.ensures.waits
    ∙ ap (λ m. spins (option_map watch_of c.args.self.now.watch) c.args.hart (hart_of c.hart-now.result.now)
    || pauses m (hart_of c.hart-now.result.now)) c.store.ensures)
    c.waits-does_wait.ensures.watch
    (c.in_ok-let_waiting_fall.ensures
    ∙ ap (λ p. waiting_fallen c.waits-does_wait.result c.args.hart (drawing p)) c.deref_mut-2.ensures.value)
