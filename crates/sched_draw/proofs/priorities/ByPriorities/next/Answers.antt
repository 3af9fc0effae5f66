use Rattle.std.proofs.Common.{◌<◌, ◌||◌, ap, ap₂, length, option_map, sym, subst, ◌∙◌}
use Rattle.std.specs.List.{All}
use Rattle.hart_step.specs.Hart.{hart_of}
use Rattle.machine.specs.Machine.{world}
use Rattle.machine.specs.declared.choice.Choice.{Choice}
use Rattle.sched_draw.specs.Drawn.{drawing, watch_of, drawing_watched}
use Rattle.sched_draw.specs.Priorities.{WatchedDrawing, after_priority_choice, next_priority_choice, waiting_fallen}
use Rattle.sched_draw.specs.Spinning.{pauses, spins}
use Rattle.sched_draw.proofs.PriorityLemmas.{gone_on, next-below, watched-below}
use Rattle.sched_draw.proofs.priorities.ByPriorities.next.Goals as goal

pub hart-hart-requires : goal.hart-hart-requires
hart-hart-requires g c =
    let w = world g.S.Store.memory c.args.machine.now in
    subst (λ (x : Choice). x.hart < length w.harts)
    (sym (c.in_ok-choice.ensures.choice
    ∙ ap₂ (λ harts p. next_priority_choice c.args.self.now.refusals harts (drawing p)) c.ends.ensures c.deref_mut.ensures.value))
    (next-below c.args.self.now.refusals (length w.harts) w.harts
    (drawing c.args.self.now.priorities.value) c.requires.some c.requires.there)

pub returns-clause-chooses : goal.returns-clause-chooses
returns-clause-chooses g c =
    c.in_ok-choice.ensures.choice
    ∙ ap₂ (λ harts p. next_priority_choice c.args.self.now.refusals harts (drawing p)) c.ends.ensures c.deref_mut.ensures.value

pub returns-clause-state : goal.returns-clause-state
returns-clause-state g c =
    let w = world g.S.Store.memory c.args.machine.now in
    let is = c.in_ok-choice.ensures.choice
    ∙ ap₂ (λ harts p. next_priority_choice c.args.self.now.refusals harts (drawing p)) c.ends.ensures c.deref_mut.ensures.value in
    gone_on c.args.self.now.refusals c.args.step w (drawing_watched c.args.self.now) c.in_ok-choice.choice (hart_of c.hart-hart.result.now)
    (drawing c.next_choice.new.self) (drawing c.let_waiting_fall.new.self) c.waits-does_wait.result
    (option_map watch_of c.waits-does_wait.new.watch) is c.hart-hart.ensures
    (c.in_ok-choice.ensures.state
    ∙ ap₂ (λ harts p. after_priority_choice c.args.step harts (drawing p)) c.ends.ensures c.deref_mut.ensures.value)
    (c.waits-does_wait.ensures.waits
    ∙ ap (λ m. spins (option_map watch_of c.args.self.now.watch) c.in_ok-choice.choice.hart (hart_of c.hart-hart.result.now)
    || pauses m (hart_of c.hart-hart.result.now)) c.store.ensures)
    c.waits-does_wait.ensures.watch
    (c.in_ok-let_waiting_fall.ensures
    ∙ ap (λ p. waiting_fallen c.waits-does_wait.result c.in_ok-choice.choice.hart (drawing p)) c.deref_mut-2.ensures.value)

pub returns-clause-stays : goal.returns-clause-stays
returns-clause-stays g c =
    let w = world g.S.Store.memory c.args.machine.now in
    subst (λ (e : WatchedDrawing). All (λ h. h < length w.harts) e.drawing.order) (sym (returns-clause-state g c))
    (watched-below (length w.harts) c.args.step w (drawing_watched c.args.self.now) c.requires.some c.requires.there)
