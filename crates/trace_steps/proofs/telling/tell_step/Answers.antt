use Rattle.std.proofs.Common.{sym, subst}
use Rattle.mem_store.specs.Memory.{Memory}
use Rattle.hart_reservations.specs.Marks.{Marks}
use Rattle.hart_step.specs.Hart.{hart_of}
use Rattle.machine.specs.Machine.{world}
use Rattle.machine.specs.World.{World}
use Rattle.trace_steps.specs.Known.{Knows, KnowsBut}
use Rattle.trace_steps.specs.Latest.{latest_words}
use Rattle.trace_steps.specs.Met.{IsMet}
use Rattle.trace_steps.proofs.StepLemmas.{known_after, told_whole}
use Rattle.trace_steps.proofs.telling.tell_step.Goals as goal

pub returns-in_err-step-clause-known : goal.returns-in_err-step-clause-known
returns-in_err-step-clause-known g c =
    subst (λ (w : World). Knows (latest_words c.args.latest.now) w.reserved) (sym c.in_err-step.ensures.err) c.requires.known

pub note-requires-clause-known : goal.note-requires-clause-known
note-requires-clause-known g c =
    subst (λ (r : Marks). KnowsBut (latest_words c.args.latest.now) c.meet-met.result.access c.args.choice.hart r) (sym c.reserve.ensures)
    (known_after (latest_words c.args.latest.now) (world g.S.Store.memory c.args.machine.now) (world g.S.Store.memory c.step.new.self) c.args.choice
    (hart_of c.hart.result.now) c.meet-met.result c.hart.ensures
    (subst (λ (m : Memory). IsMet c.meet-met.result (hart_of c.hart.result.now) m) c.store.ensures c.meet-met.ensures) c.in_ok-step.ensures.ok c.requires.known)

pub tell-requires-clause-known : goal.tell-requires-clause-known
tell-requires-clause-known g c = subst (λ (r : Marks). Knows (latest_words c.note.new.self) r) c.reserve.ensures c.note.ensures

pub returns-clause-told : goal.returns-clause-told
returns-clause-told g c =
    told_whole c.tell.result c.args.choice (hart_of c.hart.result.now) (world g.S.Store.memory c.args.machine.now) (world g.S.Store.memory c.step.new.self)
    c.hart.ensures c.in_ok-step.ensures.ok
    (c.tell.ensures (hart_of c.hart.result.now) (world g.S.Store.memory c.args.machine.now)
    (subst (λ (m : Memory). IsMet c.meet-met.result (hart_of c.hart.result.now) m) c.store.ensures c.meet-met.ensures))

pub returns-clause-known : goal.returns-clause-known
returns-clause-known g c = subst (λ (r : Marks). Knows (latest_words c.note.new.self) r) c.reserve.ensures c.note.ensures
