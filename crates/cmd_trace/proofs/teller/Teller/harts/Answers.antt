use Rattle.std.proofs.Common.{◌∙◌, ap, sym, subst}
use Rattle.hart_reservations.specs.Marks.{Marks}
use Rattle.hart_step.specs.Hart.{hart_of}
use Rattle.machine.specs.State.{state}
use Rattle.trace_steps.specs.Known.{Knows}
use Rattle.trace_steps.specs.Latest.{latest_words}
use Rattle.cmd_trace.proofs.EntryLemmas.{hart_more, read_hart, within_harts}
use Rattle.cmd_trace.proofs.teller.Teller.harts.Goals as goal

pub reserved-requires-clause-known : goal.reserved-requires-clause-known
reserved-requires-clause-known g c =
    subst (λ (r : Marks). Knows (latest_words c.args.self.now.latest) r) (sym c.reserve.ensures) c.args.self.now.known

pub harts-preserved : goal.harts-preserved
harts-preserved g c =
    let w = state c.args.self.now.machine in
    let h = hart_of c.hart-item.result in
    hart_more w.reserved c.harts.number w.harts _ c.harts.harts.items c.push.new.self.items _ h
    (within_harts c.ends-hart-items.result.now w.harts c.harts.number c.ends-hart-items.ensures c.harts-test.true)
    (read_hart c.ends-hart-items.result.now w.harts c.harts.number c.hart-item.result c.ends-hart-items.ensures c.harts-test.true c.hart-item.is)
    (ap (λ r. (h, r)) (c.reserved.ensures ∙ ap (λ (r : Marks). r c.harts.number) c.reserve.ensures)) c.in_ok-push.ensures.items c.harts.invariant
