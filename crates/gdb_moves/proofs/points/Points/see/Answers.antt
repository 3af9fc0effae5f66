use Rattle.std.proofs.Common.{ap, ◌∙◌}
use Rattle.mem_store.specs.Memory.{Memory}
use Rattle.hart_step.specs.Hart.{hart_of}
use Rattle.debug_session.specs.Paged.{paged_world}
use Rattle.gdb_moves.specs.Points.{marked}
use Rattle.gdb_moves.specs.Touches.{word_shown}
use Rattle.gdb_moves.proofs.SeenLemmas.{seen_is}
use Rattle.gdb_moves.proofs.points.Points.see.Goals as goal

pub returns-clause-seen : goal.returns-clause-seen
returns-clause-seen g c =
    let access = c.touched-access.result in
    seen_is (marked c.args.self.now) (paged_world c.args.machine.now) (paged_world c.step.new.self)
    c.args.choice (hart_of c.hart-hart.result.now) (hart_of c.hart-hart-2.result.now)
    access c.word_shown-before.result c.word_shown-after.result _ _ _ _ _
    c.in_ok-step.ensures.ok c.hart-hart.ensures c.hart-hart-2.ensures c.touched-access.ensures
    (c.word_shown-before.ensures ∙ ap (λ (m : Memory). word_shown m access) c.store.ensures)
    (c.word_shown-after.ensures ∙ ap (λ (m : Memory). word_shown m access) c.store-2.ensures)
    c.runs-ran.ensures c.stands-stands.ensures c.touches-touches.ensures
    c.fault_of.ensures c.next_of.ensures
