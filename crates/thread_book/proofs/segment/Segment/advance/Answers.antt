use Rattle.std.proofs.Common.{sym, ap, ◌∙◌}
use Rattle.std.specs.Arc.{arc_value}
use Rattle.mem_store.specs.Image.{segments_memory}
use Rattle.hart_step.specs.Hart.{hart_of}
use Rattle.hart_local.specs.LocalStep.{walk}
use Rattle.hart_local.proofs.StepLemmas.{walk_none, walks_join}
use Rattle.thread_book.proofs.segment.Segment.advance.Goals as goal

pub returns-then-self-limit-clause-walked : goal.returns-then-self-limit-clause-walked
returns-then-self-limit-clause-walked g c = walk_none _ _

pub invariant_of-self : goal.invariant_of-self
invariant_of-self g c =
    let s = c.self.inside in
    walks_join (segments_memory (arc_value s.code)) s.local c.local_steps-done.result (hart_of s.slot) (hart_of s.reached)
    (hart_of c.local_steps-done.new.hart) c.self.invariant
    (ap (λ code. walk (segments_memory code) c.local_steps-done.result (hart_of s.reached)) (sym c.deref.ensures)
    ∙ c.local_steps-done.ensures.walked)
