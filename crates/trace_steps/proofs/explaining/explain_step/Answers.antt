use Rattle.std.proofs.Common.{◌∙◌, ap, sym, subst}
use Rattle.hart_reservations.specs.Marks.{Marks}
use Rattle.machine.specs.Machine.{world}
use Rattle.trace_steps.specs.Ends.{kept_ends}
use Rattle.trace_steps.specs.Explains.{followed}
use Rattle.trace_steps.specs.Known.{Knows}
use Rattle.trace_steps.specs.Latest.{latest_words}
use Rattle.trace_steps.proofs.ExplainLemmas.{explained_by_parts}
use Rattle.trace_steps.proofs.explaining.explain_step.Goals as goal

pub new-before-requires : goal.new-before-requires
new-before-requires g c = subst (λ (r : Marks). Knows (latest_words c.args.latest.now) r) (sym c.reserve.ensures) c.requires.known

pub new-after-requires : goal.new-after-requires
new-after-requires g c = subst (λ (r : Marks). Knows (latest_words c.tell_step.new.latest) r) (sym c.reserve-2.ensures) c.tell_step.ensures.known

pub returns-clause-explained : goal.returns-clause-explained
returns-clause-explained g c =
    explained_by_parts (followed (world g.S.Store.memory c.args.machine.now) (kept_ends c.args.endings.now)) c.args.choice c.in_ok-told.told
    c.word.result c.of.result c.told_failure-failure.result c.in_ok-told.ensures.told
    (c.word.ensures ∙ ap (λ (r : Marks). r c.args.choice.hart) (c.new-before.ensures ∙ c.reserve.ensures)) c.of.ensures c.told_failure-failure.ensures
