use Rattle.std.proofs.Common.{arith, ap, ◌≡◌, ◌+◌, ◌∙◌, refl}
use Rattle.bank_laws.specs.Segments.{LoggedSegment}
use Rattle.thread_gate.specs.Plan.{is_planned}
use Rattle.bank_merge.proofs.ListLemmas.{drop_here, drop_none}
use Rattle.bank_threads.proofs.ChoiceLemmas.{goes_first, goes_next, goes_last, flag_is}
use Rattle.bank_threads.proofs.compare.planned_choices.Goals as goal

pub segments-init : goal.segments-init
segments-init g c = (goes_first _ _ _, omega arith)

pub segments-preserved : goal.segments-preserved
segments-preserved g c =
    let e = c.segment-item.result in
    let local : c.segment.inside.local ≡ e.local = ap (λ (x : LoggedSegment). x.local) c.segment.view_is in
    let room = c.if-local-budget.false in (
      goes_next _ _ _ _ _ e _ _ (drop_here _ _ e c.segments-test.true c.segment-item.is) c.segments.invariant.0
          (flag_is e c.segment.inside.refuse c.is_planned.result _ _ (ap (λ (x : LoggedSegment). x.refuse) c.segment.view_is)
          (c.is_planned.ensures ∙ ap (λ n. is_planned c.args.plan.now.keys c.args.hart (c.segments.made + n)) local) c.if-segment-is_planned.false refl)
          (omega (arith, local)),
      omega (arith, room),
    )

pub returns : goal.returns
returns g c =
    let all = goes_last _ _ _ _ _ (drop_none _ _ c.segments-test.false) c.segments.invariant.0 in
    (all.0, all.1, c.segments.invariant.1)
