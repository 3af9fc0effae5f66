use Rattle.std.proofs.Common.{◌≡◌, ◌<◌, length, ap, subst, sym, ◌∙◌, arith}
use Rattle.std.specs.List.{list_all}
use Rattle.bank_merge.specs.AccessOrder.{bank_logs}
use Rattle.bank_hart_log.specs.HartLog.{HartLogValue}
use Rattle.bank_threads.specs.Ordered.{IsOrderedHart}
use Rattle.bank_threads.proofs.ListLemmas.{each_yes, get_inside, get_it}
use Rattle.bank_threads.proofs.whole.are_ordered_harts.Goals as goal

pub returns : goal.returns
returns g c = λ all. (
  c.if-logs-inputs.false,
  λ h l at.
      let low : h < length c.args.logs.now = get_inside c.args.logs.now h l at in
      let answered : length c.in_ok-answers.answers.items ≡ length c.args.logs.now = sym c.in_ok-answers.answers.ok.0 ∙ c.in_ok-answers.ensures.len in
      let answer = each_yes c.in_ok-answers.answers.items h (omega (arith, low, answered))
      (sym (ap (list_all (λ answer. answer)) c.deref.ensures.value) ∙ (sym c.are_yes.ensures ∙ all)) in
      let look = (c.in_ok-answers.ensures.each h _ low).1 in
      subst (λ (x : HartLogValue). IsOrderedHart c.args.image.now c.args.inputs.now c.args.budget c.args.plan.now.keys (bank_logs c.args.banks.now) h x)
      (get_it c.args.logs.now h l at) (look.met l answer),
)
