use Rattle.std.proofs.Common.{◌≡◌, ℕ, length, sym, subst, arith}
use Rattle.std.proofs.lemmas.List.{length-map}
use Rattle.bank_hart_log.specs.HartLog.{HartLogValue}
use Rattle.bank_merge.specs.AccessOrder.{bank_logs, hart_segments, HaveNoOthers}
use Rattle.bank_merge.proofs.order.are_ordered.Goals as goal

pub returns : goal.returns
returns g c =
    let same : length (hart_segments c.args.logs.now) ≡ length c.args.logs.now = length-map c.args.logs.now (λ (l : HartLogValue). l.log) in
    let past = c.logs-test.false in (
      λ e. record {
        each = λ h low. c.logs.invariant h (omega (arith, low, same, past));
        no_others = subst (λ (n : ℕ). HaveNoOthers (bank_logs c.args.banks.now) n) (sym same) (c.have_no_others.ensures.0 e);
      },
      λ o. c.have_no_others.ensures.1 (subst (λ (n : ℕ). HaveNoOthers (bank_logs c.args.banks.now) n) same o.no_others),
    )
