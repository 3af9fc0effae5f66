use Rattle.std.proofs.Common.{◌≡◌, true, refl, sym, ◌∙◌}
use Rattle.std.proofs.lemmas.List.{length-map}
use Rattle.bank_memory.specs.BankLog.{BankLog}
use Rattle.bank_merge.specs.AccessOrder.{bank_logs, hart_segments}
use Rattle.bank_merge.specs.Matching.{bank_accesses, hart_accesses, HasAllOf}
use Rattle.bank_merge.proofs.AccessOrderLemmas.{ordered_match}
use Rattle.bank_merge.proofs.MatchLemmas.{back_if, has_all_of, matched_if, there_if}
use Rattle.bank_merge.proofs.matching.is_matched.Goals as goal

pub returns-then-are_in_order : goal.returns-then-are_in_order
returns-then-are_in_order g c =
    let is = c.are_in_order.ensures c.if-are_in_order.true in (
      λ e. ordered_match (hart_segments c.args.logs.now) (bank_logs c.args.banks.now) (length-map c.args.banks.now (λ (k : BankLog). k.log) ∙ is.0) is.1,
      λ matched. refl,
    )

pub returns-then-not-in_banks : goal.returns-then-not-in_banks
returns-then-not-in_banks g c =
    let hs : c.deref.result.now ≡ hart_accesses c.args.logs.now = c.deref.ensures.value ∙ c.in_ok-of_harts.ensures in
    let bs : c.deref-2.result.now ≡ bank_accesses c.args.banks.now = c.deref-2.ensures.value ∙ c.in_ok-of_banks.ensures in (
      λ e. cc e,
      λ matched. sym c.if-not-in_banks.true
          ∙ c.in_ok-in_banks.ensures.1 (has_all_of _ _ _ _ hs bs (there_if c.args.logs.now c.args.banks.now matched)),
    )

pub returns : goal.returns
returns g c =
    let hs : c.deref.result.now ≡ hart_accesses c.args.logs.now = c.deref.ensures.value ∙ c.in_ok-of_harts.ensures in
    let bs : c.deref-2.result.now ≡ bank_accesses c.args.banks.now = c.deref-2.ensures.value ∙ c.in_ok-of_banks.ensures in
    let bs-2 : c.deref-3.result.now ≡ bank_accesses c.args.banks.now = c.deref-3.ensures.value ∙ c.in_ok-of_banks.ensures in
    let hs-2 : c.deref-4.result.now ≡ hart_accesses c.args.logs.now = c.deref-4.ensures.value ∙ c.in_ok-of_harts.ensures in
    let there : HasAllOf (hart_accesses c.args.logs.now) (bank_accesses c.args.banks.now) =
    has_all_of _ _ _ _ (sym hs) (sym bs) (c.in_ok-in_banks.ensures.0 c.if-not-in_banks.false) in (
      λ e. matched_if c.args.logs.now c.args.banks.now c.see_banks.ensures c.requires there
          (has_all_of _ _ _ _ (sym bs-2) (sym hs-2) (c.in_ok-in_harts.ensures.0 e)),
      λ matched. c.in_ok-in_harts.ensures.1 (has_all_of _ _ _ _ bs-2 hs-2 (back_if c.args.logs.now c.args.banks.now matched)),
    )
