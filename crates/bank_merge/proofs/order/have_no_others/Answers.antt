use Rattle.std.proofs.Common.{rules, ◌≡◌, ◌<◌, ℕ, List, length, slice_index_or, sym, subst, ◌∙◌}
use Rattle.std.specs.List.{AllByRecursion}
use Rattle.bank_laws.specs.declared.access.LoggedAccess.{LoggedAccess}
use Rattle.bank_laws.specs.Merged.{most_banks}
use Rattle.bank_merge.specs.AccessOrder.{log_at, bank_logs}
use Rattle.bank_merge.proofs.ListLemmas.{below_next}
use Rattle.bank_merge.proofs.PlaceLemmas.{log_here}
use Rattle.bank_merge.proofs.order.have_no_others.Goals as goal

pub returns-then-not-are_below : goal.returns-then-not-are_below
returns-then-not-are_below g c =
    let b = c.banks.bank in
    let low : b < most_banks = search rules in
    let there : b < length c.args.banks.now = search rules in
    let is : c.index-banks-bank.result ≡ slice_index_or c.args.banks.now b c.index-banks-bank.result = search rules in
    let here = log_here c.args.banks.now b c.index-banks-bank.result c.log.result.now there is c.log.ensures in (
      λ e. cc e,
      λ all. sym c.if-not-are_below.true ∙ c.are_below.ensures.1 (subst (λ (log : List LoggedAccess). AllByRecursion (λ a. a.hart < c.args.harts) log) here (all b low)),
    )

pub banks-preserved : goal.banks-preserved
banks-preserved g c =
    let b = c.banks.bank in
    let there : b < length c.args.banks.now = search rules in
    let is : c.index-banks-bank.result ≡ slice_index_or c.args.banks.now b c.index-banks-bank.result = search rules in
    let here = log_here c.args.banks.now b c.index-banks-bank.result c.log.result.now there is c.log.ensures in
    below_next (λ (k : ℕ). AllByRecursion (λ a. a.hart < c.args.harts) (log_at (bank_logs c.args.banks.now) k)) b c.banks.invariant
    (subst (λ (log : List LoggedAccess). AllByRecursion (λ a. a.hart < c.args.harts) log) (sym here) (c.are_below.ensures.0 c.if-not-are_below.false))
