use Rattle.std.proofs.Common.{◌≡◌, ℕ, ap, ◌∙◌, subst, List}
use Rattle.std.specs.List.{AllByRecursion}
use Rattle.bank_laws.specs.Segments.{LoggedSegment}
use Rattle.bank_laws.specs.Order.{Rises, Earlier}
use Rattle.bank_order.specs.Weaving.{log_of}
use Rattle.bank_order.specs.Logs.{segment_logs}
use Rattle.bank_order.specs.Merged.{IsMergeOf, LeadsToLogged}
use Rattle.bank_merge.proofs.MergeLemmas.{of_seen}
use Rattle.bank_merge.proofs.merging.choices_of.Goals as goal

pub choices_in_order-requires-clause-own : goal.choices_in_order-requires-clause-own
choices_in_order-requires-clause-own g c =
    of_seen (λ ls. (h : ℕ) → AllByRecursion (λ e. e.hart ≡ h) (log_of ls h)) c.deref.result.now c.args.logs.now (ap segment_logs c.deref.ensures.value ∙ c.in_ok-all.ensures) c.requires.own

pub choices_in_order-requires-clause-rising : goal.choices_in_order-requires-clause-rising
choices_in_order-requires-clause-rising g c =
    of_seen (λ ls. (h : ℕ) → Rises Earlier (log_of ls h)) c.deref.result.now c.args.logs.now (ap segment_logs c.deref.ensures.value ∙ c.in_ok-all.ensures) c.requires.rising

pub returns-clause-merged : goal.returns-clause-merged
returns-clause-merged g c =
    subst (λ (ls : List (List LoggedSegment)). IsMergeOf ls c.in_ok-choices.choices.items) (ap segment_logs c.deref.ensures.value ∙ c.in_ok-all.ensures) c.in_ok-choices.ensures.merged

pub returns-clause-leads : goal.returns-clause-leads
returns-clause-leads g c =
    subst (λ (ls : List (List LoggedSegment)). LeadsToLogged ls c.in_ok-choices.choices.items) (ap segment_logs c.deref.ensures.value ∙ c.in_ok-all.ensures) c.in_ok-choices.ensures.leads
