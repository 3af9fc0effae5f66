use Rattle.std.proofs.Common.{◌≡◌, Bool, true, sym, subst}
use Rattle.std.specs.Prelude.{◌↔◌, replicate}
use Rattle.bank_laws.specs.Segments.{accesses}
use Rattle.bank_merge.specs.AccessOrder.{bank_logs, IsOrdered, Passes}
use Rattle.bank_merge.proofs.PlaceLemmas.{all_passed, not_passed}
use Rattle.bank_merge.proofs.order.is_ordered.Goals as goal

pub returns-then-pass_all : goal.returns-then-pass_all
returns-then-pass_all g c =
    all_passed (bank_logs c.args.banks.now) c.args.hart c.pass_all.new.places (accesses c.args.segments.now) c.are_passed.result
    (subst (λ (b : Bool). Passes (bank_logs c.args.banks.now) c.args.hart (replicate 16 0) c.pass_all.new.places (accesses c.args.segments.now) b) c.if-pass_all.true c.pass_all.ensures)
    c.are_passed.ensures

pub returns-else-pass_all : goal.returns-else-pass_all
returns-else-pass_all g c =
    subst (λ (b : Bool). (b ≡ true) ↔ IsOrdered (bank_logs c.args.banks.now) c.args.hart (accesses c.args.segments.now)) (sym c.if-pass_all.false)
    (not_passed (bank_logs c.args.banks.now) c.args.hart c.pass_all.new.places (accesses c.args.segments.now)
    (subst (λ (b : Bool). Passes (bank_logs c.args.banks.now) c.args.hart (replicate 16 0) c.pass_all.new.places (accesses c.args.segments.now) b) c.if-pass_all.false c.pass_all.ensures))
