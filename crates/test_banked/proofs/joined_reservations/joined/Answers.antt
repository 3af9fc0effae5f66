use Rattle.std.proofs.Common.{rules, ◌≡◌, refl, subst, ℕ, arith, length, None, ◌<◌, ◌≤◌}
use Rattle.hart_reservations.specs.Marks.{mark_at}
use Rattle.hart_reservations.specs.Reserve.{marks}
use Rattle.bank_laws.specs.Banks.{joined_mark}
use Rattle.bank_laws.specs.Merged.{bank_of}
use Rattle.test_banked.specs.Joined.{banks_with}
use Rattle.test_banked.proofs.JoinedLemmas.{one_more, all_done, none_yet}
use Rattle.test_banked.proofs.joined_reservations.joined.Goals as goal

pub harts-init : goal.harts-init
harts-init c = none_yet (marks c.new-reserve.result) (λ h. joined_mark bank_of (banks_with c.args.banks.now) h (mark_at c.args.named.now h)) c.new-reserve.ensures

pub harts-preserved : goal.harts-preserved
harts-preserved c =
    one_more (marks c.harts.reserve) (marks c.set_if.new.reserve) (λ h. joined_mark bank_of (banks_with c.args.banks.now) h (mark_at c.args.named.now h)) c.harts.hart c.standing-standing.result c.harts.invariant (search rules) (search rules)

pub returns : goal.returns
returns c = all_done (marks c.harts.reserve) (λ h n. joined_mark bank_of (banks_with c.args.banks.now) h n) c.args.named.now (λ h. refl)
    (let done : c.harts.hart ≡ length c.args.named.now = omega arith in subst (λ (i : ℕ). ((h : ℕ) → h < i → marks c.harts.reserve h ≡ joined_mark bank_of (banks_with c.args.banks.now) h (mark_at c.args.named.now h)) × ((h : ℕ) → i ≤ h → marks c.harts.reserve h ≡ None)) done c.harts.invariant)
