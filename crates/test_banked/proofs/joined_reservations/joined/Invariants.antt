use Rattle.hart_reservations.specs.Marks.{mark_at}
use Rattle.hart_reservations.specs.Reserve.{marks}
use Rattle.bank_laws.specs.Banks.{joined_mark}
use Rattle.bank_laws.specs.Merged.{bank_of}
use Rattle.test_banked.specs.Joined.{banks_with}
use Rattle.test_banked.proofs.JoinedLemmas.{SoFar}
use Rattle.test_banked.proofs.joined_reservations.joined.Given as goal

-- the harts so far have the words that are still reserved
abbrev pub invariant-harts : goal.invariant-harts
invariant-harts l = SoFar (marks l.reserve) (λ h. joined_mark bank_of (banks_with l.banks) h (mark_at l.named h)) l.hart
