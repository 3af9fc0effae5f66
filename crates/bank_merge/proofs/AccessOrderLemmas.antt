-- Logs in the same order match.
use Rattle.std.proofs.Common.{◌≡◌, ℕ, ◌<◌, ◌≤◌, List, [], length, refl, sym, subst, arith, ⊎_elim}
use Rattle.std.specs.Prelude.{◌==◌}
use Rattle.std.proofs.lemmas.Bool.{cases_lt, eq-eqb}
use Rattle.bank_laws.specs.declared.access.LoggedAccess.{LoggedAccess}
use Rattle.bank_laws.specs.Order.{In, IsMatched}
use Rattle.bank_laws.specs.Segments.{LoggedSegment, accesses}
use Rattle.bank_laws.specs.Merged.{bank_of, most_banks}
use Rattle.bank_merge.specs.AccessOrder.{log_at, own_log, AreOrdered}
use Rattle.bank_laws.proofs.MergeLemmas.{in_filter}
use Rattle.bank_merge.proofs.ListLemmas.{each_in, filter_in, get_past}

module _ (harts : List (List LoggedSegment)) (banks : List (List LoggedAccess)) (sixteen : length banks ≡ most_banks) (ordered : AreOrdered harts banks) where
  low_bank : (x : ℕ) → bank_of x < most_banks
  low_bank x = omega arith

  none : (a : LoggedAccess) → In a [] → ⊥
  none a i = i

  in_bank : (h : ℕ) (a : LoggedAccess) → In a (accesses (own_log harts h)) → In a (log_at banks (bank_of a.word))
  in_bank h a i = ⊎_elim
      (λ (low : h < length harts).
      filter_in (λ (x : LoggedAccess). x.hart == h) (log_at banks (bank_of a.word)) a
      (subst (λ (xs : List LoggedAccess). In a xs) (sym (ordered.each h low (bank_of a.word) (low_bank a.word)))
      (in_filter (λ (x : LoggedAccess). bank_of x.word == bank_of a.word) (accesses (own_log harts h)) a i (eq-eqb (bank_of a.word) (bank_of a.word) refl))))
      (λ (past : length harts ≤ h). absurd (none a (subst (λ (es : List LoggedSegment). In a (accesses es)) (get_past harts h [] past) i)))
      (cases_lt h (length harts))

  in_log : (b : ℕ) (a : LoggedAccess) → In a (log_at banks b) → (h : ℕ) × In a (accesses (own_log harts h))
  in_log b a i = ⊎_elim
      (λ (low : b < most_banks).
      let there : a.hart < length harts = each_in (λ (x : LoggedAccess). x.hart < length harts) (log_at banks b) a (ordered.no_others b low) i in (
        a.hart,
        filter_in (λ (x : LoggedAccess). bank_of x.word == b) (accesses (own_log harts a.hart)) a
            (subst (λ (xs : List LoggedAccess). In a xs) (ordered.each a.hart there b low)
            (in_filter (λ (x : LoggedAccess). x.hart == a.hart) (log_at banks b) a i (eq-eqb a.hart a.hart refl))),
      ))
      (λ (past : most_banks ≤ b). absurd (none a (subst (λ (xs : List LoggedAccess). In a xs) (get_past banks b [] (omega (arith, past, sixteen))) i)))
      (cases_lt b most_banks)

  pub ordered_match : IsMatched bank_of (own_log harts) (log_at banks)
  ordered_match = record { in_bank = in_bank; in_log = in_log }
