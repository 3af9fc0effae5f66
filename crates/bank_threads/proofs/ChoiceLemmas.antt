-- The number of choices that segments stand for, and their refusals.
use Rattle.std.proofs.Common.{◌≡◌, ℕ, ◌+◌, Bool, true, false, not, List, [], ◌∷◌, refl, sym, subst, ◌∙◌, arith}
use Rattle.std.specs.Bool.{beq}
use Rattle.thread_gate.specs.Plan.{is_planned}
use Rattle.bank_laws.specs.Segments.{LoggedSegment}
use Rattle.bank_order.specs.Merged.{choices_in}
use Rattle.bank_worker.specs.Worked.{LogIsFlagged}

-- what is left of a log says of the choices so far what the whole does
pub record Goes (plan : List (ℕ × ℕ)) (h : ℕ) (log rest : List LoggedSegment) (made : ℕ) : Type 0 where
  pub flags : LogIsFlagged plan h made rest → LogIsFlagged plan h 0 log
  pub count : made + choices_in rest ≡ choices_in log

pub goes_first : (plan : List (ℕ × ℕ)) (h : ℕ) (log : List LoggedSegment) → Goes plan h log log 0
goes_first plan h log = record { flags = λ f. f; count = omega arith }

pub goes_next : (plan : List (ℕ × ℕ)) (h : ℕ) (log all rest : List LoggedSegment) (e : LoggedSegment) (made after : ℕ) → all ≡ e ∷ rest → Goes plan h log all made
    → e.refuse ≡ is_planned plan h (made + e.local) → after ≡ made + (e.local + 1) → Goes plan h log rest after
goes_next plan h log all rest e made after is goes flag sum =
    let there : Goes plan h log (e ∷ rest) made = subst (λ (xs : List LoggedSegment). Goes plan h log xs made) is goes in
    let count = there.count in
    record {
      flags = λ f. there.flags (flag, subst (λ (n : ℕ). LogIsFlagged plan h n rest) sum f);
      count = omega (arith, count, sum);
    }

pub goes_last : (plan : List (ℕ × ℕ)) (h : ℕ) (log rest : List LoggedSegment) (made : ℕ) → rest ≡ [] → Goes plan h log rest made
    → LogIsFlagged plan h 0 log × (made ≡ choices_in log)
goes_last plan h log rest made is goes =
    let there : Goes plan h log [] made = subst (λ (xs : List LoggedSegment). Goes plan h log xs made) is goes in
    let count = there.count in
    (there.flags tt, omega (arith, count))

-- a refusal that isn't another than the plan's is the plan's
pub flag_is : (e : LoggedSegment) (refuse found planned : Bool) (b : Bool) → refuse ≡ e.refuse → found ≡ planned
    → b ≡ false → b ≡ not (beq refuse found) → e.refuse ≡ planned
flag_is e refuse found planned b p q r s = sym p ∙ go refuse found (sym s ∙ r) ∙ q
  where
    go : (x y : Bool) → not (beq x y) ≡ false → x ≡ y
    go true true f = refl
    go true false f = cc (f)
    go false true f = cc (f)
    go false false f = refl
