-- Endings that are the same are equal.
use Rattle.std.proofs.Common.{◌≡◌, Bool, true, false, Option, Some, None, eq-eqb, refl, ap, sym, ◌∙◌, true≢false}
use Rattle.std.proofs.lemmas.Slice.Eq.{bytes_eq-Decides}
use Rattle.std.proofs.lemmas.Bool.{and_from, and_parts, eqb-true}
use Rattle.outcome.specs.declared.run_outcome.Outcome.{Outcome}
use Rattle.object_library.specs.declared.verdict.Verdict.{Verdict}
use Rattle.object_library.specs.declared.verdict.Verdict.TheVariants.{Kept, Broken}
use Rattle.campaign_runs.specs.Ending.{EndingValue, same_ending, same_hang, same_outcome, same_verdict}

verdicts_equal : (a b : Option Verdict) → same_verdict a b ≡ true → a ≡ b
verdicts_equal None None same = refl
verdicts_equal (Some Kept) (Some Kept) same = refl
verdicts_equal (Some Broken) (Some Broken) same = refl
verdicts_equal None (Some b) same = absurd (true≢false (sym same))
verdicts_equal (Some Kept) None same = absurd (true≢false (sym same))
verdicts_equal (Some Broken) None same = absurd (true≢false (sym same))
verdicts_equal (Some Kept) (Some Broken) same = absurd (true≢false (sym same))
verdicts_equal (Some Broken) (Some Kept) same = absurd (true≢false (sym same))

verdict_itself : (a : Option Verdict) → same_verdict a a ≡ true
verdict_itself None = refl
verdict_itself (Some Kept) = refl
verdict_itself (Some Broken) = refl

hangs_equal : (a b : Option Bool) → same_hang a b ≡ true → a ≡ b
hangs_equal None None same = refl
hangs_equal (Some true) (Some true) same = refl
hangs_equal (Some false) (Some false) same = refl
hangs_equal None (Some b) same = absurd (true≢false (sym same))
hangs_equal (Some true) None same = absurd (true≢false (sym same))
hangs_equal (Some false) None same = absurd (true≢false (sym same))
hangs_equal (Some true) (Some false) same = absurd (true≢false (sym same))
hangs_equal (Some false) (Some true) same = absurd (true≢false (sym same))

hang_itself : (a : Option Bool) → same_hang a a ≡ true
hang_itself None = refl
hang_itself (Some true) = refl
hang_itself (Some false) = refl

outcomes_equal : (a b : Outcome) → same_outcome a b ≡ true → a ≡ b
outcomes_equal a b same =
    let verdict = and_parts _ _ same in
    let running = and_parts _ _ verdict.0 in
    let ends = and_parts _ _ running.0 in
    λ i. record {
      exited = eqb-true a.exited b.exited ends.0 i;
      faulted = eqb-true a.faulted b.faulted ends.1 i;
      running = eqb-true a.running b.running running.1 i;
      verdict = verdicts_equal a.verdict b.verdict verdict.1 i;
    }

outcome_itself : (a : Outcome) → same_outcome a a ≡ true
outcome_itself a =
    and_from _ _ (and_from _ _ (and_from _ _ (eq-eqb a.exited a.exited refl) (eq-eqb a.faulted a.faulted refl))
    (eq-eqb a.running a.running refl)) (verdict_itself a.verdict)

pub endings_equal : (a b : EndingValue) → same_ending a b ≡ true → a ≡ b
endings_equal a b same =
    let parts = and_parts _ _ same in
    let decided = and_parts _ _ parts.0 in
    let others = and_parts _ _ decided.0 in
    λ i. record {
      outcome = outcomes_equal a.outcome b.outcome others.0 i;
      properties = verdicts_equal a.properties b.properties others.1 i;
      hangs = hangs_equal a.hangs b.hangs decided.1 i;
      words = (bytes_eq-Decides a.words b.words).0 parts.1 i;
    }

pub ending_itself : (a : EndingValue) → same_ending a a ≡ true
ending_itself a =
    and_from _ _ (and_from _ _ (and_from _ _ (outcome_itself a.outcome) (verdict_itself a.properties)) (hang_itself a.hangs)) ((bytes_eq-Decides a.words a.words).1 refl)

pub same_from_equal : (a b : EndingValue) → a ≡ b → same_ending a b ≡ true
same_from_equal a b equal = ap (same_ending a) (sym equal) ∙ ending_itself a
