-- Ends that are the same are equal, and each is kept once.
use Rattle.std.proofs.Common.{◌≡◌, ◌≢◌, ℕ, zero, suc, ◌==◌, Bool, true, false, ◌&&◌, ◌||◌, List, [], ◌∷◌, ◌++◌, map, Option, Some, None, if◌then◌else◌, eq-eqb, refl, ap, sym, ◌∙◌, subst, arith, inl, inr, true≢false}
use Rattle.std.proofs.lemmas.Bool.{and_from, and_parts, eqb-true}
use Rattle.std.proofs.lemmas.List.{map-append}
use Rattle.std.proofs.lemmas.List.Elements.{Contains-append_cases, Contains-append_left, Contains-append_right, Contains-get_or}
use Rattle.std.proofs.lemmas.List.Quantifiers.{all_pairs_push}
use Rattle.std.specs.List.{Contains, list_any}
use Rattle.hart_step.specs.declared.hart.Hart.{Hart}
use Rattle.object_library.specs.declared.kind.Kind.{Kind}
use Rattle.object_library.specs.declared.verdict.Verdict.{Verdict}
use Rattle.object_library.specs.declared.verdict.Verdict.TheVariants.{Kept, Broken}
use Rattle.outcome.specs.Outcome.{some_run}
use Rattle.outcome.specs.declared.run_outcome.Outcome.{Outcome}
use Rattle.explore_space.specs.Ends.{EndValue, end_of, end_at, harts_at, AddsEnd, IsEndAt, AreEndsAt}
use Rattle.explore_space.specs.declared.run_end.Returned.{Returned}
use Rattle.explore_space.specs.declared.run_end.RunEnd.{RunEnd}

-- ---- whether ends are the same
abbrev same_verdict : Option Verdict → Option Verdict → Bool
same_verdict None None = true
same_verdict (Some Kept) (Some Kept) = true
same_verdict (Some Broken) (Some Broken) = true
same_verdict a b = false

abbrev same_outcome : Outcome → Outcome → Bool
same_outcome a b =
    (a.exited == b.exited) && (a.faulted == b.faulted) && (a.running == b.running) && same_verdict a.verdict b.verdict

abbrev same_returned : List Returned → List Returned → Bool
same_returned [] [] = true
same_returned (x ∷ xs) (y ∷ ys) = (x.a0 == y.a0) && (x.a1 == y.a1) && same_returned xs ys
same_returned xs ys = false

abbrev pub same_end : EndValue → EndValue → Bool
same_end a b = same_outcome a.outcome b.outcome && same_returned a.returned b.returned

verdicts_equal : (a b : Option Verdict) → same_verdict a b ≡ true → a ≡ b
verdicts_equal None None same = refl
verdicts_equal (Some Kept) (Some Kept) same = refl
verdicts_equal (Some Broken) (Some Broken) same = refl
verdicts_equal None (Some b) same = absurd (true≢false (sym same))
verdicts_equal (Some Kept) None same = absurd (true≢false (sym same))
verdicts_equal (Some Broken) None same = absurd (true≢false (sym same))
verdicts_equal (Some Kept) (Some Broken) same = absurd (true≢false (sym same))
verdicts_equal (Some Broken) (Some Kept) same = absurd (true≢false (sym same))

verdict_itself : (a : Option Verdict) → same_verdict a a ≡ true
verdict_itself None = refl
verdict_itself (Some Kept) = refl
verdict_itself (Some Broken) = refl

outcomes_equal : (a b : Outcome) → same_outcome a b ≡ true → a ≡ b
outcomes_equal a b same =
    let verdict = and_parts _ _ same in
    let running = and_parts _ _ verdict.0 in
    let ends = and_parts _ _ running.0 in
    λ i. record {
      exited = eqb-true a.exited b.exited ends.0 i;
      faulted = eqb-true a.faulted b.faulted ends.1 i;
      running = eqb-true a.running b.running running.1 i;
      verdict = verdicts_equal a.verdict b.verdict verdict.1 i;
    }

outcome_itself : (a : Outcome) → same_outcome a a ≡ true
outcome_itself a =
    and_from _ _ (and_from _ _ (and_from _ _ (eq-eqb a.exited a.exited refl) (eq-eqb a.faulted a.faulted refl))
    (eq-eqb a.running a.running refl)) (verdict_itself a.verdict)

returned_equal : (xs ys : List Returned) → same_returned xs ys ≡ true → xs ≡ ys
returned_equal [] [] same = refl
returned_equal [] (y ∷ ys) same = absurd (true≢false (sym same))
returned_equal (x ∷ xs) [] same = absurd (true≢false (sym same))
returned_equal (x ∷ xs) (y ∷ ys) same =
    let rest = and_parts _ _ same in
    let words = and_parts _ _ rest.0 in
    λ i. record { a0 = eqb-true x.a0 y.a0 words.0 i; a1 = eqb-true x.a1 y.a1 words.1 i } ∷ returned_equal xs ys rest.1 i

returned_itself : (xs : List Returned) → same_returned xs xs ≡ true
returned_itself [] = refl
returned_itself (x ∷ xs) =
    and_from _ _ (and_from _ _ (eq-eqb x.a0 x.a0 refl) (eq-eqb x.a1 x.a1 refl)) (returned_itself xs)

ends_equal : (a b : EndValue) → same_end a b ≡ true → a ≡ b
ends_equal a b same =
    let parts = and_parts _ _ same in
    λ i. record {
      outcome = outcomes_equal a.outcome b.outcome parts.0 i;
      returned = returned_equal a.returned b.returned parts.1 i;
    }

same_from_equal : (a b : EndValue) → a ≡ b → same_end a b ≡ true
same_from_equal a b equal = ap (same_end a) (sym equal) ∙ and_from _ _ (outcome_itself a.outcome) (returned_itself a.returned)

-- ---- a set of ends
neither : (a b : Bool) → a || b ≡ false → b ≡ false
neither true b e = absurd (true≢false e)
neither false b e = e

module _ {Z : Type 0} (test : RunEnd Z → Bool) (end : RunEnd Z) (agrees : (k : RunEnd Z) → test k ≡ same_end (end_of end) (end_of k)) where
  found_there : (ks : List (RunEnd Z)) → list_any test ks ≡ true → Contains (map end_of ks) (end_of end)
  found_there [] e = absurd (true≢false (sym e))
  found_there (k ∷ ks) e = by (test k) refl (λ f. found_there ks (sym (ap (λ b. b || list_any test ks) f) ∙ e))
    where
      by : (b : Bool) → test k ≡ b → (test k ≡ false → Contains (map end_of ks) (end_of end)) → Contains (map end_of (k ∷ ks)) (end_of end)
      by true is rest = (0, omega arith, sym (ends_equal (end_of end) (end_of k) (sym (agrees k) ∙ is)))
      by false is rest = Contains-append_right (end_of k ∷ []) (map end_of ks) (end_of end) (rest is)

  absent_there : (ks : List (RunEnd Z)) → list_any test ks ≡ false → Contains (map end_of ks) (end_of end) → ⊥
  absent_there [] e (i, low, is) = absurd (omega (arith, low))
  absent_there (k ∷ ks) e (zero, low, is) =
      let same : test k ≡ true = agrees k ∙ same_from_equal (end_of end) (end_of k) (sym is) in
      true≢false (ap (λ b. b || list_any test ks) (sym same) ∙ e)
  absent_there (k ∷ ks) e (suc i, low, is) = absent_there ks (neither (test k) (list_any test ks) e) (i, omega (arith, low), is)

-- an end that is put into a set, which looks for one that is the same
pub ends_put : {Z : Type 0} (test : RunEnd Z → Bool) (end : RunEnd Z) (old new : List (RunEnd Z))
    → new ≡ (if list_any test old then old else old ++ end ∷ []) → ((k : RunEnd Z) → test k ≡ same_end (end_of end) (end_of k))
    → AddsEnd (map end_of old) (end_of end) (map end_of new)
ends_put {Z} test end old new is agrees = by (list_any test old) refl is
  where
    by : (b : Bool) → list_any test old ≡ b → new ≡ (if b then old else old ++ end ∷ [])
        → AddsEnd (map end_of old) (end_of end) (map end_of new)
    by true there is = inl (found_there test end agrees old there, ap (map end_of) is)
    by false none is = inr (absent_there test end agrees old none, ap (map end_of) is ∙ map-append end_of old (end ∷ []))

-- ---- one key more
only_one : {X : Type 0} (x y : X) → Contains (x ∷ []) y → x ≡ y
only_one x y (zero, low, e) = e
only_one x y (suc k, low, e) = absurd (omega (arith, low))

module _ (rule : Option Kind) (inputs : List ℕ) (harts : List Hart) where
  -- whether a hart runs at a key
  abbrev runs_at : List ℕ → Bool
  runs_at key = some_run (harts_at inputs harts key)

  pub at_none : AreEndsAt rule inputs harts [] []
  at_none = record {
    all = λ key there stopped. absurd (let low = there.1 in omega (arith, low));
    each = λ end there. absurd (let low = there.1 in omega (arith, low));
    once = λ i j d low inside. absurd (omega (arith, low, inside));
  }

  widened : (keys : List (List ℕ)) (key : List ℕ) (end : EndValue) → IsEndAt rule inputs harts keys end
      → IsEndAt rule inputs harts (keys ++ key ∷ []) end
  widened keys key end e = record {
    key = e.key;
    there = Contains-append_left keys (key ∷ []) e.key e.there;
    stopped = e.stopped;
    is = e.is;
  }

  pub at_running : (keys : List (List ℕ)) (ends : List EndValue) (key : List ℕ) → runs_at key ≡ true
      → AreEndsAt rule inputs harts keys ends → AreEndsAt rule inputs harts (keys ++ key ∷ []) ends
  at_running keys ends key runs are = record {
    all = λ k there stopped. elim (Contains-append_cases keys (key ∷ []) k there) [
      | inl before ↦ are.all k before stopped
      | inr last ↦ absurd (true≢false (sym runs ∙ ap runs_at (only_one key k last) ∙ stopped))
    ];
    each = λ end there. widened keys key end (are.each end there);
    once = are.once;
  }

  at_known : (keys : List (List ℕ)) (ends : List EndValue) (key : List ℕ) → Contains ends (end_at rule inputs harts key)
      → AreEndsAt rule inputs harts keys ends → AreEndsAt rule inputs harts (keys ++ key ∷ []) ends
  at_known keys ends key known are = record {
    all = λ k there stopped. elim (Contains-append_cases keys (key ∷ []) k there) [
      | inl before ↦ are.all k before stopped
      | inr last ↦ subst (λ x. Contains ends (end_at rule inputs harts x)) (only_one key k last) known
    ];
    each = λ end there. widened keys key end (are.each end there);
    once = are.once;
  }

  at_new : (keys : List (List ℕ)) (ends : List EndValue) (key : List ℕ) → runs_at key ≡ false
      → (Contains ends (end_at rule inputs harts key) → ⊥) → AreEndsAt rule inputs harts keys ends
      → AreEndsAt rule inputs harts (keys ++ key ∷ []) (ends ++ end_at rule inputs harts key ∷ [])
  at_new keys ends key stops unknown are =
      let new = end_at rule inputs harts key in
      record {
        all = λ k there stopped. elim (Contains-append_cases keys (key ∷ []) k there) [
          | inl before ↦ Contains-append_left ends (new ∷ []) (end_at rule inputs harts k) (are.all k before stopped)
          | inr last ↦ subst (λ x. Contains (ends ++ new ∷ []) (end_at rule inputs harts x)) (only_one key k last)
              (Contains-append_right ends (new ∷ []) new (0, omega arith, refl))
        ];
        each = λ end there. elim (Contains-append_cases ends (new ∷ []) end there) [
          | inl before ↦ widened keys key end (are.each end before)
          | inr last ↦ record {
            key = key;
            there = Contains-append_right keys (key ∷ []) key (0, omega arith, refl);
            stopped = stops;
            is = only_one new end last;
          }
        ];
        once = all_pairs_push (λ (a : EndValue) (b : EndValue). a ≢ b) ends new are.once
            (λ k d below same. unknown (subst (Contains ends) same (Contains-get_or ends k d below)));
      }

  pub at_stopped : (keys : List (List ℕ)) (ends more : List EndValue) (key : List ℕ) → runs_at key ≡ false
      → AddsEnd ends (end_at rule inputs harts key) more → AreEndsAt rule inputs harts keys ends
      → AreEndsAt rule inputs harts (keys ++ key ∷ []) more
  at_stopped keys ends more key stops added are = elim added [
    | inl old ↦ subst (AreEndsAt rule inputs harts (keys ++ key ∷ [])) (sym old.1) (at_known keys ends key old.0 are)
    | inr new ↦ subst (AreEndsAt rule inputs harts (keys ++ key ∷ [])) (sym new.1) (at_new keys ends key stops new.0 are)
  ]
