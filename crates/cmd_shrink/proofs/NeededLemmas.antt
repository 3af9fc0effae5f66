-- What is known of a choice once the list without it, and without its mark, was tried.
use Rattle.std.proofs.Common.{◌≡◌, ℕ, ◌+◌, ◌<◌, true, false, List, length, get_or, subst, sym, ap, ◌∙◌, ◌⊎◌, inl, inr, arith}
use Rattle.std.proofs.lemmas.Bool.{cases_eq}
use Rattle.std.proofs.lemmas.Option.{get_or_from_slice_get}
use Rattle.machine.specs.declared.choice.Choice.{Choice}
use Rattle.cmd_shrink.specs.Edits.{left_out, marks_taken}
use Rattle.cmd_shrink.specs.Minimal.{Lessens, IsNeeded}
use Rattle.cmd_shrink.specs.declared.edits.Edit.TheVariants as edits
use Rattle.cmd_shrink.proofs.LessLemmas.{less_edited}
use Rattle.cmd_shrink.proofs.WeightLemmas.{lighter_left_out, lighter_marks_taken}

module _ (Fails : List Choice → Type 0) (k : ℕ) (given tested : List Choice) where
  -- the list without a choice fails
  pub choice_goes : (list : List Choice) → k < length given → list ≡ left_out k (k + 1) given → tested ≡ list → Fails tested
      → Lessens Fails list given
  choice_goes list there is same fails = record {
    less = less_edited edits.LeaveOut k (k + 1) list given is (omega arith);
    fails = subst Fails same fails;
    lighter = lighter_left_out k list given there is;
  }

  -- the list without a mark fails
  pub mark_goes : (d : Choice) (list : List Choice) → k < length given → (get_or given k d).refuse ≡ true
      → list ≡ marks_taken k (k + 1) given → tested ≡ list → Fails tested → Lessens Fails list given
  mark_goes d list there marked is same fails = record {
    less = less_edited edits.TakeMarks k (k + 1) list given is (omega arith);
    fails = subst Fails same fails;
    lighter = lighter_marks_taken k d list given there marked is;
  }

  -- the list without a choice that has no mark doesn't fail
  pub unmarked_needed : (d : Choice) (list : List Choice) → (get_or given k d).refuse ≡ false → list ≡ left_out k (k + 1) given
      → tested ≡ list → (Fails tested → ⊥) → IsNeeded Fails k given
  unmarked_needed d list unmarked is same passes = record {
    choice = λ fails. passes (subst Fails (sym (same ∙ is)) fails);
    mark = λ c here marked.
        let at : get_or given k d ≡ c = get_or_from_slice_get given k c d here in
        let e = sym unmarked ∙ ap (λ (x : Choice). x.refuse) at ∙ marked in
        λ fails. absurd (cc);
  }

-- one choice more is needed
pub needed_more : (Fails : List Choice → Type 0) (n : ℕ) (given : List Choice) → ((k : ℕ) → k < n → IsNeeded Fails k given)
    → IsNeeded Fails n given → (k : ℕ) → k < n + 1 → IsNeeded Fails k given
needed_more Fails n given before here k below = by (split k n)
  where
    split : (k n : ℕ) → (k ≡ n) ⊎ ((k ≡ n) → ⊥)
    split k n = cases_eq k n

    by : (k ≡ n) ⊎ ((k ≡ n) → ⊥) → IsNeeded Fails k given
    by (inl e) = subst (λ m. IsNeeded Fails m given) (sym e) here
    by (inr ne) = before k (omega (arith, below, ne))
