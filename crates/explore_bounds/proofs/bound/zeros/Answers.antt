use Rattle.std.proofs.Common.{◌≡◌, ℕ, ◌+◌, List, [], ◌∷◌, ◌++◌, Some, ap, sym, ◌∙◌, length, inl, inr}
use Rattle.std.specs.List.{slice_get}
use Rattle.std.proofs.lemmas.List.{length-append}
use Rattle.explore_table.proofs.ListLemmas.{get_either}
use Rattle.explore_bounds.proofs.bound.zeros.Goals as goal

none_more : (numbers more : List ℕ) → more ≡ numbers ++ 0 ∷ [] → ((k n : ℕ) → slice_get numbers k ≡ Some n → n ≡ 0)
    → (k n : ℕ) → slice_get more k ≡ Some n → n ≡ 0
none_more numbers more pushed none k n e = elim (get_either numbers 0 n k (ap (λ ns. slice_get ns k) (sym pushed) ∙ e)) [
  | inl old ↦ none k n old
  | inr last ↦ sym last.1
]

pub zeros-preserved : goal.zeros-preserved
zeros-preserved g c = record {
  count = ap length c.in_ok-push.ensures.items ∙ length-append c.zeros.numbers.items (0 ∷ []) ∙ ap (λ n. n + 1) c.zeros.invariant.count;
  none = none_more c.zeros.numbers.items c.push.new.self.items c.in_ok-push.ensures.items c.zeros.invariant.none;
}
