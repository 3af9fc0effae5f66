use Rattle.std.proofs.Common.{◌≡◌, ℕ, ◌<◌, List, Some, length}
use Rattle.std.specs.List.{slice_get}
use Rattle.explore_search.proofs.marking.mark_ended.Given as goal

-- the keys before this one have their marks
abbrev pub invariant-keys : goal.invariant-keys
invariant-keys g l = record {
  count : length l.marks.items ≡ l.number;
  marks : (k : ℕ) (key : List ℕ) → k < l.number → slice_get l.seen.keys k ≡ Some key
      → slice_get l.marks.items k ≡ Some (g.S.Space.ended l.space (g.S.Space.place l.space key));
}
