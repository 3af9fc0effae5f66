use Rattle.std.proofs.Common.{◌≡◌, ℕ, ◌<◌, false, Some}
use Rattle.std.specs.List.{slice_get}
use Rattle.explore_search.proofs.marking.leads_to_marked.Given as goal

-- the edges before this one lead to no marked key
abbrev pub invariant-edges : goal.invariant-edges
invariant-edges l = (i to : ℕ) → i < l.to-index → slice_get l.row i ≡ Some to → slice_get l.marks to ≡ Some false
