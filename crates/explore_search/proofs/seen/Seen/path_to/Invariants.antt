use Rattle.std.proofs.Common.{◌≡◌, ℕ, List, reverse, ◌<◌, Some, length}
use Rattle.std.specs.List.{All, Contains, slice_get}
use Rattle.explore_laws.specs.Places.{place_reached}
use Rattle.explore_search.proofs.NearLemmas.{CountsOn}
use Rattle.explore_search.proofs.seen.Seen.path_to.Given as goal

-- the choices so far, backwards, lead from here to the key's place
abbrev pub invariant-back : goal.invariant-back
invariant-back g l = record {
  within : l.at < length l.self.keys;
  counts : CountsOn l.self.links.items l.at l.number (length l.path.items);
  meant : All (Contains l.choices) l.path.items;
  leads : (here key : List ℕ) → slice_get l.self.keys l.at ≡ Some here → slice_get l.self.keys l.number ≡ Some key
      → place_reached (g.S.Space.place l.space here) (reverse l.path.items) ≡ g.S.Space.place l.space key;
}

abbrev pub decreases-back : goal.decreases-back
decreases-back g l = l.at
