use Rattle.std.proofs.Common.{◌≡◌, ℕ, ◌+◌, ◌<◌, Some, length}
use Rattle.std.specs.List.{slice_get}
use Rattle.machine.specs.declared.choice.Choice.{Choice}
use Rattle.explore_laws.specs.Places.{place_after}
use Rattle.explore_search.specs.Searched.{AreReached, AreDone, IsSeen, IsSoon, AreRising, AreSoon}
use Rattle.explore_search.specs.Edges.{AreEdges, Lead}
use Rattle.explore_search.specs.declared.seen.Link.{Link}
use Rattle.explore_search.proofs.searching.see_next.Given as goal

-- what the choices before this one lead to is seen
abbrev pub invariant-choices : goal.invariant-choices
invariant-choices g l = record {
  reached : AreReached (g.S.Space.is_key l.space) (g.S.Space.place l.space) (g.S.Space.first l.space) l.choices
      l.seen.keys l.seen.links.items;
  done : AreDone (g.S.Space.place l.space) (g.S.Space.bad l.space) l.choices l.seen.keys l.from;
  there : slice_get l.seen.keys l.from ≡ Some l.key;
  same : g.S.Space.place l.space l.key ≡ g.S.Space.place l.fn.space l.key;
  seen : (k : ℕ) (c : Choice) → k < l.turn → slice_get l.choices k ≡ Some c
      → IsSeen (g.S.Space.place l.space) l.seen.keys (place_after (g.S.Space.place l.space l.key) c);
  rising : AreRising l.seen.links.items l.from;
  soon : AreSoon (g.S.Space.place l.space) l.choices l.seen.keys l.seen.links.items l.from;
  step : (a : Link) → slice_get l.seen.links.items l.from ≡ Some a → l.steps ≡ a.steps + 1;
  seen_soon : (k : ℕ) (c : Choice) → k < l.turn → slice_get l.choices k ≡ Some c
      → IsSoon (g.S.Space.place l.space) l.seen.keys l.seen.links.items l.steps (place_after (g.S.Space.place l.space l.key) c);
  first : g.S.Space.first l.space ≡ g.S.Space.first l.fn.space;
  bad : g.S.Space.bad l.space ≡ g.S.Space.bad l.fn.space;
  edges : AreEdges (g.S.Space.place l.space) l.choices l.seen.keys l.seen.rows;
  rows : l.seen.rows ≡ l.fn.seen.rows;
  count : length l.row.items ≡ l.turn;
  lead : Lead (g.S.Space.place l.space) l.choices l.seen.keys (g.S.Space.place l.space l.key) l.row.items;
}
