use Rattle.std.proofs.Common.{◌≡◌, ◌≤◌, length}
use Rattle.explore_search.specs.Edges.{AreEdges}
use Rattle.explore_search.specs.Rows.{CountsRows}
use Rattle.explore_search.specs.Searched.{AreReached, AreDone, AreRising, AreSoon}
use Rattle.explore_search.proofs.searching.search.Given as goal

-- what follows the places before this one is seen
abbrev pub invariant-places : goal.invariant-places
invariant-places g l = record {
  reached : AreReached (g.S.Space.is_key l.space) (g.S.Space.place l.space) (g.S.Space.first l.space) l.choices
      l.seen.keys l.seen.links.items;
  done : AreDone (g.S.Space.place l.space) (g.S.Space.bad l.space) l.choices l.seen.keys l.from;
  rising : AreRising l.seen.links.items l.from;
  soon : AreSoon (g.S.Space.place l.space) l.choices l.seen.keys l.seen.links.items l.from;
  first : g.S.Space.first l.space ≡ g.S.Space.first l.fn.space;
  bad : g.S.Space.bad l.space ≡ g.S.Space.bad l.fn.space;
  within : l.from ≤ length l.seen.keys;
  edges : AreEdges (g.S.Space.place l.space) l.choices l.seen.keys l.seen.rows;
  count : CountsRows l.edges l.from l.seen.rows;
}
