use Rattle.std.proofs.Common.{◌≡◌, drop}
use Rattle.gdb_moves.specs.Touches.{first_hit}
use Rattle.gdb_moves.proofs.hits.first_hit.Given as goal

-- none so far
abbrev pub invariant-watches : goal.invariant-watches
invariant-watches l =
    first_hit (drop l.watch-index l.watches) l.access l.before l.after
    ≡ first_hit l.watches l.access l.before l.after
