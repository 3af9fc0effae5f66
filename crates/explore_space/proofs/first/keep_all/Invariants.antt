use Rattle.std.proofs.Common.{◌≡◌, take}
use Rattle.explore_space.proofs.first.keep_all.Given as goal

-- those so far are kept
abbrev pub invariant-harts : goal.invariant-harts
invariant-harts g l = l.harts.parts.items ≡ take l.hart-index l.begin
