use Rattle.std.proofs.Common.{ℕ, ◌<◌}
use Rattle.cmd_shrink.specs.Minimal.{IsNeeded}
use Rattle.cmd_shrink.proofs.minimal.first_smaller.Given as goal

-- each choice that was tried is needed
abbrev pub invariant-choices : goal.invariant-choices
invariant-choices g l = (k : ℕ) → k < l.at → IsNeeded (g.F.Failing.fails l.test) k l.choices
