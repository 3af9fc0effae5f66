use Rattle.std.proofs.Common.{◌≡◌, ◌++◌, string_bytes, drop}
use Rattle.cmd_explore.specs.BoundLines.{bound_lines}
use Rattle.cmd_explore.proofs.bound_lines.push_bounds.Given as goal

-- the text so far, and then the lines of the harts that are left
abbrev pub invariant-loop-hart : goal.invariant-loop-hart
invariant-loop-hart g l = string_bytes l.text ++ bound_lines l.hart (drop l.hart l.bounds)
    ≡ string_bytes l.initial.text ++ bound_lines 0 l.bounds
