use Rattle.std.proofs.Common.{◌≡◌, ◌++◌, string_bytes, drop, map}
use Rattle.explore_space.specs.Ends.{end_of}
use Rattle.cmd_explore.specs.EndLines.{ends_line}
use Rattle.cmd_explore.proofs.end_lines.lines_of.Given as goal

-- the lines so far, and those of the ends that are left
abbrev pub invariant-ends : goal.invariant-ends
invariant-ends g l =
    map string_bytes l.lines.items ++ map ends_line (map end_of (drop l.end-index l.ends)) ≡ map ends_line (map end_of l.ends)
