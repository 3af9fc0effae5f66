use Rattle.std.proofs.Common.{◌≡◌, ◌++◌, string_bytes, drop}
use Rattle.std.specs.List.{flat_map}
use Rattle.cmd_explore.proofs.end_lines.joined.Given as goal

-- the text so far, and the lines that are left
abbrev pub invariant-lines : goal.invariant-lines
invariant-lines g l = string_bytes l.text ++ flat_map string_bytes (drop l.line-index l.lines) ≡ flat_map string_bytes l.lines
