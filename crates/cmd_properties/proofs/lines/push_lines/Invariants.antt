use Rattle.std.proofs.Common.{◌≡◌, ◌++◌, string_bytes, drop}
use Rattle.cmd_properties.specs.Lines.{judged_lines}
use Rattle.cmd_properties.proofs.lines.push_lines.Given as goal

-- the text so far, and then the lines of the properties that are left
abbrev pub invariant-properties : goal.invariant-properties
invariant-properties g l = string_bytes l.text ++ judged_lines (drop l.each-index l.judged)
    ≡ string_bytes l.initial.text ++ judged_lines l.judged
