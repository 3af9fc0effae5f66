use Rattle.std.proofs.Common.{◌≡◌, ◌++◌, string_bytes, drop}
use Rattle.cmd_explore.specs.EndLines.{returned_words}
use Rattle.cmd_explore.proofs.end_lines.push_returned.Given as goal

-- the text so far, and then the words of the harts that are left
abbrev pub invariant-loop-number : goal.invariant-loop-number
invariant-loop-number g l = string_bytes l.line ++ returned_words l.number-counter (drop l.number-counter l.returned)
    ≡ string_bytes l.initial.line ++ returned_words 0 l.returned
