use Rattle.std.proofs.Common.{◌≡◌, ◌++◌, string_bytes, drop, map}
use Rattle.hart_step.specs.Hart.{hart_of}
use Rattle.outcome.specs.Ends.{ends_of}
use Rattle.outcome.proofs.lines.lines_text.Given as goal

-- the text so far, and then the lines of the harts that are left
abbrev pub invariant-loop-number : goal.invariant-loop-number
invariant-loop-number g l = string_bytes l.text ++ ends_of l.number (map hart_of (drop l.number l.harts))
    ≡ ends_of 0 (map hart_of l.harts)
