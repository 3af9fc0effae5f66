use Rattle.std.proofs.Common.{◌≡◌, ◌++◌, drop, map, decimal}
use Rattle.trace_text.specs.Composites.{more_elements}
use Rattle.trace_text.proofs.array.push_more.Given as goal

-- the text so far, and then the elements that are left
abbrev pub invariant-numbers : goal.invariant-numbers
invariant-numbers g l = l.out.items ++ more_elements (map decimal (drop l.number-index l.numbers))
    ≡ l.initial.out.items ++ more_elements (map decimal l.numbers)
