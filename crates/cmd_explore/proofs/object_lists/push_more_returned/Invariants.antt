use Rattle.std.proofs.Common.{◌≡◌, ◌++◌, drop, map}
use Rattle.trace_text.specs.Composites.{more_elements}
use Rattle.cmd_explore.specs.Objects.{returned_object}
use Rattle.cmd_explore.proofs.object_lists.push_more_returned.Given as goal

-- the text so far, and then those that are left
abbrev pub invariant-harts : goal.invariant-harts
invariant-harts g l = l.out.items ++ more_elements (map returned_object (drop l.one-index l.returned))
    ≡ l.initial.out.items ++ more_elements (map returned_object l.returned)
