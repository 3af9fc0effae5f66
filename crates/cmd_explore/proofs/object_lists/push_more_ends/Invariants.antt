use Rattle.std.proofs.Common.{◌≡◌, ◌++◌, drop, map}
use Rattle.explore_space.specs.Ends.{end_of}
use Rattle.trace_text.specs.Composites.{more_elements}
use Rattle.cmd_explore.specs.Objects.{end_object}
use Rattle.cmd_explore.proofs.object_lists.push_more_ends.Given as goal

-- the text so far, and then the ends that are left
abbrev pub invariant-ends : goal.invariant-ends
invariant-ends g l = l.out.items ++ more_elements (map end_object (map end_of (drop l.end-index l.ends)))
    ≡ l.initial.out.items ++ more_elements (map end_object (map end_of l.ends))
