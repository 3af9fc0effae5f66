use Rattle.std.proofs.Common.{◌≡◌, ◌++◌, drop, map}
use Rattle.trace_text.specs.Composites.{more_elements}
use Rattle.cmd_explore.specs.Objects.{bound_value}
use Rattle.cmd_explore.proofs.object_lists.push_more_bounds.Given as goal

-- the text so far, and then those that are left
abbrev pub invariant-bounds : goal.invariant-bounds
invariant-bounds g l = l.out.items ++ more_elements (map bound_value (drop l.bound-index l.bounds))
    ≡ l.initial.out.items ++ more_elements (map bound_value l.bounds)
