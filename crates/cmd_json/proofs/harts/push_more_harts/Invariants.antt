use Rattle.std.proofs.Common.{◌≡◌, ◌++◌, ◌+◌, drop, map}
use Rattle.hart_step.specs.Hart.{hart_of}
use Rattle.trace_text.specs.Composites.{more_elements}
use Rattle.cmd_json.specs.Harts.{ended_objects}
use Rattle.cmd_json.proofs.harts.push_more_harts.Given as goal

-- the text so far, and then the harts that are left
abbrev pub invariant-loop-place : goal.invariant-loop-place
invariant-loop-place g l = l.out.items ++ more_elements (ended_objects (l.place + 1) (map hart_of (drop l.place l.harts)))
    ≡ l.initial.out.items ++ more_elements (ended_objects 1 (map hart_of l.harts))
