use Rattle.std.proofs.Common.{◌≡◌, ◌++◌, drop, map}
use Rattle.trace_text.specs.Composites.{more_elements}
use Rattle.cmd_info.specs.Facts.{segment_object}
use Rattle.cmd_info.proofs.members.push_more_segments.Given as goal

-- the text so far, and then the segments that are left
abbrev pub invariant-segments : goal.invariant-segments
invariant-segments g l = l.out.items ++ more_elements (map segment_object (drop l.segment-index l.segments))
    ≡ l.initial.out.items ++ more_elements (map segment_object l.segments)
