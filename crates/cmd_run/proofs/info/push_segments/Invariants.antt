use Rattle.std.proofs.Common.{◌≡◌, ◌++◌, string_bytes, drop}
use Rattle.std.specs.List.{flat_map}
use Rattle.cmd_run.specs.Info.{segment_entry}
use Rattle.cmd_run.proofs.info.push_segments.Given as goal

-- the text so far, and then the lines that are left
abbrev pub invariant-segments : goal.invariant-segments
invariant-segments g l = string_bytes l.text ++ flat_map segment_entry (drop l.segment-index l.segments)
    ≡ string_bytes l.initial.text ++ flat_map segment_entry l.segments
