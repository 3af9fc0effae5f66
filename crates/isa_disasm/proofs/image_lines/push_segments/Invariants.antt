use Rattle.std.proofs.Common.{◌≡◌, ◌++◌, map, drop, string_bytes}
use Rattle.std.specs.List.{flat_map}
use Rattle.isa_disasm.specs.Segments.{segment_text, now_of}
use Rattle.isa_disasm.proofs.image_lines.push_segments.Given as goal

-- the text so far, and then those of the segments that are left
abbrev pub invariant-segments : goal.invariant-segments
invariant-segments g l = string_bytes l.text ++ flat_map segment_text (map now_of (drop l.segment-index l.segments))
    ≡ string_bytes l.initial.text ++ flat_map segment_text (map now_of l.segments)
