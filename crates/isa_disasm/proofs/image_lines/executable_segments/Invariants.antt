use Rattle.std.proofs.Common.{◌≡◌, ◌++◌, map, filter, drop}
use Rattle.isa_disasm.specs.Segments.{is_executable, now_of}
use Rattle.isa_disasm.proofs.image_lines.executable_segments.Given as goal

-- those so far, and then those of the segments that are left
abbrev pub invariant-segments : goal.invariant-segments
invariant-segments g l = map now_of l.executable.items ++ filter is_executable (drop l.segment-index l.segments)
    ≡ filter is_executable l.segments
