use Rattle.std.proofs.Common.{◌≡◌, ◌++◌, drop}
use Rattle.gdb_frames.specs.Frames.{escaped}
use Rattle.gdb_frames.proofs.writing.push_escaped.Given as goal

-- what is written, and what is left to write
abbrev pub invariant-bytes : goal.invariant-bytes
invariant-bytes g l = l.out.items ++ escaped (drop l.byte-index l.text) ≡ l.fn.out.items ++ escaped l.text
