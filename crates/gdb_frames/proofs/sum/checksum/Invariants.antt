use Rattle.std.proofs.Common.{◌≡◌, ◌%◌, sum, take}
use Rattle.gdb_frames.proofs.sum.checksum.Given as goal

abbrev pub invariant-bytes : goal.invariant-bytes
invariant-bytes l = l.total ≡ sum (take l.byte-index l.body) % 256
