use Rattle.std.proofs.Common.{◌≡◌, length}
use Rattle.gdb_requests.specs.Bytes.{paired_bytes}
use Rattle.gdb_requests.proofs.ListLemmas.{front_and}
use Rattle.gdb_requests.proofs.bytes.read_bytes.Given as goal

-- the bytes so far, and those that are left
abbrev pub invariant-pairs : goal.invariant-pairs
invariant-pairs g l = front_and l.bytes.items (paired_bytes l.rest) ≡ paired_bytes l.text

abbrev pub decreases-pairs : goal.decreases-pairs
decreases-pairs g l = length l.rest
