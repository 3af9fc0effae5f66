use Rattle.std.proofs.Common.{◌≡◌, ◌++◌, drop, flat_map}
use Rattle.trace_text.specs.Table.{cell_byte}
use Rattle.trace_text.proofs.cell.push_text.Given as goal

-- the text so far, and then the bytes that are left
abbrev pub invariant-bytes : goal.invariant-bytes
invariant-bytes g l = l.out.items ++ flat_map cell_byte (drop l.byte-index l.text) ≡ l.initial.out.items ++ flat_map cell_byte l.text
