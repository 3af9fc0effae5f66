use Rattle.std.proofs.Common.{◌≡◌, ◌++◌, drop}
use Rattle.gdb_replies.specs.Digits.{bytes_text}
use Rattle.gdb_replies.specs.Fronts.{BeginsWith}
use Rattle.gdb_replies.proofs.digits.push_bytes.Given as goal

-- the text so far, and then the digits of the bytes that are left
abbrev pub invariant-bytes : goal.invariant-bytes
invariant-bytes g l = record {
  text : l.out.items ++ bytes_text (drop l.byte-index l.bytes) ≡ l.initial.out.items ++ bytes_text l.bytes;
  kept : BeginsWith l.out.items l.initial.out.items;
}
