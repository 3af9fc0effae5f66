use Rattle.std.proofs.Common.{◌≡◌, ◌+◌, ◌-◌, ◌++◌}
use Rattle.gdb_replies.specs.Digits.{bytes_text}
use Rattle.gdb_replies.specs.Fronts.{BeginsWith}
use Rattle.gdb_session.specs.Memory.{mapped_bytes}
use Rattle.gdb_session.proofs.memory.push_mapped.Given as goal

-- the text so far, and then the bytes that are left
abbrev pub invariant-bytes : goal.invariant-bytes
invariant-bytes g l =
    let m = g.S.Store.memory l.store in
    let left = mapped_bytes m (l.address + l.offset) (l.count - l.offset) in
    record {
      text : l.out.items ++ bytes_text left
          ≡ l.initial.out.items ++ bytes_text (mapped_bytes m l.address l.count);
      kept : BeginsWith l.out.items l.initial.out.items;
    }
