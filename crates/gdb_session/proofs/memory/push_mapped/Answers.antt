use Rattle.std.proofs.Common.{rules, ◌≡◌, ◌+◌, ◌<◌, ◌≤◌, ◌++◌, Some, None}
use Rattle.gdb_frames.specs.Frames.{two_digits}
use Rattle.gdb_replies.proofs.FrontLemmas.{still_begins}
use Rattle.gdb_session.specs.Memory.{byte_seen}
use Rattle.gdb_session.proofs.MemoryLemmas.{next_byte, none_mapped, all_bytes}
use Rattle.gdb_session.proofs.memory.push_mapped.Goals as goal

pub returns-in_default-clause-ok : goal.returns-in_default-clause-ok
returns-in_default-clause-ok g c =
    let m = g.S.Store.memory c.args.store.now in
    let a = c.args.address in
    let o = c.bytes.offset in
    let left : o < c.args.count = search rules in
    let none : byte_seen m (a + o) ≡ None = search rules in
    none_mapped m _ _ a o c.args.count left none c.bytes.invariant.text

pub bytes-preserved : goal.bytes-preserved
bytes-preserved g c =
    let m = g.S.Store.memory c.args.store.now in
    let a = c.args.address in
    let o = c.bytes.offset in
    let before = c.bytes.out.items in
    let longer = c.push_byte.new.out.items in
    let byte = c.in-Some.byte in
    let left : o < c.args.count = search rules in
    let is : byte_seen m (a + o) ≡ Some byte = search rules in
    let is_longer : longer ≡ before ++ two_digits byte = search rules in
    let n = c.args.count in
    record {
      text = next_byte m before longer _ a o n byte left is is_longer c.bytes.invariant.text;
      kept = still_begins _ before longer (two_digits byte) c.bytes.invariant.kept is_longer;
    }

pub returns-clause-ok : goal.returns-clause-ok
returns-clause-ok g c =
    let m = g.S.Store.memory c.args.store.now in
    let o = c.bytes.offset in
    let none : c.args.count ≤ o = search rules in
    all_bytes m _ _ (c.args.address + o) o c.args.count none c.bytes.invariant.text
