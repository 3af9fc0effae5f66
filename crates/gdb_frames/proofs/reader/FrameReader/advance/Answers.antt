use Rattle.std.proofs.Common.{rules, sym, ◌∙◌}
use Rattle.gdb_frames.proofs.ReadingLemmas.{advance_more, none_of}
use Rattle.gdb_frames.proofs.reader.FrameReader.advance.Goals as goal

pub returns-then-is_some-clause-read : goal.returns-then-is_some-clause-read
returns-then-is_some-clause-read g c =
    advance_more c.args.self.now c.bytes.self c.read.new.self c.args.bytes.now c.bytes.index _ c.in-Ok.found
    c.bytes.invariant c.bytes-test.true (search rules) c.in-Ok.ensures.found c.in-Ok.ensures.next

pub bytes-preserved : goal.bytes-preserved
bytes-preserved g c =
    advance_more c.args.self.now c.bytes.self c.read.new.self c.args.bytes.now c.bytes.index _ _
    c.bytes.invariant c.bytes-test.true (search rules)
    (sym (none_of c.in-Ok.found (search rules)) ∙ c.in-Ok.ensures.found) c.in-Ok.ensures.next
