use Rattle.std.proofs.Common.{rules}
use Rattle.gdb_frames.proofs.WritingLemmas.{written_more, written_all}
use Rattle.gdb_frames.proofs.writing.push_escaped.Goals as goal

pub bytes-preserved : goal.bytes-preserved
bytes-preserved g c =
    written_more c.bytes.out.items c.push_escape.new.out.items c.args.text.now _ c.bytes.byte-index c.bytes-test.true
    c.in_ok-push_escape.ensures c.bytes.invariant

pub returns : goal.returns
returns g c = written_all c.bytes.out.items c.args.text.now _ c.bytes.byte-index (search rules) c.bytes.invariant
