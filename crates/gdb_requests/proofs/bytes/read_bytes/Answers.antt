use Rattle.std.proofs.Common.{rules, sym}
use Rattle.gdb_requests.proofs.ListLemmas.{byte_bad, byte_end, byte_more}
use Rattle.gdb_requests.proofs.bytes.read_bytes.Goals as goal

pub returns-in_default-clause-bad : goal.returns-in_default-clause-bad
returns-in_default-clause-bad g c = λ no_memory.
    byte_bad c.pairs.bytes.items c.pairs.rest.now c.args.text.now (search rules) (sym c.in_default.ensures) c.pairs.invariant

pub pairs-preserved : goal.pairs-preserved
pairs-preserved g c =
    byte_more c.pairs.bytes.items c.push.new.self.items c.pairs.rest.now c.behind_first-rest.result.now c.args.text.now
    c.in-Some.byte (sym c.in-Some.ensures) (search rules) c.in-Ok.ensures.items c.pairs.invariant

pub returns-clause-ok : goal.returns-clause-ok
returns-clause-ok g c = byte_end c.pairs.bytes.items c.pairs.rest.now c.args.text.now (search rules) c.pairs.invariant
