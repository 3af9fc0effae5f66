use Rattle.std.proofs.Common.{rules}
use Rattle.cmd_asm.proofs.OwnLemmas.{lines_are_own}
use Rattle.cmd_asm.proofs.assembling.listing_engine.Goals as goal

pub returns-in-Ok-write_all-clause-own : goal.returns-in-Ok-write_all-clause-own
returns-in-Ok-write_all-clause-own g c =
    lines_are_own _ c.in-Ok.program (g.K.Sink.held c.args.sink.now) (g.K.Sink.held c.write_all.new.sink) c.in-Ok.ensures.ok (search rules)
