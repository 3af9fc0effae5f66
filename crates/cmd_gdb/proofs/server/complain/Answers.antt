use Rattle.cmd_gdb.proofs.server.complain.Goals as goal

pub returns-then-talk-clause-cut : goal.returns-then-talk-clause-cut
returns-then-talk-clause-cut g c = rw c.if-talk.true c.send.ensures.cut
