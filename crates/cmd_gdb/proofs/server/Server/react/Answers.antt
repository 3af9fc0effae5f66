use Rattle.std.proofs.Common.{refl, Some, [], take, subst}
use Rattle.std.specs.Io.KnownBytes.{Appends}
use Rattle.gdb_frames.specs.Items.{FrameItem}
use Rattle.cmd_gdb.specs.Serving.{complaint, standing_of, while_acks}
use Rattle.cmd_gdb.proofs.ServerLemmas.{cut_off, on_err}
use Rattle.cmd_gdb.proofs.server.Server.react.Goals as goal

pub returns-in_err-complain-in-BadPacket-clause-cut :
    goal.returns-in_err-complain-in-BadPacket-clause-cut
returns-in_err-complain-in-BadPacket-clause-cut g c =
    let s = standing_of c.args.self.now in
    let part = c.in_err-complain-in-BadPacket.ensures.cut in
    rw c.in-BadPacket.is (on_err c.from_residual.result
    (cut_off s FrameItem.spoiled (complaint s.talk) (Some s) part.0 (g.K.Sink.held c.args.sink.now)
    (g.K.Sink.held c.complain.new.sink) (refl, refl) part.1))

pub returns-in_err-send_while_acks-in-Again-clause-cut :
    goal.returns-in_err-send_while_acks-in-Again-clause-cut
returns-in_err-send_while_acks-in-Again-clause-cut g c =
    let s = standing_of c.args.self.now in
    let k0 = g.K.Sink.held c.args.sink.now in
    let k1 = g.K.Sink.held c.send_while_acks.new.sink in
    let part = c.in_err-send_while_acks-in-Again.ensures.cut in
    rw c.in-Again.is (on_err c.from_residual-in_err-send_while_acks-in-Again.result
    (cut_off s FrameItem.again (while_acks s.talk s.last []) (Some s) part.0 k0 k1 (refl, refl)
    (subst (λ bytes. Appends k0 k1 (take part.0 (while_acks s.talk bytes [])))
    c.deref.ensures.value part.1)))
