use Rattle.gdb_session.specs.Talk.{talk_of}
use Rattle.cmd_gdb.specs.Serving.{standing_of}
use Rattle.cmd_gdb.proofs.ServerLemmas.{acknowledged, acknowledged_in_part, answered_if, cut_if, on_err}
use Rattle.cmd_gdb.proofs.server.Server.answer.Goals as goal

pub returns-in_err-send_while_acks-clause-cut : goal.returns-in_err-send_while_acks-clause-cut
returns-in_err-send_while_acks-clause-cut g c =
    let part = c.in_err-send_while_acks.ensures.cut in
    on_err c.from_residual.result
    (acknowledged_in_part (standing_of c.args.self.now) c.args.body.now part.0
    (g.K.Sink.held c.args.sink.now) (g.K.Sink.held c.send_while_acks.new.sink) part.1)

pub returns-in_default-clause-cut : goal.returns-in_default-clause-cut
returns-in_default-clause-cut g c =
    acknowledged (standing_of c.args.self.now) c.args.body.now (g.K.Sink.held c.args.sink.now)
    (g.K.Sink.held c.send_while_acks.new.sink) c.in_ok-send_while_acks.ensures.sent

pub returns-clause-sends : goal.returns-clause-sends
returns-clause-sends g c =
    answered_if (standing_of c.args.self.now) c.args.body.now c.in-Ok.answer.text.items
    c.in-Ok.answer.next (talk_of c.answer_packet.new.talk) (g.K.Sink.held c.args.sink.now)
    (g.K.Sink.held c.send_while_acks.new.sink) (g.K.Sink.held c.send_answer.new.sink)
    c.in-Ok.ensures.answers c.in_ok-send_while_acks.ensures.sent c.send_answer.result
    (standing_of c.send_answer.new.self) c.send_answer.ensures.sent c.send_answer.ensures.after

pub returns-clause-cut : goal.returns-clause-cut
returns-clause-cut g c =
    cut_if (standing_of c.args.self.now) c.args.body.now c.in-Ok.answer.text.items
    c.in-Ok.answer.next (talk_of c.answer_packet.new.talk) (g.K.Sink.held c.args.sink.now)
    (g.K.Sink.held c.send_while_acks.new.sink) (g.K.Sink.held c.send_answer.new.sink)
    c.in-Ok.ensures.answers c.in_ok-send_while_acks.ensures.sent c.send_answer.result
    c.send_answer.ensures.cut
