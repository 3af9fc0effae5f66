use Rattle.std.proofs.Common.{arith}
use Rattle.cmd_trace.proofs.CursorLemmas.{taken_item, taken_none}
use Rattle.cmd_trace.proofs.cursor.Cursor.next.Goals as goal

pub returns-in_default-clause-takes : goal.returns-in_default-clause-takes
returns-in_default-clause-takes c left l = (
  taken_none c.args.self.now.harts c.args.self.now.text.now c.args.self.now.at c.args.self.now.named left (omega (arith, c.if-self-gt0.false))
      c.in_default.ensures.follows l,
  l,
)

pub returns-clause-takes : goal.returns-clause-takes
returns-clause-takes c left l =
    let t = taken_item c.args.self.now.harts c.args.self.now.text.now c.args.self.now.at c.args.self.now.named c.in-Some.named c.in-Some.end left
    (omega (arith, c.if-self-gt0.false)) c.in-Some.ensures.some c.in-Some.ensures.follows l in
    (t.0, t.1, t.2)
