use Rattle.std.proofs.Common.{refl}
use Rattle.cmd_trace.proofs.teller.Teller.next.Goals as goal

pub returns-in_default : goal.returns-in_default
returns-in_default g c left has = let t = c.in_default.ensures.takes left has in (t.0, refl, t.1)

pub returns : goal.returns
returns g c left has =
    let t = c.in-Some.ensures.takes left has in (c.in-Some.choice, t.0, t.1, c.in-Ok.ensures.explained, c.in-Ok.ensures.followed, t.2)
