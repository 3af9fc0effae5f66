use Rattle.std.proofs.Common.{Ok, ap}
use Rattle.cmd_shrink.proofs.few_switches.first_settled.Goals as goal

pub returns-clause-none : goal.returns-clause-none
returns-clause-none g c = λ is. record {
  neighbours = c.first_fewer.ensures.none is;
  up = λ i j m n are. (c.in_ok-joined.ensures.none (ap Ok c.in_default.is) i j m n are).0;
  back = λ i j m n are. (c.in_ok-joined.ensures.none (ap Ok c.in_default.is) i j m n are).1;
}
