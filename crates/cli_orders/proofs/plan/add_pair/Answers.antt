use Rattle.std.proofs.Common.{ap, ◌∙◌}
use Rattle.cli_orders.specs.Plan.{has_pair}
use Rattle.cli_orders.proofs.PlanLemmas.{inserted}
use Rattle.cli_orders.proofs.plan.add_pair.Goals as goal

pub returns : goal.returns
returns g c = λ h n. ap (λ keys. has_pair keys h n) c.in-Ok.ensures.keys ∙ inserted c.args.plan.now.keys c.args.pair h n
