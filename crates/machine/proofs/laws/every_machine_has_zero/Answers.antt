use Rattle.machine.proofs.RunLaws.{made-zero}
use Rattle.machine.proofs.laws.every_machine_has_zero.Goals as goal

pub returns : goal.returns
returns g c = made-zero c.args.machine.now.harts.items
