use Rattle.std.proofs.Common.{ap, ℕ}
use Rattle.hart_step.specs.Hart.{HartValue, Registers}
use Rattle.hart_step.specs.declared.hart.HartState.TheVariants.{Running}
use Rattle.machine.proofs.StartLemmas.{registers_of-first}
use Rattle.bank_hart_log.proofs.first.first_hart.Goals as goal

running : ℕ → Registers → HartValue
running entry x = record { registers = x; pc = entry; state = Running }

pub returns : goal.returns
unfolding running
returns c = ap (running c.args.entry) (registers_of-first c.args.number c.args.input c.args.harts)
