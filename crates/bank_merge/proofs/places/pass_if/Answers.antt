use Rattle.std.proofs.Common.{Option, sym, subst}
use Rattle.std.specs.Prelude.{option_to_list}
use Rattle.bank_laws.specs.declared.access.LoggedAccess.{LoggedAccess}
use Rattle.bank_merge.specs.AccessOrder.{bank_logs, Passes}
use Rattle.bank_merge.proofs.places.pass_if.Goals as goal

pub returns-in-Some : goal.returns-in-Some
returns-in-Some g c =
    subst (λ (o : Option LoggedAccess). Passes (bank_logs c.args.banks.now) c.args.hart c.args.places.now c.pass.new.places (option_to_list o) c.pass.result) (sym c.in-Some.is) c.pass.ensures
