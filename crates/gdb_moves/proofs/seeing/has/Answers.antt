use Rattle.std.proofs.Common.{◌∙◌}
use Rattle.debug_session.proofs.StopLemmas.{contains-has}
use Rattle.gdb_moves.proofs.seeing.has.Goals as goal

pub returns : goal.returns
returns g c = c.contains.ensures ∙ contains-has c.args.addresses.now.keys c.args.address
