use Rattle.std.proofs.Math.Path.{fun_ext}
use Rattle.hart_reservations.specs.Limit.{most_harts}
use Rattle.hart_reservations.proofs.NobodyLemmas.{no_mark}
use Rattle.hart_reservations.proofs.reserve.Reserve.new.Goals as goal

pub invariant_of-result : goal.invariant_of-result
invariant_of-result c = record { covered = λ k none. no_mark most_harts k }

pub returns : goal.returns
returns c = fun_ext (λ k. no_mark most_harts k)
