use Rattle.std.proofs.Math.Path.{fun_ext}
use Rattle.hart_reservations.specs.Limit.{most_harts}
use Rattle.sched_run.proofs.ChosenLemmas.{no_mark}
use Rattle.sched_run.proofs.chosen.Chosen.new.Goals as goal

pub returns : goal.returns
returns c = fun_ext (λ k. no_mark most_harts k)
