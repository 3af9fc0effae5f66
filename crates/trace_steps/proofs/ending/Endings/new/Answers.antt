use Rattle.std.proofs.Math.Path.{fun_ext}
use Rattle.hart_reservations.specs.Limit.{most_harts}
use Rattle.trace_steps.proofs.EndLemmas.{none_ended}
use Rattle.trace_steps.proofs.ending.Endings.new.Goals as goal

pub returns : goal.returns
returns c = fun_ext (λ k. none_ended most_harts k)
