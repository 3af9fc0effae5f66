use Rattle.std.proofs.Common.{sym, arith}
use Rattle.hart_step.specs.Hart.{hart_of}
use Rattle.object_library.specs.Judging.{agrees}
use Rattle.object_library.proofs.JudgeLemmas.{passes_all}
use Rattle.object_library.proofs.judging.all_agree.Goals as goal

pub returns : goal.returns
returns c =
    sym (passes_all (agrees (hart_of c.args.hart.now))
    c.args.harts.now c.others.other-index (omega (arith, c.others-test.false)) c.others.invariant)
