use Rattle.std.proofs.Common.{not, ◌&&◌, map, sym, arith}
use Rattle.hart_step.specs.Hart.{hart_of}
use Rattle.object_library.specs.Rules.{is_faulted}
use Rattle.object_library.specs.Judging.{adopts_or_commits, are_alike}
use Rattle.object_library.proofs.JudgeLemmas.{passes_all}
use Rattle.object_library.proofs.judging.is_adopt_commit.Goals as goal

pub returns : goal.returns
returns c =
    sym (passes_all (λ h. not (is_faulted h.state) && adopts_or_commits (are_alike c.args.inputs.now c.args.choices.now) c.args.inputs.now c.args.choices.now (map hart_of c.args.harts.now) h)
    c.args.harts.now c.harts.hart-index (omega (arith, c.harts-test.false)) c.harts.invariant)
