use Rattle.std.proofs.Common.{◌≡◌, ◌⊎◌, ◌<◌, Bool, subst}
use Rattle.std.specs.Prelude.{MatchBool}
use Rattle.thread_run.specs.Total.{IsUsedUp}
use Rattle.thread_run.proofs.RunningLemmas.{not_run, outcome_of}
use Rattle.thread_run.proofs.runner.run_threads.Goals as goal

pub returns-then-allow_none : goal.returns-then-allow_none
returns-then-allow_none g c =
    let limits = c.args.limits in
    let none : (limits.budget ≡ 0) ⊎ IsUsedUp limits.total 0 =
    subst (λ (b : Bool). MatchBool b ((limits.budget ≡ 0) ⊎ IsUsedUp limits.total 0) (0 < limits.budget)) c.if-allow_none.true c.allow_none.ensures in
    record {
      ended = not_run c.args.image c.args.inputs limits.budget limits.total c.args.plan.keys c.in-Ok.book none c.in-Ok.ensures;
    }

pub returns : goal.returns
returns g c = record {
  ended = outcome_of c.args.image c.args.inputs c.args.limits.budget c.args.limits.total c.args.plan.keys c.in-Ok.book c.in_ok-book.book c.in-Ok.ensures c.in_ok-book.ensures.ended;
}
