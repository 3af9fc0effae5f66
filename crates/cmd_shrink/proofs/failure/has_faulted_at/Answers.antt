use Rattle.cmd_shrink.proofs.FaultLemmas.{fault_there, no_fault, nobody}
use Rattle.cmd_shrink.proofs.failure.has_faulted_at.Goals as goal

pub returns-in-Some-clause-failed : goal.returns-in-Some-clause-failed
returns-in-Some-clause-failed c = λ yes.
    let found = c.in-Some.ensures.lookup in
    fault_there c.args.number c.args.cause c.args.pc c.args.harts.now c.in-Some.hart.now found.3.0 found.1
    (c.has_faulted.ensures.faulted yes)

pub returns-in-Some-clause-passed : goal.returns-in-Some-clause-passed
returns-in-Some-clause-passed c = λ fails.
    let found = c.in-Some.ensures.lookup in
    no_fault c.args.number c.args.cause c.args.pc c.args.harts.now c.in-Some.hart.now found.3.0 found.1
    (c.has_faulted.ensures.not_so fails)

pub returns-in-None-clause-passed : goal.returns-in-None-clause-passed
returns-in-None-clause-passed c = λ _.
    nobody c.args.number c.args.cause c.args.pc c.args.harts.now c.in-None.ensures.lookup.3
