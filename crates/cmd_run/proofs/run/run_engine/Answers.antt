use Rattle.std.proofs.Common.{arith}
use Rattle.cmd_run.proofs.EnoughLemmas.{known_enough}
use Rattle.cmd_run.proofs.RunLemmas.{known_kept}
use Rattle.cmd_run.proofs.run.run_engine.Goals as goal

pub returns-in-Ok-run_text-clause-certified : goal.returns-in-Ok-run_text-clause-certified
returns-in-Ok-run_text-clause-certified g c =
    let few = c.in-Ok.ensures.inputs.1.1 in
    known_kept c.args.form c.args.inputs.now c.args.expect _ _ c.see_words.ensures (omega (arith, few))

pub returns-in-Err-clause-enough : goal.returns-in-Err-clause-enough
returns-in-Err-clause-enough g c = known_enough c.args.form c.args.inputs.now c.args.expect _ _ c.see_words.ensures

pub returns-in-Ok-run_text-clause-enough : goal.returns-in-Ok-run_text-clause-enough
returns-in-Ok-run_text-clause-enough g c =
    known_enough c.args.form c.args.inputs.now c.args.expect _ _ c.see_words.ensures

pub returns-clause-enough : goal.returns-clause-enough
returns-clause-enough g c = known_enough c.args.form c.args.inputs.now c.args.expect _ _ c.see_words.ensures
