use Rattle.std.proofs.Common.{◌∙◌, Ok, Err}
use Rattle.mem_store.specs.Image.{image_memory}
use Rattle.hart_step.specs.Hart.{hart_of}
use Rattle.bank_step.proofs.StepLemmas.{plan_is}
use Rattle.bank_step.proofs.steps.planned_touch.Goals as goal

pub returns-in-Ok-clause-plan : goal.returns-in-Ok-clause-plan
returns-in-Ok-clause-plan g c = λ c' code. c.touch_by.ensures.touch ∙ rw (c.access_by.ensures) (plan_is (image_memory c.args.image.now) (hart_of c.args.hart.now) c' c.args.code (Ok c.in-Ok.instr) c.in-Running.is code c.in-Ok.ensures)

pub returns-in-Err-clause-plan : goal.returns-in-Err-clause-plan
returns-in-Err-clause-plan g c = λ c' code. plan_is (image_memory c.args.image.now) (hart_of c.args.hart.now) c' c.args.code (Err c.in-Err.field-0) c.in-Running.is code c.in-Err.ensures
