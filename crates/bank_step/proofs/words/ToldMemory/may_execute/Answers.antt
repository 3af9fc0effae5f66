use Rattle.mem_store.specs.Image.{image_memory}
use Rattle.bank_step.proofs.RightsLemmas.{execute_same}
use Rattle.bank_step.proofs.words.ToldMemory.may_execute.Goals as goal

pub returns : goal.returns
returns g c = rw (c.is_executable.ensures, c.segments.ensures.value) (execute_same (image_memory c.args.self.now.image.now) c.args.self.now.code c.args.self.now.touched c.args.self.now.target 4 c.args.address)
