use Rattle.sched_draw.proofs.RefusalLemmas.{never-word, never-choices}
use Rattle.sched_draw.proofs.laws.never_refuses.Goals as goal

pub returns : goal.returns
returns c = record {
  words = λ word. never-word word;
  choices = λ harts steps seed. never-choices harts steps seed;
}
