use Rattle.sched_draw.proofs.RefusalLemmas.{each-word, each-choices}
use Rattle.sched_draw.proofs.laws.one_in_1_refuses_each.Goals as goal

pub returns : goal.returns
returns c = record {
  words = λ refusals word each. each-word refusals word each;
  choices = λ refusals harts steps seed each. each-choices refusals harts steps seed each;
}
