use Rattle.sched_draw.proofs.RefusalLemmas.{usual-word, usual-choices}
use Rattle.sched_draw.specs.Schedules.{drawn_choices}
use Rattle.sched_draw.proofs.laws.usual_refusals.Goals as goal

pub returns : goal.returns
unfolding drawn_choices
returns c = record {
  words = λ refusals word usual. usual-word refusals word usual;
  choices = λ refusals harts steps seed usual. usual-choices refusals harts steps seed usual;
  drawn = λ points refusals world harts steps seed usual. usual-choices refusals harts steps seed usual;
}
