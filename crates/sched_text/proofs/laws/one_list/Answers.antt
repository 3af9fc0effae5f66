use Rattle.std.proofs.Common.{sym, ◌∙◌}
use Rattle.sched_text.proofs.Agreement.{choices_of-spelled}
use Rattle.sched_text.proofs.laws.one_list.Goals as goal

pub returns : goal.returns
returns c = λ harts text one other few first second.
    let e = sym (choices_of-spelled harts text one few first) ∙ choices_of-spelled harts text other few second in cc
