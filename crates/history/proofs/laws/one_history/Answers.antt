use Rattle.std.proofs.Common.{sym, ◌∙◌}
use Rattle.history.proofs.Agreement.{entries_of-spelled}
use Rattle.history.proofs.laws.one_history.Goals as goal

pub returns : goal.returns
returns c = λ harts text one other few first second.
    let e = sym (entries_of-spelled harts text one few first) ∙ entries_of-spelled harts text other few second in cc
