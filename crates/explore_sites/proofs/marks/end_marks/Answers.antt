use Rattle.std.proofs.Math.Path.{fun_ext}
use Rattle.explore_sites.proofs.marks.end_marks.Goals as goal

pub returns-clause-ended : goal.returns-clause-ended
returns-clause-ended c = fun_ext c.end_each.ensures.ended
