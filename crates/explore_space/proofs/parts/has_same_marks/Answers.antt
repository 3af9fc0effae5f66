use Rattle.std.proofs.lemmas.Slice.Eq.{slice_eq-Decides}
use Rattle.explore_space.proofs.SameLemmas.{same_marks, mark_decides}
use Rattle.explore_space.proofs.parts.has_same_marks.Goals as goal

pub returns-clause-same : goal.returns-clause-same
returns-clause-same c =
    (same_marks c.eq.result c.args.ones.now c.args.others.now c.requires (slice_eq-Decides mark_decides _ _ _ c.eq.ensures)).0

pub returns-clause-other : goal.returns-clause-other
returns-clause-other c =
    (same_marks c.eq.result c.args.ones.now c.args.others.now c.requires (slice_eq-Decides mark_decides _ _ _ c.eq.ensures)).1
