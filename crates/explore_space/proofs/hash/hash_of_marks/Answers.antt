use Rattle.std.proofs.Common.{ap, sym, ◌∙◌}
use Rattle.hart_reservations.specs.Marks.{mark_at}
use Rattle.explore_space.specs.Hashes.{hash_of_mark}
use Rattle.explore_space.proofs.HashLemmas.{marks_more, marks_none}
use Rattle.explore_space.proofs.hash.hash_of_marks.Goals as goal

pub harts-init : goal.harts-init
harts-init c = sym (marks_none c.args.start (mark_at c.args.marks.now))

pub harts-preserved : goal.harts-preserved
harts-preserved c = c.hash_of_mark-hash.ensures
    ∙ ap (λ h. hash_of_mark h c.harts.hart (mark_at c.args.marks.now c.harts.hart)) c.harts.invariant
    ∙ sym (marks_more c.args.start (mark_at c.args.marks.now) c.harts.hart)
