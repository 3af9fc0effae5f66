use Rattle.std.proofs.Common.{ap, refl, sym}
use Rattle.std.proofs.lemmas.Result.{IfOk-weaker}
use Rattle.hart_reservations.specs.Marks.{mark_at}
use Rattle.explore_sites.specs.Cells.{words_shown}
use Rattle.explore_space.specs.Habits.{habits_of}
use Rattle.explore_space.proofs.MemoLemmas.{turns_moved}
use Rattle.explore_space.proofs.turning.steps_from.Goals as goal

pub returns : goal.returns
returns g c =
    IfOk-weaker c.turn_site.result _ _
    (λ steps turns.
    (turns_moved (habits_of c.args.code.now) c.args.image.now c.args.turn _ _ _ _ _ _ _ _ _ _ _ _ steps turns refl refl
    (ap (words_shown c.args.image.now) (sym c.in_ok-here.ensures.cells)) refl (ap mark_at (sym c.in_ok-here.ensures.marks)) refl).counts)
    c.turn_site.ensures.turns
