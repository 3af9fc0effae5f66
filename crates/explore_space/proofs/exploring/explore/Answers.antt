use Rattle.std.proofs.Common.{◌∙◌, ap}
use Rattle.explore_space.specs.Every.{meant_choices}
use Rattle.explore_space.proofs.exploring.explore.Goals as goal

pub answer_by_guess-requires-clause-meant : goal.answer_by_guess-requires-clause-meant
answer_by_guess-requires-clause-meant g c =
    c.deref.ensures.value ∙ c.in_ok-meant.ensures ∙ ap (meant_choices c.args.question.refusals) c.harts.ensures.harts
