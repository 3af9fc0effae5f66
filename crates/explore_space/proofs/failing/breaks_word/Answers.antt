use Rattle.std.proofs.Common.{◌∙◌, ap, not}
use Rattle.property_judge.specs.Property.{compares, holds_in}
use Rattle.explore_space.proofs.failing.breaks_word.Goals as goal

pub returns : goal.returns
unfolding holds_in
returns g c = λ w rights shows.
    ap not (c.compares.ensures ∙ ap (λ v. compares c.args.always.comparison v c.args.always.number)
    (c.word_read-value.ensures w.memory rights shows))
