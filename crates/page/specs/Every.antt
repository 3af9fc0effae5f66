-- The question about every schedule that the numbers of a call ask.
use Rattle.std.specs.Prelude.{◌≡◌, ◌⊎◌, Option, Some, None}
use Rattle.explore_space.specs.declared.question.Question.{Question}
use Rattle.page.specs.Asked.{bounds_numbered, expect_numbered, refusals_numbered}
use Rattle.page.specs.declared.every.AskedEvery.{AskedEvery}

-- the question that is asked, or that there is none: a number is one of nothing
abbrev pub AsksEvery : AskedEvery → Option Question → Type 0
AsksEvery asked (Some question) = (question.most ≡ asked.most)
    × (expect_numbered asked.rule asked.exit ≡ Some question.expect)
    × (bounds_numbered asked.bounds ≡ Some question.bounds)
    × (refusals_numbered asked.refusals ≡ Some question.refusals)
    × (question.always ≡ None) × (question.never_both ≡ None)
AsksEvery asked None = (expect_numbered asked.rule asked.exit ≡ None)
    ⊎ ((bounds_numbered asked.bounds ≡ None) ⊎ (refusals_numbered asked.refusals ≡ None))
