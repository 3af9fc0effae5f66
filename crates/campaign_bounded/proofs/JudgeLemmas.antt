-- Properties that are judged choice by choice.
use Rattle.std.proofs.Common.{◌≡◌, ℕ, ◌+◌, ◌<◌, Bool, true, false, List, [], ◌∷◌, ◌++◌, Option, Some, None, length, get_or, take, map, ◌∙◌, sym, refl, ap, arith}
use Rattle.std.proofs.lemmas.List.{append_assoc, append-nil, take_more, take_all}
use Rattle.machine.specs.World.{World, step}
use Rattle.machine.specs.declared.choice.Choice.{Choice}
use Rattle.property_judge.specs.Property.{holds_in}
use Rattle.property_judge.specs.Broken.{worlds}
use Rattle.property_judge.specs.Judged.{judged_at, judged_from, judged_run}
use Rattle.property_judge.proofs.RunLemmas.{JudgedSoFar}
use Rattle.property_judge.specs.declared.judged.Judged.{Judged}
use Rattle.property_judge.specs.declared.property.Property.{Property}

-- one choice more, of one property
one_choice : (k : ℕ) (w : World) (c : Choice) (choices : List Choice) (property : Property) (broken : Option ℕ) (test : Bool)
    → holds_in property w ≡ test
    → judged_from (k + 1) (step w c) choices (judged_at k w (record { property = property; broken = broken }))
    ≡ judged_from k w (c ∷ choices) (record { property = property; broken = broken })
unfolding worlds
one_choice k w c choices property (Some at) test is = refl
one_choice k w c choices property None true is = rw is refl
one_choice k w c choices property None false is = rw is refl

all_one_choice : (k : ℕ) (w : World) (c : Choice) (choices : List Choice) (js : List Judged)
    → map (judged_from (k + 1) (step w c) choices) (map (judged_at k w) js) ≡ map (judged_from k w (c ∷ choices)) js
all_one_choice k w c choices [] = refl
all_one_choice k w c choices (j ∷ js) =
    ap (λ first. first ∷ map (judged_from (k + 1) (step w c) choices) (map (judged_at k w) js))
    (one_choice k w c choices j.property j.broken (holds_in j.property w) refl)
    ∙ ap (λ rest. judged_from k w (c ∷ choices) j ∷ rest) (all_one_choice k w c choices js)

-- none is left, of one property
no_choice : (k : ℕ) (w : World) (property : Property) (broken : Option ℕ) (test : Bool) → holds_in property w ≡ test
    → judged_at k w (record { property = property; broken = broken })
    ≡ judged_from k w [] (record { property = property; broken = broken })
unfolding worlds
no_choice k w property (Some at) test is = refl
no_choice k w property None true is = rw is refl
no_choice k w property None false is = rw is refl

all_no_choice : (k : ℕ) (w : World) (js : List Judged) → map (judged_at k w) js ≡ map (judged_from k w []) js
all_no_choice k w [] = refl
all_no_choice k w (j ∷ js) =
    ap (λ first. first ∷ map (judged_at k w) js) (no_choice k w j.property j.broken (holds_in j.property w) refl)
    ∙ ap (λ rest. judged_from k w [] j ∷ rest) (all_no_choice k w js)

all_same : (w : World) (choices : List Choice) (js : List Judged) → map (judged_from 0 w choices) js ≡ map (judged_run w choices) js
all_same w choices js = refl

-- none is done
pub judged_none : (first : World) (choices : List Choice) (js : List Judged) → JudgedSoFar 0 first first choices js js
judged_none first choices js = λ rest. all_same first rest js

-- one more is done, and the world before it is judged
pub judged_before : (k : ℕ) (first w next : World) (choices : List Choice) (d : Choice) (before js now : List Judged)
    → k < length choices → next ≡ step w (get_or choices k d) → now ≡ map (judged_at k w) js
    → JudgedSoFar k first w choices before js → JudgedSoFar (k + 1) first next choices before now
judged_before k first w next choices d before js now inside stepped judged so_far = λ rest.
    ap (λ v. map (judged_from (k + 1) v rest) now) stepped
    ∙ ap (map (judged_from (k + 1) (step w (get_or choices k d)) rest)) judged
    ∙ all_one_choice k w (get_or choices k d) rest js
    ∙ so_far (get_or choices k d ∷ rest)
    ∙ ap (λ l. map (judged_run first l) before)
    (sym (append_assoc (take k choices) (get_or choices k d ∷ []) rest)
    ∙ ap (λ l. l ++ rest) (sym (take_more choices k d inside)))

-- all are done, and the last world is judged
pub judged_last : (k : ℕ) (first w : World) (choices : List Choice) (before js now : List Judged)
    → length choices ≡ k → now ≡ map (judged_at (length choices) w) js
    → JudgedSoFar k first w choices before js → now ≡ map (judged_run first choices) before
judged_last k first w choices before js now ended judged so_far =
    judged
    ∙ ap (λ n. map (judged_at n w) js) ended
    ∙ all_no_choice k w js
    ∙ so_far []
    ∙ ap (λ l. map (judged_run first l) before)
    (append-nil (take k choices) ∙ ap (λ n. take n choices) (sym ended) ∙ take_all (length choices) choices (omega arith))
