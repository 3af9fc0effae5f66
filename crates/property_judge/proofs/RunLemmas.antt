-- Properties that are judged choice by choice.
use Rattle.std.proofs.Common.{◌≡◌, ℕ, ◌+◌, ◌<◌, Bool, true, false, List, [], ◌∷◌, ◌++◌, Option, Some, None, cond, length, get_or, take, map, ◌∙◌, sym, refl, ap, subst, arith}
use Rattle.std.specs.List.{slice_get}
use Rattle.std.proofs.lemmas.List.{append_assoc, append-nil, take_more, take_all}
use Rattle.machine.specs.World.{World, step}
use Rattle.machine.specs.declared.choice.Choice.{Choice}
use Rattle.hart_step.specs.Hart.{HartValue}
use Rattle.property_judge.specs.Property.{holds_in, is_kept_by}
use Rattle.property_judge.specs.Broken.{worlds}
use Rattle.property_judge.specs.Judged.{judged_after, judged_at, judged_from, judged_run}
use Rattle.property_judge.proofs.KeptLemmas.{kept_by_hart}
use Rattle.property_judge.specs.declared.judged.Judged.{Judged}
use Rattle.property_judge.specs.declared.property.Property.{Property}

-- one choice more, of one property
one_choice : (k : ℕ) (w : World) (c : Choice) (choices : List Choice) (property : Property) (broken : Option ℕ) (test : Bool)
    → holds_in property w ≡ test
    → judged_from (k + 1) (step w c) choices (judged_at k w (record { property = property; broken = broken }))
    ≡ judged_from k w (c ∷ choices) (record { property = property; broken = broken })
unfolding worlds
one_choice k w c choices property (Some at) test is = refl
one_choice k w c choices property None true is = rw is refl
one_choice k w c choices property None false is = rw is refl

all_one_choice : (k : ℕ) (w : World) (c : Choice) (choices : List Choice) (js : List Judged)
    → map (judged_from (k + 1) (step w c) choices) (map (judged_at k w) js) ≡ map (judged_from k w (c ∷ choices)) js
all_one_choice k w c choices [] = refl
all_one_choice k w c choices (j ∷ js) =
    ap (λ first. first ∷ map (judged_from (k + 1) (step w c) choices) (map (judged_at k w) js))
    (one_choice k w c choices j.property j.broken (holds_in j.property w) refl)
    ∙ ap (λ rest. judged_from k w (c ∷ choices) j ∷ rest) (all_one_choice k w c choices js)

-- none is left, of one property
no_choice : (k : ℕ) (w : World) (property : Property) (broken : Option ℕ) (test : Bool) → holds_in property w ≡ test
    → judged_at k w (record { property = property; broken = broken })
    ≡ judged_from k w [] (record { property = property; broken = broken })
unfolding worlds
no_choice k w property (Some at) test is = refl
no_choice k w property None true is = rw is refl
no_choice k w property None false is = rw is refl

all_no_choice : (k : ℕ) (w : World) (js : List Judged) → map (judged_at k w) js ≡ map (judged_from k w []) js
all_no_choice k w [] = refl
all_no_choice k w (j ∷ js) =
    ap (λ first. first ∷ map (judged_at k w) js) (no_choice k w j.property j.broken (holds_in j.property w) refl)
    ∙ ap (λ rest. judged_from k w [] j ∷ rest) (all_no_choice k w js)

-- judged so far: what any other choices make of the properties is what these make of them behind the
-- first k
abbrev pub JudgedSoFar : ℕ → World → World → List Choice → List Judged → List Judged → Type 0
JudgedSoFar k first w choices before js = (rest : List Choice)
    → map (judged_from k w rest) js ≡ map (judged_run first (take k choices ++ rest)) before

-- one choice more is behind the first k, or the first of the others
one_behind : (choices rest : List Choice) (k : ℕ) (d : Choice) → k < length choices
    → take k choices ++ get_or choices k d ∷ rest ≡ take (k + 1) choices ++ rest
one_behind choices rest k d inside =
    sym (append_assoc (take k choices) (get_or choices k d ∷ []) rest)
    ∙ ap (λ l. l ++ rest) (sym (take_more choices k d inside))

-- judged in a world: what isn't broken holds there
abbrev pub IsJudgedIn : World → Judged → Type 0
IsJudgedIn w judged = judged.broken ≡ None → holds_in judged.property w ≡ true

-- what is judged in a world is judged there
at-judged : (k : ℕ) (w : World) (property : Property) (broken : Option ℕ) (test : Bool) → holds_in property w ≡ test
    → IsJudgedIn w (judged_at k w (record { property = property; broken = broken }))
at-judged k w property (Some at) test is none = absurd (cc none)
at-judged k w property None true is none = is
at-judged k w property None false is none =
    let found : cond (holds_in property w) None (Some k) ≡ Some k = ap (λ t. cond t None (Some k)) is in
    absurd (cc (found, none))

abbrev pub AreJudgedIn : World → List Judged → Type 0
AreJudgedIn w [] = Unit {0}
AreJudgedIn w (j ∷ js) = IsJudgedIn w j × AreJudgedIn w js

all-at-judged : (k : ℕ) (w : World) (js : List Judged) → AreJudgedIn w (map (judged_at k w) js)
all-at-judged k w [] = tt
all-at-judged k w (j ∷ js) = (at-judged k w j.property j.broken (holds_in j.property w) refl, all-at-judged k w js)

-- judging once more in a world changes nothing
again : (k : ℕ) (w : World) (property : Property) (broken : Option ℕ) → IsJudgedIn w (record { property = property; broken = broken })
    → record { property = property; broken = broken } ≡ judged_at k w (record { property = property; broken = broken })
again k w property (Some at) judged = refl
again k w property None judged = rw (judged refl) refl

all_again : (k : ℕ) (w : World) (js : List Judged) → AreJudgedIn w js → js ≡ map (judged_at k w) js
all_again k w [] judged = refl
all_again k w (j ∷ js) judged =
    ap (λ first. first ∷ js) (again k w j.property j.broken judged.0)
    ∙ ap (λ rest. judged_at k w j ∷ rest) (all_again k w js judged.1)

-- nor does it before the other worlds of a run
from_judged : (k : ℕ) (w : World) (rest : List Choice) (property : Property) (broken : Option ℕ) (test : Bool)
    → holds_in property w ≡ test
    → judged_from k w rest (judged_at k w (record { property = property; broken = broken }))
    ≡ judged_from k w rest (record { property = property; broken = broken })
unfolding worlds
from_judged k w rest property (Some at) test is = refl
from_judged k w rest property None true is = rw is refl
from_judged k w [] property None false is = rw is refl
from_judged k w (c ∷ rest) property None false is = rw is refl

all_from_judged : (k : ℕ) (w : World) (rest : List Choice) (js : List Judged)
    → map (judged_from k w rest) (map (judged_at k w) js) ≡ map (judged_from k w rest) js
all_from_judged k w rest [] = refl
all_from_judged k w rest (j ∷ js) =
    ap (λ first. first ∷ map (judged_from k w rest) (map (judged_at k w) js))
    (from_judged k w rest j.property j.broken (holds_in j.property w) refl)
    ∙ ap (λ more. judged_from k w rest j ∷ more) (all_from_judged k w rest js)

-- behind a step, what its hart keeps isn't looked at
after : (k : ℕ) (w : World) (c : Choice) (hart : HartValue) (property : Property) (broken : Option ℕ) (test : Bool)
    → slice_get (step w c).harts c.hart ≡ Some hart → is_kept_by property hart ≡ test
    → IsJudgedIn w (record { property = property; broken = broken })
    → judged_after k (step w c) hart (record { property = property; broken = broken })
    ≡ judged_at k (step w c) (record { property = property; broken = broken })
after k w c hart property (Some at) test there is judged = refl
after k w c hart property None false there is judged = rw is refl
after k w c hart property None true there is judged =
    rw is (again k (step w c) property None (λ none. kept_by_hart property w c hart there is (judged none)))

all_after : (k : ℕ) (w : World) (c : Choice) (hart : HartValue) (js : List Judged)
    → slice_get (step w c).harts c.hart ≡ Some hart → AreJudgedIn w js
    → map (judged_after k (step w c) hart) js ≡ map (judged_at k (step w c)) js
all_after k w c hart [] there judged = refl
all_after k w c hart (j ∷ js) there judged =
    ap (λ first. first ∷ map (judged_after k (step w c) hart) js)
    (after k w c hart j.property j.broken (is_kept_by j.property hart) there refl judged.0)
    ∙ ap (λ rest. judged_at k (step w c) j ∷ rest) (all_after k w c hart js there judged.1)

-- judged in the worlds so far: what any other choices make of the properties is what these make of
-- them behind the first k, and what isn't broken holds in the world that these lead to
pub record Judging (k : ℕ) (first w : World) (choices : List Choice) (before js : List Judged) : Type 0 where
  pub so_far : JudgedSoFar k first w choices before js
  pub here : AreJudgedIn w js

-- the first world is judged
pub judged_at_first : (first : World) (choices : List Choice) (before js : List Judged) → js ≡ map (judged_at 0 first) before
    → Judging 0 first first choices before js
judged_at_first first choices before js judged = record {
  so_far = λ rest. ap (map (judged_from 0 first rest)) judged ∙ all_from_judged 0 first rest before;
  here = subst (AreJudgedIn first) (sym judged) (all-at-judged 0 first before);
}

-- one choice more leads to a world in which these are judged anew
one_more : (k : ℕ) (first w : World) (choices : List Choice) (d : Choice) (before js now : List Judged) → k < length choices
    → now ≡ map (judged_at (k + 1) (step w (get_or choices k d))) js → Judging k first w choices before js
    → Judging (k + 1) first (step w (get_or choices k d)) choices before now
one_more k first w choices d before js now inside judged judging =
    let next : World = step w (get_or choices k d) in
    record {
      so_far = λ rest.
          ap (map (judged_from (k + 1) next rest)) judged
          ∙ all_from_judged (k + 1) next rest js
          ∙ ap (map (judged_from (k + 1) next rest)) (all_again k w js judging.here)
          ∙ all_one_choice k w (get_or choices k d) rest js
          ∙ judging.so_far (get_or choices k d ∷ rest)
          ∙ ap (λ l. map (judged_run first l) before) (one_behind choices rest k d inside);
      here = subst (AreJudgedIn next) (sym judged) (all-at-judged (k + 1) next js);
    }

-- one choice more is done
pub judged_more_choices : (k : ℕ) (first w next : World) (choices : List Choice) (d : Choice) (hart : HartValue)
    (before js now : List Judged) → k < length choices → next ≡ step w (get_or choices k d)
    → slice_get next.harts (get_or choices k d).hart ≡ Some hart → now ≡ map (judged_after (k + 1) next hart) js
    → Judging k first w choices before js → Judging (k + 1) first next choices before now
judged_more_choices k first w next choices d hart before js now inside stepped there judged judging =
    let c : Choice = get_or choices k d in
    let at_hart : slice_get (step w c).harts c.hart ≡ Some hart = subst (λ v. slice_get v.harts c.hart ≡ Some hart) stepped there in
    let judged_here : now ≡ map (judged_at (k + 1) (step w c)) js =
    subst (λ v. now ≡ map (judged_after (k + 1) v hart) js) stepped judged
    ∙ all_after (k + 1) w c hart js at_hart judging.here in
    subst (λ v. Judging (k + 1) first v choices before now) (sym stepped) (one_more k first w choices d before js now inside judged_here judging)

-- the properties are judged in the worlds of the first k
pub judged_up_to : (k : ℕ) (first w : World) (choices : List Choice) (before js : List Judged)
    → Judging k first w choices before js → js ≡ map (judged_run first (take k choices)) before
judged_up_to k first w choices before js judging =
    all_again k w js judging.here
    ∙ all_no_choice k w js
    ∙ judging.so_far []
    ∙ ap (λ l. map (judged_run first l) before) (append-nil (take k choices))

-- and in those of all
pub judged_to_the_end : (k : ℕ) (first w : World) (choices : List Choice) (before js : List Judged) → length choices ≡ k
    → Judging k first w choices before js → js ≡ map (judged_run first choices) before
judged_to_the_end k first w choices before js ended judging =
    judged_up_to k first w choices before js judging
    ∙ ap (λ l. map (judged_run first l) before) (ap (λ n. take n choices) (sym ended) ∙ take_all (length choices) choices (omega arith))
