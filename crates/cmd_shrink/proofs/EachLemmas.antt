-- Lists in which each hart's choices are some of its choices in another.
use Rattle.std.proofs.Common.{◌≡◌, ℕ, ◌==◌, Bool, true, false, cond, List, [], ◌∷◌, take, eq-eqb, refl, sym, subst, ap, inl, inr}
use Rattle.machine.specs.declared.choice.Choice.{Choice}
use Rattle.cmd_shrink.specs.Less.{IsSofter, IsLess, choices_of_hart, IsLessOfEach}
use Rattle.cmd_shrink.proofs.LessLemmas.{less_none, less_same, less_trans, less_take, one_more, one_left}

kept : (b e : Bool) (c d : Choice) (list given : List Choice) → b ≡ e → IsSofter c d → IsLess list given
    → IsLess (cond b (c ∷ list) list) (cond e (d ∷ given) given)
kept true true c d list given same soft less = one_more c d list given soft less
kept true false c d list given same soft less = absurd (cc)
kept false true c d list given same soft less = absurd (cc)
kept false false c d list given same soft less = less

left : (b : Bool) (d : Choice) (list given : List Choice) → IsLess list given → IsLess list (cond b (d ∷ given) given)
left true d list given less = one_left d list given less
left false d list given less = less

-- a hart's choices of a list that is less
of_less : (hart : ℕ) (list given : List Choice) → IsLess list given → IsLess (choices_of_hart hart list) (choices_of_hart hart given)
unfolding IsLess
of_less hart [] given less = less_none (choices_of_hart hart given)
of_less hart (c ∷ list) [] less = absurd less
of_less hart (c ∷ list) (d ∷ given) (inl (soft, less)) =
    kept (c.hart == hart) (d.hart == hart) c d (choices_of_hart hart list) (choices_of_hart hart given) (ap (λ h. h == hart) soft.0) soft
    (of_less hart list given less)
of_less hart (c ∷ list) (d ∷ given) (inr less) =
    left (d.hart == hart) d (choices_of_hart hart (c ∷ list)) (choices_of_hart hart given) (of_less hart (c ∷ list) given less)

pub each_less : (list given : List Choice) → IsLess list given → IsLessOfEach list given
each_less list given less = λ hart. of_less hart list given less

pub each_same : (list : List Choice) → IsLessOfEach list list
each_same list = λ hart. less_same (choices_of_hart hart list)

pub each_trans : (a b c : List Choice) → IsLessOfEach a b → IsLessOfEach b c → IsLessOfEach a c
each_trans a b c f g = λ hart. less_trans (choices_of_hart hart a) (choices_of_hart hart b) (choices_of_hart hart c) (f hart) (g hart)

-- where each hart has the same choices
pub each_equal : (list next given : List Choice) → ((hart : ℕ) → choices_of_hart hart next ≡ choices_of_hart hart list) → IsLessOfEach list given
    → IsLessOfEach next given
each_equal list next given same less = λ hart. subst (λ l. IsLess l (choices_of_hart hart given)) (sym (same hart)) (less hart)

-- the passes one after another: the first choices, then fewer, then without marks
pub each_of_passes : (n : ℕ) (given beginning fewer plainer list : List Choice) → beginning ≡ take n given → IsLess fewer beginning
    → IsLess plainer fewer → IsLessOfEach list plainer → IsLessOfEach list given
each_of_passes n given beginning fewer plainer list is fewer_less plainer_less less =
    let first : IsLess beginning given = subst (λ l. IsLess l given) (sym is) (less_take n given) in
    let all = less_trans plainer beginning given (less_trans plainer fewer beginning plainer_less fewer_less) first in
    each_trans list plainer given less (each_less plainer given all)

-- a removal, and then exchanges
pub each_step : (list smaller tried old given : List Choice) → tried ≡ old → IsLess smaller tried → IsLessOfEach list smaller
    → IsLessOfEach old given → IsLessOfEach list given
each_step list smaller tried old given is less next before =
    each_trans list smaller given next
    (each_trans smaller old given (each_less smaller old (subst (λ l. IsLess smaller l) is less)) before)

-- the first choice is its own hart's first
pub choices_of_hart-first : (c : Choice) (list : List Choice) → choices_of_hart c.hart (c ∷ list) ≡ c ∷ choices_of_hart c.hart list
choices_of_hart-first c list = rw (eq-eqb c.hart c.hart refl) refl
