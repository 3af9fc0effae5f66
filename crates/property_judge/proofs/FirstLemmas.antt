-- The first world in which a property fails.
use Rattle.std.proofs.Common.{◌≡◌, ℕ, zero, suc, ◌+◌, ◌<◌, Bool, true, false, not, cond, List, [], ◌∷◌, Option, Some, None, take, refl, ap, subst, arith}
use Rattle.std.specs.Option.{unwrap_or}
use Rattle.machine.specs.World.{World, step, run}
use Rattle.machine.specs.declared.choice.Choice.{Choice}
use Rattle.property_judge.specs.Property.{holds_in}
use Rattle.property_judge.specs.Broken.{worlds, broken_from, first_broken}
use Rattle.property_judge.specs.First.{IsFirstBreak, HoldsThroughout}
use Rattle.property_judge.specs.declared.property.Property.{Property}

-- a property that was found broken after k choices, n of which were done, with the number of those
-- after them
abbrev Found : Property → ℕ → World → List Choice → ℕ → Type 0
Found property n w choices k = (i : ℕ) × (k ≡ n + i) × IsFirstBreak property w choices i

-- it fails in the first world
at_once : (property : Property) (n : ℕ) (w : World) (choices : List Choice) (k : ℕ) → holds_in property w ≡ false → Some n ≡ Some k
    → Found property n w choices k
unfolding run
at_once property n w choices k fails e = (
  0,
  omega (arith, ap (λ o. unwrap_or o 0) e),
  record {
    within = omega arith;
    fails = fails;
    before = λ j below. absurd (omega (arith, below));
  },
)

-- it holds in the first world, and fails later
later : (property : Property) (n : ℕ) (w : World) (c : Choice) (choices : List Choice) (k : ℕ) → holds_in property w ≡ true
    → Found property (n + 1) (step w c) choices k → Found property n w (c ∷ choices) k
unfolding run
later property n w c choices k here found = (
  suc found.0,
  omega (arith, found.1),
  record {
    within = omega (arith, found.2.within);
    fails = found.2.fails;
    before = before;
  },
)
  where
    before : (j : ℕ) → j < suc found.0 → holds_in property (run w (take j (c ∷ choices))) ≡ true
    before zero below = here
    before (suc j) below = found.2.before j (omega (arith, below))

found_at : (property : Property) (n : ℕ) (w : World) (choices : List Choice) (k : ℕ)
    → broken_from property n w choices ≡ Some k → Found property n w choices k
unfolding worlds
found_at property n w [] k e = by (holds_in property w) refl
  where
    by : (t : Bool) → holds_in property w ≡ t → Found property n w [] k
    by true is = absurd (cc (e, is))
    by false is = at_once property n w [] k is (subst (λ t. cond (not t) (Some n) None ≡ Some k) is e)
found_at property n w (c ∷ choices) k e = by (λ more. found_at property (n + 1) (step w c) choices k more) (holds_in property w) refl
  where
    rest : Option ℕ
    rest = broken_from property (n + 1) (step w c) choices

    by : (rest ≡ Some k → Found property (n + 1) (step w c) choices k) → (t : Bool) → holds_in property w ≡ t
        → Found property n w (c ∷ choices) k
    by behind true is = later property n w c choices k is (behind (subst (λ t. cond (not t) (Some n) rest ≡ Some k) is e))
    by behind false is = at_once property n w (c ∷ choices) k is (subst (λ t. cond (not t) (Some n) rest ≡ Some k) is e)

pub is_first : (property : Property) (w : World) (choices : List Choice) (k : ℕ) → first_broken property w choices ≡ Some k
    → IsFirstBreak property w choices k
is_first property w choices k e =
    let found = found_at property 0 w choices k e in
    let same : found.0 ≡ k = omega (arith, found.1) in
    subst (λ i. IsFirstBreak property w choices i) same found.2

kept_at : (property : Property) (n : ℕ) (w : World) (choices : List Choice) → broken_from property n w choices ≡ None
    → HoldsThroughout property w choices
unfolding worlds run
kept_at property n w [] e = by (holds_in property w) refl
  where
    by : (t : Bool) → holds_in property w ≡ t → HoldsThroughout property w []
    by true is zero within = is
    by true is (suc j) within = absurd (omega (arith, within))
    by false is j within = absurd (cc (e, is))
kept_at property n w (c ∷ choices) e = by (λ more. kept_at property (n + 1) (step w c) choices more) (holds_in property w) refl
  where
    rest : Option ℕ
    rest = broken_from property (n + 1) (step w c) choices

    by : (rest ≡ None → HoldsThroughout property (step w c) choices) → (t : Bool) → holds_in property w ≡ t → HoldsThroughout property w (c ∷ choices)
    by behind true is zero within = is
    by behind true is (suc j) within = behind (subst (λ t. cond (not t) (Some n) rest ≡ None) is e) j (omega (arith, within))
    by behind false is j within = absurd (cc (e, is))

pub is_kept : (property : Property) (w : World) (choices : List Choice) → first_broken property w choices ≡ None → HoldsThroughout property w choices
is_kept property w choices e = kept_at property 0 w choices e
