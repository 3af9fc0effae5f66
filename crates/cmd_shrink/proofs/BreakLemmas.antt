-- Whether a property is broken in a run, by its first world and the run behind it.
use Rattle.std.proofs.Common.{◌≡◌, ℕ, ◌+◌, ◌<◌, suc, Bool, true, false, not, ◌||◌, cond, List, [], ◌∷◌, length, get_or, drop, drop-cons, arith, Option, Some, None, is_some, refl, sym, ap, ◌∙◌}
use lib.Seq.{drop-length}
use Rattle.std.specs.List.{list_any, position_from}
use Rattle.machine.specs.World.{World, step}
use Rattle.machine.specs.declared.choice.Choice.{Choice}
use Rattle.property_judge.specs.Property.{holds_in}
use Rattle.property_judge.specs.Broken.{worlds, fails_in, first_broken, broken_from}
use Rattle.property_judge.specs.declared.property.Property.{Property}

-- whether there is a position doesn't depend on the number of the first
position_any : {X : Type 0} (test : X → Bool) (n : ℕ) (list : List X) → is_some (position_from test n list) ≡ list_any test list
position_any test n [] = refl
position_any test n (x ∷ list) = by (test x) (position_any test (n + 1) list)
  where
    by : (b : Bool) → is_some (position_from test (n + 1) list) ≡ list_any test list
        → is_some (cond b (Some n) (position_from test (n + 1) list)) ≡ b || list_any test list
    by true rest = refl
    by false rest = rest

-- whether a property is broken, by whether it holds in the first world and where it is broken behind
abbrev by_first : Bool → Option ℕ → Bool
by_first holds rest = is_some (cond (not holds) (Some 0) rest)

-- a property that holds in the first world is broken if it is behind it
broken_behind : (property : Property) (w : World) (c : Choice) (choices : List Choice) → holds_in property w ≡ true
    → is_some (first_broken property (step w c) choices) ≡ is_some (first_broken property w (c ∷ choices))
unfolding worlds
broken_behind property w c choices holds =
    let rest = broken_from property 1 (step w c) choices in
    position_any (fails_in property) 0 (worlds (step w c) choices) ∙ sym (position_any (fails_in property) 1 (worlds (step w c) choices))
    ∙ sym (ap (λ b. by_first b rest) holds)

-- one choice more was run, and the property held before it
pub broken_next : (property : Property) (w next : World) (choices : List Choice) (i : ℕ) (d : Choice) → i < length choices
    → next ≡ step w (get_or choices i d) → holds_in property w ≡ true
    → is_some (first_broken property next (drop (i + 1) choices)) ≡ is_some (first_broken property w (drop i choices))
broken_next property w next choices i d inside stepped holds =
    let one : i + 1 ≡ suc i = omega arith in
    ap (λ v. is_some (first_broken property v (drop (i + 1) choices))) stepped
    ∙ ap (λ k. is_some (first_broken property (step w (get_or choices i d)) (drop k choices))) one
    ∙ broken_behind property w (get_or choices i d) (drop (suc i) choices) holds
    ∙ ap (λ l. is_some (first_broken property w l)) (sym (drop-cons choices i d inside))

-- a property that fails in the first world is broken
pub broken_at_once : (property : Property) (w : World) (choices : List Choice) → holds_in property w ≡ false
    → true ≡ is_some (first_broken property w choices)
unfolding worlds
broken_at_once property w [] fails = sym (ap (λ b. by_first b None) fails)
broken_at_once property w (c ∷ choices) fails =
    sym (ap (λ b. by_first b (broken_from property 1 (step w c) choices)) fails)

-- with no choice left, a property is broken if it fails there
pub broken_at_end : (property : Property) (w : World) (choices : List Choice) (i : ℕ) (holds : Bool) → i ≡ length choices
    → holds ≡ holds_in property w → not holds ≡ is_some (first_broken property w (drop i choices))
unfolding worlds
broken_at_end property w choices i holds end is =
    ap not is ∙ by (holds_in property w)
    ∙ ap (λ l. is_some (first_broken property w l)) (sym (ap (λ k. drop k choices) end ∙ drop-length choices))
  where
    by : (b : Bool) → not b ≡ by_first b None
    by true = refl
    by false = refl
