-- What a step keeps, by the hart that took it alone.
use Rattle.std.proofs.Common.{◌≡◌, ℕ, zero, suc, ◌+◌, ◌≤◌, Bool, true, false, not, cond, List, [], ◌∷◌, Option, Some, None, set, ◌∙◌, refl, ap, sym, subst, arith}
use Rattle.std.specs.List.{slice_get, count_by}
use Rattle.std.proofs.lemmas.List.{get_or-set_same}
use Rattle.std.proofs.lemmas.List.Sums.{sum_by-cons}
use Rattle.std.proofs.lemmas.Bool.{lt-ltb, ltb-true}
use Rattle.std.proofs.lemmas.Option.{slice_get_within, get_or_from_slice_get}
use Rattle.hart_step.specs.Hart.{HartValue}
use Rattle.hart_step.specs.Effect.{site}
use Rattle.hart_step.specs.Step.{stepped}
use Rattle.machine.specs.World.{World, step_of, step}
use Rattle.machine.specs.declared.choice.Choice.{Choice}
use Rattle.property_judge.specs.Property.{harts_between, holds_in, is_kept_by, is_within}
use Rattle.property_judge.specs.declared.property.Property.{Property}
use Rattle.property_judge.specs.declared.property.Property.TheVariants.{Always, NeverBoth}

count-cons : {X : Type 0} (p : X → Bool) (x : X) (xs : List X) → count_by p (x ∷ xs) ≡ cond (p x) 1 0 + count_by p xs
count-cons p x xs = sum_by-cons (λ z. cond (p z) 1 0) x xs

-- an element that doesn't count makes no more of them count
count-set : {X : Type 0} (p : X → Bool) (xs : List X) (i : ℕ) (x : X) → p x ≡ false → count_by p (set xs i x) ≤ count_by p xs
count-set p [] i x out = omega arith
count-set p (y ∷ xs) zero x out =
    omega (arith, count-cons p x xs, count-cons p y xs, ap {B = ℕ} (λ t. cond t 1 0) out)
count-set p (y ∷ xs) (suc i) x out =
    omega (arith, count-cons p y (set xs i x), count-cons p y xs, count-set p xs i x out)

-- the harts after a step, of which the one that took it is now this one
Replaced : World → World → ℕ → HartValue → Type 0
Replaced w next h hart = next.harts ≡ set w.harts h hart

replaced_of : (w : World) (c : Choice) (hart : HartValue) (o : Option HartValue) → slice_get w.harts c.hart ≡ o
    → slice_get (step_of w c o).harts c.hart ≡ Some hart → (step_of w c o).harts ≡ set w.harts c.hart hart
replaced_of w c hart None there now = absurd (cc (there, now))
replaced_of w c hart (Some h) there now =
    let made : HartValue = (stepped c.hart c.refuse (site h w.memory w.reserved)).hart in
    let is : made ≡ hart =
    sym (get_or-set_same w.harts c.hart made hart (slice_get_within w.harts c.hart h there))
    ∙ get_or_from_slice_get (set w.harts c.hart made) c.hart hart hart now in
    ap (set w.harts c.hart) is

replaced : (w : World) (c : Choice) (hart : HartValue) → slice_get (step w c).harts c.hart ≡ Some hart
    → (step w c).harts ≡ set w.harts c.hart hart
unfolding step
replaced w c hart now = replaced_of w c hart (slice_get w.harts c.hart) refl now

-- a property that a step keeps by its hart alone holds after it as before
pub kept_by_hart : (property : Property) (w : World) (c : Choice) (hart : HartValue)
    → slice_get (step w c).harts c.hart ≡ Some hart → is_kept_by property hart ≡ true
    → holds_in property w ≡ true → holds_in property (step w c) ≡ true
unfolding holds_in
kept_by_hart (Always word comparison number) w c hart there kept holds = absurd (cc kept)
kept_by_hart (NeverBoth from to) w c hart there kept holds =
    lt-ltb (harts_between from to (step w c).harts) 2 (omega (arith, few, ltb-true (harts_between from to w.harts) 2 holds))
  where
    outside : (t : Bool) → is_within from to hart ≡ t → not t ≡ true → is_within from to hart ≡ false
    outside true is out = absurd (cc out)
    outside false is out = is

    few : harts_between from to (step w c).harts ≤ harts_between from to w.harts
    few = subst (λ harts. harts_between from to harts ≤ harts_between from to w.harts) (sym (replaced w c hart there))
        (count-set (is_within from to) w.harts c.hart hart (outside (is_within from to hart) refl kept))
