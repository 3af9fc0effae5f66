-- A step that leaves its hart outside of the properties' reach changes nothing of what is judged.
use Rattle.std.proofs.Common.{◌≡◌, ℕ, ◌<◌, ◌≤◌, Bool, true, false, cond, ◌&&◌, nat_le, nat_lt, not, ◌⊎◌, inl, inr, List, [], ◌∷◌, Option, Some, None, map, ◌∙◌, refl, ap, sym, arith}
use Rattle.std.proofs.lemmas.Bool.{ltb-true, ltb-false, lt-leb, le-ltb, or_cases, and_left, and_right}
use Rattle.hart_step.specs.Hart.{HartValue}
use Rattle.machine.specs.World.{World}
use Rattle.property_judge.specs.Property.{is_going, is_kept_by, is_within}
use Rattle.property_judge.specs.Judged.{judged_after}
use Rattle.property_judge.specs.Reach.{is_out_of_reach, nowhere, reach_of, reach_with, widened}
use Rattle.property_judge.specs.declared.judged.Judged.{Judged}
use Rattle.property_judge.specs.declared.property.Property.{Property}
use Rattle.property_judge.specs.declared.property.Property.TheVariants.{Always, NeverBoth}
use Rattle.property_judge.specs.declared.reach.Reach.{Reach}

-- what is judged doesn't change the reach
same_with : (k : ℕ) (w : World) (hart : HartValue) (reach : Reach) (js : List Judged)
    → reach_with reach (map (judged_after k w hart) js) ≡ reach_with reach js
same_with k w hart reach [] = refl
same_with k w hart reach (j ∷ js) = same_with k w hart (widened reach j.property) js

pub same_reach : (k : ℕ) (w : World) (hart : HartValue) (js : List Judged)
    → reach_of (map (judged_after k w hart) js) ≡ reach_of js
same_reach k w hart js = same_with k w hart nowhere js

-- an address below the first of a reach, or behind its last
abbrev Elsewhere : Reach → ℕ → Type 0
Elsewhere reach pc = (pc < reach.first) ⊎ (reach.last < pc)

elsewhere : (reach : Reach) (hart : HartValue) → is_out_of_reach reach hart ≡ true → Elsewhere reach hart.pc
elsewhere reach hart is = by (or_cases (nat_lt hart.pc reach.first) (nat_lt reach.last hart.pc) is)
  where
    by : (nat_lt hart.pc reach.first ≡ true) ⊎ (nat_lt reach.last hart.pc ≡ true) → Elsewhere reach hart.pc
    by (inl below) = inl (ltb-true hart.pc reach.first below)
    by (inr behind) = inr (ltb-true reach.last hart.pc behind)

-- the lower of two first addresses, and the higher of two last ones
lower : (a b : ℕ) (t : Bool) → nat_lt a b ≡ t → (cond t a b ≤ a) × (cond t a b ≤ b)
lower a b true is = (omega arith, omega (arith, ltb-true a b is))
lower a b false is = (omega (arith, ltb-false a b is), omega arith)

higher : (a b : ℕ) (t : Bool) → nat_lt a b ≡ t → (a ≤ cond t b a) × (b ≤ cond t b a)
higher a b true is = (omega (arith, ltb-true a b is), omega arith)
higher a b false is = (omega arith, omega (arith, ltb-false a b is))

-- outside of a wider reach is outside of the reach
out_of : (reach : Reach) (property : Property) (pc : ℕ) → pc < 4294967296 → Elsewhere (widened reach property) pc → Elsewhere reach pc
out_of reach (Always word comparison number) pc small (inl below) = absurd (omega (arith, below))
out_of reach (Always word comparison number) pc small (inr behind) = absurd (omega (arith, behind, small))
out_of reach (NeverBoth from to) pc small (inl below) =
    inl (omega (arith, below, (lower from reach.first (nat_lt from reach.first) refl).1))
out_of reach (NeverBoth from to) pc small (inr behind) =
    inr (omega (arith, behind, (higher reach.last to (nat_lt reach.last to) refl).0))

-- no hart there is within a range
not_within : (from to : ℕ) (hart : HartValue) → (hart.pc < from) ⊎ (to ≤ hart.pc) → is_within from to hart ≡ false
not_within from to hart (inl below) =
    and_right (is_going hart.state) (nat_le from hart.pc && nat_lt hart.pc to)
    (and_left (nat_le from hart.pc) (nat_lt hart.pc to) (lt-leb from hart.pc below))
not_within from to hart (inr behind) =
    and_right (is_going hart.state) (nat_le from hart.pc && nat_lt hart.pc to)
    (and_right (nat_le from hart.pc) (nat_lt hart.pc to) (le-ltb hart.pc to behind))

-- a hart outside of a property's reach keeps it
kept_out : (reach : Reach) (property : Property) (hart : HartValue) → hart.pc < 4294967296
    → Elsewhere (widened reach property) hart.pc → is_kept_by property hart ≡ true
kept_out reach (Always word comparison number) hart small (inl below) = absurd (omega (arith, below))
kept_out reach (Always word comparison number) hart small (inr behind) = absurd (omega (arith, behind, small))
kept_out reach (NeverBoth from to) hart small (inl below) =
    ap not (not_within from to hart (inl (omega (arith, below, (lower from reach.first (nat_lt from reach.first) refl).0))))
kept_out reach (NeverBoth from to) hart small (inr behind) =
    ap not (not_within from to hart (inr (omega (arith, behind, (higher reach.last to (nat_lt reach.last to) refl).1))))

-- what is kept stays as it was judged
stays : (k : ℕ) (w : World) (hart : HartValue) (property : Property) (broken : Option ℕ) → is_kept_by property hart ≡ true
    → judged_after k w hart (record { property = property; broken = broken }) ≡ record { property = property; broken = broken }
stays k w hart property (Some at) kept = refl
stays k w hart property None kept = rw kept refl

all_stay : (k : ℕ) (w : World) (hart : HartValue) (reach : Reach) (js : List Judged) → hart.pc < 4294967296
    → Elsewhere (reach_with reach js) hart.pc → (js ≡ map (judged_after k w hart) js) × Elsewhere reach hart.pc
all_stay k w hart reach [] small out = (refl, out)
all_stay k w hart reach (j ∷ js) small out =
    let more = all_stay k w hart (widened reach j.property) js small out in (
      ap (λ first. first ∷ js) (sym (stays k w hart j.property j.broken (kept_out reach j.property hart small more.1)))
          ∙ ap (λ rest. judged_after k w hart j ∷ rest) more.0,
      out_of reach j.property hart.pc small more.1,
    )

pub all_stay_out : (k : ℕ) (w : World) (hart : HartValue) (js : List Judged) → hart.pc < 4294967296
    → is_out_of_reach (reach_of js) hart ≡ true → js ≡ map (judged_after k w hart) js
all_stay_out k w hart js small out = (all_stay k w hart nowhere js small (elsewhere (reach_of js) hart out)).0
