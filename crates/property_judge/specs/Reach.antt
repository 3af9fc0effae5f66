-- Where a step may break a property.
use Rattle.std.specs.Prelude.{Bool, ◌||◌, nat_lt, List, [], ◌∷◌, if◌then◌else◌}
use Rattle.hart_step.specs.Hart.{HartValue}
use Rattle.property_judge.specs.declared.judged.Judged.{Judged}
use Rattle.property_judge.specs.declared.property.Property.{Property}
use Rattle.property_judge.specs.declared.property.Property.TheVariants.{Always, NeverBoth}
use Rattle.property_judge.specs.declared.reach.Reach.{Reach}

-- whether a hart stands outside of a reach
abbrev pub is_out_of_reach : Reach → HartValue → Bool
is_out_of_reach reach hart = nat_lt hart.pc reach.first || nat_lt reach.last hart.pc

-- the reach of no property: from the greatest address to the least
abbrev pub nowhere : Reach
nowhere = record { first = 4294967295; last = 0 }

-- with that of one property more: a word's is everywhere, a range's the range
abbrev pub widened : Reach → Property → Reach
widened reach (Always word comparison number) = record { first = 0; last = 4294967295 }
widened reach (NeverBoth from to) = record {
  first = if nat_lt from reach.first then from else reach.first;
  last = if nat_lt reach.last to then to else reach.last;
}

-- with those of more properties
abbrev pub reach_with : Reach → List Judged → Reach
reach_with reach [] = reach
reach_with reach (judged ∷ more) = reach_with (widened reach judged.property) more

-- the reach of some properties
abbrev pub reach_of : List Judged → Reach
reach_of judged = reach_with nowhere judged
