-- Properties of a world.
use Rattle.std.specs.Prelude.{ℕ, Bool, true, false, not, ◌==◌, ◌&&◌, nat_le, nat_lt, int_lt, List, Result, Ok, Err, count_by}
use Rattle.isa_table.specs.Signed.{signed_of}
use Rattle.mem_store.specs.Memory.{Memory}
use Rattle.mem_store.specs.Access.{loaded}
use Rattle.mem_store.specs.declared.store.AccessFault.{AccessFault}
use Rattle.hart_step.specs.Hart.{HartValue}
use Rattle.hart_step.specs.declared.hart.HartState.{HartState}
use Rattle.hart_step.specs.declared.hart.HartState.TheVariants.{Running, Exited, Faulted}
use Rattle.machine.specs.World.{World}
use Rattle.property_judge.specs.declared.property.Order.{Order}
use Rattle.property_judge.specs.declared.property.Order.TheVariants.{Less, AtMost, Greater, AtLeast}
use Rattle.property_judge.specs.declared.property.Comparison.{Comparison}
use Rattle.property_judge.specs.declared.property.Comparison.TheVariants.{Equal, Unequal, Signed, Unsigned}
use Rattle.property_judge.specs.declared.property.Property.{Property}
use Rattle.property_judge.specs.declared.property.Property.TheVariants.{Always, NeverBoth}

-- whether two words are in an order, by which of two is below the other
abbrev pub in_order : Order → (ℕ → ℕ → Bool) → ℕ → ℕ → Bool
in_order Less below a b = below a b
in_order AtMost below a b = not (below b a)
in_order Greater below a b = below b a
in_order AtLeast below a b = not (below a b)

-- whether one is below the other as a signed number
abbrev pub signed_below : ℕ → ℕ → Bool
signed_below a b = int_lt (signed_of a) (signed_of b)

-- whether one is below the other as an unsigned number
abbrev pub unsigned_below : ℕ → ℕ → Bool
unsigned_below a b = nat_lt a b

-- whether two words are as a comparison says
abbrev pub compares : Comparison → ℕ → ℕ → Bool
compares Equal a b = a == b
compares Unequal a b = not (a == b)
compares (Signed order) a b = in_order order signed_below a b
compares (Unsigned order) a b = in_order order unsigned_below a b

-- the word that a load of an address reads; 0 where it faults
abbrev pub word_read : Memory → ℕ → ℕ
word_read m address = or_zero (loaded m 4 address)
  where
    or_zero : Result ℕ AccessFault → ℕ
    or_zero (Ok word) = word
    or_zero (Err why) = 0

-- whether a hart goes on when it is chosen
abbrev pub is_going : HartState → Bool
is_going Running = true
is_going (Exited status) = false
is_going (Faulted cause) = false

-- whether a hart runs and stands between two addresses, the second of which is excluded
abbrev pub is_within : ℕ → ℕ → HartValue → Bool
is_within from to hart = is_going hart.state && (nat_le from hart.pc && nat_lt hart.pc to)

-- the number of harts between two addresses
abbrev pub harts_between : ℕ → ℕ → List HartValue → ℕ
harts_between from to harts = count_by (is_within from to) harts

-- whether a property holds in a world
unfoldable pub holds_in : Property → World → Bool
holds_in (Always word comparison number) w = compares comparison (word_read w.memory word) number
holds_in (NeverBoth from to) w = nat_lt (harts_between from to w.harts) 2

-- whether a step keeps a property for sure, by the hart that took it alone: a hart that is not
-- between two addresses has not come to be there
abbrev pub is_kept_by : Property → HartValue → Bool
is_kept_by (Always word comparison number) hart = false
is_kept_by (NeverBoth from to) hart = not (is_within from to hart)
