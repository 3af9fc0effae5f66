-- Steps that succeeded.
use Rattle.std.proofs.Common.{◌≡◌, Result, Ok, Err, refl}
use Rattle.asm_statement.specs.Answer.{◌>>=◌}
use Rattle.asm_statement.specs.declared.fault.FaultKind.{FaultKind}

-- a step that succeeded
pub record Unbound {E X Y : Type 0} (r : Result X E) (next : X → Result Y E) (y : Y) : Type 0 where
  pub value : X
  pub was : r ≡ Ok value
  pub then : next value ≡ Ok y

pub unbound : {E X Y : Type 0} (r : Result X E) (next : X → Result Y E) (y : Y) → (r >>= next) ≡ Ok y → Unbound r next y
unbound (Ok x) next y e = record { value = x; was = refl; then = e }
unbound (Err k) next y e = absurd cc

abbrev good : {X : Type 0} → X → Result X FaultKind
good x = Ok x

pub good_is : {X : Type 0} (x y : X) → good x ≡ good y → x ≡ y
good_is x y e = cc
