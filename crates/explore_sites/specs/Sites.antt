-- What a hart's step makes of it, of the words and of the reservations.
use Rattle.std.specs.Prelude.{◌≡◌, ℕ, ◌%◌, Bool}
use Rattle.hart_reservations.specs.Marks.{Marks}
use Rattle.hart_step.specs.Hart.{HartValue}
use Rattle.mem_store.specs.Memory.{Memory}
use Rattle.hart_step.specs.Effect.{Site}
use Rattle.hart_step.specs.Laws.{Keeps, IsAligned}
use Rattle.hart_step.specs.Step.{stepped}
use Rattle.bank_laws.specs.Banks.{WordBytes}
use Rattle.bank_laws.specs.Runs.{TableWorld, StepTable, table_step}
use Rattle.bank_laws.specs.Table.{table}
use Rattle.bank_laws.specs.Words.{bytes_at}

-- a hart, words and reservations as a world of words, in which one hart stands
abbrev pub one_hart : HartValue → (ℕ → WordBytes) → Marks → TableWorld HartValue
one_hart h values r = record { harts = λ _. h; shared = record { values = values; marks = r } }

-- what the table's step of hart k makes of a hart, words and reservations
pub record StepsTo (T : StepTable HartValue) (k : ℕ) (refuse : Bool) (h new_h : HartValue) (values new_values : ℕ → WordBytes)
    (r new_r : Marks) : Type 0 where
  pub hart : new_h ≡ (table_step T (one_hart h values r) k refuse).harts k
  pub words : new_values ≡ (table_step T (one_hart h values r) k refuse).shared.values
  pub marks : new_r ≡ (table_step T (one_hart h values r) k refuse).shared.marks

-- a hart, words and reservations are those of a site
pub record ShowsOne (h : HartValue) (values : ℕ → WordBytes) (r : Marks) (s : Site) : Type 0 where
  pub hart : h ≡ s.hart
  pub words : (x : ℕ) → x % 4 ≡ 0 → values x ≡ bytes_at s.memory.bytes x
  pub marks : r ≡ s.reserved

-- a table's steps are the machine's wherever memory comes from this one: where a hart, words and
-- reservations are those of a site, what the table makes of them is what the machine makes of it
abbrev pub StepsAsMachine : Memory → Type 0
StepsAsMachine m = (k : ℕ) (refuse : Bool) (h new_h : HartValue) (values new_values : ℕ → WordBytes) (r new_r : Marks) (s : Site)
    → Keeps m s.memory → IsAligned s.hart → ShowsOne h values r s
    → StepsTo (table m) k refuse h new_h values new_values r new_r → ShowsOne new_h new_values new_r (stepped k refuse s)
