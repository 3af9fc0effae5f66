-- When a world of words shows the site of a hart.
use Rattle.std.specs.Prelude.{◌≡◌, ℕ, ◌%◌}
use Rattle.hart_step.specs.Hart.{HartValue}
use Rattle.hart_step.specs.Effect.{Site}
use Rattle.bank_laws.specs.Runs.{TableWorld}
use Rattle.bank_laws.specs.Words.{bytes_at}

-- hart k, the bytes of each word, and all reservations are those of the site
pub record ShowsSite (w : TableWorld HartValue) (k : ℕ) (s : Site) : Type 0 where
  pub hart : w.harts k ≡ s.hart
  pub values : (x : ℕ) → x % 4 ≡ 0 → w.shared.values x ≡ bytes_at s.memory.bytes x
  pub marks : w.shared.marks ≡ s.reserved
