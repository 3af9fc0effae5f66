-- When a world of words shows the world of a machine.
use Rattle.std.specs.Prelude.{◌≡◌, ℕ, ◌%◌, Some, slice_get}
use Rattle.hart_step.specs.Hart.{HartValue}
use Rattle.machine.specs.World.{World}
use Rattle.machine.specs.declared.choice.Choice.{Choice}
use Rattle.bank_laws.specs.Runs.{TableWorld, Turn}
use Rattle.bank_laws.specs.Words.{bytes_at}

-- the harts, the bytes of each word, and the reservations are those of the machine's world
pub record ShowsWorld (t : TableWorld HartValue) (w : World) : Type 0 where
  pub harts : (k : ℕ) (h : HartValue) → slice_get w.harts k ≡ Some h → t.harts k ≡ h
  pub values : (x : ℕ) → x % 4 ≡ 0 → t.shared.values x ≡ bytes_at w.memory.bytes x
  pub marks : t.shared.marks ≡ w.reserved

-- a turn as the machine's choice
abbrev pub choice_of_turn : Turn → Choice
choice_of_turn t = record { hart = t.hart; refuse = t.refuse }
