-- Harts that wait. One spins: a hart that is chosen again and again is compared with how it was some
-- choices before, and with the same pc and registers it is likely to wait for something that hasn't
-- changed. Another says so, by `pause`.
use Rattle.std.specs.Prelude.{ℕ, zero, suc, ◌*◌, ◌-◌, ◌==◌, nat_lt, Bool, true, false, ◌&&◌, if◌then◌else◌, Option, Some, None}
use Rattle.mem_store.specs.Memory.{Memory}
use Rattle.mem_store.specs.Access.{fetched}
use Rattle.hart_step.specs.Hart.{HartValue, Registers}
use Rattle.machine.specs.Running.{is_running}

-- a hart that is watched: its number, how it was at a choice of it, how many further choices of it
-- don't change that, and how many will not then
pub record WatchValue : Type 0 where
  pub hart : ℕ
  pub seen : HartValue
  pub left : ℕ
  pub span : ℕ

-- whether the first n registers are the same
unfoldable pub same_registers : ℕ → Registers → Registers → Bool
same_registers zero seen now = true
same_registers (suc n) seen now = same_registers n seen now && seen n == now n

-- whether a hart that runs has the same pc and registers as before
abbrev pub is_back : HartValue → HartValue → Bool
is_back seen now = seen.pc == now.pc && is_running now.state && same_registers 32 seen.registers now.registers

-- a hart that wasn't chosen last
abbrev pub watch_begun : ℕ → HartValue → WatchValue
watch_begun hart now = record { hart = hart; seen = now; left = 1; span = 2 }

-- after a further choice of the same hart: it is remembered anew after 2 choices, 3, 5, 9 and so on
-- up to 65, so a loop of at most 65 steps is noticed
abbrev pub watch_continued : HartValue → WatchValue → WatchValue
watch_continued now w =
    if w.left == 0
    then record { hart = w.hart; seen = now; left = w.span; span = if nat_lt w.span 64 then 2 * w.span else w.span }
    else record { hart = w.hart; seen = w.seen; left = w.left - 1; span = w.span }

-- after a choice of a hart in a state
abbrev pub watch_after : Option WatchValue → ℕ → HartValue → WatchValue
watch_after None hart now = watch_begun hart now
watch_after (Some w) hart now = if w.hart == hart then watch_continued now w else watch_begun hart now

-- whether a hart in a state is one that spins
abbrev pub spins : Option WatchValue → ℕ → HartValue → Bool
spins None hart now = false
spins (Some w) hart now = w.hart == hart && is_back w.seen now

-- the word of `pause`, 0x0100000F, which is `fence w,0` (Unprivileged ISA, "Zihintpause")
abbrev pub pause_word : ℕ
pause_word = 16_777_231

-- whether a fetched word is that of `pause`
abbrev pub is_pause : Option ℕ → Bool
is_pause None = false
is_pause (Some word) = word == pause_word

-- whether a hart in a state is one that runs and comes to a `pause`
unfoldable pub pauses : Memory → HartValue → Bool
pauses memory now = is_running now.state && is_pause (fetched memory now.pc)
