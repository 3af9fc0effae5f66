-- Harts that wait: the steps of a comparison of registers, and where no `pause` is.
use Rattle.std.proofs.Common.{◌≡◌, ◌==◌, ℕ, suc, ◌+◌, Bool, true, false, ◌&&◌, true≢false, refl, ap, ◌∙◌, sym, arith}
use Rattle.mem_store.specs.Memory.{Memory}
use Rattle.mem_store.specs.Access.{fetched}
use Rattle.hart_step.specs.Hart.{HartValue, Registers}
use Rattle.machine.specs.Running.{is_running}
use Rattle.sched_draw.specs.Spinning.{same_registers, is_pause, pauses}

-- no register
pub no_register : (seen now : Registers) → true ≡ same_registers 0 seen now
unfolding same_registers
no_register seen now = refl

registers-suc : (n : ℕ) (seen now : Registers) → same_registers (suc n) seen now ≡ (same_registers n seen now && seen n == now n)
unfolding same_registers
registers-suc n seen now = refl

-- one register more
pub register_more : (n : ℕ) (seen now : Registers) (so_far : Bool) → so_far ≡ same_registers n seen now
    → (so_far && seen n == now n) ≡ same_registers (n + 1) seen now
register_more n seen now so_far is =
    let e : suc n ≡ n + 1 = omega arith in
    ap (λ b. b && seen n == now n) is ∙ sym (registers-suc n seen now) ∙ ap (λ m. same_registers m seen now) e

-- where its first byte isn't there, no hart pauses
and-false : (b : Bool) → (b && false) ≡ false
and-false true = refl
and-false false = refl

no_pause : (pause begins : Bool) → (pause ≡ true → begins ≡ true) → begins ≡ false → pause ≡ false
no_pause true begins found none = absurd (true≢false (sym (found refl) ∙ none))
no_pause false begins found none = refl

pub not_paused : (m : Memory) (now : HartValue) (begins : Bool) → (is_pause (fetched m now.pc) ≡ true → begins ≡ true) → begins ≡ false
    → false ≡ pauses m now
unfolding pauses
not_paused m now begins found none =
    sym (ap (λ b. is_running now.state && b) (no_pause (is_pause (fetched m now.pc)) begins found none) ∙ and-false (is_running now.state))
