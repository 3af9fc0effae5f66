-- A hart's pc stays a multiple of 4, so the word that holds its instruction does too.
use Rattle.std.proofs.Common.{◌≡◌, ℕ, zero, suc, ◌%◌, ◌^◌, Bool, true, false, List, [], ◌∷◌, Option, Some, None, subst, sym, arith}
use Rattle.std.specs.Prelude.{if◌then◌else◌}
use Rattle.image.specs.Image.{ImageValue}
use Rattle.mem_store.specs.Memory.{Memory}
use Rattle.mem_store.specs.Image.{image_memory}
use Rattle.hart_step.specs.Hart.{HartValue, hart_of}
use Rattle.hart_step.specs.Laws.{IsAligned}
use Rattle.hart_step.specs.declared.hart.HartState.{HartState}
use Rattle.hart_step.specs.declared.hart.HartState.TheVariants.{Running, Exited, Faulted}
use Rattle.hart_step.proofs.HartLemmas.{stepped-aligned}
use Rattle.bank_laws.specs.Banks.{WordBytes}
use Rattle.bank_laws.specs.Runs.{Touch}
use Rattle.bank_laws.specs.Segments.{HartSlot, LoggedSegment, slot_after}
use Rattle.bank_laws.specs.HartLogs.{code_answer, data_answer, local_hart, local_slot, plan_of, segment_slot, slot_after_log}
use Rattle.bank_laws.specs.Merged.{first_slot}
use Rattle.bank_laws.specs.Table.{needed_code, table, told}
use Rattle.bank_hart_log.specs.HartLog.{HartLogValue, image_table, logged_slot}
use Rattle.bank_worker.specs.declared.step.Walked.{Walked}
use Rattle.bank_worker.specs.Walked.{IsWalked}

after_aligned : (m : Memory) (h : HartValue) (c v : WordBytes) (ok : Bool) → IsAligned h → IsAligned ((table m).after h c v ok)
after_aligned m h c v ok = stepped-aligned 0 false (told m h c v ok)

local_aligned : (m : Memory) (n : ℕ) (h : HartValue) → IsAligned h → IsAligned (local_hart (table m) n h)
local_aligned m zero h a = a
local_aligned m (suc n) h a = local_aligned m n ((table m).after h [] [] false) (after_aligned m h [] [] false a)

slot_aligned : (m : Memory) (refuse : Bool) (s : HartSlot HartValue) (c : WordBytes) (p : Option Touch) (v : WordBytes) (mark : Bool)
    → IsAligned s.hart → IsAligned (slot_after (table m) refuse s c p v mark).hart
slot_aligned m refuse s c None v mark a = after_aligned m s.hart c [] false a
slot_aligned m refuse s c (Some t) v mark a = after_aligned m s.hart c v _ a

segment_aligned : (m : Memory) (e : LoggedSegment) (s : HartSlot HartValue) → IsAligned s.hart → IsAligned (segment_slot (table m) e s).hart
segment_aligned m e s a =
    let reached = local_slot (table m) e.local s in
    slot_aligned m e.refuse reached (code_answer (table m) e reached) (plan_of (table m) e reached) (data_answer (table m) e reached).value (data_answer (table m) e reached).mark
    (local_aligned m e.local s.hart a)

log_aligned : (m : Memory) (s : HartSlot HartValue) (es : List LoggedSegment) → IsAligned s.hart → IsAligned (slot_after_log (table m) s es).hart
log_aligned m s [] a = a
log_aligned m s (e ∷ es) a = log_aligned m (segment_slot (table m) e s) es (segment_aligned m e s a)

logged_aligned : (l : HartLogValue) → l.image.entry % 4 ≡ 0 → IsAligned (logged_slot l).hart
logged_aligned l entry = log_aligned (image_memory l.image) (first_slot l.image l.inputs l.hart) l.log entry

-- the word that a hart needs is the one at its pc
needed_aligned : (m : Memory) (h : HartValue) (x : ℕ) → IsAligned h → (table m).need h ≡ Some x → x % 4 ≡ 0
needed_aligned m h x a e = by h.state e
  where
    chosen : (b : Bool) → (if b then Some (h.pc % 2 ^ 32) else None) ≡ Some x → x % 4 ≡ 0
    chosen true e = let is : h.pc % 2 ^ 32 ≡ x = cc (e) in omega (arith, is, a)
    chosen false e = cc (e)

    by : (s : HartState) → needed_code s m h.pc ≡ Some x → x % 4 ≡ 0
    by Running e = chosen _ e
    by (Exited status) e = cc (e)
    by (Faulted cause) e = cc (e)

-- the word that a walked hart needs, where the program's entry is a multiple of 4
pub word_aligned : (image : ImageValue) (l : HartLogValue) (w : Walked) (x : ℕ) → IsWalked image l w → image.entry % 4 ≡ 0
    → (image_table image).need (hart_of w.slot.hart) ≡ Some x → x % 4 ≡ 0
word_aligned image l w x walked entry need =
    needed_aligned (image_memory image) (hart_of w.slot.hart) x
    (subst IsAligned (sym walked.reached)
    (local_aligned (image_memory l.image) w.next.local (logged_slot l).hart
    (logged_aligned l (subst (λ (m : ImageValue). m.entry % 4 ≡ 0) (sym walked.same_image) entry))))
    need
