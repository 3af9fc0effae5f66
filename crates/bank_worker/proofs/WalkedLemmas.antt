-- What a step of code may log, and the stamp of its access.
use Rattle.std.proofs.Common.{◌≡◌, ℕ, ◌<◌, ◌%◌, ◌++◌, Bool, List, [], ◌∷◌, Option, Some, None, length, refl, ap, sym, subst, ◌∙◌, arith}
use Rattle.std.specs.Prelude.{option_map}
use Rattle.image.specs.Image.{ImageValue}
use Rattle.mem_store.specs.Memory.{Memory}
use Rattle.mem_store.specs.Image.{image_memory}
use Rattle.hart_reservations.specs.Marks.{names}
use Rattle.hart_step.specs.Hart.{HartValue, hart_of}
use Rattle.bank_laws.specs.declared.access.LoggedAccess.{LoggedAccess}
use Rattle.bank_laws.specs.Banks.{WordBytes, Finds}
use Rattle.bank_laws.specs.Runs.{StepTable, Touch}
use Rattle.bank_laws.specs.Segments.{LoggedSegment, HartSlot, code_reads, data_accesses, given_bytes}
use Rattle.bank_laws.specs.Merged.{bank_of}
use Rattle.bank_laws.specs.Table.{table}
use Rattle.bank_step.specs.declared.steps.CodeTouch.{CodeTouch}
use Rattle.bank_step.specs.declared.steps.PlannedTouch.{PlannedTouch}
use Rattle.bank_step.specs.Known.{IsCodeTouch}
use Rattle.bank_step.specs.Told.{as_touch, told_word}
use Rattle.bank_memory.specs.BankLog.{BankLog, bank_with_access, state_of, FitsBank, IsOfBank}
use Rattle.bank_memory.specs.Stamps.{last_access_stamp, next_stamp}
use Rattle.bank_memory.proofs.OrderLemmas.{follows_above}
use Rattle.bank_memory.proofs.StampLemmas.{greatest_is, last_push, next_above}
use Rattle.bank_laws.specs.HartLogs.{StepFits, first, local_hart, local_slot, plan_of}
use Rattle.bank_hart_log.specs.HartLog.{HartLogValue, StepsAreLocal, image_table, last_segment_stamp, logged_slot, with_access, FitsLog, IsAheadTouch, TouchesNext}
use Rattle.bank_worker.specs.declared.step.NextSegment.{NextSegment}
use Rattle.bank_worker.specs.declared.step.Walked.{Walked}
use Rattle.bank_worker.specs.Walked.{IsNextOf, IsWalked}
use Rattle.bank_worker.specs.Worked.{IsOfWalk, IsStampedNext}

module _ (image : ImageValue) (l : HartLogValue) (e : LoggedSegment) (w : Walked) (walked : IsWalked image l w) (of : IsOfWalk w.next e) where
  reached : hart_of w.slot.hart ≡ local_hart (image_table l.image) e.local (logged_slot l).hart
  reached = walked.reached ∙ ap (λ n. local_hart (image_table l.image) n (logged_slot l).hart) (sym of.local)

  locals : StepsAreLocal l.image e.local (logged_slot l).hart
  locals = subst (λ n. StepsAreLocal l.image n (logged_slot l).hart) (sym of.local) walked.local

  needs : (image_table image).need (hart_of w.slot.hart) ≡ None
      → (image_table l.image).need (local_hart (image_table l.image) e.local (logged_slot l).hart) ≡ None
  needs need = ap (λ (v : HartValue). (image_table l.image).need v) (sym reached)
      ∙ ap (λ (m : ImageValue). (image_table m).need (hart_of w.slot.hart)) walked.same_image ∙ need

  plans : (t : Option Touch) → (image_table image).plan (hart_of w.slot.hart) [] ≡ t
      → (image_table l.image).plan (local_hart (image_table l.image) e.local (logged_slot l).hart) [] ≡ t
  plans t plan = ap (λ (v : HartValue). (image_table l.image).plan v []) (sym reached)
      ∙ ap (λ (m : ImageValue). (image_table m).plan (hart_of w.slot.hart) []) walked.same_image ∙ plan

  pub fits_alone : e.accesses ≡ [] → (image_table image).need (hart_of w.slot.hart) ≡ None
      → (image_table image).plan (hart_of w.slot.hart) [] ≡ None → FitsLog l e
  fits_alone bare need plan = record {
    hart = of.hart ∙ walked.number;
    local = locals;
    step = alone (image_table l.image) e (local_slot (image_table l.image) e.local (logged_slot l)) bare (needs need) (plans None plan);
  }
    where
      none : (T : StepTable HartValue) (e : LoggedSegment) (s : HartSlot HartValue) (need : Option ℕ) (c d v : WordBytes) (m n : Bool) (p : Option Touch)
          → need ≡ None → p ≡ None → code_reads e need c m ++ data_accesses T e s d p v n ≡ []
      none T e s None c d v m n None q r = refl
      none T e s (Some x) c d v m n p q r = cc (q)
      none T e s None c d v m n (Some t) q r = cc (r)

      alone : (T : StepTable HartValue) (e : LoggedSegment) (s : HartSlot HartValue) → e.accesses ≡ [] → T.need s.hart ≡ None → T.plan s.hart [] ≡ None → StepFits T e s
      alone T e s bare need plan =
          bare ∙ sym (none T e s (T.need s.hart) _ _ _ _ _ (plan_of T e s) need
          (ap (T.plan s.hart) (ap (λ (o : Option ℕ). given_bytes o (first e.accesses).value) need) ∙ plan))

-- a touch ahead of a log is the next segment's
pub touches_next : (l : HartLogValue) (e : LoggedSegment) (n : NextSegment) (t : CodeTouch) → IsNextOf l n → IsOfWalk n e
    → IsAheadTouch l (record { local = n.local; touch = t }) → TouchesNext l e t
touches_next l e n t next of ahead = record {
  hart = of.hart ∙ next.number;
  local = subst (λ (k : ℕ). StepsAreLocal l.image k (logged_slot l).hart) (sym of.local) ahead.local;
  touches = subst (λ (k : ℕ). IsCodeTouch (image_memory l.image) (local_hart (image_table l.image) k (logged_slot l).hart) t) (sym of.local) ahead.touches;
}

-- the touch of a walked hart is ahead of its log
pub walked_touches : (image : ImageValue) (l : HartLogValue) (w : Walked) (t : CodeTouch) → IsWalked image l w → IsCodeTouch (image_memory image) (hart_of w.slot.hart) t
    → IsAheadTouch l (record { local = w.next.local; touch = t })
walked_touches image l w t walked touches = record {
  local = walked.local;
  touches = subst (λ (v : HartValue). IsCodeTouch (image_memory l.image) v t) walked.reached
      (subst (λ (m : ImageValue). IsCodeTouch (image_memory m) (hart_of w.slot.hart) t) (sym walked.same_image) touches);
}

-- a touch that was planned without a table
pub planned_is_touch : (m : Memory) (v : HartValue) (t : PlannedTouch) → (table m).need v ≡ None
    → ((c : WordBytes) → None ≡ told_word ((table m).need v) c → option_map as_touch (Some t) ≡ (table m).plan v c) → t.word % 4 ≡ 0
    → IsCodeTouch m v (record { touch = t; instr = None })
planned_is_touch m v t need plan aligned = record {
  need = need;
  plan = sym (plan [] (sym (ap (λ (o : Option ℕ). told_word o []) need)));
  instr = tt;
  aligned = aligned;
}

-- the one access of a segment has its stamp
first_stamp : List LoggedAccess → ℕ
first_stamp [] = 0
first_stamp (a ∷ xs) = a.stamp

one_stamp : (T : StepTable HartValue) (e : LoggedSegment) (a : LoggedAccess) (s : HartSlot HartValue) (need : Option ℕ) (c d v : WordBytes) (m n : Bool) (p : Option Touch)
    → a ∷ [] ≡ code_reads e need c m ++ data_accesses T e s d p v n → a.stamp ≡ e.stamp
unfolding first_stamp
one_stamp T e a s None c d v m n None q = cc (q)
one_stamp T e a s None c d v m n (Some t) q = ap first_stamp q
one_stamp T e a s (Some x) c d v m n p q = ap first_stamp q

pub access_is_stamped : (l : HartLogValue) (e : LoggedSegment) (a : LoggedAccess) → FitsLog l (with_access e a) → a.stamp ≡ e.stamp
access_is_stamped l e a fits = one_stamp (image_table l.image) (with_access e a) a (local_slot (image_table l.image) e.local (logged_slot l)) _ _ _ _ _ _ _ fits.step

-- an access finds what was found at its word
pub finds_here : (b : BankLog) (a : LoggedAccess) (h word : ℕ) (bytes : WordBytes) (mark : Bool) → a.before ≡ bytes → a.mark ≡ mark
    → bytes ≡ (state_of b).values word → mark ≡ names ((state_of b).marks h) word → a.hart ≡ h → a.word ≡ word → Finds (state_of b) a
finds_here b a h word bytes mark before marked found held hart is = (
  before ∙ found ∙ ap (state_of b).values (sym is),
  marked ∙ held ∙ (λ i. names ((state_of b).marks (sym hart i)) (sym is i)),
)

-- an access that finds what its word's bank has, with the next stamp, may come next there
pub fits_bank : (b : BankLog) (l : HartLogValue) (e : LoggedSegment) (a : LoggedAccess) (word : ℕ) → IsOfBank b → e.hart < length b.inputs → word % 4 ≡ 0
    → bank_of word ≡ b.number → next_stamp (last_segment_stamp l.log) (last_access_stamp b.log ∷ []) ≡ Some e.stamp → a.hart ≡ e.hart → a.word ≡ word
    → Finds (state_of b) a → FitsLog l (with_access e a) → FitsBank b a
fits_bank b l e a word of there aligned its next hart is finds fits =
    let stamps = last_access_stamp b.log ∷ [] in
    let own = last_segment_stamp l.log in
    let low = (greatest_is own stamps).most.1.0 in
    let above = next_above own stamps e.stamp next in
    let same = access_is_stamped l e a fits in
    record {
      word = ap (λ (x : ℕ). x % 4) is ∙ aligned;
      bank = ap bank_of is ∙ its;
      hart = omega (arith, hart, there);
      finds = finds;
      follows = follows_above b.log a of.order (omega (arith, low, above, same));
    }

-- and the bank's last stamp is then that one
pub stamped_next : (b after : BankLog) (l : HartLogValue) (e : LoggedSegment) (a : LoggedAccess)
    → next_stamp (last_segment_stamp l.log) (last_access_stamp b.log ∷ []) ≡ Some e.stamp → after ≡ bank_with_access b a
    → FitsLog l (with_access e a) → IsStampedNext l b after
stamped_next b after l e a next adds fits =
    next ∙ ap (λ (n : ℕ). Some n) (sym (ap (λ (x : BankLog). last_access_stamp x.log) adds ∙ last_push b.log a ∙ access_is_stamped l e a fits))
