-- What every hart log keeps, and one more segment.
use Rattle.std.proofs.Common.{◌≡◌, ℕ, Bool, ◌&&◌, List, [], ◌∷◌, ◌++◌, Option, Some, None, refl, ap, ap₂, sym, subst, ◌∙◌}
use Rattle.std.specs.Prelude.{IfSome, Ok}
use Rattle.std.specs.List.{AllByRecursion}
use Rattle.image.specs.Image.{ImageValue}
use Rattle.isa_table.specs.declared.instr.Instr.{Instr}
use Rattle.mem_store.specs.Memory.{Memory}
use Rattle.mem_store.specs.Image.{image_memory}
use Rattle.mem_store.specs.Instruction.{instruction_at}
use Rattle.hart_step.specs.Hart.{HartValue, hart_of}
use Rattle.hart_step.specs.declared.hart.Hart.{Hart}
use Rattle.hart_reservations.specs.Marks.{names}
use Rattle.bank_laws.specs.declared.access.LoggedAccess.{LoggedAccess}
use Rattle.bank_laws.specs.Banks.{WordBytes}
use Rattle.bank_laws.specs.Runs.{StepTable, Touch, succeeds}
use Rattle.bank_laws.specs.Segments.{LoggedSegment, HartSlot, logged_access, slot_did}
use Rattle.bank_laws.specs.HartLogs.{AreLocal, IsStepwise, StepFits, step_slot, local_hart, local_slot, segment_slot, slot_after_log}
use Rattle.bank_laws.proofs.HartLogLemmas.{stepwise_walks}
use Rattle.bank_laws.specs.Merged.{first_slot}
use Rattle.bank_step.specs.declared.steps.CodeTouch.{CodeTouch}
use Rattle.bank_step.specs.Known.{IsInstrBeside}
use Rattle.bank_step.specs.Told.{as_touch, told_memory, told_word}
use Rattle.bank_hart_log.specs.declared.step.Slot.{Slot}
use Rattle.bank_hart_log.specs.HartLog.{HartLogValue, image_table, slot_in, logged_slot, with_access, StepsAreLocal, CountLocal, FitsLog, HartLogHolds, IsOfHart, TouchesNext}
use Rattle.bank_hart_log.specs.LastStep.{slot_is, succeeds_at, IsTouch, SlotIf}
use Rattle.bank_hart_log.proofs.StepLemmas.{fits_in_code, fits_touch}
use Rattle.bank_hart_log.proofs.AheadLemmas.{local_untouched}

pub is_of_hart : (image : ImageValue) (inputs : List ℕ) (h : ℕ) (log : List LoggedSegment) (hart : Hart) (named : Option ℕ) (walked : ℕ) (reached : Hart)
    → HartLogHolds image inputs h log hart named walked reached → IsOfHart (record { image = image; inputs = inputs; hart = h; log = log })
is_of_hart image inputs h log hart named walked reached holds = record {
  there = holds.there;
  own = holds.own;
  counted = holds.counted;
  walks = stepwise_walks (image_table image) (first_slot image inputs h) log holds.steps;
}

-- ---- whether a segment fits
pub not_of_hart : (l : HartLogValue) (e : LoggedSegment) → (e.hart ≡ l.hart → ⊥) → SlotIf (FitsLog l e) (segment_slot (image_table l.image) e (logged_slot l)) None
not_of_hart l e n f = n f.hart

pub not_local : (l : HartLogValue) (e : LoggedSegment) → (StepsAreLocal l.image e.local (logged_slot l).hart → ⊥) → SlotIf (FitsLog l e) (segment_slot (image_table l.image) e (logged_slot l)) None
not_local l e n f = n f.local

fits_more : (l : HartLogValue) (e : LoggedSegment) (r : Option Slot) → e.hart ≡ l.hart → StepsAreLocal l.image e.local (logged_slot l).hart
    → SlotIf (StepFits (image_table l.image) e (local_slot (image_table l.image) e.local (logged_slot l))) (segment_slot (image_table l.image) e (logged_slot l)) r
    → SlotIf (FitsLog l e) (segment_slot (image_table l.image) e (logged_slot l)) r
fits_more l e None own local h = λ f. h f.step
fits_more l e (Some t) own local h = (record { hart = own; local = local; step = h.0 }, h.1)

pub fits_by : (l : HartLogValue) (e : LoggedSegment) (s : Slot) (r : Option Slot) → e.hart ≡ l.hart → StepsAreLocal l.image e.local (logged_slot l).hart
    → slot_is s ≡ local_slot (image_table l.image) e.local (logged_slot l)
    → SlotIf (StepFits (image_table l.image) e (slot_is s)) (step_slot (image_table l.image) e (slot_is s)) r
    → SlotIf (FitsLog l e) (segment_slot (image_table l.image) e (logged_slot l)) r
fits_by l e s r own local is h =
    fits_more l e r own local (subst (λ (t : HartSlot HartValue). SlotIf (StepFits (image_table l.image) e t) (step_slot (image_table l.image) e t) r) is h)

-- ---- one more segment
all_push : (P : LoggedSegment → Type 0) (log : List LoggedSegment) (e : LoggedSegment) → AllByRecursion P log → P e → AllByRecursion P (log ++ e ∷ [])
all_push P [] e all p = (p, tt)
all_push P (x ∷ log) e all p = (all.0, all_push P log e all.1 p)

slot_push : (T : StepTable HartValue) (s : HartSlot HartValue) (log : List LoggedSegment) (e : LoggedSegment)
    → slot_after_log T s (log ++ e ∷ []) ≡ segment_slot T e (slot_after_log T s log)
slot_push T s [] e = refl
slot_push T s (x ∷ log) e = slot_push T (segment_slot T x s) log e

stepwise_push : (T : StepTable HartValue) (s : HartSlot HartValue) (log : List LoggedSegment) (e : LoggedSegment) → IsStepwise T s log
    → AreLocal T e.local (slot_after_log T s log).hart → StepFits T e (local_slot T e.local (slot_after_log T s log)) → IsStepwise T s (log ++ e ∷ [])
stepwise_push T s [] e steps local fits = (local, fits, tt)
stepwise_push T s (x ∷ log) e steps local fits = (steps.0, steps.1, stepwise_push T (segment_slot T x s) log e steps.2 local fits)

count_push : (image : ImageValue) (s : HartSlot HartValue) (log : List LoggedSegment) (e : LoggedSegment) → CountLocal image s log
    → StepsAreLocal image e.local (slot_after_log (image_table image) s log).hart → CountLocal image s (log ++ e ∷ [])
count_push image s [] e all local = (local, tt)
count_push image s (x ∷ log) e all local = (all.0, count_push image (segment_slot (image_table image) x s) log e all.1 local)

pub holds_push : (image : ImageValue) (inputs : List ℕ) (h : ℕ) (log : List LoggedSegment) (hart : Hart) (named : Option ℕ) (walked : ℕ) (reached : Hart) (e : LoggedSegment) (s : Slot)
    → HartLogHolds image inputs h log hart named walked reached → FitsLog (record { image = image; inputs = inputs; hart = h; log = log }) e
    → slot_is s ≡ segment_slot (image_table image) e (slot_in image inputs h log)
    → HartLogHolds image inputs h (log ++ e ∷ []) s.hart s.named 0 s.hart
holds_push image inputs h log hart named walked reached e s holds fits is =
    let goes : slot_is s ≡ slot_in image inputs h (log ++ e ∷ []) = is ∙ sym (slot_push (image_table image) (first_slot image inputs h) log e) in
    record {
      harts = holds.harts;
      there = holds.there;
      own = all_push (λ (x : LoggedSegment). x.hart ≡ h) log e holds.own fits.hart;
      steps = stepwise_push (image_table image) (first_slot image inputs h) log e holds.steps
          (local_untouched image e.local (slot_in image inputs h log).hart fits.local) fits.step;
      slot = goes;
      counted = count_push image (first_slot image inputs h) log e holds.counted fits.local;
      local = tt;
      reached_is = ap (λ (t : HartSlot HartValue). t.hart) goes;
    }

-- the same, where log and segment are seen by their fields
pub fits_seen : (l0 l : HartLogValue) (e0 e : LoggedSegment) (s : Slot) (r : Option Slot) → l0 ≡ l → e0 ≡ e → e0.hart ≡ l0.hart
    → StepsAreLocal l.image e0.local (logged_slot l).hart → hart_of s.hart ≡ local_hart (image_table l.image) e0.local (logged_slot l).hart
    → s.named ≡ (logged_slot l0).named
    → SlotIf (StepFits (image_table l0.image) e (slot_is s)) (step_slot (image_table l0.image) e (slot_is s)) r
    → SlotIf (FitsLog l e) (segment_slot (image_table l.image) e (logged_slot l)) r
fits_seen l0 l e0 e s r p q own local hart named h =
    let count : e0.local ≡ e.local = ap (λ (x : LoggedSegment). x.local) q in
    let hart2 : hart_of s.hart ≡ local_hart (image_table l.image) e.local (logged_slot l).hart = hart ∙ ap (λ (n : ℕ). local_hart (image_table l.image) n (logged_slot l).hart) count in
    let named2 : s.named ≡ (logged_slot l).named = named ∙ ap (λ (x : HartLogValue). (logged_slot x).named) p in
    fits_by l e s r
    (sym (ap (λ (x : LoggedSegment). x.hart) q) ∙ own ∙ ap (λ (x : HartLogValue). x.hart) p)
    (subst (λ (n : ℕ). StepsAreLocal l.image n (logged_slot l).hart) count local)
    (λ i. record { hart = hart2 i; named = named2 i })
    (subst (λ (x : HartLogValue). SlotIf (StepFits (image_table x.image) e (slot_is s)) (step_slot (image_table x.image) e (slot_is s)) r) p h)

-- ---- a segment that touches a word, with all of it known
access_is_touch : (T : StepTable HartValue) (e : LoggedSegment) (s : HartSlot HartValue) (c : WordBytes) (t : Touch) (a : LoggedAccess) (v : WordBytes) (m : Bool)
    → a ≡ logged_access T e s.hart c t v m (succeeds t.act e.refuse (m && names s.named t.word)) → IsTouch T e s c t a
access_is_touch T e s c t a v m is =
    let before : a.before ≡ v = ap (λ (x : LoggedAccess). x.before) is in
    let mark : a.mark ≡ m = ap (λ (x : LoggedAccess). x.mark) is in
    is ∙ ap₂ (λ (w : WordBytes) (n : Bool). logged_access T e s.hart c t w n (succeeds t.act e.refuse (n && names s.named t.word))) (sym before) (sym mark)

did_by_access : (T : StepTable HartValue) (e : LoggedSegment) (s : HartSlot HartValue) (c : WordBytes) (t : Touch) (a : LoggedAccess) (v : WordBytes) (m : Bool)
    → a ≡ logged_access T e s.hart c t v m (succeeds t.act e.refuse (m && names s.named t.word))
    → slot_did T s c t v (succeeds t.act e.refuse (m && names s.named t.word)) ≡ slot_did T s c t a.before (succeeds_at e s t a)
did_by_access T e s c t a v m is =
    let before : a.before ≡ v = ap (λ (x : LoggedAccess). x.before) is in
    let mark : a.mark ≡ m = ap (λ (x : LoggedAccess). x.mark) is in
    ap₂ (λ (w : WordBytes) (n : Bool). slot_did T s c t w (succeeds t.act e.refuse (n && names s.named t.word))) (sym before) (sym mark)

-- the fields of the code as the log's
pub next_fits : (l : HartLogValue) (e : LoggedSegment) (k : CodeTouch) (t : Touch) (s r : Slot) (a : LoggedAccess) (v : WordBytes) (m : Bool) → TouchesNext l e k
    → as_touch k.touch ≡ t → slot_is s ≡ local_slot (image_table l.image) e.local (logged_slot l)
    → a ≡ logged_access (image_table l.image) e (slot_is s).hart [] t v m (succeeds t.act e.refuse (m && names s.named t.word))
    → slot_is r ≡ slot_did (image_table l.image) (slot_is s) [] t v (succeeds t.act e.refuse (m && names s.named t.word))
    → FitsLog l (with_access e a) × (slot_is r ≡ segment_slot (image_table l.image) (with_access e a) (logged_slot l))
next_fits l e k t s r a v m next same is a_is r_is =
    let T = image_table l.image in
    let f = with_access e a in
    let need : T.need (slot_is s).hart ≡ None = ap (λ (u : HartSlot HartValue). T.need u.hart) is ∙ next.touches.need in
    let plan : T.plan (slot_is s).hart [] ≡ Some t = ap (λ (u : HartSlot HartValue). T.plan u.hart []) is ∙ next.touches.plan ∙ ap Some same in
    fits_by l f s (Some r) next.hart next.local is
    (fits_in_code T f (slot_is s) (a ∷ []) (Some r) need refl
    (fits_touch T f (slot_is s) [] t a (Some r) plan
    (access_is_touch T f (slot_is s) [] t a v m a_is, r_is ∙ did_by_access T f (slot_is s) [] t a v m a_is)))

-- the same of what the code has seen
pub record NextSeen (image : ImageValue) (inputs : List ℕ) (h : ℕ) (log : List LoggedSegment) (e : LoggedSegment) (t : Touch) (s r : Slot) (a : LoggedAccess) (v : WordBytes) (m : Bool) : Type 0 where
  pub access_is : (c : WordBytes) → None ≡ told_word ((image_table image).need (slot_is s).hart) c → (image_table image).plan (slot_is s).hart c ≡ Some t
      → a ≡ logged_access (image_table image) e (slot_is s).hart c t v m (succeeds t.act e.refuse (m && names s.named t.word))
  pub slot_after_is : (c : WordBytes) → None ≡ told_word ((image_table image).need (slot_is s).hart) c → (image_table image).plan (slot_is s).hart c ≡ Some t
      → slot_is r ≡ slot_did (image_table image) (slot_is s) c t v (succeeds t.act e.refuse (m && names s.named t.word))

pub seen_fits : (image : ImageValue) (inputs : List ℕ) (h : ℕ) (log : List LoggedSegment) (hart : Hart) (named : Option ℕ) (walked : ℕ) (reached : Hart) (l : HartLogValue) (e : LoggedSegment) (k : CodeTouch) (s r : Slot) (a : LoggedAccess) (v : WordBytes) (m : Bool) (count : ℕ)
    → HartLogHolds image inputs h log hart named walked reached → record { image = image; inputs = inputs; hart = h; log = log } ≡ l → TouchesNext l e k → count ≡ e.local
    → hart_of s.hart ≡ local_hart (image_table l.image) count (logged_slot l).hart → s.named ≡ named → NextSeen image inputs h log e (as_touch k.touch) s r a v m
    → FitsLog (record { image = image; inputs = inputs; hart = h; log = log }) (with_access e a)
    × (slot_is r ≡ segment_slot (image_table image) (with_access e a) (slot_in image inputs h log))
seen_fits image inputs h log hart named walked reached l e k s r a v m count holds view next counted to named_is seen =
    let L : HartLogValue = record { image = image; inputs = inputs; hart = h; log = log } in
    let T = image_table image in
    let here : TouchesNext L e k = subst (λ (x : HartLogValue). TouchesNext x e k) (sym view) next in
    let t = as_touch k.touch in
    let hart_there : hart_of s.hart ≡ local_hart T e.local (logged_slot L).hart =
    to ∙ ap (λ (n : ℕ). local_hart (image_table l.image) n (logged_slot l).hart) counted ∙ sym (ap (λ (x : HartLogValue). local_hart (image_table x.image) e.local (logged_slot x).hart) view) in
    let named_there : s.named ≡ (logged_slot L).named = named_is ∙ ap (λ (x : HartSlot HartValue). x.named) holds.slot in
    let at : slot_is s ≡ local_slot T e.local (logged_slot L) = λ i. record { hart = hart_there i; named = named_there i } in
    let need : T.need (slot_is s).hart ≡ None = ap (λ (u : HartValue). T.need u) hart_there ∙ here.touches.need in
    let plan : T.plan (slot_is s).hart [] ≡ Some t = ap (λ (u : HartValue). T.plan u []) hart_there ∙ here.touches.plan in
    let told : None ≡ told_word (T.need (slot_is s).hart) [] = sym (ap (λ (o : Option ℕ). told_word o []) need) in
    next_fits L e k t s r a v m here refl at (seen.access_is [] told plan) (seen.slot_after_is [] told plan)

-- the instruction that comes with a touch is the one that the code does next
pub instr_there : (image : ImageValue) (inputs : List ℕ) (h : ℕ) (log : List LoggedSegment) (l : HartLogValue) (e : LoggedSegment) (k : CodeTouch) (hart : Hart) (bytes : WordBytes) (count : ℕ)
    → record { image = image; inputs = inputs; hart = h; log = log } ≡ l → TouchesNext l e k → count ≡ e.local
    → hart_of hart ≡ local_hart (image_table l.image) count (logged_slot l).hart
    → IfSome k.instr (λ i. Ok i ≡ instruction_at (told_memory (image_memory image) None (Some (record { address = k.touch.word; bytes = bytes })) None) hart.pc)
instr_there image inputs h log l e k hart bytes count view next counted to =
    let T = image_table l.image in
    let pc : (local_hart T e.local (logged_slot l).hart).pc ≡ hart.pc = sym (ap (λ (v : HartValue). v.pc) (to ∙ ap (λ (n : ℕ). local_hart T n (logged_slot l).hart) counted)) in
    let here : image_memory l.image ≡ image_memory image = sym (ap (λ (x : HartLogValue). image_memory x.image) view) in
    go k.instr (subst (λ (a : ℕ). IfSome k.instr (IsInstrBeside (image_memory image) a k.touch.word)) pc
    (subst (λ (m : Memory). IfSome k.instr (IsInstrBeside m (local_hart T e.local (logged_slot l).hart).pc k.touch.word)) here next.touches.instr))
  where
    go : (o : Option Instr) → IfSome o (IsInstrBeside (image_memory image) hart.pc k.touch.word)
        → IfSome o (λ i. Ok i ≡ instruction_at (told_memory (image_memory image) None (Some (record { address = k.touch.word; bytes = bytes })) None) hart.pc)
    go None all = tt
    go (Some i) all = all bytes

-- a log's hart, from where the log ends
pub local_there : (image : ImageValue) (inputs : List ℕ) (h : ℕ) (log : List LoggedSegment) (hart : Hart) (named : Option ℕ) (walked : ℕ) (reached : Hart) (l : HartLogValue) (e : LoggedSegment) (k : CodeTouch) (count : ℕ)
    → HartLogHolds image inputs h log hart named walked reached → record { image = image; inputs = inputs; hart = h; log = log } ≡ l → TouchesNext l e k → count ≡ e.local
    → StepsAreLocal image count (hart_of hart)
local_there image inputs h log hart named walked reached l e k count holds view next counted =
    let here : TouchesNext (record { image = image; inputs = inputs; hart = h; log = log }) e k = subst (λ (x : HartLogValue). TouchesNext x e k) (sym view) next in
    subst (λ (v : HartValue). StepsAreLocal image count v) (sym (ap (λ (s : HartSlot HartValue). s.hart) holds.slot))
    (subst (λ (n : ℕ). StepsAreLocal image n (slot_in image inputs h log).hart) (sym counted) here.local)

pub from_log : (image : ImageValue) (inputs : List ℕ) (h : ℕ) (log : List LoggedSegment) (hart : Hart) (named : Option ℕ) (walked : ℕ) (reached : Hart) (l : HartLogValue) (count : ℕ) (v : HartValue)
    → HartLogHolds image inputs h log hart named walked reached → record { image = image; inputs = inputs; hart = h; log = log } ≡ l
    → v ≡ local_hart (image_table image) count (hart_of hart) → v ≡ local_hart (image_table l.image) count (logged_slot l).hart
from_log image inputs h log hart named walked reached l count v holds view is =
    is ∙ ap (local_hart (image_table image) count) (ap (λ (s : HartSlot HartValue). s.hart) holds.slot)
    ∙ ap (λ (x : HartLogValue). local_hart (image_table x.image) count (logged_slot x).hart) view
