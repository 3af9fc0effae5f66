-- Which accesses are those of a segment's last step.
use Rattle.std.proofs.Common.{◌≡◌, ℕ, suc, false, List, [], ◌∷◌, ◌++◌, Option, Some, None, refl, ap, ap₂, sym, subst, ◌∙◌}
use Rattle.std.specs.Prelude.{option_map}
use Rattle.image.specs.Image.{ImageValue}
use Rattle.mem_store.specs.Image.{image_memory}
use Rattle.hart_step.specs.Hart.{HartValue}
use Rattle.hart_local.specs.CodeMemory.{code_in}
use Rattle.hart_local.specs.LocalStep.{class_of}
use Rattle.hart_local.specs.declared.stepping.Class.TheVariants.{Local}
use Rattle.bank_laws.specs.declared.access.LoggedAccess.{LoggedAccess}
use Rattle.bank_laws.specs.Banks.{WordBytes}
use Rattle.bank_laws.specs.Runs.{StepTable, Touch}
use Rattle.bank_laws.specs.Segments.{LoggedSegment, HartSlot, logged_access, given_bytes, code_reads, data_accesses, slot_after, slot_did}
use Rattle.bank_laws.specs.HartLogs.{first, data_part, StepFits, step_slot, local_hart}
use Rattle.bank_laws.specs.Table.{word_in}
use Rattle.bank_step.specs.Told.{as_touch, told_word}
use Rattle.bank_hart_log.specs.declared.step.Slot.{Slot}
use Rattle.bank_hart_log.specs.HartLog.{image_table, StepsAreLocal}
use Rattle.bank_hart_log.specs.LastStep.{slot_is, succeeds_at, data_slot, IsCodeRead, IsTouch, DataFits, SlotIf}

-- ---- data
abbrev DataBy : StepTable HartValue → LoggedSegment → HartSlot HartValue → WordBytes → Option Touch → List LoggedAccess → Type 0
DataBy T e s c o xs = xs ≡ data_accesses T e s c o (first xs).value (first xs).mark

abbrev data_to : StepTable HartValue → LoggedSegment → HartSlot HartValue → WordBytes → Option Touch → List LoggedAccess → HartSlot HartValue
data_to T e s c o xs = slot_after T e.refuse s c o (first xs).value (first xs).mark

slot_more : (P Q : Type 0) (s : HartSlot HartValue) (r : Option Slot) → (P → Q) → (Q → P) → SlotIf P s r → SlotIf Q s r
slot_more P Q s None f g h = λ q. h (g q)
slot_more P Q s (Some t) f g h = (f h.0, h.1)

pub none_planned : (o : Option Touch) → option_map as_touch None ≡ o → o ≡ None
none_planned o e = sym e

pub fits_untouched : (T : StepTable HartValue) (e : LoggedSegment) (s : HartSlot HartValue) (c : WordBytes) (r : Slot) → T.plan s.hart c ≡ None
    → slot_is r ≡ record { hart = T.after s.hart c [] false; named = s.named } → SlotIf (DataFits T e s c []) (data_slot T e s c []) (Some r)
fits_untouched T e s c r p h = subst (λ (o : Option Touch). SlotIf (DataBy T e s c o []) (data_to T e s c o []) (Some r)) (sym p) (refl, h)

pub unfit_more : (T : StepTable HartValue) (e : LoggedSegment) (s : HartSlot HartValue) (c : WordBytes) (a : LoggedAccess) → T.plan s.hart c ≡ None
    → DataFits T e s c (a ∷ []) → ⊥
unfit_more T e s c a p = subst (λ (o : Option Touch). DataBy T e s c o (a ∷ []) → ⊥) (sym p) (λ q. cc (q))

pub unfit_less : (T : StepTable HartValue) (e : LoggedSegment) (s : HartSlot HartValue) (c : WordBytes) (t : Touch) → T.plan s.hart c ≡ Some t
    → DataFits T e s c [] → ⊥
unfit_less T e s c t p = subst (λ (o : Option Touch). DataBy T e s c o [] → ⊥) (sym p) (λ q. cc (q))

head_same : (a b : LoggedAccess) (xs ys : List LoggedAccess) → a ∷ xs ≡ b ∷ ys → a ≡ b
head_same a b xs ys p = cc (p)

tail_same : (a b : LoggedAccess) (xs ys : List LoggedAccess) → a ∷ xs ≡ b ∷ ys → xs ≡ ys
tail_same a b xs ys p = cc (p)

pub fits_touch : (T : StepTable HartValue) (e : LoggedSegment) (s : HartSlot HartValue) (c : WordBytes) (t : Touch) (a : LoggedAccess) (r : Option Slot) → T.plan s.hart c ≡ Some t
    → SlotIf (IsTouch T e s c t a) (slot_did T s c t a.before (succeeds_at e s t a)) r → SlotIf (DataFits T e s c (a ∷ [])) (data_slot T e s c (a ∷ [])) r
fits_touch T e s c t a r p h =
    let x = logged_access T e s.hart c t a.before a.mark (succeeds_at e s t a) in
    subst (λ (o : Option Touch). SlotIf (DataBy T e s c o (a ∷ [])) (data_to T e s c o (a ∷ [])) r) (sym p)
    (slot_more (IsTouch T e s c t a) (DataBy T e s c (Some t) (a ∷ [])) (slot_did T s c t a.before (succeeds_at e s t a)) r
    (λ q. ap (λ (y : LoggedAccess). y ∷ []) q) (λ q. head_same a x [] [] q) h)

-- ---- code
abbrev FitsBy : StepTable HartValue → LoggedSegment → HartSlot HartValue → Option ℕ → List LoggedAccess → Type 0
FitsBy T e s n xs = xs ≡ code_reads e n (first xs).value (first xs).mark
    ++ data_accesses T e s (given_bytes n (first xs).value) (T.plan s.hart (given_bytes n (first xs).value)) (first (data_part n xs)).value (first (data_part n xs)).mark

abbrev slot_by : StepTable HartValue → LoggedSegment → HartSlot HartValue → Option ℕ → List LoggedAccess → HartSlot HartValue
slot_by T e s n xs = slot_after T e.refuse s (given_bytes n (first xs).value) (T.plan s.hart (given_bytes n (first xs).value)) (first (data_part n xs)).value (first (data_part n xs)).mark

placed : (T : StepTable HartValue) (e : LoggedSegment) (s : HartSlot HartValue) (n : Option ℕ) (xs : List LoggedAccess) (r : Option Slot) → T.need s.hart ≡ n
    → xs ≡ e.accesses → SlotIf (FitsBy T e s n xs) (slot_by T e s n xs) r → SlotIf (StepFits T e s) (step_slot T e s) r
placed T e s n xs r p q h =
    subst (λ (m : Option ℕ). SlotIf (FitsBy T e s m e.accesses) (slot_by T e s m e.accesses) r) (sym p)
    (subst (λ (ys : List LoggedAccess). SlotIf (FitsBy T e s n ys) (slot_by T e s n ys) r) q h)

pub fits_in_code : (T : StepTable HartValue) (e : LoggedSegment) (s : HartSlot HartValue) (xs : List LoggedAccess) (r : Option Slot) → T.need s.hart ≡ None
    → xs ≡ e.accesses → SlotIf (DataFits T e s [] xs) (data_slot T e s [] xs) r → SlotIf (StepFits T e s) (step_slot T e s) r
fits_in_code T e s xs r p q h = placed T e s None xs r p q h

pub too_many : (T : StepTable HartValue) (e : LoggedSegment) (s : HartSlot HartValue) (a b : LoggedAccess) → T.need s.hart ≡ None
    → a ∷ b ∷ [] ≡ e.accesses → SlotIf (StepFits T e s) (step_slot T e s) None
too_many T e s a b p q = placed T e s None (a ∷ b ∷ []) None p q (two (T.plan s.hart []))
  where
    two : (o : Option Touch) → (a ∷ b ∷ [] ≡ data_accesses T e s [] o a.before a.mark) → ⊥
    two None r = cc (r)
    two (Some t) r = cc (r)

pub no_read : (T : StepTable HartValue) (e : LoggedSegment) (s : HartSlot HartValue) (x : ℕ) → T.need s.hart ≡ Some x
    → [] ≡ e.accesses → SlotIf (StepFits T e s) (step_slot T e s) None
no_read T e s x p q = placed T e s (Some x) [] None p q (λ r. cc (r))

pub not_read : (T : StepTable HartValue) (e : LoggedSegment) (s : HartSlot HartValue) (x : ℕ) (a : LoggedAccess) (xs : List LoggedAccess) → T.need s.hart ≡ Some x
    → a ∷ xs ≡ e.accesses → (IsCodeRead e x a → ⊥) → SlotIf (StepFits T e s) (step_slot T e s) None
not_read T e s x a xs p q n = placed T e s (Some x) (a ∷ xs) None p q (λ r. n (head_same a _ xs _ r))

pub fits_outside : (T : StepTable HartValue) (e : LoggedSegment) (s : HartSlot HartValue) (x : ℕ) (a : LoggedAccess) (xs : List LoggedAccess) (r : Option Slot) → T.need s.hart ≡ Some x
    → a ∷ xs ≡ e.accesses → IsCodeRead e x a → SlotIf (DataFits T e s a.before xs) (data_slot T e s a.before xs) r → SlotIf (StepFits T e s) (step_slot T e s) r
fits_outside T e s x a xs r p q is h =
    placed T e s (Some x) (a ∷ xs) r p q
    (slot_more (DataFits T e s a.before xs) (FitsBy T e s (Some x) (a ∷ xs)) (data_slot T e s a.before xs) r
    (λ f. ap₂ (λ (y : LoggedAccess) (ys : List LoggedAccess). y ∷ ys) is f) (λ f. tail_same a _ xs _ f) h)

-- ---- words that are given
pub told_touch : (o : Option Touch) (t : Touch) (x : ℕ) (v : WordBytes) → o ≡ Some t → x ≡ t.word → Some (record { address = x; bytes = v }) ≡ told_word (word_in o) v
told_touch o t x v e f = ap (λ (y : ℕ). Some (record { address = y; bytes = v })) f ∙ ap (λ (p : Option Touch). told_word (word_in p) v) (sym e)

pub told_none : (o : Option Touch) (v : WordBytes) → o ≡ None → None ≡ told_word (word_in o) v
told_none o v e = ap (λ (p : Option Touch). told_word (word_in p) v) (sym e)

-- ---- local steps
-- that n steps from one hart are local is known by that of those which are left from another, and
-- both end alike
pub record LeadsOn (m : ImageValue) (n : ℕ) (h : HartValue) (left : ℕ) (reached : HartValue) : Type 0 where
  pub back : StepsAreLocal m left reached → StepsAreLocal m n h
  pub forth : StepsAreLocal m n h → StepsAreLocal m left reached
  pub ends : local_hart (image_table m) left reached ≡ local_hart (image_table m) n h

pub leads_first : (m : ImageValue) (n left : ℕ) (h : HartValue) → left ≡ n → LeadsOn m n h left h
leads_first m n left h e = rw e (record { back = λ l. l; forth = λ l. l; ends = refl })

pub leads_next : (m : ImageValue) (n left less : ℕ) (h reached after : HartValue) → left ≡ suc less → LeadsOn m n h left reached
    → class_of (code_in (image_memory m)) reached ≡ Local → after ≡ (image_table m).after reached [] [] false → LeadsOn m n h less after
leads_next m n left less h reached after e on still is =
    subst (λ (v : HartValue). LeadsOn m n h less v) (sym is)
    (let there : LeadsOn m n h (suc less) reached = subst (λ (k : ℕ). LeadsOn m n h k reached) e on in
    record {
      back = λ l. there.back (still, l);
      forth = λ l. (there.forth l).1;
      ends = there.ends;
    })

pub not_local : (m : ImageValue) (n left less : ℕ) (h reached : HartValue) → left ≡ suc less → LeadsOn m n h left reached
    → (class_of (code_in (image_memory m)) reached ≡ Local → ⊥) → StepsAreLocal m n h → ⊥
not_local m n left less h reached e on shared all =
    let now : StepsAreLocal m (suc less) reached = subst (λ (k : ℕ). StepsAreLocal m k reached) e (on.forth all) in
    shared now.0

pub all_local : (m : ImageValue) (n left : ℕ) (h reached : HartValue) → left ≡ 0 → LeadsOn m n h left reached
    → StepsAreLocal m n h × (reached ≡ local_hart (image_table m) n h)
all_local m n left h reached e on =
    let there : LeadsOn m n h 0 reached = subst (λ (k : ℕ). LeadsOn m n h k reached) e on in
    (there.back tt, there.ends)
