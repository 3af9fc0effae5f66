-- A step whose code is read from memory: what its banks and its hart's log take of it.
use Rattle.std.proofs.Common.{◌≡◌, ℕ, ◌%◌, ◌<◌, ◌&&◌, ◌==◌, Bool, true, false, List, [], ◌∷◌, ◌++◌, length, Option, Some, None, refl, ap, ap₂, sym, subst, ◌∙◌, arith}
use Rattle.std.specs.Prelude.{not, nat_lt}
use Rattle.std.proofs.lemmas.Bool.{and_from, and_parts, eq-eqb, or_right}
use Rattle.image.specs.Image.{ImageValue}
use Rattle.hart_reservations.specs.Marks.{names}
use Rattle.hart_step.specs.Hart.{HartValue, hart_of}
use Rattle.bank_laws.specs.declared.access.LoggedAccess.{LoggedAccess}
use Rattle.bank_laws.specs.Banks.{WordBytes}
use Rattle.bank_laws.specs.Order.{is_code_read}
use Rattle.bank_laws.specs.Runs.{Act, Reads, Writes, Reserves, Tries, StepTable, Touch, kind_of, succeeds}
use Rattle.bank_laws.specs.Segments.{HartSlot, LoggedSegment, code_reads, data_accesses, given_bytes, logged_access}
use Rattle.bank_laws.specs.HartLogs.{StepFits, data_part, first, local_hart, local_slot}
use Rattle.bank_laws.specs.Merged.{bank_of}
use Rattle.bank_memory.specs.BankLog.{BankLog, FitsBank, IsOfBank, bank_with_access, state_of}
use Rattle.bank_memory.specs.Rising.{is_before, may_follow}
use Rattle.bank_memory.specs.Stamps.{last_access_stamp, next_stamp}
use Rattle.bank_memory.proofs.OrderLemmas.{follows_above}
use Rattle.bank_memory.proofs.StampLemmas.{greatest_is, next_above}
use Rattle.bank_hart_log.specs.HartLog.{FitsLog, HartLogValue, StepsAreLocal, image_table, logged_slot}
use Rattle.bank_hart_log.specs.LastStep.{DataFits, IsCodeRead, IsTouch, slot_is}
use Rattle.bank_worker.specs.declared.step.Walked.{Walked}
use Rattle.bank_worker.specs.Walked.{IsWalked}
use Rattle.bank_worker.specs.Worked.{IsNextIn, IsOfWalk}

-- ---- stamps
pub above_one : (own last stamp : ℕ) → next_stamp own (last ∷ []) ≡ Some stamp → last < stamp
above_one own last stamp next =
    let low = (greatest_is own (last ∷ [])).most.1.0 in
    let above = next_above own (last ∷ []) stamp next in
    omega (arith, low, above)

pub above_two : (own one other stamp : ℕ) → next_stamp own (one ∷ other ∷ []) ≡ Some stamp → (one < stamp) × (other < stamp)
above_two own one other stamp next =
    let low = (greatest_is own (one ∷ other ∷ [])).most.1.0 in
    let low_2 = (greatest_is own (one ∷ other ∷ [])).most.1.1.0 in
    let above = next_above own (one ∷ other ∷ []) stamp next in
    (omega (arith, low, above), omega (arith, low_2, above))

-- ---- the code read
head_same : (a b : LoggedAccess) → a ∷ [] ≡ b ∷ [] → a ≡ b
head_same a b p = cc (p)

pub read_back : (e : LoggedSegment) (x : ℕ) (v : WordBytes) (m : Bool) (a : LoggedAccess) → code_reads e (Some x) v m ≡ a ∷ [] → IsCodeRead e x a × (a.before ≡ v)
read_back e x v m a is = subst (λ (b : LoggedAccess). IsCodeRead e x b × (b.before ≡ v)) (head_same _ a is) (refl, refl)

pub read_fits : (b : BankLog) (e : LoggedSegment) (x : ℕ) (v : WordBytes) (m : Bool) (a : LoggedAccess) → IsOfBank b → code_reads e (Some x) v m ≡ a ∷ []
    → e.hart < length b.inputs → x % 4 ≡ 0 → bank_of x ≡ b.number → last_access_stamp b.log < e.stamp
    → v ≡ (state_of b).values x → m ≡ names ((state_of b).marks e.hart) x → FitsBank b a
read_fits b e x v m a of is there aligned its above bytes mark =
    subst (FitsBank b) (head_same _ a is)
    (record { word = aligned; bank = its; hart = there; finds = (bytes, mark); follows = follows_above b.log _ of.order above })

-- ---- the data access
no_read : (act : Act) (ok : Bool) → is_code_read (kind_of act ok) ≡ false
no_read Reads ok = refl
no_read Writes ok = refl
no_read Reserves ok = refl
no_read Tries true = refl
no_read Tries false = refl

pub touch_fits : (T : StepTable HartValue) (b : BankLog) (e : LoggedSegment) (h : HartValue) (c : WordBytes) (t : Touch) (v : WordBytes) (m ok : Bool) (a : LoggedAccess)
    → a ≡ logged_access T e h c t v m ok → e.hart < length b.inputs → t.word % 4 ≡ 0 → bank_of t.word ≡ b.number → IsNextIn b e
    → v ≡ (state_of b).values t.word → m ≡ names ((state_of b).marks e.hart) t.word → FitsBank b a
touch_fits T b e h c t v m ok a is there aligned its next bytes mark =
    subst (FitsBank b) (sym is)
    (record { word = aligned; bank = its; hart = there; finds = (bytes, mark); follows = next _ refl refl (no_read t.act ok) })

pub touch_back : (T : StepTable HartValue) (e : LoggedSegment) (s : HartSlot HartValue) (c : WordBytes) (t : Touch) (v : WordBytes) (m : Bool) (a : LoggedAccess)
    → a ≡ logged_access T e s.hart c t v m (succeeds t.act e.refuse (m && names s.named t.word)) → IsTouch T e s c t a
touch_back T e s c t v m a is = subst (IsTouch T e s c t) (sym is) refl

-- ---- what may come next in a bank
pub next_above_all : (b : BankLog) (e : LoggedSegment) → IsOfBank b → last_access_stamp b.log < e.stamp → IsNextIn b e
next_above_all b e of above a stamp hart other = follows_above b.log a of.order (omega (arith, above, stamp))

follows_push : (log : List LoggedAccess) (r a : LoggedAccess) → may_follow log a ≡ true → is_before r a ≡ true → may_follow (log ++ r ∷ []) a ≡ true
unfolding may_follow
follows_push [] r a f e = and_from (is_before r a) true e refl
follows_push (x ∷ log) r a f e =
    let both = and_parts (is_before x a) (may_follow log a) f in
    and_from (is_before x a) _ both.0 (follows_push log r a both.1 e)

before_touch : (r a : LoggedAccess) → r.stamp ≡ a.stamp → r.hart ≡ a.hart → is_code_read r.kind ≡ true → is_code_read a.kind ≡ false → is_before r a ≡ true
before_touch r a stamp hart read other =
    or_right (nat_lt r.stamp a.stamp) _ (and_from (r.stamp == a.stamp) _ (eq-eqb r.stamp a.stamp stamp)
    (and_from (r.hart == a.hart) _ (eq-eqb r.hart a.hart hart) (and_from (is_code_read r.kind) _ read (ap not other))))

pub next_behind_read : (b after : BankLog) (e : LoggedSegment) (x : ℕ) (r : LoggedAccess) → IsOfBank b → last_access_stamp b.log < e.stamp → IsCodeRead e x r
    → after ≡ bank_with_access b r → IsNextIn after e
next_behind_read b after e x r of above read adds =
    subst (λ (k : BankLog). IsNextIn k e) (sym adds)
    (λ a stamp hart other. follows_push b.log r a (next_above_all b e of above a stamp hart other)
    (before_touch r a (ap (λ (y : LoggedAccess). y.stamp) read ∙ sym stamp) (ap (λ (y : LoggedAccess). y.hart) read ∙ sym hart)
    (ap (λ (y : LoggedAccess). is_code_read y.kind) read) other))

-- ---- what the hart's log takes
abbrev FitsBy : StepTable HartValue → LoggedSegment → HartSlot HartValue → Option ℕ → List LoggedAccess → Type 0
FitsBy T e s n xs = xs ≡ code_reads e n (first xs).value (first xs).mark
    ++ data_accesses T e s (given_bytes n (first xs).value) (T.plan s.hart (given_bytes n (first xs).value)) (first (data_part n xs)).value (first (data_part n xs)).mark

step_fits : (T : StepTable HartValue) (e : LoggedSegment) (s : HartSlot HartValue) (x : ℕ) (a : LoggedAccess) (xs : List LoggedAccess) → T.need s.hart ≡ Some x
    → e.accesses ≡ a ∷ xs → IsCodeRead e x a → DataFits T e s a.before xs → StepFits T e s
step_fits T e s x a xs need has read rest =
    subst (λ (n : Option ℕ). FitsBy T e s n e.accesses) (sym need)
    (subst (FitsBy T e s (Some x)) (sym has) (ap₂ (λ (y : LoggedAccess) (ys : List LoggedAccess). y ∷ ys) read rest))

-- the segment of walked steps with these accesses
abbrev with_both : LoggedSegment → LoggedAccess → List LoggedAccess → LoggedSegment
with_both e a xs = record e { accesses = a ∷ xs }

module _ (image : ImageValue) (l : HartLogValue) (e : LoggedSegment) (w : Walked) (walked : IsWalked image l w) (of : IsOfWalk w.next e) where
  slots : slot_is w.slot ≡ local_slot (image_table l.image) e.local (logged_slot l)
  slots = ap₂ (λ (h : HartValue) (n : Option ℕ). record { hart = h; named = n })
      (walked.reached ∙ ap (λ n. local_hart (image_table l.image) n (logged_slot l).hart) (sym of.local)) walked.named

  fits : (x : ℕ) (a : LoggedAccess) (xs : List LoggedAccess) → (image_table image).need (hart_of w.slot.hart) ≡ Some x → IsCodeRead e x a
      → DataFits (image_table image) (with_both e a xs) (slot_is w.slot) a.before xs → FitsLog l (with_both e a xs)
  fits x a xs need read rest = record {
    hart = of.hart ∙ walked.number;
    local = subst (λ n. StepsAreLocal l.image n (logged_slot l).hart) (sym of.local) walked.local;
    step = subst (StepFits (image_table l.image) (with_both e a xs)) slots
        (subst (λ (m : ImageValue). StepFits (image_table m) (with_both e a xs) (slot_is w.slot)) (sym walked.same_image)
        (step_fits (image_table image) (with_both e a xs) (slot_is w.slot) x a xs need refl read rest));
  }

  pub read_fits_log : (x : ℕ) (a : LoggedAccess) (c : WordBytes) → (image_table image).need (hart_of w.slot.hart) ≡ Some x → IsCodeRead e x a → a.before ≡ c
      → (image_table image).plan (hart_of w.slot.hart) c ≡ None → FitsLog l (record e { accesses = a ∷ [] })
  read_fits_log x a c need read bytes plan =
      fits x a [] need read
      (subst (λ (o : Option Touch). [] ≡ data_accesses (image_table image) (with_both e a []) (slot_is w.slot) a.before o [] false)
      (sym (ap ((image_table image).plan (hart_of w.slot.hart)) bytes ∙ plan)) refl)

  pub touch_fits_log : (x : ℕ) (a d : LoggedAccess) (c : WordBytes) (t : Touch) → (image_table image).need (hart_of w.slot.hart) ≡ Some x → IsCodeRead e x a → a.before ≡ c
      → (image_table image).plan (hart_of w.slot.hart) c ≡ Some t → IsTouch (image_table image) e (slot_is w.slot) c t d → FitsLog l (record e { accesses = a ∷ d ∷ [] })
  touch_fits_log x a d c t need read bytes plan touch =
      fits x a (d ∷ []) need read
      (subst (λ (o : Option Touch). d ∷ [] ≡ data_accesses (image_table image) (with_both e a (d ∷ [])) (slot_is w.slot) a.before o d.before d.mark)
      (sym (ap ((image_table image).plan (hart_of w.slot.hart)) bytes ∙ plan))
      (ap (λ (y : LoggedAccess). y ∷ []) (subst (λ (v : WordBytes). IsTouch (image_table image) e (slot_is w.slot) v t d) (sym bytes) touch)))

  pub of_walk_with : (xs : List LoggedAccess) → IsOfWalk w.next (record e { accesses = xs })
  of_walk_with xs = record { hart = of.hart; local = of.local; refuse = of.refuse; above = of.above }
