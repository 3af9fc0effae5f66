-- The last step of a segment, by the accesses that it logs.
use Rattle.std.specs.Prelude.{◌≡◌, ℕ, Bool, ◌&&◌, List, [], ◌∷◌, Option, Some, None, option_to_list}
use Rattle.hart_reservations.specs.Marks.{names}
use Rattle.hart_step.specs.Hart.{HartValue}
use Rattle.bank_laws.specs.declared.access.LoggedAccess.{LoggedAccess}
use Rattle.bank_laws.specs.declared.access.LoggedKind.TheVariants.{CodeRead}
use Rattle.bank_laws.specs.Banks.{WordBytes}
use Rattle.bank_laws.specs.Runs.{StepTable, Touch, succeeds}
use Rattle.bank_laws.specs.Segments.{LoggedSegment, HartSlot, logged_access, data_accesses, slot_after}
use Rattle.bank_laws.specs.HartLogs.{first}
use Rattle.bank_hart_log.specs.HartLog.{slot_with}
use Rattle.bank_hart_log.specs.declared.step.Accesses.{Accesses}
use Rattle.bank_hart_log.specs.declared.step.Slot.{Slot}

-- the code's slot as a `HartSlot`
abbrev pub slot_is : Slot → HartSlot HartValue
slot_is s = slot_with s.hart s.named

-- whether a touch is an SC that stores, by what its access has found
abbrev pub succeeds_at : LoggedSegment → HartSlot HartValue → Touch → LoggedAccess → Bool
succeeds_at e s t a = succeeds t.act e.refuse (a.mark && names s.named t.word)

-- an access is that of a touch
abbrev pub IsTouch : StepTable HartValue → LoggedSegment → HartSlot HartValue → WordBytes → Touch → LoggedAccess → Type 0
IsTouch T e s c t a = a ≡ logged_access T e s.hart c t a.before a.mark (succeeds_at e s t a)

-- accesses are the data accesses, by the bytes of the code
abbrev pub DataFits : StepTable HartValue → LoggedSegment → HartSlot HartValue → WordBytes → List LoggedAccess → Type 0
DataFits T e s c xs = xs ≡ data_accesses T e s c (T.plan s.hart c) (first xs).value (first xs).mark

-- the slot after them
abbrev pub data_slot : StepTable HartValue → LoggedSegment → HartSlot HartValue → WordBytes → List LoggedAccess → HartSlot HartValue
data_slot T e s c xs = slot_after T e.refuse s c (T.plan s.hart c) (first xs).value (first xs).mark

-- an answer is a slot if a fact holds, and none if it doesn't
abbrev pub SlotIf : Type 0 → HartSlot HartValue → Option Slot → Type 0
SlotIf P s None = P → ⊥
SlotIf P s (Some t) = P × (slot_is t ≡ s)

-- the accesses of a segment, as a list
abbrev pub access_list : Option Accesses → List LoggedAccess
access_list None = []
access_list (Some a) = a.first ∷ option_to_list a.second

-- an access is the code read from a word, whatever it has found there
abbrev pub IsCodeRead : LoggedSegment → ℕ → LoggedAccess → Type 0
IsCodeRead e x a = a ≡ record {
  stamp = e.stamp;
  hart = e.hart;
  kind = CodeRead;
  word = x;
  before = a.before;
  after = a.before;
  mark = a.mark;
}
