-- A hart's log as equations, for a type's invariant: the bytes and marks that answer a step are
-- read off its accesses.
use Rattle.std.specs.Prelude.{◌≡◌, ℕ, zero, suc, Bool, false, List, [], ◌∷◌, ◌++◌, Option, Some, None}
use Rattle.bank_laws.specs.declared.access.LoggedAccess.{LoggedAccess}
use Rattle.bank_laws.specs.Banks.{WordBytes}
use Rattle.bank_laws.specs.Runs.{StepTable, Touch}
use Rattle.bank_laws.specs.Segments.{LoggedSegment, HartSlot, answered, code_reads, data_accesses, slot_after}

-- the bytes and the mark that an access has found
pub record FoundWord : Type 0 where
  pub value : WordBytes
  pub mark : Bool

-- what the first access has found
abbrev pub first : List LoggedAccess → FoundWord
first [] = record { value = []; mark = false }
first (a ∷ xs) = record { value = a.before; mark = a.mark }

-- all accesses but the first
abbrev pub all_but_first : List LoggedAccess → List LoggedAccess
all_but_first [] = []
all_but_first (a ∷ xs) = xs

-- the accesses after the code read, if there is one
abbrev pub data_part : Option ℕ → List LoggedAccess → List LoggedAccess
data_part None xs = xs
data_part (Some x) xs = all_but_first xs

-- what the data access has found
abbrev pub data_answer : {H : Type 0} → StepTable H → LoggedSegment → HartSlot H → FoundWord
data_answer T e s = first (data_part (T.need s.hart) e.accesses)

-- the bytes of the code as the log records them
abbrev pub code_answer : {H : Type 0} → StepTable H → LoggedSegment → HartSlot H → WordBytes
code_answer T e s = answered T s (first e.accesses).value

-- what the last step of a segment touches
abbrev pub plan_of : {H : Type 0} → StepTable H → LoggedSegment → HartSlot H → Option Touch
plan_of T e s = T.plan s.hart (code_answer T e s)

-- the slot after the last step of a segment
abbrev pub step_slot : {H : Type 0} → StepTable H → LoggedSegment → HartSlot H → HartSlot H
step_slot T e s =
    slot_after T e.refuse s (code_answer T e s) (plan_of T e s) (data_answer T e s).value (data_answer T e s).mark

-- the last step of a segment logs these accesses
abbrev pub StepFits : {H : Type 0} → StepTable H → LoggedSegment → HartSlot H → Type 0
StepFits T e s = e.accesses ≡ code_reads e (T.need s.hart) (first e.accesses).value (first e.accesses).mark
    ++ data_accesses T e s (code_answer T e s) (plan_of T e s) (data_answer T e s).value (data_answer T e s).mark

-- the hart after n steps that touch nothing
abbrev pub local_hart : {H : Type 0} → StepTable H → ℕ → H → H
local_hart T zero h = h
local_hart T (suc n) h = local_hart T n (T.after h [] [] false)

-- the next n steps touch nothing
abbrev pub AreLocal : {H : Type 0} → StepTable H → ℕ → H → Type 0
AreLocal T zero h = Unit {0}
AreLocal T (suc n) h = (T.need h ≡ None) × (T.plan h [] ≡ None) × AreLocal T n (T.after h [] [] false)

-- the slot after n steps that touch nothing
abbrev pub local_slot : {H : Type 0} → StepTable H → ℕ → HartSlot H → HartSlot H
local_slot T n s = record { hart = local_hart T n s.hart; named = s.named }

-- the slot after a segment
abbrev pub segment_slot : {H : Type 0} → StepTable H → LoggedSegment → HartSlot H → HartSlot H
segment_slot T e s = step_slot T e (local_slot T e.local s)

-- the slot after a log
abbrev pub slot_after_log : {H : Type 0} → StepTable H → HartSlot H → List LoggedSegment → HartSlot H
slot_after_log T s [] = s
slot_after_log T s (e ∷ es) = slot_after_log T (segment_slot T e s) es

-- each segment is what the table's steps give
abbrev pub IsStepwise : {H : Type 0} → StepTable H → HartSlot H → List LoggedSegment → Type 0
IsStepwise T s [] = Unit {0}
IsStepwise T s (e ∷ es) =
    AreLocal T e.local s.hart × StepFits T e (local_slot T e.local s) × IsStepwise T (segment_slot T e s) es
