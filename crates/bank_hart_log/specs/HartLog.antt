-- A hart's log as segments over the table of an image.
use Rattle.std.specs.Prelude.{◌≡◌, ℕ, zero, suc, ◌-◌, ◌<◌, ◌≤◌, false, List, [], ◌∷◌, ◌++◌, length, Option, Some, None, slice_get}
use Rattle.std.specs.List.{AllByRecursion}
use Rattle.image.specs.Image.{ImageValue}
use Rattle.mem_store.specs.Image.{image_memory}
use Rattle.hart_reservations.specs.Limit.{most_harts}
use Rattle.hart_step.specs.Hart.{HartValue, hart_of}
use Rattle.hart_step.specs.declared.hart.Hart.{Hart}
use Rattle.hart_local.specs.CodeMemory.{code_in}
use Rattle.hart_local.specs.LocalStep.{class_of}
use Rattle.hart_local.specs.declared.stepping.Class.TheVariants.{Local}
use Rattle.bank_laws.specs.declared.access.LoggedAccess.{LoggedAccess}
use Rattle.bank_laws.specs.Runs.{StepTable}
use Rattle.bank_laws.specs.Segments.{LoggedSegment, HartSlot, Walks}
use Rattle.bank_laws.specs.HartLogs.{IsStepwise, StepFits, local_hart, local_slot, segment_slot, slot_after_log}
use Rattle.bank_laws.specs.Table.{table}
use Rattle.bank_laws.specs.Merged.{first_slot}
use Rattle.bank_step.specs.declared.steps.CodeTouch.{CodeTouch}
use Rattle.bank_step.specs.Known.{IsCodeTouch}
use Rattle.bank_hart_log.specs.declared.log.Ahead.{Ahead}
use Rattle.bank_hart_log.specs.declared.log.AheadTouch.{AheadTouch}
use Rattle.bank_hart_log.specs.declared.log.AddFault.{AddFault}
use Rattle.bank_hart_log.specs.declared.log.AddFault.TheVariants.{Mismatch, Memory}

-- the program with its inputs, one per hart; the hart's number, and its segments
pub record HartLogValue : Type 0 where
  pub image : ImageValue
  pub inputs : List ℕ
  pub hart : ℕ
  pub log : List LoggedSegment

-- the table of an image's harts
abbrev pub image_table : ImageValue → StepTable HartValue
image_table image = table (image_memory image)

-- the slot of hart h of a program after segments
abbrev pub slot_in : ImageValue → List ℕ → ℕ → List LoggedSegment → HartSlot HartValue
slot_in image inputs h log = slot_after_log (image_table image) (first_slot image inputs h) log

-- the slot after the log: the hart, and the word that its last LR without a fault named, if no SC
-- without a fault came after it
abbrev pub logged_slot : HartLogValue → HartSlot HartValue
logged_slot l = slot_in l.image l.inputs l.hart l.log

-- the code's slot as a `HartSlot`
abbrev pub slot_with : Hart → Option ℕ → HartSlot HartValue
slot_with hart named = record { hart = hart_of hart; named = named }

-- the next n steps of a hart are local, over an image's code
abbrev pub StepsAreLocal : ImageValue → ℕ → HartValue → Type 0
StepsAreLocal image zero v = Unit {0}
StepsAreLocal image (suc n) v =
    (class_of (code_in (image_memory image)) v ≡ Local) × StepsAreLocal image n ((image_table image).after v [] [] false)

-- from a slot on, the steps that each segment counts are local
abbrev pub CountLocal : ImageValue → HartSlot HartValue → List LoggedSegment → Type 0
CountLocal image s [] = Unit {0}
CountLocal image s (e ∷ es) =
    StepsAreLocal image e.local s.hart × CountLocal image (segment_slot (image_table image) e s) es

-- the stamp of a segment, 0 if there is none
abbrev pub segment_stamp : Option LoggedSegment → ℕ
segment_stamp None = 0
segment_stamp (Some e) = e.stamp

-- the stamp of the last segment, 0 if there is none
abbrev pub last_segment_stamp : List LoggedSegment → ℕ
last_segment_stamp log = segment_stamp (slice_get log (length log - 1))

-- hart and word are those after the segments, which are the hart's own, step by step, and count
-- local steps; and n further local steps have led to the hart walked ahead
pub record HartLogHolds (image : ImageValue) (inputs : List ℕ) (h : ℕ) (log : List LoggedSegment) (hart : Hart) (named : Option ℕ) (walked : ℕ) (reached : Hart) : Type 0 where
  pub harts : length inputs ≤ most_harts
  pub there : h < length inputs
  pub own : AllByRecursion (λ e. e.hart ≡ h) log
  pub steps : IsStepwise (image_table image) (first_slot image inputs h) log
  pub slot : slot_with hart named ≡ slot_in image inputs h log
  pub counted : CountLocal image (first_slot image inputs h) log
  pub local : StepsAreLocal image walked (slot_in image inputs h log).hart
  pub reached_is : hart_of reached ≡ local_hart (image_table image) walked (slot_in image inputs h log).hart

-- all segments are the hart's own, count local steps, and are a walk from where it begins to the
-- slot
pub record IsOfHart (l : HartLogValue) : Type 0 where
  pub there : l.hart < length l.inputs
  pub own : AllByRecursion (λ e. e.hart ≡ l.hart) l.log
  pub counted : CountLocal l.image (first_slot l.image l.inputs l.hart) l.log
  pub walks : Walks (image_table l.image) (first_slot l.image l.inputs l.hart) l.log (logged_slot l)

-- a hart is n local steps ahead of the log
pub record IsAhead (l : HartLogValue) (a : Ahead) : Type 0 where
  pub local : StepsAreLocal l.image a.local (logged_slot l).hart
  pub hart : hart_of a.hart ≡ local_hart (image_table l.image) a.local (logged_slot l).hart

-- a hart is n local steps ahead of the log, and its next step is of code and touches a word
pub record IsAheadTouch (l : HartLogValue) (a : AheadTouch) : Type 0 where
  pub local : StepsAreLocal l.image a.local (logged_slot l).hart
  pub touches : IsCodeTouch (image_memory l.image) (local_hart (image_table l.image) a.local (logged_slot l).hart) a.touch

-- a segment may come next: the hart's own, with local steps, and its last step's accesses
pub record FitsLog (l : HartLogValue) (e : LoggedSegment) : Type 0 where
  pub hart : e.hart ≡ l.hart
  pub local : StepsAreLocal l.image e.local (logged_slot l).hart
  pub step : StepFits (image_table l.image) e (local_slot (image_table l.image) e.local (logged_slot l))

-- a segment with one access
abbrev pub with_access : LoggedSegment → LoggedAccess → LoggedSegment
with_access e a = record e { accesses = a ∷ [] }

-- a segment that touches a word may come next: its own, with local steps, its last of code
pub record TouchesNext (l : HartLogValue) (e : LoggedSegment) (t : CodeTouch) : Type 0 where
  pub hart : e.hart ≡ l.hart
  pub local : StepsAreLocal l.image e.local (logged_slot l).hart
  pub touches : IsCodeTouch (image_memory l.image) (local_hart (image_table l.image) e.local (logged_slot l).hart) t

-- the log with one more segment
abbrev pub with_segment : HartLogValue → LoggedSegment → HartLogValue
with_segment l e = record l { log = l.log ++ e ∷ [] }

-- why a segment is not logged
abbrev pub RefusesSegment : HartLogValue → LoggedSegment → AddFault → Type 0
RefusesSegment l e Mismatch = FitsLog l e → ⊥
RefusesSegment l e Memory = FitsLog l e
