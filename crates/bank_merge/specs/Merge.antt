-- The answers of merging.
use Rattle.std.specs.Prelude.{◌≡◌, ◌≢◌, ℕ, List}
use Rattle.image.specs.Image.{ImageValue}
use Rattle.hart_step.specs.Hart.{HartValue}
use Rattle.machine.specs.World.{run}
use Rattle.machine.specs.Start.{started}
use Rattle.machine.specs.Chosen.{own}
use Rattle.machine.specs.declared.choice.Choice.{Choice}
use Rattle.bank_laws.specs.declared.access.LoggedAccess.{LoggedAccess}
use Rattle.bank_laws.specs.Banks.{after_log}
use Rattle.bank_laws.specs.Segments.{LoggedSegment, HartSlot}
use Rattle.bank_laws.specs.Order.{In, IsMatched}
use Rattle.bank_laws.specs.Merged.{bank_of, first_bank, EndsIn}
use Rattle.bank_order.specs.Merged.{choices_in, IsMergeOf}
use Rattle.bank_memory.specs.BankLog.{BankLog}
use Rattle.bank_hart_log.specs.HartLog.{HartLogValue, slot_in}
use Rattle.bank_merge.specs.Logs.{bank_log, hart_log, segments_of_all, AreOf, StampsRise}
use Rattle.bank_merge.specs.declared.merging.MergeFault.{MergeFault}
use Rattle.bank_merge.specs.declared.merging.MergeFault.TheVariants.{Unmatched, OutOfOrder, Memory}

-- an access is in a hart's log exactly if it is in its word's bank
abbrev pub AreMatched : List HartLogValue → List BankLog → Type 0
AreMatched logs banks = IsMatched bank_of (hart_log logs) (bank_log banks)

-- two segments of different harts with equal stamps have no accesses to words of one bank
abbrev pub ShareNoBank : List HartLogValue → Type 0
ShareNoBank logs = (h k : ℕ) (e f : LoggedSegment) → In e (hart_log logs h) → In f (hart_log logs k) → h ≢ k
    → e.stamp ≡ f.stamp → (a c : LoggedAccess) → In a e.accesses → In c f.accesses → bank_of a.word ≢ bank_of c.word

-- each hart has as many of the choices as its log stands for
abbrev pub OwnAreLogged : List HartLogValue → List Choice → Type 0
OwnAreLogged logs choices = (h : ℕ) → own choices h ≡ choices_in (hart_log logs h)

-- the slots to which the logs of a program's harts lead
abbrev pub slots : ImageValue → List ℕ → List HartLogValue → ℕ → HartSlot HartValue
slots image inputs logs h = slot_in image inputs h (hart_log logs h)

-- the run of choices from the program's start has the logs' slots, the banks' bytes, and as
-- reservation of each hart the word that its slot names, where that word's bank has its mark
abbrev pub EndsAsLogged : List HartLogValue → List BankLog → List Choice → Type 0
EndsAsLogged logs banks choices = (image : ImageValue) (inputs : List ℕ) → AreOf image inputs logs banks
    → EndsIn image inputs (run (started image inputs) choices) (slots image inputs logs) (λ b. after_log (first_bank image) (bank_log banks b))

-- there are choices of all segments, whose run ends as the logs do
pub record AreOneRun (logs : List HartLogValue) (banks : List BankLog) : Type 0 where
  pub choices : List Choice
  pub merged : IsMergeOf (segments_of_all logs) choices
  pub ends : EndsAsLogged logs banks choices

-- why logs are not merged
abbrev pub RefusesLogs : List HartLogValue → List BankLog → MergeFault → Type 0
RefusesLogs logs banks Unmatched = AreMatched logs banks → ⊥
RefusesLogs logs banks OutOfOrder = AreMatched logs banks × (StampsRise logs → ⊥)
RefusesLogs logs banks Memory = Unit {0}
