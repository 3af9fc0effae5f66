-- The choices of merged logs, and where their run leads.
use Rattle.std.specs.Prelude.{◌≡◌, ℕ, ◌+◌, ◌%◌, ◌≤◌, Bool, false, List, [], ◌∷◌, ◌++◌, length, replicate}
use Rattle.image.specs.Image.{ImageValue}
use Rattle.mem_store.specs.Image.{image_memory}
use Rattle.hart_step.specs.Hart.{HartValue}
use Rattle.machine.specs.World.{run}
use Rattle.machine.specs.Start.{started}
use Rattle.machine.specs.declared.choice.Choice.{Choice}
use Rattle.bank_laws.specs.declared.access.LoggedAccess.{LoggedAccess}
use Rattle.bank_laws.specs.Banks.{after_log}
use Rattle.bank_laws.specs.Segments.{LoggedSegment, HartSlot}
use Rattle.bank_laws.specs.Order.{AreLogs, IsMatched, IsMerged}
use Rattle.bank_laws.specs.Table.{table}
use Rattle.bank_laws.specs.Merged.{bank_of, first_slot, first_bank, segment_choices, EndsIn}
use Rattle.bank_order.specs.Weaving.{log_of}

-- a choice of a hart
abbrev pub choice_by : ℕ → Bool → Choice
choice_by hart refuse = record { hart = hart; refuse = refuse }

-- n plain choices of a hart
abbrev pub plain_steps : ℕ → ℕ → List Choice
plain_steps hart count = replicate count (choice_by hart false)

-- the choices of a segment: its local steps, then one choice with its refusal
abbrev pub choices_of_one : LoggedSegment → List Choice
choices_of_one e = plain_steps e.hart e.local ++ choice_by e.hart e.refuse ∷ []

-- the number of choices that segments stand for
abbrev pub choices_in : List LoggedSegment → ℕ
choices_in [] = 0
choices_in (e ∷ es) = e.local + 1 + choices_in es

-- choices are those of all segments of the logs, in the order of their stamps
pub record IsMergeOf (logs : List (List LoggedSegment)) (choices : List Choice) : Type 0 where
  pub segments : List LoggedSegment
  pub merged : IsMerged (log_of logs) segments
  pub are : choices ≡ segment_choices segments

-- for any program of the logs: if banks have the same accesses in their logs, the run of the
-- choices ends as the logs of harts and banks do
abbrev pub LeadsToLogged : List (List LoggedSegment) → List Choice → Type 0
LeadsToLogged logs choices =
    (image : ImageValue) (inputs : List ℕ) (ends : ℕ → HartSlot HartValue) (banks : ℕ → List LoggedAccess)
    → image.entry % 4 ≡ 0 → length logs ≤ length inputs
    → AreLogs bank_of (table (image_memory image)) (first_slot image inputs) ends (λ b. first_bank image) (log_of logs) banks
    → IsMatched bank_of (log_of logs) banks
    → EndsIn image inputs (run (started image inputs) choices) ends (λ b. after_log (first_bank image) (banks b))
