-- The rules of the objects for the harts of a run, given their inputs and the run's choices.
use Rattle.std.specs.Prelude.{◌≡◌, ◌⊎◌, ℕ, ◌^◌, ◌<◌, ◌≤◌, Bool, true, false, List, length, Some, slice_get, slice_index_or}
use Rattle.std.specs.List.{All, Contains}
use Rattle.image.specs.Image.{ImageValue}
use Rattle.hart_step.specs.Hart.{HartValue}
use Rattle.hart_step.specs.declared.hart.HartState.{HartState}
use Rattle.hart_step.specs.declared.hart.HartState.TheVariants.{Running, Exited, Faulted}
use Rattle.machine.specs.World.{run}
use Rattle.machine.specs.Start.{started}
use Rattle.machine.specs.declared.choice.Choice.{Choice}
use Rattle.object_library.specs.declared.kind.Kind.{Kind}
use Rattle.object_library.specs.declared.kind.Kind.TheVariants.{Swap, Add, LrSc, AdoptCommit, Rounds}
use Rattle.machine.specs.Chosen.{chosen, own, refusals}

-- whether a hart in this state has exited
abbrev pub is_exited : HartState → Bool
is_exited Running = false
is_exited (Exited status) = true
is_exited (Faulted cause) = false

-- whether a hart in this state has faulted
abbrev pub is_faulted : HartState → Bool
is_faulted Running = false
is_faulted (Exited status) = false
is_faulted (Faulted cause) = true

-- the hart has exited
abbrev pub HasExited : HartValue → Type 0
HasExited h = is_exited h.state ≡ true

-- the value that a hart exits with: a0 (register 10)
abbrev pub value_of : HartValue → ℕ
value_of h = h.registers 10

-- 1 if a hart has decided on its value or commits to it: a1 (register 11)
abbrev pub flag_of : HartValue → ℕ
flag_of h = h.registers 11

-- a value is the input of a chosen hart
abbrev pub IsProposed : List ℕ → List Choice → ℕ → Type 0
IsProposed inputs choices value = (k : ℕ) × Contains (chosen choices) k × (slice_get inputs k ≡ Some value)

-- all chosen harts have the same input
abbrev pub AreAlike : List ℕ → List Choice → Type 0
AreAlike inputs choices =
    (j k : ℕ) → Contains (chosen choices) j → Contains (chosen choices) k → slice_get inputs j ≡ slice_get inputs k

-- consensus (Herlihy, "Wait-Free Synchronization", 1991)
pub record KeepsConsensus (inputs : List ℕ) (choices : List Choice) (harts : List HartValue) : Type 0 where
  -- a hart exits with the input of a chosen hart
  pub valid : All (λ h. HasExited h → IsProposed inputs choices (value_of h)) harts
  -- two harts that have exited have the same value
  pub agreed : All (λ h. All (λ k. HasExited h → HasExited k → value_of h ≡ value_of k) harts) harts
  -- a hart that has exited has decided
  pub decided : All (λ h. HasExited h → flag_of h ≡ 1) harts
  -- no hart has faulted
  pub sound : All (λ h. is_faulted h.state ≡ false) harts

-- adopt-commit (Gafni, "Round-by-Round Fault Detectors", 1998)
pub record KeepsAdoptCommit (inputs : List ℕ) (choices : List Choice) (harts : List HartValue) : Type 0 where
  -- a hart exits with the input of a chosen hart
  pub valid : All (λ h. HasExited h → IsProposed inputs choices (value_of h)) harts
  -- a hart that has exited adopts, 0, or commits, 1
  pub answered : All (λ h. HasExited h → (flag_of h ≡ 0) ⊎ (flag_of h ≡ 1)) harts
  -- if one hart commits, all harts that have exited have its value
  pub committed : All (λ h. All (λ k. HasExited h → HasExited k → flag_of h ≡ 1 → value_of h ≡ value_of k) harts) harts
  -- if all chosen harts have the same input, each hart that has exited commits
  pub convergent : AreAlike inputs choices → All (λ h. HasExited h → flag_of h ≡ 1) harts
  -- no hart has faulted
  pub sound : All (λ h. is_faulted h.state ≡ false) harts

-- every run of an image, with a suitable number of harts and words for inputs, meets a rule
abbrev pub EveryRun : (ℕ → Type 0) → ImageValue → (List ℕ → List Choice → List HartValue → Type 0) → Type 0
EveryRun IsMeant image Rule =
    (inputs : List ℕ) (choices : List Choice) → IsMeant (length inputs) → All (λ x. x < 2 ^ 32) inputs
    → All (λ c. c.hart < length inputs) choices → Rule inputs choices (run (started image inputs) choices).harts

-- each hart chosen often enough has exited: a bound by the number of harts and its own refusals
abbrev pub EndsAfter : (ℕ → ℕ → ℕ) → List ℕ → List Choice → List HartValue → Type 0
EndsAfter bound inputs choices harts =
    (h : ℕ) (d : HartValue) → h < length inputs → bound (length inputs) (refusals choices h) ≤ own choices h
    → HasExited (slice_index_or harts h d)

-- the rule of each kind
abbrev pub KeepsRule : Kind → List ℕ → List Choice → List HartValue → Type 0
KeepsRule Swap inputs choices harts = KeepsConsensus inputs choices harts
KeepsRule Add inputs choices harts = KeepsConsensus inputs choices harts
KeepsRule LrSc inputs choices harts = KeepsConsensus inputs choices harts
KeepsRule AdoptCommit inputs choices harts = KeepsAdoptCommit inputs choices harts
KeepsRule Rounds inputs choices harts = KeepsAdoptCommit inputs choices harts
