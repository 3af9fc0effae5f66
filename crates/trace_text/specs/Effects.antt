-- What a choice did, as the things that its row tells.
use Rattle.std.specs.Prelude.{ℕ, List, [], ◌∷◌, ◌++◌, Option, Some, None}
use Rattle.hart_step.specs.declared.hart.Cause.{Cause}
use Rattle.hart_step.specs.declared.hart.Cause.TheVariants.{FetchAccess, Illegal, LoadMisaligned, LoadAccess, StoreMisaligned, StoreAccess, JumpMisaligned, BadCall, Break}
use Rattle.hart_step.specs.declared.hart.HartState.{HartState}
use Rattle.hart_step.specs.declared.hart.HartState.TheVariants.{Running, Exited, Faulted}
use Rattle.hart_step.specs.declared.data_access.AccessKind.{AccessKind}
use Rattle.hart_step.specs.declared.data_access.AccessKind.TheVariants.{Load, Store, LoadReserved, StoreConditional, Amo}
use Rattle.trace_steps.specs.declared.explaining.Explained.{Explained}
use Rattle.trace_steps.specs.declared.failure.Failure.{Failure}
use Rattle.trace_steps.specs.declared.told.Told.{Told}
use Rattle.trace_steps.specs.declared.told.ToldAccess.{ToldAccess}
use Rattle.trace_steps.specs.declared.told.Written.{Written}
use Rattle.trace_text.specs.declared.effect.Effect.{Effect}
use Rattle.trace_text.specs.declared.effect.Effect.TheVariants as effect

-- the list of a thing that may be absent
abbrev pub effect_list : Option Effect → List Effect
effect_list None = []
effect_list (Some e) = e ∷ []

-- a store-conditional succeeds where nothing makes it fail
abbrev pub sc_result : Option Failure → Effect
sc_result None = effect.Succeeds
sc_result (Some why) = effect.Fails why

-- of a store-conditional whether it succeeded, and why it failed
abbrev pub outcome_by : AccessKind → Option Failure → Option Effect
outcome_by Load failure = None
outcome_by Store failure = None
outcome_by LoadReserved failure = None
outcome_by StoreConditional failure = Some (sc_result failure)
outcome_by Amo failure = None

-- the same, where there is an access
unfoldable pub outcome : Option ToldAccess → Option Failure → Option Effect
outcome None failure = None
outcome (Some a) failure = outcome_by a.kind failure

-- the register that was written
unfoldable pub register_set : Option Written → Option Effect
register_set None = None
register_set (Some w) = Some (effect.Sets w)

-- the bytes that were stored, or their place alone where they are not mapped
abbrev pub bytes_set : ℕ → Option ℕ → Option ℕ → Effect
bytes_set address None after = effect.Accesses address
bytes_set address (Some before) None = effect.Accesses address
bytes_set address (Some before) (Some after) = effect.Stores address before after

-- those of a store-conditional: their place alone where it did not store
abbrev pub bytes_unless_failed : Option Failure → ℕ → Effect → Effect
bytes_unless_failed None address bytes = bytes
bytes_unless_failed (Some why) address bytes = effect.Accesses address

-- those of an instruction of this kind
abbrev pub effect_bytes : AccessKind → Option Failure → ℕ → Effect → Effect
effect_bytes Load failure address bytes = effect.Accesses address
effect_bytes Store failure address bytes = bytes
effect_bytes LoadReserved failure address bytes = effect.Accesses address
effect_bytes StoreConditional failure address bytes = bytes_unless_failed failure address bytes
effect_bytes Amo failure address bytes = bytes

-- what an instruction accessed: the bytes that it stored, or their place alone
unfoldable pub access_effect : Option ToldAccess → Option Failure → Option Effect
access_effect None failure = None
access_effect (Some a) failure = Some (effect_bytes a.kind failure a.address (bytes_set a.address a.before a.after))

-- the place of an access
unfoldable pub access_place : Option ToldAccess → Option Effect
access_place None = None
access_place (Some a) = Some (effect.Accesses a.address)

-- that the hart stopped itself
unfoldable pub exit_of : HartState → Option Effect
exit_of Running = None
exit_of (Exited status) = Some (effect.Exits status)
exit_of (Faulted cause) = None

-- what an instruction did that was no fault
abbrev pub step_effects : Told → Option Failure → List Effect
step_effects told failure =
    effect_list (outcome told.access failure) ++ (effect_list (register_set told.written)
    ++ (effect_list (access_effect told.access failure) ++ effect_list (exit_of told.state)))

-- where no word was fetched, the hart had stopped before, unless it may not fetch there
abbrev pub without_word_by : Cause → Effect
without_word_by FetchAccess = effect.Faults FetchAccess
without_word_by Illegal = effect.Rests
without_word_by LoadMisaligned = effect.Rests
without_word_by LoadAccess = effect.Rests
without_word_by StoreMisaligned = effect.Rests
without_word_by StoreAccess = effect.Rests
without_word_by JumpMisaligned = effect.Rests
without_word_by BadCall = effect.Rests
without_word_by Break = effect.Rests

-- the same, by what the hart does
unfoldable pub without_word : HartState → Effect
without_word Running = effect.Rests
without_word (Exited status) = effect.Rests
without_word (Faulted cause) = without_word_by cause

-- a fault, and the place of the access that has it
abbrev pub fault_effects : Cause → Option ToldAccess → List Effect
fault_effects cause access = effect.Faults cause ∷ effect_list (access_place access)

-- what an instruction did, which was a fault or not
abbrev pub with_word : HartState → Option ToldAccess → List Effect → List Effect
with_word Running access effects = effects
with_word (Exited status) access effects = effects
with_word (Faulted cause) access effects = fault_effects cause access

-- what a choice did, with the word that was fetched, if one was
abbrev pub effects_met : Option ℕ → HartState → Option ToldAccess → List Effect → List Effect
effects_met None state access effects = without_word state ∷ []
effects_met (Some word) state access effects = with_word state access effects

-- what a choice did
unfoldable pub effects_of : Explained → List Effect
effects_of e = effects_met e.told.word e.told.state e.told.access (step_effects e.told e.failure)
