-- One step of one hart: the instruction's fault, or else its effect.
use Rattle.std.specs.Prelude.{ℕ, Bool, Option, Some, None}
use Rattle.mem_store.specs.Access.{fetched}
use Rattle.isa_table.specs.Decoded.{decoded}
use Rattle.isa_table.specs.declared.instr.Instr.{Instr}
use Rattle.hart_step.specs.Hart.{Registers}
use Rattle.hart_step.specs.Fault.{fault}
use Rattle.hart_step.specs.Effect.{Site, effect}
use Rattle.hart_step.specs.declared.hart.HartState.{HartState}
use Rattle.hart_step.specs.declared.hart.HartState.TheVariants.{Running, Exited, Faulted}
use Rattle.hart_step.specs.declared.hart.Cause.{Cause}
use Rattle.hart_step.specs.declared.hart.Cause.TheVariants.{FetchAccess, Illegal}

-- the hart has faulted; nothing else has changed
abbrev pub faults : Site → Cause → Site
faults s cause = record s { hart = record s.hart { state = Faulted cause } }

-- the faulted site if there is a cause, else the other one
abbrev pub unless : Option Cause → Site → Site → Site
unless None s done = done
unless (Some cause) s done = faults s cause

-- the effect of an instruction, or the fault of a word that spells none
abbrev pub executed : Option Instr → Site → ℕ → Bool → Registers → ℕ → Site
executed None s h refuse x pc = faults s Illegal
executed (Some i) s h refuse x pc = unless (fault i s.memory x pc) s (effect i s h refuse x pc)

-- the effect of a fetched word, or the fault if the fetch failed
abbrev pub at_word : Option ℕ → Site → ℕ → Bool → Registers → ℕ → Site
at_word None s h refuse x pc = faults s FetchAccess
at_word (Some word) s h refuse x pc = executed (decoded word) s h refuse x pc

-- a hart that has stopped changes nothing
abbrev pub by_state : HartState → Site → ℕ → Bool → Site
by_state Running s h refuse = at_word (fetched s.memory s.hart.pc) s h refuse s.hart.registers s.hart.pc
by_state (Exited status) s h refuse = s
by_state (Faulted cause) s h refuse = s

-- the site after a step of hart h
unfoldable pub stepped : ℕ → Bool → Site → Site
stepped h refuse s = by_state s.hart.state s h refuse
