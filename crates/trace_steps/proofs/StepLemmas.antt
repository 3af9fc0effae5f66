-- A step of a machine, as it is told.
use Rattle.std.proofs.Common.{◌≡◌, ℕ, Option, Some, None, ◌∙◌, ap, sym, subst, refl}
use Rattle.std.specs.List.{slice_get}
use Rattle.std.specs.Option.{option_map, option_and_then}
use Rattle.std.proofs.lemmas.Option.{get_or_from_slice_get}
use Rattle.isa_table.specs.Decoded.{decoded}
use Rattle.mem_store.specs.Access.{fetched}
use Rattle.hart_step.specs.Hart.{HartValue, Registers}
use Rattle.hart_step.specs.Effect.{Site, site}
use Rattle.hart_step.specs.Step.{stepped}
use Rattle.hart_step.specs.Locality.{access_if, access_at, access_in, access_of}
use Rattle.hart_step.specs.declared.data_access.Access.{Access}
use Rattle.hart_step.specs.declared.hart.HartState.{HartState}
use Rattle.hart_step.specs.declared.hart.HartState.TheVariants.{Running, Exited, Faulted}
use Rattle.machine.specs.World.{World, placed, step}
use Rattle.machine.specs.declared.choice.Choice.{Choice}
use Rattle.trace_steps.specs.Known.{Knows, KnowsBut}
use Rattle.trace_steps.specs.Met.{IsMet}
use Rattle.trace_steps.specs.Told.{hart_at, nobody, word_met, told_access, written_in, written_of, told_of, told_choice}
use Rattle.trace_steps.specs.declared.met.Met.{Met}
use Rattle.trace_steps.specs.declared.told.Told.{Told}
use Rattle.trace_steps.specs.declared.told.ToldAccess.{ToldAccess}
use Rattle.trace_steps.specs.declared.told.Written.{Written}
use Rattle.trace_steps.proofs.MarkLemmas.{stepped-knows}

pub hart_there : (w : World) (k : ℕ) (h : HartValue) → slice_get w.harts k ≡ Some h → hart_at w k ≡ h
hart_there w k h e = get_or_from_slice_get w.harts k h nobody e

step_there : (w : World) (c : Choice) (h : HartValue) → slice_get w.harts c.hart ≡ Some h
    → step w c ≡ placed w c.hart (stepped c.hart c.refuse (site h w.memory w.reserved))
unfolding step
step_there w c h there = rw there refl

-- the access that is met is the one that the step has
access_met : (o : Option ℕ) (x : Registers) → access_if (option_and_then decoded o) x ≡ access_at o x
access_met None x = refl
access_met (Some word) x = refl

access_here : (state : HartState) (s : Site)
    → access_if (option_and_then decoded (word_met state s.memory s.hart.pc)) s.hart.registers ≡ access_in state s
access_here Running s = access_met (fetched s.memory s.hart.pc) s.hart.registers
access_here (Exited status) s = refl
access_here (Faulted cause) s = refl

met_access : (met : Met) (h : HartValue) (w : World) → IsMet met h w.memory → met.access ≡ access_of (site h w.memory w.reserved)
met_access met h w is =
    is.access ∙ ap (λ i. access_if i h.registers) (is.instr ∙ ap (option_and_then decoded) is.word) ∙ access_here h.state (site h w.memory w.reserved)

-- what is known of reservations after a step, but for the word of its access
pub known_after : (words : ℕ → ℕ) (w after : World) (c : Choice) (h : HartValue) (met : Met) → slice_get w.harts c.hart ≡ Some h
    → IsMet met h w.memory → after ≡ step w c → Knows words w.reserved → KnowsBut words met.access c.hart after.reserved
known_after words w after c h met there is stepping known =
    subst (λ (o : Option Access). KnowsBut words o c.hart after.reserved) (sym (met_access met h w is))
    (subst (λ (x : World). KnowsBut words (access_of (site h w.memory w.reserved)) c.hart x.reserved) (sym (stepping ∙ step_there w c h there))
    (stepped-knows words c.hart c.refuse (site h w.memory w.reserved) known))

-- what is told of parts is what a choice did
pub told_of_parts : (met : Met) (c : Choice) (old new : HartValue) (before after : World) (access : Option ToldAccess) (wrote : Option Written)
    (reserved : Option ℕ) → IsMet met old before.memory
    → access ≡ option_map (told_access before.memory after.memory) met.access
    → wrote ≡ option_map (written_of new) (written_in new.state met.instr) → reserved ≡ after.reserved c.hart
    → hart_at after c.hart ≡ new
    → ◌≡◌ {A = Told} (record { choice = c; pc = met.pc; word = met.word; instr = met.instr; access = access; written = wrote; reserved = reserved; next = new.pc; state = new.state })
    (told_of c old (hart_at after c.hart) before after)
told_of_parts met c old new before after access wrote reserved is a w r there =
    rw (there, a, w, r, is.access, is.instr, is.word, is.pc) refl

-- what was told of the hart that stood there is what the choice did
pub told_whole : (t : Told) (c : Choice) (h : HartValue) (w after : World) → slice_get w.harts c.hart ≡ Some h → after ≡ step w c
    → t ≡ told_of c h (hart_at after c.hart) w after → t ≡ told_choice w c
unfolding told_choice
told_whole t c h w after there stepping tells =
    tells ∙ ap (λ x. told_of c h (hart_at x c.hart) w x) stepping
    ∙ ap (λ x. told_of c x (hart_at (step w c) c.hart) w (step w c)) (sym (hart_there w c.hart h there))
