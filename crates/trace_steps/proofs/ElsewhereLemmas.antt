-- Bytes that no told access covers.
use Rattle.std.proofs.Common.{◌≡◌, ℕ, ◌<◌, Bool, false, List, [], ◌∷◌, Option, Some, None, refl, ap, sym, subst, ◌∙◌}
use Rattle.std.specs.List.{All, slice_get}
use Rattle.std.specs.Option.{option_map, option_and_then}
use Rattle.std.proofs.lemmas.List.Elements.{All-head, All-tail}
use Rattle.std.proofs.lemmas.Option.{get_or_from_slice_get}
use Rattle.mem_store.specs.Memory.{Memory}
use Rattle.mem_store.specs.Access.{fetched}
use Rattle.hart_step.specs.Hart.{HartValue, Registers}
use Rattle.hart_step.specs.Effect.{Site, site}
use Rattle.hart_step.specs.declared.hart.HartState.{HartState}
use Rattle.hart_step.specs.declared.hart.HartState.TheVariants.{Running, Exited, Faulted}
use Rattle.hart_step.specs.Locality.{access_if, access_at, access_in, access_of, is_inside}
use Rattle.hart_step.specs.declared.data_access.Access.{Access}
use Rattle.hart_step.proofs.LocalityLemmas.{steps_alike}
use Rattle.isa_table.specs.Decoded.{decoded}
use Rattle.machine.specs.World.{World, step_of, step, run}
use Rattle.machine.specs.declared.choice.Choice.{Choice}
use Rattle.trace_steps.specs.Told.{nobody, hart_at, word_met, told_access, told_choice}
use Rattle.trace_steps.specs.Tells.{tells}
use Rattle.trace_steps.specs.declared.told.Told.{Told}
use Rattle.trace_steps.specs.Covers.{covers, IsElsewhere}

covers_inside : (before after : Memory) (o : Option Access) (a : ℕ) → covers a (option_map (told_access before after) o) ≡ is_inside o a
covers_inside before after None a = refl
covers_inside before after (Some c) a = refl

access_met : (o : Option ℕ) (x : Registers) → access_if (option_and_then decoded o) x ≡ access_at o x
access_met None x = refl
access_met (Some word) x = refl

access_here : (state : HartState) (s : Site)
    → access_if (option_and_then decoded (word_met state s.memory s.hart.pc)) s.hart.registers ≡ access_in state s
access_here Running s = access_met (fetched s.memory s.hart.pc) s.hart.registers
access_here (Exited status) s = refl
access_here (Faulted cause) s = refl

-- the access that is told of a hart that is there is that of its step
told-access : (w : World) (c : Choice) → (told_choice w c).access
    ≡ option_map (told_access w.memory (step w c).memory)
    (access_if (option_and_then decoded (word_met (hart_at w c.hart).state w.memory (hart_at w c.hart).pc)) (hart_at w c.hart).registers)
unfolding told_choice
told-access w c = refl

step-bytes : (w : World) (c : Choice) (a : ℕ) (o : Option HartValue) → slice_get w.harts c.hart ≡ o
    → is_inside (access_of (site (hart_at w c.hart) w.memory w.reserved)) a ≡ false → (step_of w c o).memory.bytes a ≡ w.memory.bytes a
step-bytes w c a None there out = refl
step-bytes w c a (Some h) there out =
    let here : hart_at w c.hart ≡ h = get_or_from_slice_get w.harts c.hart h nobody there in
    let alike = steps_alike c.hart c.refuse (site h w.memory w.reserved) (site h w.memory w.reserved)
    (record { hart = refl; rights = refl; reserved = refl; fetched = λ k e. refl; accessed = λ b e. refl }) in
    (alike.outside a (subst (λ (x : HartValue). is_inside (access_of (site x w.memory w.reserved)) a ≡ false) here out)).0

step_elsewhere : (w : World) (c : Choice) (a : ℕ) → IsElsewhere a (told_choice w c) → (step w c).memory.bytes a ≡ w.memory.bytes a
unfolding step
step_elsewhere w c a out =
    let h = hart_at w c.hart in
    step-bytes w c a (slice_get w.harts c.hart) refl
    (sym (ap (λ (o : Option Access). is_inside o a) (access_here h.state (site h w.memory w.reserved)))
    ∙ sym (covers_inside w.memory (step w c).memory
    (access_if (option_and_then decoded (word_met h.state w.memory h.pc)) h.registers) a)
    ∙ sym (ap (covers a) (told-access w c)) ∙ out)

pub elsewhere_stays : (w : World) (choices : List Choice) (a : ℕ) → All (IsElsewhere a) (tells w choices)
    → (run w choices).memory.bytes a ≡ w.memory.bytes a
unfolding tells run
elsewhere_stays w [] a all = refl
elsewhere_stays w (c ∷ choices) a all =
    elsewhere_stays (step w c) choices a (All-tail (IsElsewhere a) (told_choice w c) (tells (step w c) choices) all)
    ∙ step_elsewhere w c a (All-head (IsElsewhere a) (told_choice w c) (tells (step w c) choices) all)
