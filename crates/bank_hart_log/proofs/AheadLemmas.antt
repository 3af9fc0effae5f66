-- A local step of an image's code touches nothing, and leads where the image's table says; so the
-- local steps of a log are as the table wants them.
use Rattle.std.proofs.Common.{◌≡◌, ℕ, zero, suc, ◌%◌, ◌^◌, Bool, true, false, not, ◌&&◌, List, [], Option, Some, None, refl, ap, sym, subst, ◌∙◌, rules}
use Rattle.std.specs.Prelude.{if◌then◌else◌}
use Rattle.std.specs.Option.{is_some}
use Rattle.image.specs.Image.{ImageValue}
use Rattle.mem_store.specs.Memory.{Memory, granted, number_at, around, to_execute}
use Rattle.mem_store.specs.Image.{image_memory}
use Rattle.mem_store.specs.Access.{fetched}
use Rattle.isa_table.specs.Decoded.{decoded}
use Rattle.isa_table.specs.declared.instr.Instr.{Instr}
use Rattle.isa_table.specs.declared.instr.Instr.TheVariants.{Load, Store, LoadReserved, StoreConditional, Amo}
use Rattle.hart_step.specs.Hart.{HartValue, Registers, hart_of}
use Rattle.hart_step.specs.Fault.{fault}
use Rattle.hart_step.specs.Effect.{Site, site}
use Rattle.hart_step.specs.Step.{stepped}
use Rattle.hart_step.specs.Local.{is_local}
use Rattle.hart_step.specs.Locality.{access_by}
use Rattle.hart_step.specs.declared.hart.Cause.{Cause}
use Rattle.hart_step.specs.declared.hart.Hart.{Hart}
use Rattle.hart_step.specs.declared.hart.HartState.{HartState}
use Rattle.hart_step.specs.declared.hart.HartState.TheVariants.{Running, Exited, Faulted}
use Rattle.hart_local.specs.CodeMemory.{code_in}
use Rattle.hart_local.specs.LocalStep.{local_of, local_word, local_at, local_in, is_local_next, class_of, step_alone, walk}
use Rattle.hart_local.specs.declared.stepping.Class.TheVariants.{Local, Shared}
use Rattle.hart_local.proofs.StepLemmas.{step_is_alone}
use Rattle.bank_hart_log.proofs.CodeLemmas.{word_around, shut_around}
use Rattle.bank_step.specs.declared.steps.CodeTouch.{CodeTouch}
use Rattle.bank_step.specs.Known.{IsCodeTouch}
use Rattle.bank_laws.specs.Segments.{LoggedSegment, HartSlot}
use Rattle.bank_laws.specs.HartLogs.{AreLocal, local_hart}
use Rattle.bank_laws.specs.Words.{with_four_if}
use Rattle.bank_laws.specs.Carried.{unless_fault, carried_by, carried_at, carried_in, touch_of}
use Rattle.bank_laws.specs.Table.{needed_code, planned, image_with_bytes, is_unwritable, told, word_in}
use Rattle.bank_hart_log.specs.HartLog.{image_table, slot_in, StepsAreLocal, HartLogHolds, IsAhead, IsAheadTouch}

-- ---- a word of code that spells a local instruction
record IsLocalWord (m : Memory) (pc word : ℕ) (i : Instr) : Type 0 where
  there : granted to_execute (around (code_in m)) 4 pc ≡ true
  word_is : fetched m pc ≡ Some word
  spelled : decoded word ≡ Some i
  local : is_local i ≡ true

instr_of : (o : Option Instr) → is_some (local_of o) ≡ true → (i : Instr) × (o ≡ Some i) × (is_local i ≡ true)
instr_of None e = cc e
instr_of (Some i) e = go (is_local i) refl e
  where
    go : (b : Bool) → is_local i ≡ b → is_some (if b then Some i else None) ≡ true → (j : Instr) × (Some i ≡ Some j) × (is_local j ≡ true)
    go true p q = (i, refl, p)
    go false p q = cc q

word_of_code : (m : Memory) (pc : ℕ) → is_some (local_at (code_in m) pc) ≡ true → (word : ℕ) × (i : Instr) × IsLocalWord m pc word i
unfolding local_at
word_of_code m pc e = go (granted to_execute (around (code_in m)) 4 pc) refl e
  where
    go : (b : Bool) → granted to_execute (around (code_in m)) 4 pc ≡ b → is_some (local_word (if b then Some (number_at (around (code_in m)).bytes 4 pc) else None)) ≡ true
        → (word : ℕ) × (i : Instr) × IsLocalWord m pc word i
    go true p q =
        let same = word_around m pc p in
        let is = instr_of (decoded (number_at (around (code_in m)).bytes 4 pc)) q in (
          number_at (around (code_in m)).bytes 4 pc,
          is.0,
          record {
            there = p;
            word_is = ap (λ (g : Bool). if g then Some (number_at (around m).bytes 4 pc) else None) same.0 ∙ ap Some (sym same.1);
            spelled = is.1;
            local = is.2;
          },
        )
    go false p q = cc q

-- ---- it touches nothing
none_by : (o : Option Cause) → touch_of (unless_fault o None) ≡ None
none_by None = refl
none_by (Some cause) = refl

local_touch : (i : Instr) (m : Memory) (x : Registers) (pc : ℕ) → is_local i ≡ true → touch_of (unless_fault (fault i m x pc) (access_by i x)) ≡ None
local_touch (Load op rd rs1 imm) m x pc e = cc e
local_touch (Store op rs1 rs2 imm) m x pc e = cc e
local_touch (LoadReserved aq rl rd rs1) m x pc e = cc e
local_touch (StoreConditional aq rl rd rs1 rs2) m x pc e = cc e
local_touch (Amo op aq rl rd rs1 rs2) m x pc e = cc e
local_touch i m x pc e = none_by (fault i m x pc)

needs_none : (m : Memory) (pc word : ℕ) (i : Instr) → IsLocalWord m pc word i → (if granted to_execute (around m) 4 pc && not (is_unwritable m pc) then Some (pc % 2 ^ 32) else None) ≡ None
needs_none m pc word i is =
    ap (λ (u : Bool). if granted to_execute (around m) 4 pc && not u then Some (pc % 2 ^ 32) else None) (shut_around m pc is.there) ∙ never (granted to_execute (around m) 4 pc)
  where
    never : (g : Bool) → (if g && false then Some (pc % 2 ^ 32) else None) ≡ None
    never true = refl
    never false = refl

touches_none : (m : Memory) (v : HartValue) (word : ℕ) (i : Instr) → IsLocalWord m v.pc word i → touch_of (carried_at (fetched m v.pc) m v.registers v.pc) ≡ None
touches_none m v word i is =
    ap (λ (o : Option ℕ). touch_of (carried_at o m v.registers v.pc)) is.word_is
    ∙ ap (λ (o : Option Instr). touch_of (carried_by o m v.registers v.pc)) is.spelled
    ∙ local_touch i m v.registers v.pc is.local

-- what the table says of a local step
pub record LeadsAlone (m : Memory) (v : HartValue) : Type 0 where
  pub need : needed_code v.state m v.pc ≡ None
  pub plan : planned m v [] ≡ None
  pub after : step_alone (code_in m) v ≡ (stepped 0 false (told m v [] [] false)).hart

with_none : (m : Memory) (v : HartValue) (need : Option ℕ) → need ≡ None → image_with_bytes m (with_four_if m.bytes need []) ≡ m
with_none m v need e = ap (λ (o : Option ℕ). image_with_bytes m (with_four_if m.bytes o [])) e

by_state : (s : HartState) (m : Memory) (v : HartValue) → is_some (local_in s (code_in m) v.pc) ≡ true
    → (needed_code s m v.pc ≡ None) × (touch_of (carried_in s m v) ≡ None)
by_state Running m v e =
    let is = word_of_code m v.pc e in
    (needs_none m v.pc is.0 is.1 is.2, touches_none m v is.0 is.1 is.2)
by_state (Exited status) m v e = cc e
by_state (Faulted cause) m v e = cc e

pub leads_alone : (m : Memory) (v : HartValue) → is_local_next (code_in m) v ≡ true → LeadsAlone m v
leads_alone m v e =
    let here = by_state v.state m v e in
    let bytes : image_with_bytes m (with_four_if m.bytes (needed_code v.state m v.pc) []) ≡ m = with_none m v (needed_code v.state m v.pc) here.0 in
    let plan : planned m v [] ≡ None = ap (λ (n : Memory). touch_of (carried_in v.state n v)) bytes ∙ here.1 in
    let site_is : told m v [] [] false ≡ site v m (λ k. None) =
    ap (λ (o : Option ℕ). site v (image_with_bytes m (with_four_if (with_four_if m.bytes (needed_code v.state m v.pc) []) o [])) (λ k. None)) (ap word_in plan)
    ∙ ap (λ (n : Memory). site v n (λ k. None)) bytes in
    record {
      need = here.0;
      plan = plan;
      after = sym (ap (λ (s : Site). (stepped 0 false s).hart) site_is ∙ ap (λ (s : Site). s.hart) (step_is_alone v m (λ k. None) 0 false (search rules)));
    }

same_hart : {a b : HartValue} → ◌≡◌ {A = Option HartValue} (Some a) (Some b) → a ≡ b
same_hart e = cc e

-- a local step's test and its class
pub local_class : (code : Memory) (v : HartValue) → is_local_next code v ≡ true → class_of code v ≡ Local
local_class code v e = ap (λ (b : Bool). if b then Local else Shared) e

pub class_local : (code : Memory) (v : HartValue) → class_of code v ≡ Local → is_local_next code v ≡ true
class_local code v e = go (is_local_next code v) refl e
  where
    go : (b : Bool) → is_local_next code v ≡ b → (if b then Local else Shared) ≡ Local → is_local_next code v ≡ true
    go true p q = p
    go false p q = cc q

-- a walk is of local steps
walk_is_local : (image : ImageValue) (n : ℕ) (v u : HartValue) → walk (code_in (image_memory image)) n v ≡ Some u
    → StepsAreLocal image n v × (u ≡ local_hart (image_table image) n v)
unfolding walk
walk_is_local image zero v u e = (tt, sym (same_hart e))
walk_is_local image (suc n) v u e = go (walk_is_local image n (step_alone (code_in (image_memory image)) v) u) (is_local_next (code_in (image_memory image)) v) refl e
  where
    go : (walk (code_in (image_memory image)) n (step_alone (code_in (image_memory image)) v) ≡ Some u → StepsAreLocal image n (step_alone (code_in (image_memory image)) v) × (u ≡ local_hart (image_table image) n (step_alone (code_in (image_memory image)) v)))
        → (b : Bool) → is_local_next (code_in (image_memory image)) v ≡ b → (if b then walk (code_in (image_memory image)) n (step_alone (code_in (image_memory image)) v) else None) ≡ Some u
        → StepsAreLocal image (suc n) v × (u ≡ local_hart (image_table image) (suc n) v)
    go more true p q =
        let here = leads_alone (image_memory image) v p in
        let rest = more q in (
          (local_class (code_in (image_memory image)) v p, subst (λ (w : HartValue). StepsAreLocal image n w) here.after rest.0),
          rest.1 ∙ ap (local_hart (image_table image) n) here.after,
        )
    go more false p q = cc q

-- local steps touch nothing
pub local_untouched : (image : ImageValue) (n : ℕ) (v : HartValue) → StepsAreLocal image n v → AreLocal (image_table image) n v
local_untouched image zero v local = tt
local_untouched image (suc n) v local =
    let here = leads_alone (image_memory image) v (class_local (code_in (image_memory image)) v local.0) in
    (here.need, here.plan, local_untouched image n ((image_table image).after v [] [] false) local.1)

-- ---- ahead of a log
pub record WalkedTo (image : ImageValue) (inputs : List ℕ) (h : ℕ) (log : List LoggedSegment) (count : ℕ) (reached : Hart) : Type 0 where
  pub local : StepsAreLocal image count (slot_in image inputs h log).hart
  pub reached_is : hart_of reached ≡ local_hart (image_table image) count (slot_in image inputs h log).hart

pub walked_to : (image : ImageValue) (inputs : List ℕ) (h : ℕ) (log : List LoggedSegment) (hart : Hart) (named : Option ℕ) (walked : ℕ) (before reached : Hart) (code : Memory) (count : ℕ)
    → HartLogHolds image inputs h log hart named walked before → code ≡ code_in (image_memory image) → walk code count (hart_of hart) ≡ Some (hart_of reached)
    → WalkedTo image inputs h log count reached
walked_to image inputs h log hart named walked before reached code count holds code_is goes =
    let from : hart_of hart ≡ (slot_in image inputs h log).hart = ap (λ (s : HartSlot HartValue). s.hart) holds.slot in
    let is = walk_is_local image count (hart_of hart) (hart_of reached) (subst (λ (c : Memory). walk c count (hart_of hart) ≡ Some (hart_of reached)) code_is goes) in
    record {
      local = subst (λ (v : HartValue). StepsAreLocal image count v) from is.0;
      reached_is = is.1 ∙ ap (local_hart (image_table image) count) from;
    }

pub holds_ahead : (image : ImageValue) (inputs : List ℕ) (h : ℕ) (log : List LoggedSegment) (hart : Hart) (named : Option ℕ) (walked : ℕ) (before reached : Hart) (count : ℕ)
    → HartLogHolds image inputs h log hart named walked before → WalkedTo image inputs h log count reached → HartLogHolds image inputs h log hart named count reached
holds_ahead image inputs h log hart named walked before reached count holds to = record {
  harts = holds.harts;
  there = holds.there;
  own = holds.own;
  steps = holds.steps;
  slot = holds.slot;
  counted = holds.counted;
  local = to.local;
  reached_is = to.reached_is;
}

pub is_ahead : (image : ImageValue) (inputs : List ℕ) (h : ℕ) (log : List LoggedSegment) (count : ℕ) (reached : Hart) → WalkedTo image inputs h log count reached
    → IsAhead (record { image = image; inputs = inputs; hart = h; log = log }) (record { local = count; hart = reached })
is_ahead image inputs h log count reached to = record { local = to.local; hart = to.reached_is }

-- local steps are a walk
local_is_walk : (image : ImageValue) (n : ℕ) (v u : HartValue) → StepsAreLocal image n v → u ≡ local_hart (image_table image) n v
    → walk (code_in (image_memory image)) n v ≡ Some u
unfolding walk
local_is_walk image zero v u local is = ap Some (sym is)
local_is_walk image (suc n) v u local is =
    let code = code_in (image_memory image) in
    let next = class_local code v local.0 in
    let here = leads_alone (image_memory image) v next in
    ap (λ (b : Bool). if b then walk code n (step_alone code v) else None) next
    ∙ ap (walk code n) here.after
    ∙ local_is_walk image n ((image_table image).after v [] [] false) u local.1 is

-- how far a log has walked ahead
pub walked_before : (image : ImageValue) (inputs : List ℕ) (h : ℕ) (log : List LoggedSegment) (hart : Hart) (named : Option ℕ) (walked : ℕ) (reached : Hart) (code : Memory)
    → HartLogHolds image inputs h log hart named walked reached → code ≡ code_in (image_memory image) → walk code walked (hart_of hart) ≡ Some (hart_of reached)
walked_before image inputs h log hart named walked reached code holds code_is =
    subst (λ (c : Memory). walk c walked (hart_of hart) ≡ Some (hart_of reached)) (sym code_is)
    (subst (λ (v : HartValue). walk (code_in (image_memory image)) walked v ≡ Some (hart_of reached)) (sym (ap (λ (s : HartSlot HartValue). s.hart) holds.slot))
    (local_is_walk image walked (slot_in image inputs h log).hart (hart_of reached) holds.local holds.reached_is))

pub ahead_there : (image : ImageValue) (inputs : List ℕ) (h : ℕ) (log : List LoggedSegment) (hart : Hart) (named : Option ℕ) (walked : ℕ) (reached : Hart)
    → HartLogHolds image inputs h log hart named walked reached → hart_of reached ≡ local_hart (image_table image) walked (hart_of hart)
ahead_there image inputs h log hart named walked reached holds =
    holds.reached_is ∙ ap (local_hart (image_table image) walked) (sym (ap (λ (s : HartSlot HartValue). s.hart) holds.slot))

-- and back
pub holds_back : (image : ImageValue) (inputs : List ℕ) (h : ℕ) (log : List LoggedSegment) (hart : Hart) (named : Option ℕ) (walked : ℕ) (reached : Hart)
    → HartLogHolds image inputs h log hart named walked reached → HartLogHolds image inputs h log hart named 0 hart
holds_back image inputs h log hart named walked reached holds =
    holds_ahead image inputs h log hart named walked reached hart 0 holds (record { local = tt; reached_is = ap (λ (s : HartSlot HartValue). s.hart) holds.slot })

pub is_ahead_touch : (image : ImageValue) (inputs : List ℕ) (h : ℕ) (log : List LoggedSegment) (count : ℕ) (reached : Hart) (i : ImageValue) (t : CodeTouch)
    → WalkedTo image inputs h log count reached → i ≡ image → IsCodeTouch (image_memory i) (hart_of reached) t
    → IsAheadTouch (record { image = image; inputs = inputs; hart = h; log = log }) (record { local = count; touch = t })
is_ahead_touch image inputs h log count reached i t to same touches = record {
  local = to.local;
  touches = subst (λ (v : HartValue). IsCodeTouch (image_memory image) v t) to.reached_is
      (subst (λ (x : ImageValue). IsCodeTouch (image_memory x) (hart_of reached) t) same touches);
}
