-- What an image tells of a hart's next step: whether it is on a word of the hart's own, and whether
-- it may be on another's.
use Rattle.std.proofs.Common.{◌≡◌, ℕ, zero, suc, ◌+◌, ◌%◌, ◌^◌, ◌<◌, Bool, true, false, not, ◌&&◌, ◌||◌, cond, Option, Some, None, refl, ap, sym, ◌∙◌, inl, inr, arith, true≢false}
use Rattle.std.specs.List.{slice_get}
use Rattle.std.specs.Option.{is_none, is_some}
use Rattle.std.proofs.lemmas.Bool.{and_parts, and_right, cases_eq, not-true}
use Rattle.mem_store.specs.Memory.{Memory, all_below, around, granted, grants, to_execute, to_write}
use Rattle.mem_store.specs.Access.{fetched}
use Rattle.isa_table.specs.Decoded.{decoded}
use Rattle.isa_table.specs.declared.instr.Instr.{Instr}
use Rattle.hart_step.specs.Hart.{HartValue, Registers}
use Rattle.hart_step.specs.Laws.{Keeps}
use Rattle.hart_step.specs.Locality.{access_by}
use Rattle.hart_step.specs.declared.hart.Cause.{Cause}
use Rattle.hart_step.specs.declared.hart.HartState.{HartState}
use Rattle.hart_step.specs.declared.hart.HartState.TheVariants.{Running, Exited, Faulted}
use Rattle.machine.specs.World.{World}
use Rattle.bank_laws.specs.Runs.{Touch, word_found}
use Rattle.bank_laws.specs.Words.{bytes_at, with_four_if}
use Rattle.bank_laws.specs.Carried.{carried_at, carried_by, carried_in, touch_of, unless_fault}
use Rattle.bank_laws.specs.Table.{image_with_bytes, is_unwritable, needed_code}
use Rattle.bank_laws.proofs.EffectLemmas.{fault_same}
use Rattle.bank_laws.proofs.WordLemmas.{SameFour, fetched_same, wrapped}
use Rattle.explore_sites.specs.Own.{Owners, code_ahead, is_alone, is_other, is_own_if, is_own_touch, touch_ahead}
use Rattle.explore_sites.proofs.StayLemmas.{alone_kept, memory_of}
use Rattle.explore_space.specs.Begun.{runs_outside}
use Rattle.explore_space.specs.Failing.{strays, strays_by, touches_anothers}
use Rattle.explore_space.specs.Habits.{Habits, takes_own_by, takes_own_step, takes_quiet_step}

-- ---- the touch of a hart whose instruction no store changes
each_below : (n : ℕ) (test : ℕ → Bool) (i : ℕ) → i < n → all_below n test ≡ true → test i ≡ true
each_below zero test i low e = absurd (omega (arith, low))
each_below (suc n) test i low e =
    let both = and_parts (all_below n test) (test n) e in
    elim (cases_eq i n) [
      | inl q ↦ ap test q ∙ both.1
      | inr ne ↦ each_below n test i (omega (arith, low, ne)) both.0
    ]

-- bytes that aren't writable are the same
abbrev StayShut : (ℕ → Option ℕ) → (ℕ → ℕ) → (ℕ → ℕ) → Type 0
StayShut g b d = (a : ℕ) → grants to_write (g a) ≡ false → d a ≡ b a

shut_same : (g : ℕ → Option ℕ) (b d : ℕ → ℕ) (pc : ℕ) → StayShut g b d → is_unwritable (memory_of g b) pc ≡ true
    → SameFour (wrapped d) (wrapped b) pc
shut_same g b d pc stays fixed i low =
    stays ((pc + i) % 2 ^ 32)
    (not-true (grants to_write (g ((pc + i) % 2 ^ 32))) (each_below 4 (λ k. not (grants to_write (g ((pc + k) % 2 ^ 32)))) i low fixed))

fixed_if : (may fixed : Bool) (pc : ℕ) → may ≡ true → cond (may && not fixed) (Some pc) None ≡ None → fixed ≡ true
fixed_if true true pc is none = refl
fixed_if true false pc is none = absurd (cc)
fixed_if false fixed pc is none = absurd (true≢false (sym is))

carried_same : (o : Option Instr) (g : ℕ → Option ℕ) (b d : ℕ → ℕ) (x : Registers) (pc : ℕ)
    → carried_by o (memory_of g b) x pc ≡ carried_by o (memory_of g d) x pc
carried_same None g b d x pc = refl
carried_same (Some i) g b d x pc = ap (λ (c : Option Cause). unless_fault c (access_by i x)) (fault_same i g b d x pc)

at_same : (o : Option ℕ) (g : ℕ → Option ℕ) (b d : ℕ → ℕ) (x : Registers) (pc : ℕ)
    → carried_at o (memory_of g b) x pc ≡ carried_at o (memory_of g d) x pc
at_same None g b d x pc = refl
at_same (Some word) g b d x pc = carried_same (decoded word) g b d x pc

fixed_touch : (st : HartState) (v : HartValue) (g : ℕ → Option ℕ) (b d : ℕ → ℕ) → StayShut g b d
    → needed_code st (memory_of g b) v.pc ≡ None
    → touch_of (carried_in st (memory_of g d) v) ≡ touch_of (carried_in st (memory_of g b) v)
fixed_touch Running v g b d stays none =
    let same : fetched (memory_of g d) v.pc ≡ fetched (memory_of g b) v.pc
    = fetched_same g d b v.pc
    (λ may. shut_same g b d v.pc stays
    (fixed_if (granted to_execute (around (memory_of g b)) 4 v.pc) (is_unwritable (memory_of g b) v.pc) (v.pc % 2 ^ 32) may none)) in
    ap (λ (o : Option ℕ). touch_of (carried_at o (memory_of g d) v.registers v.pc)) same
    ∙ ap touch_of (at_same (fetched (memory_of g b) v.pc) g d b v.registers v.pc)
fixed_touch (Exited status) v g b d stays none = refl
fixed_touch (Faulted cause) v g b d stays none = refl

need_same : (st : HartState) (g : ℕ → Option ℕ) (b d : ℕ → ℕ) (pc : ℕ) → needed_code st (memory_of g b) pc ≡ needed_code st (memory_of g d) pc
need_same Running g b d pc = refl
need_same (Exited status) g b d pc = refl
need_same (Faulted cause) g b d pc = refl

need_kept : (m n : Memory) (v : HartValue) → Keeps m n → code_ahead n v ≡ code_ahead m v
need_kept m n v keeps =
    ap (λ (g : ℕ → Option ℕ). needed_code v.state (memory_of g n.bytes) v.pc) keeps.rights
    ∙ need_same v.state m.rights n.bytes m.bytes v.pc

known_touch : (m : Memory) (v : HartValue) → code_ahead m v ≡ None → touch_ahead m v ≡ touch_of (carried_in v.state m v)
known_touch m v none =
    ap (λ (o : Option ℕ). touch_of (carried_in v.state (image_with_bytes m (with_four_if m.bytes o (word_found o (λ x. bytes_at m.bytes x)))) v)) none

touch_kept : (m n : Memory) (v : HartValue) → Keeps m n → code_ahead m v ≡ None → touch_ahead n v ≡ touch_ahead m v
touch_kept m n v keeps none =
    known_touch n v (need_kept m n v keeps ∙ none)
    ∙ ap (λ (g : ℕ → Option ℕ). touch_of (carried_in v.state (memory_of g n.bytes) v)) keeps.rights
    ∙ fixed_touch v.state v m.rights m.bytes n.bytes keeps.bytes none
    ∙ sym (known_touch m v none)

-- ---- whether a hart may stray
strays_kept : (owners : Owners) (m n : Memory) (h : ℕ) (v : HartValue) → Keeps m n → strays owners n h v ≡ strays owners m h v
strays_kept owners m n h v keeps = by_code (code_ahead m v) refl
  where
    by_code : (o : Option ℕ) → code_ahead m v ≡ o → strays owners n h v ≡ strays owners m h v
    by_code None none =
        ap (λ p. is_some (code_ahead n v) || touches_anothers owners h p) (touch_kept m n v keeps none)
        ∙ ap (λ o. is_some o || touches_anothers owners h (touch_ahead m v)) (need_kept m n v keeps)
    by_code (Some x) some_ =
        ap (λ o. is_some o || touches_anothers owners h (touch_ahead n v)) (need_kept m n v keeps ∙ some_)
        ∙ sym (ap (λ o. is_some o || touches_anothers owners h (touch_ahead m v)) some_)

module _ (owners : Owners) (m : Memory) (w : World) (h : ℕ) (v : HartValue) (there : slice_get w.harts h ≡ Some v) (keeps : Keeps m w.memory) where
  strays_told : strays_by owners w h (slice_get w.harts h) ≡ strays owners m h v
  strays_told = ap (strays_by owners w h) there ∙ strays_kept owners m w.memory h v keeps

  pub strays_unknown : is_some (code_ahead m v) ≡ true → true ≡ strays_by owners w h (slice_get w.harts h)
  strays_unknown some_ = sym (strays_told ∙ ap (λ b. b || touches_anothers owners h (touch_ahead m v)) some_)

  pub strays_nowhere : code_ahead m v ≡ None → touch_ahead m v ≡ None → false ≡ strays_by owners w h (slice_get w.harts h)
  strays_nowhere none nothing =
      sym (strays_told ∙ ap (λ o. is_some o || touches_anothers owners h (touch_ahead m v)) none ∙ ap (touches_anothers owners h) nothing)

  pub strays_by_owner : (t : Touch) (o : Option ℕ) → code_ahead m v ≡ None → touch_ahead m v ≡ Some t → o ≡ owners t.word
      → is_other o h ≡ strays_by owners w h (slice_get w.harts h)
  strays_by_owner t o none touch owner =
      sym (strays_told ∙ ap (λ p. is_some p || touches_anothers owners h (touch_ahead m v)) none
      ∙ ap (touches_anothers owners h) touch ∙ ap (λ p. is_other p h) (sym owner))

-- ---- whether a hart takes a step that touches a word of its own, or one that can't be written
none_of : (o : Option ℕ) → is_some o ≡ true → is_none o ≡ false
none_of None e = absurd (true≢false (sym e))
none_of (Some x) e = refl

none_alone : (o : Option ℕ) (b : Bool) → (is_none o && b) ≡ true → o ≡ None
none_alone None b e = refl
none_alone (Some x) b e = absurd (true≢false (sym e))

and_all : (b : Bool) → (b && true) ≡ b
and_all true = refl
and_all false = refl

never : (a b : Bool) → ((a && false) && b) ≡ false
never true b = refl
never false b = refl

-- a memory that keeps the image's code and rights tells the same of it
pub touches_kept : (goes : Bool) (owners : Owners) (m n : Memory) (h : ℕ) (v : HartValue) → Keeps m n
    → ((goes && is_alone owners n h v) && is_some (touch_ahead n v)) ≡ ((goes && is_alone owners m h v) && is_some (touch_ahead m v))
touches_kept goes owners m n h v keeps =
    ap (λ b. (goes && b) && is_some (touch_ahead n v)) (alone_kept owners m n h v keeps) ∙ by_alone (is_alone owners m h v) refl
  where
    by_alone : (b : Bool) → is_alone owners m h v ≡ b
        → ((goes && b) && is_some (touch_ahead n v)) ≡ ((goes && b) && is_some (touch_ahead m v))
    by_alone true e =
        ap (λ t. (goes && true) && is_some t)
        (touch_kept m n v keeps (none_alone (code_ahead m v) (is_own_if owners m h (touch_ahead m v)) e))
    by_alone false e = never goes (is_some (touch_ahead n v)) ∙ sym (never goes (is_some (touch_ahead m v)))

module _ (habits : Habits) (m : Memory) (w : World) (h : ℕ) (v : HartValue) (there : slice_get w.harts h ≡ Some v) (keeps : Keeps m w.memory) where
  -- by the image's memory
  own_told : takes_own_step habits w h ≡ (takes_quiet_step habits m h v && is_some (touch_ahead m v))
  own_told =
      ap (takes_own_by habits w h) there ∙ touches_kept (runs_outside habits.section v) habits.owners m w.memory h v keeps

  pub own_stands : runs_outside habits.section v ≡ false → false ≡ takes_own_step habits w h
  own_stands stands =
      sym (own_told ∙ ap (λ b. (b && is_alone habits.owners m h v) && is_some (touch_ahead m v)) stands)

  pub own_unknown : is_some (code_ahead m v) ≡ true → false ≡ takes_own_step habits w h
  own_unknown some_ =
      let goes = runs_outside habits.section v in
      sym (own_told
      ∙ ap (λ b. (goes && (b && is_own_if habits.owners m h (touch_ahead m v))) && is_some (touch_ahead m v)) (none_of (code_ahead m v) some_)
      ∙ never goes (is_some (touch_ahead m v)))

  pub own_nowhere : touch_ahead m v ≡ None → false ≡ takes_own_step habits w h
  own_nowhere nothing =
      let quiet = takes_quiet_step habits m h v in
      sym (own_told ∙ ap (λ t. quiet && is_some t) nothing ∙ and_right quiet false refl)

  pub own_touch : (t : Touch) → runs_outside habits.section v ≡ true → code_ahead m v ≡ None → touch_ahead m v ≡ Some t
      → is_own_touch habits.owners m h t ≡ takes_own_step habits w h
  own_touch t goes none touch =
      sym (own_told
      ∙ ap (λ b. (b && is_alone habits.owners m h v) && is_some (touch_ahead m v)) goes
      ∙ ap (λ o. (is_none o && is_own_if habits.owners m h (touch_ahead m v)) && is_some (touch_ahead m v)) none
      ∙ ap (λ p. is_own_if habits.owners m h p && is_some p) touch
      ∙ and_all (is_own_touch habits.owners m h t))
