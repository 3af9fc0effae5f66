-- A step's touch that may store is of a word that can be written: the step would fault otherwise.
use Rattle.std.proofs.Common.{◌≡◌, ℕ, zero, suc, ◌+◌, ◌%◌, ◌^◌, ◌<◌, ◌≤◌, Bool, true, false, not, ◌&&◌, ◌==◌, List, [], ◌∷◌, length, get_or, Option, Some, None, refl, ap, sym, ◌∙◌, subst, inl, inr, arith, true≢false}
use Rattle.std.specs.Prelude.{if◌then◌else◌, nat_le, nat_lt}
use Rattle.std.specs.List.{slice_get}
use Rattle.std.specs.Option.{is_some}
use Rattle.std.proofs.lemmas.Bool.{and_from, and_parts, and_right, both_ways, cases_Bool, cases_eq, cases_lt, le-ltb, not-true}
use Rattle.image.specs.Image.{ImageValue, IsSound}
use Rattle.image.specs.Segment.{SegmentValue}
use Rattle.image.proofs.Sound.{extent_from_sound}
use Rattle.mem_store.specs.Image.{image_memory, rights_in, segment_at, segments_memory}
use Rattle.mem_store.specs.Memory.{Memory, all_below, around, granted, grants, to_write}
use Rattle.mem_store.specs.Access.{fetched}
use Rattle.isa_table.specs.Decoded.{decoded}
use Rattle.isa_table.specs.declared.instr.Instr.{Instr}
use Rattle.isa_table.specs.declared.instr.Instr.TheVariants.{Load, Store, LoadReserved, StoreConditional, Amo}
use Rattle.isa_table.specs.declared.mnemonic.StoreOp.{StoreOp}
use Rattle.isa_table.specs.declared.mnemonic.StoreOp.TheVariants.{Sb, Sh, Sw}
use Rattle.hart_reservations.specs.Marks.{word_of}
use Rattle.hart_step.specs.Hart.{HartValue, Registers}
use Rattle.hart_step.specs.Values.{store_size, wrap}
use Rattle.hart_step.specs.Fault.{fault, store_fault}
use Rattle.hart_step.specs.Locality.{access_by}
use Rattle.hart_step.specs.declared.data_access.Access.{Access}
use Rattle.hart_step.specs.declared.hart.Cause.{Cause}
use Rattle.hart_step.specs.declared.hart.Cause.TheVariants.{StoreAccess, StoreMisaligned}
use Rattle.hart_step.specs.declared.hart.HartState.{HartState}
use Rattle.hart_step.specs.declared.hart.HartState.TheVariants.{Running, Exited, Faulted}
use Rattle.machine.specs.World.{World, run}
use Rattle.machine.specs.declared.choice.Choice.{Choice}
use Rattle.machine.specs.Start.{started}
use Rattle.machine.proofs.RunLaws.{run-keeps}
use Rattle.bank_laws.specs.Carried.{act_of, carried_at, carried_by, carried_in, touch_of, unless_fault}
use Rattle.bank_laws.specs.Runs.{Touch, word_found}
use Rattle.bank_laws.specs.Table.{code_bytes, image_with_bytes, is_unwritable}
use Rattle.bank_laws.specs.Words.{bytes_at}
use Rattle.explore_sites.specs.Own.{Owners, clear_by, clear_in, code_ahead, is_anothers, is_clear, is_clear_code, is_clear_if, may_store, touch_ahead}
use Rattle.explore_space.specs.Failing.{touches_anothers}
use Rattle.explore_space.specs.Habits.{nobodys}

-- no byte past the last address may be written
abbrev pub ShutAbove : Memory → Type 0
ShutAbove m = (a : ℕ) → 2 ^ 32 ≤ a → grants to_write (m.rights a) ≡ false

-- ---- bytes that may be written
each_below : (n : ℕ) (test : ℕ → Bool) (i : ℕ) → i < n → all_below n test ≡ true → test i ≡ true
each_below zero test i low e = absurd (omega (arith, low))
each_below (suc n) test i low e =
    let both = and_parts (all_below n test) (test n) e in
    elim (cases_eq i n) [
      | inl q ↦ ap test q ∙ both.1
      | inr ne ↦ each_below n test i (omega (arith, low, ne)) both.0
    ]

-- a byte that may be written has an address
has_address_if : (m : Memory) (a : ℕ) → ShutAbove m → grants to_write (m.rights a) ≡ true → a < 2 ^ 32
has_address_if m a shut may = elim (cases_lt a (2 ^ 32)) [
  | inl inside ↦ inside
  | inr above ↦ absurd (both_ways (grants to_write (m.rights a)) (shut a above) may)
]

place_in : (a : ℕ) → a < 2 ^ 32 → (word_of a + a % 4) % 2 ^ 32 ≡ a
place_in a low = omega (arith, low)

-- so its word isn't one that can't be
word_open : (m : Memory) (a : ℕ) → ShutAbove m → grants to_write (m.rights a) ≡ true → is_unwritable m (word_of a) ≡ false
word_open m a shut may = elim (cases_Bool (is_unwritable m (word_of a))) [
  | inl closed ↦
      let here : not (grants to_write (m.rights ((word_of a + a % 4) % 2 ^ 32))) ≡ true
      = each_below 4 (λ k. not (grants to_write ((around m).rights (word_of a + k)))) (a % 4) (omega arith) closed in
      let no_ : not (grants to_write (m.rights a)) ≡ true
      = ap (λ x. not (grants to_write (m.rights x))) (sym (place_in a (has_address_if m a shut may))) ∙ here in
      absurd (both_ways (grants to_write (m.rights a)) (not-true (grants to_write (m.rights a)) no_) may)
  | inr open_ ↦ open_
]

-- ---- a store that doesn't fault
may_all : (t every : Bool) → (if t then (if every then None else Some StoreAccess) else Some StoreMisaligned) ≡ None
    → every ≡ true
may_all true true e = refl
may_all true false e = absurd (true≢false (ap (λ (o : Option Cause). is_some o) e))
may_all false every e = absurd (true≢false (ap (λ (o : Option Cause). is_some o) e))

first_open : (m : Memory) (n a : ℕ) → 0 < n → store_fault m n a ≡ None → grants to_write (m.rights a) ≡ true
first_open m n a some e =
    let here : a ≡ a + 0 = omega arith in
    ap (λ x. grants to_write (m.rights x)) here
    ∙ each_below n (λ k. grants to_write (m.rights (a + k))) 0 some (may_all (a % n == 0) (granted to_write m n a) e)

has_size : (op : StoreOp) → 0 < store_size op
has_size Sb = omega arith
has_size Sh = omega arith
has_size Sw = omega arith

-- where an access may store, its first byte can be written
abbrev StoresOpen : Memory → Option Access → Type 0
StoresOpen m None = Unit {0}
StoresOpen m (Some c) = may_store (act_of c.kind) ≡ true → grants to_write (m.rights c.address) ≡ true

instr_opens : (i : Instr) (m : Memory) (x : Registers) (pc : ℕ) → fault i m x pc ≡ None → StoresOpen m (access_by i x)
instr_opens (Load op rd rs1 imm) m x pc e = λ stores. absurd (true≢false (sym stores))
instr_opens (Store op rs1 rs2 imm) m x pc e = λ stores. first_open m (store_size op) (wrap (x rs1 + imm)) (has_size op) e
instr_opens (LoadReserved aq rl rd rs1) m x pc e = λ stores. absurd (true≢false (sym stores))
instr_opens (StoreConditional aq rl rd rs1 rs2) m x pc e = λ stores. first_open m 4 (x rs1) (omega arith) e
instr_opens (Amo op aq rl rd rs1 rs2) m x pc e = λ stores. first_open m 4 (x rs1) (omega arith) e
instr_opens i m x pc e = tt

unless_opens : (c : Option Cause) (m : Memory) (access : Option Access) → (c ≡ None → StoresOpen m access)
    → StoresOpen m (unless_fault c access)
unless_opens None m access are = are refl
unless_opens (Some cause) m access are = tt

by_opens : (o : Option Instr) (m : Memory) (x : Registers) (pc : ℕ) → StoresOpen m (carried_by o m x pc)
by_opens None m x pc = tt
by_opens (Some i) m x pc = unless_opens (fault i m x pc) m (access_by i x) (instr_opens i m x pc)

word_opens : (o : Option ℕ) (m : Memory) (x : Registers) (pc : ℕ) → StoresOpen m (carried_at o m x pc)
word_opens None m x pc = tt
word_opens (Some word) m x pc = by_opens (decoded word) m x pc

state_opens : (st : HartState) (m : Memory) (v : HartValue) → StoresOpen m (carried_in st m v)
state_opens Running m v = word_opens (fetched m v.pc) m v.registers v.pc
state_opens (Exited status) m v = tt
state_opens (Faulted cause) m v = tt

-- ---- what a step touches
-- where a touch may store, its word can be written
abbrev TouchesOpen : Memory → Option Touch → Type 0
TouchesOpen m None = Unit {0}
TouchesOpen m (Some t) = may_store t.act ≡ true → is_unwritable m t.word ≡ false

touch_opens : (m : Memory) (access : Option Access) → ShutAbove m → StoresOpen m access → TouchesOpen m (touch_of access)
touch_opens m None shut opens = tt
touch_opens m (Some c) shut opens = λ stores. word_open m c.address shut (opens stores)

pub stores_writable : (m : Memory) (v : HartValue) (t : Touch) → ShutAbove m → touch_ahead m v ≡ Some t → may_store t.act ≡ true
    → is_unwritable m t.word ≡ false
stores_writable m v t shut is stores =
    let n : Memory = image_with_bytes m (code_bytes m v (word_found (code_ahead m v) (λ x. bytes_at m.bytes x))) in
    let opens : TouchesOpen n (touch_ahead m v) = touch_opens n (carried_in v.state n v) shut (state_opens v.state n v) in
    subst (λ p. TouchesOpen n p) is opens stores

-- ---- so a touch is clear unless it is of another hart's word
store_clear : (s u : Bool) → (s ≡ true → u ≡ false) → not (s && u) ≡ true
store_clear false u open_ = refl
store_clear true false open_ = refl
store_clear true true open_ = absurd (true≢false (open_ refl))

touch_clear : (owners : Owners) (m : Memory) (h : ℕ) (v : HartValue) (p : Option Touch) → ShutAbove m → touch_ahead m v ≡ p
    → touches_anothers owners h p ≡ false → is_clear_if owners m h p ≡ true
touch_clear owners m h v None shut is off = refl
touch_clear owners m h v (Some t) shut is off =
    and_from (not (is_anothers owners h t.word)) (not (may_store t.act && is_unwritable m t.word)) (ap not off)
    (store_clear (may_store t.act) (is_unwritable m t.word) (stores_writable m v t shut is))

pub clear_if : (owners : Owners) (m : Memory) (h : ℕ) (v : HartValue) → ShutAbove m
    → is_clear_code owners h (code_ahead m v) ≡ true → touches_anothers owners h (touch_ahead m v) ≡ false
    → is_clear owners m h v ≡ true
clear_if owners m h v shut code off =
    and_from (is_clear_code owners h (code_ahead m v)) (is_clear_if owners m h (touch_ahead m v)) code
    (touch_clear owners m h v (touch_ahead m v) shut refl off)

-- ---- where no word belongs to a hart
nobodys_code : (h : ℕ) (o : Option ℕ) → is_clear_code nobodys h o ≡ true
nobodys_code h None = refl
nobodys_code h (Some x) = refl

nobodys_touch : (h : ℕ) (p : Option Touch) → touches_anothers nobodys h p ≡ false
nobodys_touch h None = refl
nobodys_touch h (Some t) = refl

pub nobodys_clear : (w : World) (h : ℕ) → ShutAbove w.memory → clear_in nobodys w h ≡ true
nobodys_clear w h shut = by_hart (slice_get w.harts h)
  where
    by_hart : (o : Option HartValue) → clear_by nobodys w h o ≡ true
    by_hart None = refl
    by_hart (Some v) =
        clear_if nobodys w.memory h v shut (nobodys_code h (code_ahead w.memory v)) (nobodys_touch h (touch_ahead w.memory v))

-- ---- an image has no byte past the last address
none_above : (ss : List SegmentValue) (a : ℕ)
    → ((k : ℕ) (s : SegmentValue) → k < length ss → s ≡ get_or ss k s → s.base + s.size ≤ 2 ^ 32) → 2 ^ 32 ≤ a
    → segment_at ss a ≡ None
none_above [] a ends above = refl
none_above (s ∷ ss) a ends above =
    let end : s.base + s.size ≤ 2 ^ 32 = ends 0 s (omega arith) refl in
    rw (and_right (nat_le s.base a) (nat_lt a (s.base + s.size)) (le-ltb a (s.base + s.size) (omega (arith, end, above))))
    (none_above ss a (λ k t inside is. ends (suc k) t (omega (arith, inside)) is) above)

pub image_shut : (image : ImageValue) → IsSound image.entry image.segments → ShutAbove (image_memory image)
unfolding segments_memory
image_shut image sound a above =
    ap (λ (o : Option SegmentValue). grants to_write (rights_in o))
    (none_above image.segments a (λ k s inside is. (extent_from_sound image.entry image.segments k s sound inside is).0) above)

pub started_shut : (image : ImageValue) (inputs : List ℕ) → IsSound image.entry image.segments
    → ShutAbove (started image inputs).memory
unfolding started
started_shut image inputs sound = image_shut image sound

-- rights are all that counts, and no step changes them
pub same_shut : (m n : Memory) → n.rights ≡ m.rights → ShutAbove m → ShutAbove n
same_shut m n same shut a above = ap (λ (g : ℕ → Option ℕ). grants to_write (g a)) same ∙ shut a above

pub run_shut : (w : World) (choices : List Choice) → ShutAbove w.memory → ShutAbove (run w choices).memory
run_shut w choices shut = same_shut w.memory (run w choices).memory (run-keeps w choices).rights shut
