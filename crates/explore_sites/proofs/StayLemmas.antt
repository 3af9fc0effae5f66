-- What a hart touches, in memories whose unwritable bytes are the same.
use Rattle.std.proofs.Common.{◌≡◌, ℕ, zero, suc, ◌+◌, ◌%◌, ◌^◌, ◌<◌, Bool, true, false, not, ◌&&◌, Option, Some, None, refl, ap, ap₂, sym, ◌∙◌, subst, arith, inl, inr}
use Rattle.std.specs.Prelude.{if◌then◌else◌}
use Rattle.std.specs.Option.{is_none}
use Rattle.std.proofs.lemmas.Bool.{cases_eq, and_parts, not-true}
use Rattle.mem_store.specs.Memory.{Memory, to_execute, to_write, grants, all_below, granted, around}
use Rattle.mem_store.specs.Access.{fetched}
use Rattle.isa_table.specs.Decoded.{decoded}
use Rattle.isa_table.specs.declared.instr.Instr.{Instr}
use Rattle.hart_step.specs.Hart.{HartValue, Registers}
use Rattle.hart_step.specs.Laws.{Keeps}
use Rattle.hart_step.specs.Locality.{access_by}
use Rattle.hart_step.specs.declared.hart.Cause.{Cause}
use Rattle.hart_step.specs.declared.hart.HartState.{HartState}
use Rattle.hart_step.specs.declared.hart.HartState.TheVariants.{Running, Exited, Faulted}
use Rattle.bank_laws.specs.Banks.{WordBytes}
use Rattle.bank_laws.specs.Runs.{Touch, word_found}
use Rattle.bank_laws.specs.Words.{bytes_at, with_four_if}
use Rattle.bank_laws.specs.Carried.{unless_fault, carried_by, carried_at, carried_in, touch_of}
use Rattle.bank_laws.specs.Table.{is_unwritable, needed_code, planned}
use Rattle.bank_laws.proofs.EffectLemmas.{fault_same}
use Rattle.bank_laws.proofs.WordLemmas.{SameFour, wrapped, put_there, fetched_same}
use Rattle.explore_sites.specs.Own.{Owners, is_clear_code, is_clear_if, is_own_if, is_clear, is_alone, clear_over}

-- a memory of its parts
abbrev pub memory_of : (ℕ → Option ℕ) → (ℕ → ℕ) → Memory
memory_of g b = record { rights = g; bytes = b }

-- ---- the instruction
pub each_below : (n : ℕ) (test : ℕ → Bool) (i : ℕ) → i < n → all_below n test ≡ true → test i ≡ true
each_below zero test i low e = absurd (omega (arith, low))
each_below (suc n) test i low e =
    let both = and_parts (all_below n test) (test n) e in
    elim (cases_eq i n) [
      | inl q ↦ ap test q ∙ both.1
      | inr ne ↦ each_below n test i (omega (arith, low, ne)) both.0
    ]

and_no : (g u : Bool) → g ≡ true → (g && not u) ≡ false → u ≡ true
and_no true true e f = refl
and_no true false e f = cc f
and_no false u e f = cc e

-- bytes that aren't writable are the same
abbrev pub StayShut : (ℕ → Option ℕ) → (ℕ → ℕ) → (ℕ → ℕ) → Type 0
StayShut g b d = (a : ℕ) → grants to_write (g a) ≡ false → d a ≡ b a

-- words are those of memory
abbrev pub ShowsBytes : (ℕ → WordBytes) → (ℕ → ℕ) → Type 0
ShowsBytes values d = (x : ℕ) → x % 4 ≡ 0 → values x ≡ bytes_at d x

-- bytes with the needed word in place
abbrev pub known_bytes : (ℕ → ℕ) → (ℕ → WordBytes) → Option ℕ → ℕ → ℕ
known_bytes b values o = with_four_if b o (word_found o values)

-- the four bytes from a multiple of 4 on are those of a word, modulo 2^32
place_in_word : (pc i : ℕ) → pc % 4 ≡ 0 → i < 4 → (pc + i) % 2 ^ 32 ≡ pc % 2 ^ 32 + i
place_in_word pc i aligned low =
    let begins : pc % 2 ^ 32 % 4 ≡ 0 = omega (arith, aligned) in
    let room : pc % 2 ^ 32 + i < 2 ^ 32 = omega (arith, begins, low) in
    omega (arith, room)

-- bytes are the same in code that no store changes
pub shut_same : (g : ℕ → Option ℕ) (b d : ℕ → ℕ) (pc : ℕ) → StayShut g b d → is_unwritable (memory_of g b) pc ≡ true
    → SameFour (wrapped d) (wrapped b) pc
shut_same g b d pc stays fixed i low =
    stays ((pc + i) % 2 ^ 32)
    (not-true (grants to_write (g ((pc + i) % 2 ^ 32))) (each_below 4 (λ k. not (grants to_write (g ((pc + k) % 2 ^ 32)))) i low fixed))

code_same : (g : ℕ → Option ℕ) (b d : ℕ → ℕ) (values : ℕ → WordBytes) (pc : ℕ) → StayShut g b d → ShowsBytes values d → pc % 4 ≡ 0
    → granted to_execute (around (memory_of g b)) 4 pc ≡ true
    → SameFour (wrapped d) (wrapped (known_bytes b values (needed_code Running (memory_of g b) pc))) pc
code_same g b d values pc stays shows aligned may =
    go (granted to_execute (around (memory_of g b)) 4 pc && not (is_unwritable (memory_of g b) pc)) refl
  where
    there : (i : ℕ) → i < 4 → d (pc % 2 ^ 32 + i) ≡ known_bytes b values (Some (pc % 2 ^ 32)) (pc % 2 ^ 32 + i)
    there i low =
        put_there d b (pc % 2 ^ 32) i low
        ∙ ap (λ (v : WordBytes). with_four_if b (Some (pc % 2 ^ 32)) v (pc % 2 ^ 32 + i)) (sym (shows (pc % 2 ^ 32) (omega (arith, aligned))))

    go : (t : Bool) → (granted to_execute (around (memory_of g b)) 4 pc && not (is_unwritable (memory_of g b) pc)) ≡ t
        → SameFour (wrapped d) (wrapped (known_bytes b values (if t then Some (pc % 2 ^ 32) else None))) pc
    go true e i low =
        subst (λ (x : ℕ). d x ≡ known_bytes b values (Some (pc % 2 ^ 32)) x) (sym (place_in_word pc i aligned low)) (there i low)
    go false e i low =
        shut_same g b d pc stays (and_no (granted to_execute (around (memory_of g b)) 4 pc) (is_unwritable (memory_of g b) pc) may e) i low

-- ---- the touch
pub carried_same : (o : Option Instr) (g : ℕ → Option ℕ) (b d : ℕ → ℕ) (x : Registers) (pc : ℕ)
    → carried_by o (memory_of g b) x pc ≡ carried_by o (memory_of g d) x pc
carried_same None g b d x pc = refl
carried_same (Some i) g b d x pc = ap (λ (c : Option Cause). unless_fault c (access_by i x)) (fault_same i g b d x pc)

pub at_same : (o : Option ℕ) (g : ℕ → Option ℕ) (b d : ℕ → ℕ) (x : Registers) (pc : ℕ)
    → carried_at o (memory_of g b) x pc ≡ carried_at o (memory_of g d) x pc
at_same None g b d x pc = refl
at_same (Some word) g b d x pc = carried_same (decoded word) g b d x pc

-- where the fetched word is the same, so is the touch
pub fetch_touches : (g : ℕ → Option ℕ) (b d : ℕ → ℕ) (v : HartValue) → fetched (memory_of g b) v.pc ≡ fetched (memory_of g d) v.pc
    → touch_of (carried_in Running (memory_of g b) v) ≡ touch_of (carried_in Running (memory_of g d) v)
fetch_touches g b d v same =
    ap (λ (o : Option ℕ). touch_of (carried_at o (memory_of g b) v.registers v.pc)) same
    ∙ ap touch_of (at_same (fetched (memory_of g d) v.pc) g b d v.registers v.pc)

-- what a hart in a state touches, given these words
abbrev pub touch_in : HartState → HartValue → (ℕ → Option ℕ) → (ℕ → ℕ) → (ℕ → WordBytes) → Option Touch
touch_in st v g b values =
    touch_of (carried_in st (memory_of g (known_bytes b values (needed_code st (memory_of g b) v.pc))) v)

touch_same : (st : HartState) (v : HartValue) (g : ℕ → Option ℕ) (b d : ℕ → ℕ) (values : ℕ → WordBytes) → StayShut g b d
    → ShowsBytes values d → v.pc % 4 ≡ 0 → touch_in st v g d (λ x. bytes_at d x) ≡ touch_in st v g b values
touch_same Running v g b d values stays shows aligned =
    let one = known_bytes d (λ x. bytes_at d x) (needed_code Running (memory_of g d) v.pc) in
    let other = known_bytes b values (needed_code Running (memory_of g b) v.pc) in
    let first : fetched (memory_of g d) v.pc ≡ fetched (memory_of g one) v.pc =
    fetched_same g d one v.pc (λ may. code_same g d d (λ x. bytes_at d x) v.pc (λ a e. refl) (λ x at. refl) aligned may) in
    let second : fetched (memory_of g d) v.pc ≡ fetched (memory_of g other) v.pc =
    fetched_same g d other v.pc (λ may. code_same g b d values v.pc stays shows aligned may) in
    fetch_touches g one other v (sym first ∙ second)
touch_same (Exited status) v g b d values stays shows aligned = refl
touch_same (Faulted cause) v g b d values stays shows aligned = refl

-- ---- a hart that is alone, whatever may be stored
abbrev alone_at : HartState → Owners → ℕ → HartValue → (ℕ → Option ℕ) → (ℕ → ℕ) → Bool
alone_at st owners h v g b =
    is_none (needed_code st (memory_of g b) v.pc) && is_own_if owners (memory_of g b) h (touch_in st v g b (λ x. bytes_at b x))

alone_same : (st : HartState) (owners : Owners) (h : ℕ) (v : HartValue) (g : ℕ → Option ℕ) (b d : ℕ → ℕ) → StayShut g b d
    → alone_at st owners h v g d ≡ alone_at st owners h v g b
alone_same Running owners h v g b d stays = go (granted to_execute (around (memory_of g b)) 4 v.pc && not (is_unwritable (memory_of g b) v.pc)) refl
  where
    at : Bool → (ℕ → ℕ) → Bool
    at t b =
        let need = if t then Some (v.pc % 2 ^ 32) else None in
        is_none need && is_own_if owners (memory_of g b) h (touch_of (carried_in Running (memory_of g (known_bytes b (λ x. bytes_at b x) need)) v))

    go : (t : Bool) → (granted to_execute (around (memory_of g b)) 4 v.pc && not (is_unwritable (memory_of g b) v.pc)) ≡ t → at t d ≡ at t b
    go true e = refl
    go false e =
        ap (is_own_if owners (memory_of g b) h)
        (fetch_touches g d b v (fetched_same g d b v.pc
        (λ may. shut_same g b d v.pc stays (and_no (granted to_execute (around (memory_of g b)) 4 v.pc) (is_unwritable (memory_of g b) v.pc) may e))))
alone_same (Exited status) owners h v g b d stays = refl
alone_same (Faulted cause) owners h v g b d stays = refl

pub alone_kept : (owners : Owners) (m n : Memory) (h : ℕ) (v : HartValue) → Keeps m n → is_alone owners n h v ≡ is_alone owners m h v
alone_kept owners m n h v keeps =
    ap (λ (g : ℕ → Option ℕ). is_alone owners (memory_of g n.bytes) h v) keeps.rights
    ∙ alone_same v.state owners h v m.rights m.bytes n.bytes keeps.bytes

-- ---- a hart that is clear, by a table's words
pub need_same : (st : HartState) (g : ℕ → Option ℕ) (b d : ℕ → ℕ) (pc : ℕ) → needed_code st (memory_of g b) pc ≡ needed_code st (memory_of g d) pc
need_same Running g b d pc = refl
need_same (Exited status) g b d pc = refl
need_same (Faulted cause) g b d pc = refl

pub clear_kept : (owners : Owners) (m n : Memory) (h : ℕ) (v : HartValue) (values : ℕ → WordBytes) → Keeps m n → v.pc % 4 ≡ 0
    → ShowsBytes values n.bytes → is_clear owners n h v ≡ clear_over owners m h v values
clear_kept owners m n h v values keeps aligned shows =
    ap (λ (g : ℕ → Option ℕ). is_clear owners (memory_of g n.bytes) h v) keeps.rights
    ∙ ap₂ (λ need p. is_clear_code owners h need && is_clear_if owners m h p)
    (need_same v.state m.rights n.bytes m.bytes v.pc)
    (touch_same v.state v m.rights m.bytes n.bytes values keeps.bytes shows aligned)

-- the needed word is the same, or another's
pub same_code : (owners : Owners) (m : Memory) (h : ℕ) (v : HartValue) (values others : ℕ → WordBytes)
    → ((x : ℕ) → is_clear_code owners h (Some x) ≡ true → values x ≡ others x)
    → clear_over owners m h v values ≡ clear_over owners m h v others
same_code owners m h v values others same = go (needed_code v.state m v.pc)
  where
    at : Option ℕ → (ℕ → WordBytes) → Bool
    at need words = is_clear_code owners h need && is_clear_if owners m h (planned m v (word_found need words))

    by : (x : ℕ) (t : Bool) → is_clear_code owners h (Some x) ≡ t
        → (t && is_clear_if owners m h (planned m v (values x))) ≡ (t && is_clear_if owners m h (planned m v (others x)))
    by x true e = ap (λ c. is_clear_if owners m h (planned m v c)) (same x e)
    by x false e = refl

    go : (need : Option ℕ) → at need values ≡ at need others
    go None = refl
    go (Some x) = by x (is_clear_code owners h (Some x)) refl
