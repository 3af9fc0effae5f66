-- What an instruction does, by the word that it touches.
use Rattle.std.proofs.Common.{◌≡◌, ℕ, ◌+◌, ◌%◌, Bool, true, false, not, ◌&&◌, ◌==◌, cond, eqb, Option, Some, None, refl, ap, sym, subst, ◌∙◌, arith}
use Rattle.std.specs.Prelude.{if◌then◌else◌}
use Rattle.std.proofs.lemmas.Bool.{eq-eqb}
use Rattle.mem_store.specs.Memory.{number_at, stored}
use Rattle.hart_reservations.specs.Marks.{Marks, names, word_of, with_mark}
use Rattle.isa_table.specs.Decoded.{decoded}
use Rattle.isa_table.specs.declared.instr.Instr.{Instr}
use Rattle.isa_table.specs.declared.instr.Instr.TheVariants.{Load, Store, LoadReserved, StoreConditional, Amo}
use Rattle.hart_step.specs.Hart.{HartValue, Registers, put}
use Rattle.hart_step.specs.Values.{wrap, load_size, store_size, extended, amo_result}
use Rattle.hart_step.specs.Fault.{fault}
use Rattle.hart_step.specs.Effect.{Site, site, effect, conditional, next}
use Rattle.hart_step.specs.Step.{unless, executed, at_word}
use Rattle.hart_step.specs.Locality.{access_by, IsInOneWord}
use Rattle.hart_step.specs.declared.hart.Cause.{Cause}
use Rattle.hart_step.proofs.AccessLemmas.{in_one_word}
use Rattle.bank_laws.specs.Banks.{is_store, marks_after}
use Rattle.bank_laws.specs.Runs.{Tries, Touch, succeeds, kind_of}
use Rattle.bank_laws.specs.Words.{bytes_at}
use Rattle.bank_laws.specs.Carried.{unless_fault, carried_by, carried_at, touch_of}
use Rattle.bank_laws.specs.Table.{word_in}
use Rattle.bank_laws.proofs.WordLemmas.{SameFour, number_in_word, store_in_word}

-- a site with these rights and bytes
abbrev pub at_bytes : HartValue → (ℕ → Option ℕ) → (ℕ → ℕ) → Marks → Site
at_bytes v g b r = site v (record { rights = g; bytes = b }) r

-- the bytes of the touched word are the same
abbrev pub SameTouched : Option Touch → (ℕ → ℕ) → (ℕ → ℕ) → Type 0
SameTouched None b d = Unit {0}
SameTouched (Some t) b d = SameFour b d t.word

-- the reservations that a step is given
abbrev pub told_marks : Option Touch → Bool → Marks
told_marks p ok = λ j. if ok then word_in p else None

-- where a step of hart k over these bytes and reservations leads, by where it leads given its word
-- alone
pub record Touched (t : Touch) (k : ℕ) (refuse : Bool) (b : ℕ → ℕ) (r : Marks) (e : Site) (f : Bool → Site) : Type 0 where
  pub hart : e.hart ≡ (f (succeeds t.act refuse (names (r k) t.word))).hart
  pub reserved : e.reserved ≡ marks_after (kind_of t.act (succeeds t.act refuse (names (r k) t.word))) r k t.word
  pub values : (y : ℕ) → y % 4 ≡ 0 → bytes_at e.memory.bytes y
      ≡ (if is_store (kind_of t.act (succeeds t.act refuse (names (r k) t.word)))
      then (if y == t.word then bytes_at (f true).memory.bytes t.word else bytes_at b y) else bytes_at b y)

-- the same where no word is touched
pub record Untouched (b : ℕ → ℕ) (r : Marks) (e : Site) (f : Bool → Site) : Type 0 where
  pub hart : e.hart ≡ (f false).hart
  pub reserved : e.reserved ≡ r
  pub bytes : e.memory.bytes ≡ b

abbrev pub Outcome : Option Touch → ℕ → Bool → (ℕ → ℕ) → Marks → Site → (Bool → Site) → Type 0
Outcome None k refuse b r e f = Untouched b r e f
Outcome (Some t) k refuse b r e f = Touched t k refuse b r e f

-- what has no fault is aligned
aligned : (address n : ℕ) (every : Bool) (no_right misaligned : Cause)
    → cond (eqb (address % n) 0) (cond every None (Some no_right)) (Some misaligned) ≡ None → address % n ≡ 0
aligned address n every no_right misaligned e = go (eqb (address % n) 0) refl e
  where
    go : (t : Bool) → eqb (address % n) 0 ≡ t → cond t (cond every None (Some no_right)) (Some misaligned) ≡ None
        → address % n ≡ 0
    go true p q = grind (arith)
    go false p q = absurd (let r : ◌≡◌ {A = Option Cause} (Some misaligned) None = q in cc)

whole_word : (a : ℕ) → a % 4 ≡ 0 → word_of a ≡ a
whole_word a e = omega (arith, e)

-- a store-conditional
abbrev ScTouched : (v : HartValue) (g : ℕ → Option ℕ) (b d : ℕ → ℕ) (r : Marks) (k : ℕ) (x : Registers) (pc rd a value : ℕ) (ok : Bool) → Type 0
ScTouched v g b d r k x pc rd a value ok =
    let e = conditional ok (at_bytes v g b r) k x pc rd a value in
    let f : Bool → Site = λ o. conditional (names (if o then Some (word_of a) else None) a && true) (at_bytes v g d (λ j. if o then Some (word_of a) else None)) 0 x pc rd a value in
    (e.hart ≡ (f ok).hart)
    × (e.reserved ≡ marks_after (kind_of Tries ok) r k (word_of a))
    × ((y : ℕ) → y % 4 ≡ 0 → bytes_at e.memory.bytes y
    ≡ (if is_store (kind_of Tries ok) then (if y == word_of a then bytes_at (f true).memory.bytes (word_of a) else bytes_at b y) else bytes_at b y))

own_word : (a : ℕ) → a % 4 ≡ 0 → (names (Some (word_of a)) a && true) ≡ true
own_word a e = rw (eq-eqb (word_of a) a (whole_word a e)) refl

conditional_touched : (ok : Bool) (v : HartValue) (g : ℕ → Option ℕ) (b d : ℕ → ℕ) (r : Marks) (k : ℕ) (x : Registers) (pc rd a value : ℕ)
    → a % 4 ≡ 0 → SameFour b d (word_of a) → ScTouched v g b d r k x pc rd a value ok
conditional_touched true v g b d r k x pc rd a value e same = (
  ap (λ (o : Bool). (conditional o (at_bytes v g d (λ j. Some (word_of a))) 0 x pc rd a value).hart) (sym (own_word a e)),
  refl,
  λ y ay. store_in_word 4 a value y b d (omega (arith, e)) ay same
      ∙ ap (λ (o : Bool). if y == word_of a then bytes_at (conditional o (at_bytes v g d (λ j. Some (word_of a))) 0 x pc rd a value).memory.bytes (word_of a) else bytes_at b y) (sym (own_word a e)),
)
conditional_touched false v g b d r k x pc rd a value e same = (refl, refl, λ y ay. refl)

and_turned : (s t : Bool) → (s && not t) ≡ (not t && s)
and_turned true true = refl
and_turned true false = refl
and_turned false true = refl
and_turned false false = refl

-- the test that a store-conditional makes, in the words of a touch
sc_test : (n : Option ℕ) (refuse : Bool) (a : ℕ) → a % 4 ≡ 0 → (names n a && not refuse) ≡ (not refuse && names n (word_of a))
sc_test n refuse a e = and_turned (names n a) refuse ∙ ap (λ (z : ℕ). not refuse && names n z) (sym (whole_word a e))

effect_outcome : (i : Instr) (v : HartValue) (g : ℕ → Option ℕ) (b d : ℕ → ℕ) (r : Marks) (k : ℕ) (refuse : Bool) (x : Registers) (pc : ℕ)
    → fault i (record { rights = g; bytes = b }) x pc ≡ None → SameTouched (touch_of (access_by i x)) b d
    → Outcome (touch_of (access_by i x)) k refuse b r (effect i (at_bytes v g b r) k refuse x pc)
    (λ ok. effect i (at_bytes v g d (told_marks (touch_of (access_by i x)) ok)) 0 false x pc)
effect_outcome (Load op rd rs1 imm) v g b d r k refuse x pc c same =
    let fits : IsInOneWord (access_by (Load op rd rs1 imm) x) = in_one_word (Load op rd rs1 imm) (record { rights = g; bytes = b }) x pc c in
    record {
      hart = ap (λ (n : ℕ). record v { registers = put x rd (extended op n); pc = next pc }) (number_in_word b d (load_size op) (wrap (x rs1 + imm)) fits same);
      reserved = refl;
      values = λ y ay. refl;
    }
effect_outcome (Store op rs1 rs2 imm) v g b d r k refuse x pc c same =
    let fits : IsInOneWord (access_by (Store op rs1 rs2 imm) x) = in_one_word (Store op rs1 rs2 imm) (record { rights = g; bytes = b }) x pc c in
    record {
      hart = refl;
      reserved = refl;
      values = λ y ay. store_in_word (store_size op) (wrap (x rs1 + imm)) (x rs2) y b d fits ay same;
    }
effect_outcome (LoadReserved aq rl rd rs1) v g b d r k refuse x pc c same =
    let fits : IsInOneWord (access_by (LoadReserved aq rl rd rs1) x) = in_one_word (LoadReserved aq rl rd rs1) (record { rights = g; bytes = b }) x pc c in
    record {
      hart = ap (λ (n : ℕ). record v { registers = put x rd n; pc = next pc }) (number_in_word b d 4 (x rs1) fits same);
      reserved = ap (λ (z : ℕ). with_mark r k z) (sym (whole_word (x rs1) (omega (arith, fits))));
      values = λ y ay. refl;
    }
effect_outcome (StoreConditional aq rl rd rs1 rs2) v g b d r k refuse x pc c same =
    let fits : IsInOneWord (access_by (StoreConditional aq rl rd rs1 rs2) x) = in_one_word (StoreConditional aq rl rd rs1 rs2) (record { rights = g; bytes = b }) x pc c in
    let whole : x rs1 % 4 ≡ 0 = omega (arith, fits) in
    let ok = not refuse && names (r k) (word_of (x rs1)) in
    let test : (names (r k) (x rs1) && not refuse) ≡ ok = sc_test (r k) refuse (x rs1) whole in
    let done = conditional_touched ok v g b d r k x pc rd (x rs1) (x rs2) whole same in
    record {
      hart = ap (λ (o : Bool). (conditional o (at_bytes v g b r) k x pc rd (x rs1) (x rs2)).hart) test ∙ done.0;
      reserved = ap (λ (o : Bool). (conditional o (at_bytes v g b r) k x pc rd (x rs1) (x rs2)).reserved) test ∙ done.1;
      values = λ y ay. ap (λ (o : Bool). bytes_at (conditional o (at_bytes v g b r) k x pc rd (x rs1) (x rs2)).memory.bytes y) test ∙ done.2 y ay;
    }
effect_outcome (Amo op aq rl rd rs1 rs2) v g b d r k refuse x pc c same =
    let fits : IsInOneWord (access_by (Amo op aq rl rd rs1 rs2) x) = in_one_word (Amo op aq rl rd rs1 rs2) (record { rights = g; bytes = b }) x pc c in
    let old : number_at b 4 (x rs1) ≡ number_at d 4 (x rs1) = number_in_word b d 4 (x rs1) fits same in
    record {
      hart = ap (λ (n : ℕ). record v { registers = put x rd n; pc = next pc }) old;
      reserved = refl;
      values = λ y ay. store_in_word 4 (x rs1) (amo_result op (number_at b 4 (x rs1)) (x rs2)) y b d fits ay same
          ∙ ap (λ (n : ℕ). if y == word_of (x rs1) then bytes_at (stored 4 (x rs1) (amo_result op n (x rs2)) d) (word_of (x rs1)) else bytes_at b y) old;
    }
effect_outcome i v g b d r k refuse x pc c same = record { hart = refl; reserved = refl; bytes = refl }

-- faults depend on rights alone
pub fault_same : (i : Instr) (g : ℕ → Option ℕ) (b d : ℕ → ℕ) (x : Registers) (pc : ℕ)
    → fault i (record { rights = g; bytes = b }) x pc ≡ fault i (record { rights = g; bytes = d }) x pc
fault_same (Load op rd rs1 imm) g b d x pc = refl
fault_same i g b d x pc = refl

unless_outcome : (i : Instr) (o : Option Cause) (v : HartValue) (g : ℕ → Option ℕ) (b d : ℕ → ℕ) (r : Marks) (k : ℕ) (refuse : Bool) (x : Registers) (pc : ℕ)
    → fault i (record { rights = g; bytes = b }) x pc ≡ o → SameTouched (touch_of (unless_fault o (access_by i x))) b d
    → Outcome (touch_of (unless_fault o (access_by i x))) k refuse b r (unless o (at_bytes v g b r) (effect i (at_bytes v g b r) k refuse x pc))
    (λ ok. unless o (at_bytes v g d (told_marks (touch_of (unless_fault o (access_by i x))) ok))
    (effect i (at_bytes v g d (told_marks (touch_of (unless_fault o (access_by i x))) ok)) 0 false x pc))
unless_outcome i None v g b d r k refuse x pc e same = effect_outcome i v g b d r k refuse x pc e same
unless_outcome i (Some cause) v g b d r k refuse x pc e same = record { hart = refl; reserved = refl; bytes = refl }

-- an instruction's outcome, by the causes that the three sites give
abbrev ByCauses : Instr → HartValue → (ℕ → Option ℕ) → (ℕ → ℕ) → (ℕ → ℕ) → Marks → ℕ → Bool → Registers → ℕ → Option Cause → Option Cause → Option Cause → Type 0
ByCauses i v g b d r k refuse x pc plan real told =
    let p = touch_of (unless_fault plan (access_by i x)) in
    SameTouched p b d → Outcome p k refuse b r (unless real (at_bytes v g b r) (effect i (at_bytes v g b r) k refuse x pc))
    (λ ok. unless told (at_bytes v g d (told_marks p ok)) (effect i (at_bytes v g d (told_marks p ok)) 0 false x pc))

executed_outcome : (o : Option Instr) (v : HartValue) (g : ℕ → Option ℕ) (a b d : ℕ → ℕ) (r : Marks) (k : ℕ) (refuse : Bool) (x : Registers) (pc : ℕ)
    → SameTouched (touch_of (carried_by o (record { rights = g; bytes = a }) x pc)) b d
    → Outcome (touch_of (carried_by o (record { rights = g; bytes = a }) x pc)) k refuse b r (executed o (at_bytes v g b r) k refuse x pc)
    (λ ok. executed o (at_bytes v g d (told_marks (touch_of (carried_by o (record { rights = g; bytes = a }) x pc)) ok)) 0 false x pc)
executed_outcome None v g a b d r k refuse x pc same = record { hart = refl; reserved = refl; bytes = refl }
executed_outcome (Some i) v g a b d r k refuse x pc same =
    let real = fault i (record { rights = g; bytes = b }) x pc in
    subst (λ (c : Option Cause). ByCauses i v g b d r k refuse x pc c real (fault i (record { rights = g; bytes = d }) x pc)) (fault_same i g b a x pc)
    (subst (λ (c : Option Cause). ByCauses i v g b d r k refuse x pc real real c) (fault_same i g b d x pc)
    (unless_outcome i real v g b d r k refuse x pc refl)) same

pub word_outcome : (o : Option ℕ) (v : HartValue) (g : ℕ → Option ℕ) (a b d : ℕ → ℕ) (r : Marks) (k : ℕ) (refuse : Bool) (x : Registers) (pc : ℕ)
    → SameTouched (touch_of (carried_at o (record { rights = g; bytes = a }) x pc)) b d
    → Outcome (touch_of (carried_at o (record { rights = g; bytes = a }) x pc)) k refuse b r (at_word o (at_bytes v g b r) k refuse x pc)
    (λ ok. at_word o (at_bytes v g d (told_marks (touch_of (carried_at o (record { rights = g; bytes = a }) x pc)) ok)) 0 false x pc)
word_outcome None v g a b d r k refuse x pc same = record { hart = refl; reserved = refl; bytes = refl }
word_outcome (Some word) v g a b d r k refuse x pc same = executed_outcome (decoded word) v g a b d r k refuse x pc same
