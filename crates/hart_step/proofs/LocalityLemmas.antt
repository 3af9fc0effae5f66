-- What a step depends on: two sites that agree on it step alike.
use Rattle.std.proofs.Common.{◌≡◌, ℕ, zero, suc, ◌+◌, ◌*◌, ◌^◌, ◌<◌, Bool, true, false, not, ◌&&◌, cond, eqb, leb, ltb, Option, Some, None, refl, ap, ap₂, subst, arith}
use Rattle.std.proofs.lemmas.Bool.Decides.{nat_tests}
use Rattle.mem_store.specs.Memory.{little_endian, number_at, granted, to_execute, around, stored}
use Rattle.mem_store.specs.Access.{fetched}
use Rattle.hart_reservations.specs.Marks.{Marks, names, word_of}
use Rattle.isa_table.specs.Decoded.{decoded}
use Rattle.isa_table.specs.declared.instr.Instr.{Instr}
use Rattle.isa_table.specs.declared.instr.Instr.TheVariants.{Load, Store, LoadReserved, StoreConditional, Amo}
use Rattle.isa_table.specs.declared.mnemonic.AmoOp.{AmoOp}
use Rattle.hart_step.specs.Hart.{HartValue, Registers, put}
use Rattle.hart_step.specs.Values.{wrap, load_size, store_size, extended, amo_result}
use Rattle.hart_step.specs.Fault.{fault}
use Rattle.hart_step.specs.Effect.{Site, site, effect, conditional, next}
use Rattle.hart_step.specs.Step.{unless, executed, at_word, by_state, stepped}
use Rattle.hart_step.specs.Locality.{access, access_by, access_if, access_at, access_in, is_inside, Agrees, ChangesAlike, StepsAlike}
use Rattle.hart_step.specs.declared.data_access.Access.{Access}
use Rattle.hart_step.specs.declared.data_access.AccessKind.{AccessKind}
use Rattle.hart_step.specs.declared.data_access.AccessKind.TheVariants as kinds
use Rattle.hart_step.specs.declared.hart.Cause.{Cause}
use Rattle.hart_step.specs.declared.hart.HartState.{HartState}
use Rattle.hart_step.specs.declared.hart.HartState.TheVariants.{Running, Exited, Faulted}

-- ---- numbers in memory
number-same : (n : ℕ) (f g : ℕ → ℕ) → ((k : ℕ) → k < n → f k ≡ g k) → little_endian n f ≡ little_endian n g
number-same zero f g e = refl
number-same (suc n) f g e =
    ap₂ (λ (low high : ℕ). low + high * 256 ^ n) (number-same n f g (λ k below. e k (omega arith))) (e n (omega arith))

-- the bytes of an access, by their addresses
abbrev SameIn : Option Access → (ℕ → ℕ) → (ℕ → ℕ) → Type 0
SameIn c b d = (a : ℕ) → is_inside c a ≡ true → b a ≡ d a

access-same : (kind : AccessKind) (address n : ℕ) (b d : ℕ → ℕ) → SameIn (access kind address n) b d
    → number_at b n address ≡ number_at d n address
access-same kind address n b d e =
    number-same n (λ k. b (address + k)) (λ k. d (address + k))
    (λ k below. let there : (leb address (address + k) && ltb (address + k) (address + n)) ≡ true = grind (arith, nat_tests) in
    e (address + k) there)

-- ---- sites with the same hart and rights, and other bytes and reservations
abbrev at_bytes : HartValue → (ℕ → Option ℕ) → (ℕ → ℕ) → Marks → Site
at_bytes v rights bytes r = site v (record { rights = rights; bytes = bytes }) r

kept-alike : (c : Option Access) (v w w' : HartValue) (g : ℕ → Option ℕ) (b d : ℕ → ℕ) (r q : Marks) → SameIn c b d → w ≡ w'
    → ChangesAlike c (at_bytes v g b r) (at_bytes v g d q) (at_bytes w g b r) (at_bytes w' g d q)
kept-alike c v w w' g b d r q same e =
    record { hart = e; rights = (refl, refl); inside = same; outside = λ a out. (refl, refl); reserved = λ k f. f }

-- reservations that are made of the old ones, hart by hart
marked-alike : (c : Option Access) (v w w' : HartValue) (g : ℕ → Option ℕ) (b d : ℕ → ℕ) (r q : Marks)
    (mark : ℕ → Option ℕ → Option ℕ) → SameIn c b d → w ≡ w'
    → ChangesAlike c (at_bytes v g b r) (at_bytes v g d q) (at_bytes w g b (λ k. mark k (r k))) (at_bytes w' g d (λ k. mark k (q k)))
marked-alike c v w w' g b d r q mark same e =
    record { hart = e; rights = (refl, refl); inside = same; outside = λ a out. (refl, refl); reserved = λ k f. ap (mark k) f }

-- a store of the same value
stored-alike : (kind : AccessKind) (v w : HartValue) (g : ℕ → Option ℕ) (b d : ℕ → ℕ) (r q : Marks) (mark : ℕ → Option ℕ → Option ℕ) (n address value : ℕ)
    → ChangesAlike (access kind address n) (at_bytes v g b r) (at_bytes v g d q)
    (at_bytes w g (stored n address value b) (λ k. mark k (r k))) (at_bytes w g (stored n address value d) (λ k. mark k (q k)))
stored-alike kind v w g b d r q mark n address value = record {
  hart = refl;
  rights = (refl, refl);
  inside = λ a e. rw e refl;
  outside = λ a e. (rw e refl, rw e refl);
  reserved = λ k f. ap (mark k) f;
}

-- what a store by hart h leaves of hart k's reservation
abbrev mark-stored : ℕ → ℕ → ℕ → Option ℕ → Option ℕ
mark-stored h word k m = cond (eqb k h) m (cond (names m word) None m)

abbrev mark-made : ℕ → ℕ → ℕ → Option ℕ → Option ℕ
mark-made h word k m = cond (eqb k h) (Some word) m

abbrev mark-ended : ℕ → ℕ → Option ℕ → Option ℕ
mark-ended h k m = cond (eqb k h) None m

-- ---- instructions
conditional-alike : (succeeds : Bool) (v : HartValue) (g : ℕ → Option ℕ) (b d : ℕ → ℕ) (r q : Marks) (h : ℕ) (x : Registers) (pc rd address value : ℕ)
    → SameIn (access kinds.StoreConditional address 4) b d
    → ChangesAlike (access kinds.StoreConditional address 4) (at_bytes v g b r) (at_bytes v g d q)
    (conditional succeeds (at_bytes v g b r) h x pc rd address value) (conditional succeeds (at_bytes v g d q) h x pc rd address value)
conditional-alike true v g b d r q h x pc rd address value same =
    stored-alike kinds.StoreConditional v (record v { registers = put x rd 0; pc = next pc }) g b d r q
    (λ k m. mark-ended h k (mark-stored h (word_of address) k m)) 4 address value
conditional-alike false v g b d r q h x pc rd address value same =
    let w = record v { registers = put x rd 1; pc = next pc } in
    marked-alike (access kinds.StoreConditional address 4) v w w g b d r q (mark-ended h) same refl

-- the site after an AMO that found a number
abbrev amo-site : AmoOp → HartValue → (ℕ → Option ℕ) → Registers → (pc rd address operand h : ℕ) → (ℕ → ℕ) → Marks → ℕ → Site
amo-site op v g x pc rd address operand h bytes marks old =
    at_bytes (record v { registers = put x rd old; pc = next pc }) g (stored 4 address (amo_result op old operand) bytes)
    (λ k. mark-stored h (word_of address) k (marks k))

effect-alike : (i : Instr) (v : HartValue) (g : ℕ → Option ℕ) (b d : ℕ → ℕ) (r q : Marks) (h : ℕ) (refuse : Bool) (x : Registers) (pc : ℕ)
    → r h ≡ q h → SameIn (access_by i x) b d
    → ChangesAlike (access_by i x) (at_bytes v g b r) (at_bytes v g d q)
    (effect i (at_bytes v g b r) h refuse x pc) (effect i (at_bytes v g d q) h refuse x pc)
effect-alike (Load op rd rs1 imm) v g b d r q h refuse x pc own same =
    kept-alike (access kinds.Load (wrap (x rs1 + imm)) (load_size op)) v _ _ g b d r q same
    (ap (λ (number : ℕ). record v { registers = put x rd (extended op number); pc = next pc })
    (access-same kinds.Load (wrap (x rs1 + imm)) (load_size op) b d same))
effect-alike (Store op rs1 rs2 imm) v g b d r q h refuse x pc own same =
    stored-alike kinds.Store v (record v { registers = x; pc = next pc }) g b d r q (mark-stored h (word_of (wrap (x rs1 + imm))))
    (store_size op) (wrap (x rs1 + imm)) (x rs2)
effect-alike (LoadReserved aq rl rd rs1) v g b d r q h refuse x pc own same =
    marked-alike (access kinds.LoadReserved (x rs1) 4) v _ _ g b d r q (mark-made h (x rs1)) same
    (ap (λ (number : ℕ). record v { registers = put x rd number; pc = next pc }) (access-same kinds.LoadReserved (x rs1) 4 b d same))
effect-alike (StoreConditional aq rl rd rs1 rs2) v g b d r q h refuse x pc own same =
    subst (λ (m : Option ℕ). ChangesAlike (access kinds.StoreConditional (x rs1) 4) (at_bytes v g b r) (at_bytes v g d q)
    (conditional (names (r h) (x rs1) && not refuse) (at_bytes v g b r) h x pc rd (x rs1) (x rs2))
    (conditional (names m (x rs1) && not refuse) (at_bytes v g d q) h x pc rd (x rs1) (x rs2))) own
    (conditional-alike (names (r h) (x rs1) && not refuse) v g b d r q h x pc rd (x rs1) (x rs2) same)
effect-alike (Amo op aq rl rd rs1 rs2) v g b d r q h refuse x pc own same =
    subst (λ (old : ℕ). ChangesAlike (access kinds.Amo (x rs1) 4) (at_bytes v g b r) (at_bytes v g d q)
    (amo-site op v g x pc rd (x rs1) (x rs2) h b r (number_at b 4 (x rs1))) (amo-site op v g x pc rd (x rs1) (x rs2) h d q old)) (access-same kinds.Amo (x rs1) 4 b d same)
    (stored-alike kinds.Amo v (record v { registers = put x rd (number_at b 4 (x rs1)); pc = next pc }) g b d r q (mark-stored h (word_of (x rs1)))
    4 (x rs1) (amo_result op (number_at b 4 (x rs1)) (x rs2)))
effect-alike i v g b d r q h refuse x pc own same = kept-alike None v _ _ g b d r q same refl

-- ---- whole steps
fault-same : (i : Instr) (g : ℕ → Option ℕ) (b d : ℕ → ℕ) (x : Registers) (pc : ℕ)
    → fault i (record { rights = g; bytes = b }) x pc ≡ fault i (record { rights = g; bytes = d }) x pc
fault-same (Load op rd rs1 imm) g b d x pc = refl
fault-same i g b d x pc = refl

fetched-same : (g : ℕ → Option ℕ) (b d : ℕ → ℕ) (pc : ℕ) → ((k : ℕ) → k < 4 → b (wrap (pc + k)) ≡ d (wrap (pc + k)))
    → fetched (record { rights = g; bytes = b }) pc ≡ fetched (record { rights = g; bytes = d }) pc
fetched-same g b d pc e =
    ap (λ (number : ℕ). cond (granted to_execute (around (record { rights = g; bytes = b })) 4 pc) (Some number) None)
    (number-same 4 (λ k. b (wrap (pc + k))) (λ k. d (wrap (pc + k))) e)

executed-alike : (o : Option Instr) (v : HartValue) (g : ℕ → Option ℕ) (b d : ℕ → ℕ) (r q : Marks) (h : ℕ) (refuse : Bool) (x : Registers) (pc : ℕ)
    → r h ≡ q h → SameIn (access_if o x) b d
    → ChangesAlike (access_if o x) (at_bytes v g b r) (at_bytes v g d q)
    (executed o (at_bytes v g b r) h refuse x pc) (executed o (at_bytes v g d q) h refuse x pc)
executed-alike None v g b d r q h refuse x pc own same = kept-alike None v _ _ g b d r q same refl
executed-alike (Some i) v g b d r q h refuse x pc own same =
    subst (λ (c : Option Cause). ChangesAlike (access_by i x) (at_bytes v g b r) (at_bytes v g d q)
    (unless (fault i (record { rights = g; bytes = b }) x pc) (at_bytes v g b r) (effect i (at_bytes v g b r) h refuse x pc))
    (unless c (at_bytes v g d q) (effect i (at_bytes v g d q) h refuse x pc))) (fault-same i g b d x pc)
    (go (fault i (record { rights = g; bytes = b }) x pc))
  where
    go : (c : Option Cause) → ChangesAlike (access_by i x) (at_bytes v g b r) (at_bytes v g d q)
        (unless c (at_bytes v g b r) (effect i (at_bytes v g b r) h refuse x pc))
        (unless c (at_bytes v g d q) (effect i (at_bytes v g d q) h refuse x pc))
    go None = effect-alike i v g b d r q h refuse x pc own same
    go (Some cause) = kept-alike (access_by i x) v _ _ g b d r q same refl

word-alike : (o : Option ℕ) (v : HartValue) (g : ℕ → Option ℕ) (b d : ℕ → ℕ) (r q : Marks) (h : ℕ) (refuse : Bool) (x : Registers) (pc : ℕ)
    → r h ≡ q h → SameIn (access_at o x) b d
    → ChangesAlike (access_at o x) (at_bytes v g b r) (at_bytes v g d q)
    (at_word o (at_bytes v g b r) h refuse x pc) (at_word o (at_bytes v g d q) h refuse x pc)
word-alike None v g b d r q h refuse x pc own same = kept-alike None v _ _ g b d r q same refl
word-alike (Some word) v g b d r q h refuse x pc own same = executed-alike (decoded word) v g b d r q h refuse x pc own same

state-alike : (state : HartState) (v : HartValue) (g : ℕ → Option ℕ) (b d : ℕ → ℕ) (r q : Marks) (h : ℕ) (refuse : Bool)
    → r h ≡ q h → ((k : ℕ) → k < 4 → b (wrap (v.pc + k)) ≡ d (wrap (v.pc + k))) → SameIn (access_in state (at_bytes v g b r)) b d
    → ChangesAlike (access_in state (at_bytes v g b r)) (at_bytes v g b r) (at_bytes v g d q)
    (by_state state (at_bytes v g b r) h refuse) (by_state state (at_bytes v g d q) h refuse)
state-alike Running v g b d r q h refuse own word same =
    subst (λ (o : Option ℕ). ChangesAlike (access_at (fetched (record { rights = g; bytes = b }) v.pc) v.registers)
    (at_bytes v g b r) (at_bytes v g d q)
    (at_word (fetched (record { rights = g; bytes = b }) v.pc) (at_bytes v g b r) h refuse v.registers v.pc)
    (at_word o (at_bytes v g d q) h refuse v.registers v.pc)) (fetched-same g b d v.pc word)
    (word-alike (fetched (record { rights = g; bytes = b }) v.pc) v g b d r q h refuse v.registers v.pc own same)
state-alike (Exited status) v g b d r q h refuse own word same = kept-alike None v v v g b d r q same refl
state-alike (Faulted cause) v g b d r q h refuse own word same = kept-alike None v v v g b d r q same refl

pub steps_alike : (h : ℕ) (refuse : Bool) (s t : Site) → Agrees h s t → StepsAlike h refuse s t
unfolding stepped
steps_alike h refuse s t e =
    subst (λ (v : HartValue). StepsAlike h refuse s (at_bytes v t.memory.rights t.memory.bytes t.reserved)) e.hart
    (subst (λ (g : ℕ → Option ℕ). StepsAlike h refuse s (at_bytes s.hart g t.memory.bytes t.reserved)) e.rights
    (state-alike s.hart.state s.hart s.memory.rights s.memory.bytes t.memory.bytes s.reserved t.reserved h refuse
    e.reserved e.fetched e.accessed))
