-- A step changes no word but the one that it accesses.
use Rattle.std.proofs.Common.{◌≡◌, ◌≢◌, ℕ, zero, suc, ◌+◌, ◌*◌, ◌%◌, ◌^◌, ◌<◌, ◌≤◌, Bool, true, false, ◌&&◌, eqb, leb, ltb, Option, Some, None, ◌⊎◌, inl, inr, refl, ap, ap₂, arith, rules}
use Rattle.std.proofs.lemmas.Bool.{cases_Bool}
use Rattle.std.proofs.lemmas.Bool.Decides.{nat_tests}
use Rattle.std.specs.List.{slice_get}
use Rattle.mem_store.specs.Memory.{Memory, little_endian}
use Rattle.mem_store.specs.Access.{fetched, peeked}
use Rattle.hart_reservations.specs.Marks.{word_of}
use Rattle.isa_table.specs.Decoded.{decoded}
use Rattle.isa_table.specs.declared.instr.Instr.{Instr}
use Rattle.hart_step.specs.Hart.{HartValue, Registers}
use Rattle.hart_step.specs.Fault.{fault}
use Rattle.hart_step.specs.Effect.{Site, site, effect}
use Rattle.hart_step.specs.Step.{unless, executed, at_word, by_state, stepped}
use Rattle.hart_step.specs.declared.data_access.Access.{Access}
use Rattle.hart_step.specs.Locality.{access_by, access_if, access_at, access_in, access_of, is_inside, IsInOneWord}
use Rattle.hart_step.specs.declared.hart.Cause.{Cause}
use Rattle.hart_step.specs.declared.hart.HartState.{HartState}
use Rattle.hart_step.specs.declared.hart.HartState.TheVariants.{Running, Exited, Faulted}
use Rattle.hart_step.proofs.AccessLemmas.{in_one_word}
use Rattle.hart_step.proofs.LocalityLemmas.{steps_alike}
use Rattle.machine.specs.World.{World, step_of, step}
use Rattle.machine.specs.declared.choice.Choice.{Choice}
use Rattle.debug_session.specs.Words.{byte_or_zero, viewed_word}
use Rattle.debug_session.specs.Accessed.{accessed}
use Rattle.debug_session.specs.Stops.{differs}

-- an access, if there is one, is to another word than this one
abbrev pub IsOther : Option Access → ℕ → Type 0
IsOther None word = Unit {0}
IsOther (Some access) word = word_of access.address ≢ word

within : (address size b : ℕ) → address % 4 + size ≤ 4 → (leb address b && ltb b (address + size)) ≡ true → word_of address ≡ word_of b
within address size b one e =
    let low : address ≤ b = grind (arith, nat_tests) in
    let high : b < address + size = grind (arith, nat_tests) in
    omega arith

outside_access : (c : Option Access) (b : ℕ) → IsInOneWord c → IsOther c (word_of b) → is_inside c b ≡ false
outside_access None b one other = refl
outside_access (Some c) b one other = elim (cases_Bool (leb c.address b && ltb b (c.address + c.size))) [
  | inl there ↦ absurd (other (within c.address c.size b one there))
  | inr not_there ↦ not_there
]

-- a step that accesses another word leaves a byte outside its access, or changes no byte
abbrev Leaves : Option Access → Site → Site → ℕ → Type 0
Leaves c s t b = (is_inside c b ≡ false) ⊎ (t.memory ≡ s.memory)

unless-leaves : (i : Instr) (s done : Site) (x : Registers) (pc b : ℕ) (o : Option Cause) → fault i s.memory x pc ≡ o
    → IsOther (access_by i x) (word_of b) → Leaves (access_by i x) s (unless o s done) b
unless-leaves i s done x pc b None e other = inl (outside_access (access_by i x) b (in_one_word i s.memory x pc e) other)
unless-leaves i s done x pc b (Some cause) e other = inr refl

executed-leaves : (o : Option Instr) (s : Site) (h : ℕ) (refuse : Bool) (x : Registers) (pc b : ℕ)
    → IsOther (access_if o x) (word_of b) → Leaves (access_if o x) s (executed o s h refuse x pc) b
executed-leaves None s h refuse x pc b other = inr refl
executed-leaves (Some i) s h refuse x pc b other = unless-leaves i s (effect i s h refuse x pc) x pc b (fault i s.memory x pc) refl other

word-leaves : (o : Option ℕ) (s : Site) (h : ℕ) (refuse : Bool) (x : Registers) (pc b : ℕ)
    → IsOther (access_at o x) (word_of b) → Leaves (access_at o x) s (at_word o s h refuse x pc) b
word-leaves None s h refuse x pc b other = inr refl
word-leaves (Some word) s h refuse x pc b other = executed-leaves (decoded word) s h refuse x pc b other

state-leaves : (state : HartState) (s : Site) (h : ℕ) (refuse : Bool) (b : ℕ)
    → IsOther (access_in state s) (word_of b) → Leaves (access_in state s) s (by_state state s h refuse) b
state-leaves Running s h refuse b other = word-leaves (fetched s.memory s.hart.pc) s h refuse s.hart.registers s.hart.pc b other
state-leaves (Exited status) s h refuse b other = inr refl
state-leaves (Faulted cause) s h refuse b other = inr refl

step-leaves : (h : ℕ) (refuse : Bool) (s : Site) (b : ℕ) → IsOther (access_of s) (word_of b) → Leaves (access_of s) s (stepped h refuse s) b
unfolding stepped
step-leaves h refuse s b other = state-leaves s.hart.state s h refuse b other

bytes_same : (h : ℕ) (refuse : Bool) (s : Site) (b : ℕ) → IsOther (access_of s) (word_of b) → (stepped h refuse s).memory.bytes b ≡ s.memory.bytes b
bytes_same h refuse s b other =
    let alike = steps_alike h refuse s s (record { hart = refl; rights = refl; reserved = refl; fetched = λ k e. refl; accessed = λ a e. refl }) in
    elim (step-leaves h refuse s b other) [
      | inl out ↦ (alike.outside b out).0
      | inr same ↦ ap (λ (m : Memory). m.bytes b) same
    ]

rights_same : (h : ℕ) (refuse : Bool) (s : Site) → (stepped h refuse s).memory.rights ≡ s.memory.rights
rights_same h refuse s =
    let alike = steps_alike h refuse s s (record { hart = refl; rights = refl; reserved = refl; fetched = λ k e. refl; accessed = λ a e. refl }) in
    alike.rights.0

peeked_same : (m n : Memory) (b : ℕ) → m.rights ≡ n.rights → m.bytes b ≡ n.bytes b → peeked m b ≡ peeked n b
peeked_same m n b rights bytes = rw (rights, bytes) refl

number_same : (n : ℕ) (f g : ℕ → ℕ) → ((k : ℕ) → k < n → f k ≡ g k) → little_endian n f ≡ little_endian n g
number_same zero f g e = refl
number_same (suc n) f g e =
    ap₂ (λ (low high : ℕ). low + high * 256 ^ n) (number_same n f g (λ k below. e k (omega arith))) (e n (omega arith))

word_in : (a k : ℕ) → a % 4 ≡ 0 → k < 4 → word_of (a + k) ≡ a
word_in a k aligned below = omega arith

at_other : (o : Option Access) (a b : ℕ) → a ≡ b → IsOther o b → IsOther o a
at_other o a b e other = rw e other

word-same-of : (w : World) (c : Choice) (a : ℕ) (o : Option HartValue) → a % 4 ≡ 0 → IsOther (accessed w o) a → viewed_word (step_of w c o).memory a ≡ viewed_word w.memory a
unfolding viewed_word
word-same-of w c a None aligned other = refl
word-same-of w c a (Some h) aligned other =
    let s = site h w.memory w.reserved in
    number_same 4 (λ k. byte_or_zero (peeked (stepped c.hart c.refuse s).memory (a + k))) (λ k. byte_or_zero (peeked w.memory (a + k)))
    (λ k below. ap byte_or_zero (peeked_same (stepped c.hart c.refuse s).memory w.memory (a + k) (rights_same c.hart c.refuse s)
    (bytes_same c.hart c.refuse s (a + k) (at_other (access_of s) (word_of (a + k)) a (word_in a k aligned below) other))))

word-same : (w : World) (c : Choice) (a : ℕ) → a % 4 ≡ 0 → IsOther (accessed w (slice_get w.harts c.hart)) a → viewed_word (step w c).memory a ≡ viewed_word w.memory a
unfolding step
word-same w c a aligned other = word-same-of w c a (slice_get w.harts c.hart) aligned other

-- an aligned word that the step does not access is as before
pub same_elsewhere : (w : World) (c : Choice) (a : ℕ) → a % 4 ≡ 0 → IsOther (accessed w (slice_get w.harts c.hart)) a → differs w (step w c) a ≡ false
same_elsewhere w c a aligned other =
    let e : eqb (viewed_word w.memory a) (viewed_word w.memory a) ≡ true = search rules in
    rw (word-same w c a aligned other) (rw e refl)
