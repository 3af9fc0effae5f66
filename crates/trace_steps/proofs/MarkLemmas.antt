-- Reservations, by the word that each hart reserved last.
use Rattle.std.proofs.Common.{◌≡◌, ℕ, ◌<◌, ◌≢◌, Bool, true, false, not, ◌&&◌, cond, eqb, List, set, length, Option, Some, None, refl, sym, ap, subst, ◌∙◌, ◌⊎◌, inl, inr, arith}
use Rattle.std.specs.List.{slice_index}
use Rattle.std.proofs.lemmas.Bool.{cases_Bool}
use Rattle.std.proofs.lemmas.Bool.Decides.{nat_tests}
use Rattle.std.proofs.lemmas.List.{get_or-set_same, get_or-set_other}
use Rattle.hart_reservations.specs.Marks.{Marks, with_mark, without_mark, ended, names, word_of}
use Rattle.isa_table.specs.Decoded.{decoded}
use Rattle.isa_table.specs.declared.instr.Instr.{Instr}
use Rattle.isa_table.specs.declared.instr.Instr.TheVariants.{Store, LoadReserved, StoreConditional, Amo}
use Rattle.hart_step.specs.Hart.{Registers}
use Rattle.hart_step.specs.Fault.{fault}
use Rattle.hart_step.specs.Effect.{Site, effect, conditional}
use Rattle.hart_step.specs.Step.{unless, executed, at_word, by_state, stepped}
use Rattle.hart_step.specs.Locality.{access_by, access_if, access_at, access_in, access_of}
use Rattle.hart_step.specs.declared.data_access.Access.{Access}
use Rattle.hart_step.specs.declared.hart.Cause.{Cause}
use Rattle.hart_step.specs.declared.hart.HartState.{HartState}
use Rattle.hart_step.specs.declared.hart.HartState.TheVariants.{Running, Exited, Faulted}
use Rattle.mem_store.specs.Access.{fetched}
use Rattle.trace_steps.specs.Known.{Knows, IsAt, KnowsBut}

-- a reservation that has to be of a word is found by asking for that word
pub found : (o : Option ℕ) (c : ℕ) → ((word : ℕ) → o ≡ Some word → c ≡ word) → cond (names o c) (Some c) None ≡ o
found None c known = refl
found (Some word) c known = rw (known word refl) (let e : eqb word word ≡ true = grind (arith, nat_tests) in rw e refl)

some-inj : (a b : ℕ) → ◌≡◌ {A = Option ℕ} (Some a) (Some b) → a ≡ b
some-inj a b e = cc

never : {T : Type 0} (a : ℕ) → ◌≡◌ {A = Option ℕ} None (Some a) → T
never a e = absurd (let r : ◌≡◌ {A = Option ℕ} None (Some a) = e in cc)

named : (o : Option ℕ) (a word : ℕ) → names o a ≡ true → o ≡ Some word → a ≡ word
named None a word held e = never word e
named (Some w) a word held e = let f : w ≡ word = some-inj w word e in let g : w ≡ a = grind (arith, nat_tests) in sym g ∙ f

unnamed : {T : Type 0} (o : Option ℕ) (a word : ℕ) → names o a ≡ false → o ≡ Some word → a ≡ word → T
unnamed None a word held e at = never word e
unnamed (Some w) a word held e at =
    let f : w ≡ word = some-inj w word e in absurd (let r : ⊥ = grind (arith, nat_tests) in r)

-- where there was no access, nothing was reserved
pub none_made : (words : ℕ → ℕ) (access : Option Access) (h : ℕ) (r : Marks) → access ≡ None → KnowsBut words access h r → Knows words r
none_made words None h r is known k word e = elim (known k word e) [ inl there ↦ there | inr (here, at) ↦ absurd at ]
none_made words (Some a) h r is known k word e = absurd (let f : ◌≡◌ {A = Option Access} (Some a) None = is in cc)

-- the word that a hart has just reserved is taken in
module _ (words : List ℕ) (access : Option Access) (a : Access) (h : ℕ) (r : Marks) (is : access ≡ Some a)
    (known : KnowsBut (slice_index words) access h r) where
  made : KnowsBut (slice_index words) (Some a) h r
  made = subst (λ (o : Option Access). KnowsBut (slice_index words) o h r) is known

  pub noted : h < length words → names (r h) a.address ≡ true → Knows (slice_index (set words h a.address)) r
  noted there held k word e = elim (cases_Bool (eqb k h)) [
    | inl same ↦ let here : k ≡ h = grind (arith, nat_tests) in
        ap (λ (i : ℕ). slice_index (set words h a.address) i) here ∙ get_or-set_same words h a.address 0 there
        ∙ named (r h) a.address word held (ap r (sym here) ∙ e)
    | inr other ↦ let away : k ≢ h = grind (arith, nat_tests) in
        get_or-set_other words h k a.address 0 away
        ∙ elim (made k word e) [ inl old ↦ old | inr (here, at) ↦ absurd (away here) ]
  ]

  pub unnoted : names (r h) a.address ≡ false → Knows (slice_index words) r
  unnoted held k word e = elim (made k word e) [
    | inl old ↦ old
    | inr (here, at) ↦ unnamed (r h) a.address word held (ap r (sym here) ∙ e) at
  ]

-- what a step may have reserved: nothing new, or the word of its access
abbrev OldOrMade : Marks → Marks → Option Access → ℕ → Type 0
OldOrMade old new access h = (k word : ℕ) → new k ≡ Some word → (old k ≡ Some word) ⊎ ((k ≡ h) × IsAt access word)

kept-ended : (r : Marks) (h w k word : ℕ) → ended r h w k ≡ Some word → r k ≡ Some word
kept-ended r h w k word = go (eqb k h) (names (r k) w)
  where
    go : (one two : Bool) → cond one (r k) (cond two None (r k)) ≡ Some word → r k ≡ Some word
    go true two e = e
    go false true e = never word e
    go false false e = e

kept-without : (r : Marks) (h k word : ℕ) → without_mark r h k ≡ Some word → r k ≡ Some word
kept-without r h k word = go (eqb k h)
  where
    go : (one : Bool) → cond one None (r k) ≡ Some word → r k ≡ Some word
    go true e = never word e
    go false e = e

made-with : (r : Marks) (h a k word : ℕ) → with_mark r h a k ≡ Some word → (r k ≡ Some word) ⊎ ((k ≡ h) × (a ≡ word))
made-with r h a k word = go (eqb k h) refl
  where
    go : (one : Bool) → eqb k h ≡ one → cond one (Some a) (r k) ≡ Some word → (r k ≡ Some word) ⊎ ((k ≡ h) × (a ≡ word))
    go true e f = inr (let same : k ≡ h = grind (arith, nat_tests) in same, some-inj a word f)
    go false e f = inl f

old-conditional : (succeeds : Bool) (s : Site) (h : ℕ) (x : Registers) (pc rd address value k word : ℕ)
    → (conditional succeeds s h x pc rd address value).reserved k ≡ Some word → s.reserved k ≡ Some word
old-conditional true s h x pc rd address value k word e =
    kept-ended s.reserved h (word_of address) k word (kept-without (ended s.reserved h (word_of address)) h k word e)
old-conditional false s h x pc rd address value k word e = kept-without s.reserved h k word e

by-effect : (i : Instr) (s : Site) (h : ℕ) (refuse : Bool) (x : Registers) (pc : ℕ)
    → OldOrMade s.reserved (effect i s h refuse x pc).reserved (access_by i x) h
by-effect (Store op rs1 rs2 imm) s h refuse x pc k word e = inl (kept-ended s.reserved h _ k word e)
by-effect (LoadReserved aq rl rd rs1) s h refuse x pc k word e = made-with s.reserved h (x rs1) k word e
by-effect (StoreConditional aq rl rd rs1 rs2) s h refuse x pc k word e =
    inl (old-conditional (names (s.reserved h) (x rs1) && not refuse) s h x pc rd (x rs1) (x rs2) k word e)
by-effect (Amo op aq rl rd rs1 rs2) s h refuse x pc k word e = inl (kept-ended s.reserved h _ k word e)
by-effect i s h refuse x pc k word e = inl e

by-executed : (o : Option Instr) (s : Site) (h : ℕ) (refuse : Bool) (x : Registers) (pc : ℕ)
    → OldOrMade s.reserved (executed o s h refuse x pc).reserved (access_if o x) h
by-executed None s h refuse x pc k word e = inl e
by-executed (Some i) s h refuse x pc k word e = go (fault i s.memory x pc) e
  where
    go : (c : Option Cause) → (unless c s (effect i s h refuse x pc)).reserved k ≡ Some word
        → (s.reserved k ≡ Some word) ⊎ ((k ≡ h) × IsAt (access_by i x) word)
    go None f = by-effect i s h refuse x pc k word f
    go (Some cause) f = inl f

by-word : (o : Option ℕ) (s : Site) (h : ℕ) (refuse : Bool) (x : Registers) (pc : ℕ)
    → OldOrMade s.reserved (at_word o s h refuse x pc).reserved (access_at o x) h
by-word None s h refuse x pc k word e = inl e
by-word (Some w) s h refuse x pc k word e = by-executed (decoded w) s h refuse x pc k word e

by-stated : (state : HartState) (s : Site) (h : ℕ) (refuse : Bool)
    → OldOrMade s.reserved (by_state state s h refuse).reserved (access_in state s) h
by-stated Running s h refuse k word e = by-word (fetched s.memory s.hart.pc) s h refuse s.hart.registers s.hart.pc k word e
by-stated (Exited status) s h refuse k word e = inl e
by-stated (Faulted cause) s h refuse k word e = inl e

-- what is known before a step, is known but for the word of its access
pub stepped-knows : (words : ℕ → ℕ) (h : ℕ) (refuse : Bool) (s : Site) → Knows words s.reserved
    → KnowsBut words (access_of s) h (stepped h refuse s).reserved
unfolding stepped
stepped-knows words h refuse s known k word e = elim (by-stated s.hart.state s h refuse k word e) [
  | inl old ↦ inl (known k word old)
  | inr made ↦ inr made
]
