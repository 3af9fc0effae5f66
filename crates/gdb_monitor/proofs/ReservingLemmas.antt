-- A hart has reserved the word of its last load-reserved, or none.
use Rattle.std.proofs.Common.{◌≡◌, ℕ, suc, zero, ◌+◌, ◌<◌, ◌≤◌, Bool, true, false, ◌==◌, if◌then◌else◌, length, get_or, Option, Some, None, ◌⊎◌, inl, inr, ◌∙◌, sym, ap, subst, refl, arith, eqb-true}
use Rattle.std.specs.List.{slice_get}
use Rattle.std.proofs.lemmas.Bool.{eqb-false}
use Rattle.std.proofs.lemmas.Option.{slice_get-get_or}
use Rattle.hart_reservations.specs.Marks.{Marks}
use Rattle.hart_step.specs.Hart.{HartValue}
use Rattle.hart_step.specs.Effect.{site}
use Rattle.hart_step.specs.declared.data_access.Access.{Access}
use Rattle.machine.specs.World.{World, run, step_of, step}
use Rattle.machine.specs.Start.{started}
use Rattle.machine.specs.declared.choice.Choice.{Choice}
use Rattle.machine.proofs.WorldLemmas.{run_more}
use Rattle.trace_steps.specs.Known.{Knows, IsAt, KnowsBut}
use Rattle.trace_steps.proofs.MarkLemmas.{stepped-knows}
use Rattle.debug_session.specs.Accessed.{accessed}
use Rattle.debug_session.specs.Session.{Session, world_at, Found, found_or, last_found, last_of, reason_at}
use Rattle.gdb_monitor.specs.Reserving.{reserved_by, reserves, found_word}

-- the word that a hart has reserved last among the first k choices
abbrev pub last_word : Session → ℕ → ℕ → ℕ
last_word s k h = found_word (last_of (reserves h) s k).1

-- what is known before a step, is known but for the word of its access
after_step : (words : ℕ → ℕ) (w : World) (c : Choice) → Knows words w.reserved
    → KnowsBut words (accessed w (slice_get w.harts c.hart)) c.hart (step w c).reserved
unfolding step
after_step words w c known = by_hart (slice_get w.harts c.hart)
  where
    by_hart : (o : Option HartValue) → KnowsBut words (accessed w o) c.hart (step_of w c o).reserved
    by_hart None k word e = inl (known k word e)
    by_hart (Some h) k word e =
        stepped-knows words c.hart c.refuse (site h w.memory w.reserved) known k word e

-- a reserved word was found before, or at the choice at hand
module _ (k word : ℕ) (rest : Found ℕ) where
  by_name : (address : ℕ) (t : Bool) → (word == address) ≡ t
      → (found_word rest.1 ≡ word) ⊎ (address ≡ word)
      → found_word (found_or k (if t then Some address else None) rest).1 ≡ word
  by_name address true e known = sym (eqb-true word address e)
  by_name address false e (inl old) = old
  by_name address false e (inr at) = absurd (eqb-false word address e (sym at))

  by_access : (access : Option Access) → (found_word rest.1 ≡ word) ⊎ IsAt access word
      → found_word (found_or k (reserved_by (Some word) access) rest).1 ≡ word
  by_access None (inl old) = old
  by_access None (inr at) = absurd at
  by_access (Some a) known = by_name a.address (word == a.address) refl known

  by_hart : (hart j : ℕ) (access : Option Access) (t : Bool) → (hart == j) ≡ t
      → (found_word rest.1 ≡ word) ⊎ ((j ≡ hart) × IsAt access word)
      → found_word (found_or k (if t then reserved_by (Some word) access else None) rest).1 ≡ word
  by_hart hart j access true e (inl old) = by_access access (inl old)
  by_hart hart j access true e (inr (here, at)) = by_access access (inr at)
  by_hart hart j access false e (inl old) = old
  by_hart hart j access false e (inr (here, at)) = absurd (eqb-false hart j e (sym here))

known_next : (s : Session) (k : ℕ) (c : Choice) → slice_get s.choices k ≡ Some c
    → world_at s (k + 1) ≡ step (world_at s k) c → Knows (last_word s k) (world_at s k).reserved
    → Knows (last_word s (suc k)) (world_at s (k + 1)).reserved
unfolding last_found reason_at reserves
known_next s k c there next known j word e =
    let w : World = world_at s k in
    let access : Option Access = accessed w (slice_get w.harts c.hart) in
    let same : (world_at s (k + 1)).reserved j ≡ (step w c).reserved j =
    ap (λ (x : World). x.reserved j) next in
    let held : (step w c).reserved j ≡ Some word = sym same ∙ e in
    rw there (rw held (by_hart (k + 1) word (last_found (reason_at (reserves j) s) k) c.hart j
    access (c.hart == j) refl (after_step (last_word s k) w c known j word held)))

never : {T : Type 0} (a : ℕ) → ◌≡◌ {A = Option ℕ} None (Some a) → T
never a e = absurd (let r : ◌≡◌ {A = Option ℕ} None (Some a) = e in cc)

-- at the start nothing is reserved
known_first : (s : Session) → Knows (last_word s 0) (world_at s 0).reserved
unfolding run started
known_first s j word e = never word e

pub known_at : (s : Session) (k : ℕ) → k ≤ length s.choices
    → Knows (last_word s k) (world_at s k).reserved
known_at s zero inside = known_first s
known_at s (suc k) inside =
    let left : k < length s.choices = omega (arith, inside) in
    let none : Choice = record { hart = 0; refuse = false } in
    let one : suc k ≡ k + 1 = omega arith in
    subst (λ n. Knows (last_word s (suc k)) (world_at s n).reserved) (sym one)
    (known_next s k (get_or s.choices k none) (slice_get-get_or s.choices k none left)
    (run_more (started s.image s.inputs) s.choices k none left)
    (known_at s k (omega (arith, inside))))

-- what was found is the word that is reserved, if one is
pub found_known : (s : Session) (h p word : ℕ) (why : Option ℕ) (r : Marks) (w : World)
    → s.position ≤ length s.choices → (p, why) ≡ last_of (reserves h) s s.position
    → word ≡ found_word why → r ≡ w.reserved → w ≡ world_at s s.position
    → (other : ℕ) → r h ≡ Some other → word ≡ other
found_known s h p word why r w inside found is held there other e =
    is ∙ ap (λ (f : Found ℕ). found_word f.1) found
    ∙ known_at s s.position inside h other
    (ap (λ (x : World). x.reserved h) (sym there) ∙ ap (λ (m : Marks). m h) (sym held) ∙ e)

-- a reservation that was read of a machine is that of its world
pub read_there : (r : Marks) (w v : World) (h : ℕ) (o : Option ℕ) → o ≡ r h → r ≡ w.reserved
    → w ≡ v → o ≡ v.reserved h
read_there r w v h o is held there =
    is ∙ ap (λ (m : Marks). m h) held ∙ ap (λ (x : World). x.reserved h) there

pub asked_there : (r : Marks) (w : World) (h : ℕ) (access : Option Access) (o : Option ℕ)
    → o ≡ reserved_by (r h) access → r ≡ w.reserved → o ≡ reserved_by (w.reserved h) access
asked_there r w h access o is held = is ∙ ap (λ (m : Marks). reserved_by (m h) access) held

-- the hart's own choice, and another's
pub made_there : (w after : World) (c : Choice) (h : ℕ) (access : Option Access) (o : Option ℕ)
    → after ≡ step w c → access ≡ accessed w (slice_get w.harts c.hart)
    → (c.hart == h) ≡ true → o ≡ reserved_by (after.reserved h) access → o ≡ reserves h w c
unfolding reserves
made_there w after c h access o is asked here found =
    rw here (found ∙ ap (λ (x : World). reserved_by (x.reserved h) access) is
    ∙ ap (λ (a : Option Access). reserved_by ((step w c).reserved h) a) asked)

pub made_not : (w : World) (c : Choice) (h : ℕ) (o : Option ℕ) → (c.hart == h) ≡ false
    → o ≡ None → o ≡ reserves h w c
unfolding reserves
made_not w c h o away none = rw away none
