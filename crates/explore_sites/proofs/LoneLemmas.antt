-- What steps leave of harts that are alone, and of harts that are clear.
use Rattle.std.proofs.Common.{◌≡◌, ℕ, zero, suc, ◌%◌, ◌<◌, Bool, true, false, List, [], ◌∷◌, length, get_or, set, Option, Some, None, refl, ap, sym, ◌∙◌, subst, inl, inr}
use Rattle.std.specs.List.{All, slice_get}
use Rattle.std.proofs.lemmas.Bool.{cases_lt, and_from, true≢false}
use Rattle.std.proofs.lemmas.Option.{slice_get_past, slice_get-get_or}
use Rattle.mem_store.specs.Memory.{Memory}
use Rattle.mem_store.specs.Access.{fetched}
use Rattle.isa_table.specs.Decoded.{decoded}
use Rattle.isa_table.specs.declared.instr.Instr.{Instr}
use Rattle.isa_table.specs.declared.instr.Instr.TheVariants.{StoreConditional}
use Rattle.hart_reservations.specs.Marks.{word_of}
use Rattle.hart_step.specs.Hart.{HartValue, Registers}
use Rattle.hart_step.specs.Fault.{fault}
use Rattle.hart_step.specs.Effect.{Site, site, effect}
use Rattle.hart_step.specs.Step.{unless, executed, at_word, by_state, stepped}
use Rattle.hart_step.specs.Laws.{Keeps, IsAligned}
use Rattle.hart_step.specs.Locality.{access_by}
use Rattle.hart_step.specs.declared.hart.Cause.{Cause}
use Rattle.hart_step.specs.declared.hart.HartState.{HartState}
use Rattle.hart_step.specs.declared.hart.HartState.TheVariants.{Running, Exited, Faulted}
use Rattle.machine.specs.World.{World, placed, step_of, step}
use Rattle.machine.specs.declared.choice.Choice.{Choice}
use Rattle.machine.proofs.RunLaws.{run-keeps}
use Rattle.bank_laws.specs.Runs.{Touch, Tries, TableWorld, Turn, word_found, table_step, table_run}
use Rattle.bank_laws.specs.Words.{bytes_at, with_four_if}
use Rattle.bank_laws.specs.Carried.{unless_fault, carried_by, carried_at, carried_in, touch_of}
use Rattle.bank_laws.specs.Table.{needed_code, planned, table}
use Rattle.bank_laws.specs.Worlds.{ShowsWorld}
use Rattle.bank_laws.proofs.WorldLemmas.{run_shows}
use Rattle.explore_sites.specs.Own.{Owners, unrefused, touch_ahead, is_store_conditional, is_clear_code, is_clear_if, is_own_if, alone_by, clear_by, alone_in, clear_in}
use Rattle.explore_sites.proofs.OwnLemmas.{own_parts, own_leaves, code_still, step_is, known_code}
use Rattle.explore_sites.proofs.OrderLemmas.{alone_parts, alone_there, idle, table_world, table_shows, keeps_itself, run_one}
use Rattle.explore_sites.proofs.StayLemmas.{alone_kept, clear_kept, same_code}

-- ---- other harts
set_elsewhere : (xs : List HartValue) (k j : ℕ) (x : HartValue) → (j ≡ k → ⊥) → slice_get (set xs k x) j ≡ slice_get xs j
set_elsewhere [] k j x ne = refl
set_elsewhere (y ∷ xs) zero zero x ne = absurd (ne refl)
set_elsewhere (y ∷ xs) zero (suc j) x ne = refl
set_elsewhere (y ∷ xs) (suc k) zero x ne = refl
set_elsewhere (y ∷ xs) (suc k) (suc j) x ne = set_elsewhere xs k j x (λ e. ne (ap suc e))

step_elsewhere : (w : World) (c : Choice) (j : ℕ) → (j ≡ c.hart → ⊥) → slice_get (step w c).harts j ≡ slice_get w.harts j
unfolding step
step_elsewhere w c j ne = go (slice_get w.harts c.hart)
  where
    go : (o : Option HartValue) → slice_get (step_of w c o).harts j ≡ slice_get w.harts j
    go None = refl
    go (Some v) = set_elsewhere w.harts c.hart j (stepped c.hart c.refuse (site v w.memory w.reserved)).hart ne

step_keeps : (w : World) (c : Choice) → Keeps w.memory (step w c).memory
step_keeps w c = subst (λ (u : World). Keeps w.memory u.memory) (run_one w c) (run-keeps w (c ∷ []))

-- another hart's step leaves a hart alone, or not, as it was
pub stays_alone : (owners : Owners) (w : World) (h : ℕ) (c : Choice) → (h ≡ c.hart → ⊥) → alone_in owners (step w c) h ≡ alone_in owners w h
stays_alone owners w h c off =
    ap (alone_by owners (step w c) h) (step_elsewhere w c h off) ∙ go (slice_get w.harts h)
  where
    go : (o : Option HartValue) → alone_by owners (step w c) h o ≡ alone_by owners w h o
    go None = refl
    go (Some v) = alone_kept owners w.memory (step w c).memory h v (step_keeps w c)

-- ---- words of other harts
one_shown : (w : World) (c : Choice) → All IsAligned w.harts → c.hart < length w.harts
    → ShowsWorld (table_step (table w.memory) (table_world w) c.hart c.refuse) (step w c)
one_shown w c aligned inside =
    let turns : List Turn = record { hart = c.hart; refuse = c.refuse } ∷ [] in
    subst (λ (u : World). ShowsWorld (table_run (table w.memory) (table_world w) turns) u) (run_one w c)
    (run_shows w.memory turns w (table_world w) (keeps_itself w.memory) aligned (inside, tt) (table_shows w))

-- the step of a hart that is alone leaves each word that isn't its own
words_stay : (owners : Owners) (w : World) (h k : ℕ) → All IsAligned w.harts → (k ≡ h → ⊥) → alone_in owners w h ≡ true
    → (x : ℕ) → is_clear_code owners k (Some x) ≡ true
    → (table_step (table w.memory) (table_world w) h false).shared.values x ≡ bytes_at w.memory.bytes x
words_stay owners w h k aligned off alone x clear =
    let m = w.memory in
    let v = get_or w.harts h idle in
    let here : slice_get w.harts h ≡ Some v = slice_get-get_or w.harts h idle (alone_there owners w h alone) in
    let stands = alone_parts owners m h v (ap (alone_by owners w h) (sym here) ∙ alone) in
    let p = planned m v [] in
    ap (λ (t : TableWorld HartValue). t.shared.values x)
    (step_is (table m) (table_world w) h false v [] refl (known_code (table m) (needed_code v.state m v.pc) (λ x. bytes_at m.bytes x) stands.code))
    ∙ code_still (table m) (table_world w) h false v [] p (Some x)
    (own_leaves owners m h k p (Some x) (λ e. off (sym e)) stands.touch clear)

pub stays_clear : (owners : Owners) (w : World) (h k : ℕ) → All IsAligned w.harts → (k ≡ h → ⊥) → alone_in owners w h ≡ true
    → clear_in owners (step w (unrefused h)) k ≡ clear_in owners w k
stays_clear owners w h k aligned off alone =
    ap (clear_by owners (step w (unrefused h)) k) (step_elsewhere w (unrefused h) k off)
    ∙ elim (cases_lt k (length w.harts)) [
      | inl inside ↦ there inside
      | inr past ↦ ap (λ o. clear_by owners (step w (unrefused h)) k o) (slice_get_past w.harts k past)
          ∙ ap (λ o. clear_by owners w k o) (sym (slice_get_past w.harts k past))
    ]
  where
    there : k < length w.harts → clear_by owners (step w (unrefused h)) k (slice_get w.harts k) ≡ clear_by owners w k (slice_get w.harts k)
    there inside =
        let m = w.memory in
        let n = (step w (unrefused h)).memory in
        let v = get_or w.harts k idle in
        let here : slice_get w.harts k ≡ Some v = slice_get-get_or w.harts k idle inside in
        let ready : v.pc % 4 ≡ 0 = aligned k idle inside in
        let t = table_step (table m) (table_world w) h false in
        let shows = one_shown w (unrefused h) aligned (alone_there owners w h alone) in
        ap (clear_by owners (step w (unrefused h)) k) here
        ∙ clear_kept owners m n k v t.shared.values (step_keeps w (unrefused h)) ready shows.values
        ∙ same_code owners m k v t.shared.values (λ x. bytes_at m.bytes x) (words_stay owners w h k aligned off alone)
        ∙ ap (clear_by owners w k) (sym here)

-- ---- refusals
module _ (owners : Owners) (m : Memory) (h : ℕ) (r : Bool) where
  effect_plain : (i : Instr) (s : Site) (x : Registers) (pc : ℕ) → is_own_if owners m h (touch_of (access_by i x)) ≡ true
      → effect i s h r x pc ≡ effect i s h false x pc
  effect_plain (StoreConditional aq rl rd rs1 rs2) s x pc own =
      let t : Touch = record { act = Tries; word = word_of (x rs1) } in
      let e : is_store_conditional t.act ≡ false = (own_parts owners m h t own).sure in
      absurd (true≢false e)
  effect_plain i s x pc own = refl

  unless_plain : (c : Option Cause) (i : Instr) (s : Site) (x : Registers) (pc : ℕ)
      → is_own_if owners m h (touch_of (unless_fault c (access_by i x))) ≡ true
      → unless c s (effect i s h r x pc) ≡ unless c s (effect i s h false x pc)
  unless_plain None i s x pc own = effect_plain i s x pc own
  unless_plain (Some cause) i s x pc own = refl

  executed_plain : (o : Option Instr) (s : Site) (x : Registers) (pc : ℕ) → is_own_if owners m h (touch_of (carried_by o s.memory x pc)) ≡ true
      → executed o s h r x pc ≡ executed o s h false x pc
  executed_plain None s x pc own = refl
  executed_plain (Some i) s x pc own = unless_plain (fault i s.memory x pc) i s x pc own

  word_plain : (o : Option ℕ) (s : Site) (x : Registers) (pc : ℕ) → is_own_if owners m h (touch_of (carried_at o s.memory x pc)) ≡ true
      → at_word o s h r x pc ≡ at_word o s h false x pc
  word_plain None s x pc own = refl
  word_plain (Some word) s x pc own = executed_plain (decoded word) s x pc own

  state_plain : (st : HartState) (s : Site) → is_own_if owners m h (touch_of (carried_in st s.memory s.hart)) ≡ true
      → by_state st s h r ≡ by_state st s h false
  state_plain Running s own = word_plain (fetched s.memory s.hart.pc) s s.hart.registers s.hart.pc own
  state_plain (Exited status) s own = refl
  state_plain (Faulted cause) s own = refl

  stepped_plain : (s : Site) → is_own_if owners m h (touch_of (carried_in s.hart.state s.memory s.hart)) ≡ true
      → stepped h r s ≡ stepped h false s
  unfolding stepped
  stepped_plain s own = state_plain s.hart.state s own

pub never_refused : (owners : Owners) (w : World) (h : ℕ) → alone_in owners w h ≡ true
    → (r : Bool) → step w (record { hart = h; refuse = r }) ≡ step w (unrefused h)
unfolding step
never_refused owners w h alone r = go (slice_get w.harts h) alone
  where
    go : (o : Option HartValue) → alone_by owners w h o ≡ true
        → step_of w (record { hart = h; refuse = r }) o ≡ step_of w (unrefused h) o
    go None e = absurd cc
    go (Some v) e =
        let m = w.memory in
        let stands = alone_parts owners m h v e in
        let own : is_own_if owners m h (touch_of (carried_in v.state m v)) ≡ true =
        ap (λ o. is_own_if owners m h (touch_of (carried_in v.state (record { rights = m.rights; bytes = with_four_if m.bytes o [] }) v))) (sym stands.code)
        ∙ stands.touch in
        ap (placed w h) (stepped_plain owners m h r (site v m w.reserved) own)

-- ---- a step that is alone is clear
clear_of_own : (owners : Owners) (m : Memory) (h : ℕ) (p : Option Touch) → is_own_if owners m h p ≡ true → is_clear_if owners m h p ≡ true
clear_of_own owners m h None own = refl
clear_of_own owners m h (Some t) own = (own_parts owners m h t own).clear

pub clear_alone : (owners : Owners) (w : World) (h : ℕ) → alone_in owners w h ≡ true → clear_in owners w h ≡ true
clear_alone owners w h alone = go (slice_get w.harts h) alone
  where
    go : (o : Option HartValue) → alone_by owners w h o ≡ true → clear_by owners w h o ≡ true
    go None e = absurd cc
    go (Some v) e =
        let m = w.memory in
        let stands = alone_parts owners m h v e in
        let touch : is_own_if owners m h (touch_ahead m v) ≡ true =
        ap (λ o. is_own_if owners m h (planned m v (word_found o (λ x. bytes_at m.bytes x)))) stands.code ∙ stands.touch in
        and_from (is_clear_code owners h (needed_code v.state m v.pc)) (is_clear_if owners m h (touch_ahead m v))
        (ap (is_clear_code owners h) stands.code) (clear_of_own owners m h (touch_ahead m v) touch)
