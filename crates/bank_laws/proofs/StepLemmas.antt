-- A step is the table's step.
use Rattle.std.proofs.Common.{◌≡◌, ℕ, zero, suc, ◌+◌, ◌%◌, ◌^◌, ◌<◌, Bool, true, false, not, ◌&&◌, ◌==◌, [], Option, Some, None, refl, ap, sym, subst, ◌∙◌, arith, ⊎_elim}
use Rattle.std.specs.Prelude.{if◌then◌else◌}
use Rattle.std.proofs.lemmas.Bool.{eq-eqb, cases_eq, and_parts, not-true}
use Rattle.mem_store.specs.Memory.{Memory, to_execute, to_write, grants, all_below, granted, around}
use Rattle.mem_store.specs.Access.{fetched}
use Rattle.hart_reservations.specs.Marks.{Marks, names}
use Rattle.hart_step.specs.Hart.{HartValue}
use Rattle.hart_step.specs.Effect.{Site}
use Rattle.hart_step.specs.Step.{at_word, by_state, stepped}
use Rattle.hart_step.specs.Laws.{Keeps, IsAligned}
use Rattle.hart_step.specs.declared.data_access.Access.{Access}
use Rattle.hart_step.specs.declared.hart.HartState.{HartState}
use Rattle.hart_step.specs.declared.hart.HartState.TheVariants.{Running, Exited, Faulted}
use Rattle.bank_laws.specs.Banks.{WordBytes, is_store, marks_after, with_word_bytes, after_touch}
use Rattle.bank_laws.specs.Runs.{Touch, TableWorld, put_at, succeeds, kind_of, word_found, done, step_from, table_step}
use Rattle.bank_laws.specs.Words.{bytes_at, with_four_if}
use Rattle.bank_laws.specs.Carried.{carried_in, touch_of}
use Rattle.bank_laws.specs.Table.{is_unwritable, needed_code, planned, word_in, told, bytes_left, table}
use Rattle.bank_laws.specs.Shown.{ShowsSite}
use Rattle.bank_laws.proofs.WordLemmas.{SameFour, wrapped, put_back, put_there, fetched_same}
use Rattle.bank_laws.proofs.EffectLemmas.{at_bytes, SameTouched, told_marks, Outcome, word_outcome}

-- ---- the instruction that a hart is given
each_below : (n : ℕ) (test : ℕ → Bool) (i : ℕ) → i < n → all_below n test ≡ true → test i ≡ true
each_below zero test i low e = absurd (omega (arith, low))
each_below (suc n) test i low e =
    let both = and_parts (all_below n test) (test n) e in
    ⊎_elim (λ (q : i ≡ n). ap test q ∙ both.1) (λ (ne : i ≡ n → ⊥). each_below n test i (omega (arith, low, ne)) both.0) (cases_eq i n)

and_no : (g u : Bool) → g ≡ true → (g && not u) ≡ false → u ≡ true
and_no true true e f = refl
and_no true false e f = cc f
and_no false u e f = cc e

-- the bytes of memory that no store can change are the image's
abbrev pub Stays : Memory → (ℕ → ℕ) → Type 0
Stays m b = (a : ℕ) → grants to_write (m.rights a) ≡ false → b a ≡ m.bytes a

-- the words' bytes are those of memory
abbrev pub ShowsWords : (ℕ → WordBytes) → (ℕ → ℕ) → Type 0
ShowsWords values b = (x : ℕ) → x % 4 ≡ 0 → values x ≡ bytes_at b x

-- the image's bytes with the needed word in place
abbrev filled : (ℕ → ℕ) → (ℕ → WordBytes) → Option ℕ → ℕ → ℕ
filled bytes values o = with_four_if bytes o (word_found o values)

-- the four bytes from a multiple of 4 on are those of a word, modulo 2^32
place_in_word : (pc i : ℕ) → pc % 4 ≡ 0 → i < 4 → (pc + i) % 2 ^ 32 ≡ pc % 2 ^ 32 + i
place_in_word pc i aligned low =
    let begins : pc % 2 ^ 32 % 4 ≡ 0 = omega (arith, aligned) in
    let room : pc % 2 ^ 32 + i < 2 ^ 32 = omega (arith, begins, low) in
    omega (arith, room)

code_same : (m : Memory) (b : ℕ → ℕ) (values : ℕ → WordBytes) (pc : ℕ) → Stays m b → ShowsWords values b → pc % 4 ≡ 0
    → granted to_execute (around m) 4 pc ≡ true → SameFour (wrapped b) (wrapped (filled m.bytes values (needed_code Running m pc))) pc
code_same m b values pc stays shows aligned may = go (granted to_execute (around m) 4 pc && not (is_unwritable m pc)) refl
  where
    there : (i : ℕ) → i < 4 → b (pc % 2 ^ 32 + i) ≡ filled m.bytes values (Some (pc % 2 ^ 32)) (pc % 2 ^ 32 + i)
    there i low =
        put_there b m.bytes (pc % 2 ^ 32) i low
        ∙ ap (λ (v : WordBytes). with_four_if m.bytes (Some (pc % 2 ^ 32)) v (pc % 2 ^ 32 + i)) (sym (shows (pc % 2 ^ 32) (omega (arith, aligned))))

    go : (t : Bool) → (granted to_execute (around m) 4 pc && not (is_unwritable m pc)) ≡ t
        → SameFour (wrapped b) (wrapped (filled m.bytes values (if t then Some (pc % 2 ^ 32) else None))) pc
    go true e i low =
        subst (λ (x : ℕ). b x ≡ filled m.bytes values (Some (pc % 2 ^ 32)) x) (sym (place_in_word pc i aligned low)) (there i low)
    go false e i low =
        let fixed : is_unwritable m pc ≡ true = and_no (granted to_execute (around m) 4 pc) (is_unwritable m pc) may e in
        stays ((pc + i) % 2 ^ 32)
        (not-true (grants to_write (m.rights ((pc + i) % 2 ^ 32))) (each_below 4 (λ k. not (grants to_write (m.rights ((pc + k) % 2 ^ 32)))) i low fixed))

-- ---- the word that a hart is given
abbrev IsWordTouch : Option Touch → Type 0
IsWordTouch None = Unit {0}
IsWordTouch (Some t) = t.word % 4 ≡ 0

touch_is_word : (o : Option Access) → IsWordTouch (touch_of o)
touch_is_word None = tt
touch_is_word (Some c) = omega arith

touched_same : (p : Option Touch) (b a : ℕ → ℕ) (values : ℕ → WordBytes) → IsWordTouch p → ShowsWords values b
    → SameTouched p b (filled a values (word_in p))
touched_same None b a values word shows = tt
touched_same (Some t) b a values word shows =
    λ i low. put_there b a t.word i low ∙ ap (λ (v : WordBytes). with_four_if a (Some t.word) v (t.word + i)) (sym (shows t.word word))

still_same : (p : Option Touch) (b a : ℕ → ℕ) (values : ℕ → WordBytes) (pc : ℕ) → IsWordTouch p → ShowsWords values b
    → SameFour (wrapped b) (wrapped a) pc → SameFour (wrapped b) (wrapped (filled a values (word_in p))) pc
still_same None b a values pc word shows same = same
still_same (Some t) b a values pc word shows same =
    λ i low. put_back b a t.word ((pc + i) % 2 ^ 32) (same i low)
    ∙ ap (λ (v : WordBytes). with_four_if a (Some t.word) v ((pc + i) % 2 ^ 32)) (sym (shows t.word word))

-- ---- the outcome of a step
-- what a hart in a state is given of the words
abbrev known : HartState → HartValue → Memory → (ℕ → WordBytes) → ℕ → ℕ
known st v m values = filled m.bytes values (needed_code st m v.pc)

abbrev plan_in : HartState → HartValue → Memory → (ℕ → WordBytes) → Option Touch
plan_in st v m values = touch_of (carried_in st (record { rights = m.rights; bytes = known st v m values }) v)

abbrev all_told : HartState → HartValue → Memory → (ℕ → WordBytes) → ℕ → ℕ
all_told st v m values = filled (known st v m values) values (word_in (plan_in st v m values))

-- a step's outcome, by the fetched words of the machine's hart and of the table's
abbrev ByWords : HartValue → Memory → (ℕ → ℕ) → Marks → ℕ → Bool → (ℕ → WordBytes) → Option ℕ → Option ℕ → Type 0
ByWords v m b r k refuse values real hears =
    let p = plan_in Running v m values in
    Outcome p k refuse b r (at_word real (at_bytes v m.rights b r) k refuse v.registers v.pc)
    (λ ok. at_word hears (at_bytes v m.rights (all_told Running v m values) (told_marks p ok)) 0 false v.registers v.pc)

state_outcome : (st : HartState) (v : HartValue) (m : Memory) (b : ℕ → ℕ) (r : Marks) (k : ℕ) (refuse : Bool) (values : ℕ → WordBytes)
    → Stays m b → ShowsWords values b → v.pc % 4 ≡ 0
    → Outcome (plan_in st v m values) k refuse b r (by_state st (at_bytes v m.rights b r) k refuse)
    (λ ok. by_state st (at_bytes v m.rights (all_told st v m values) (told_marks (plan_in st v m values) ok)) 0 false)
state_outcome Running v m b r k refuse values stays shows aligned =
    let a = known Running v m values in
    let p = plan_in Running v m values in
    let d = all_told Running v m values in
    let o = fetched (record { rights = m.rights; bytes = a }) v.pc in
    let word : IsWordTouch p = touch_is_word (carried_in Running (record { rights = m.rights; bytes = a }) v) in
    let code = code_same m b values v.pc stays shows aligned in
    let real : fetched (record { rights = m.rights; bytes = b }) v.pc ≡ o = fetched_same m.rights b a v.pc code in
    let hears : fetched (record { rights = m.rights; bytes = b }) v.pc ≡ fetched (record { rights = m.rights; bytes = d }) v.pc =
    fetched_same m.rights b d v.pc (λ may. still_same p b a values v.pc word shows (code may)) in
    subst (λ (z : Option ℕ). ByWords v m b r k refuse values z (fetched (record { rights = m.rights; bytes = d }) v.pc)) (sym real)
    (subst (λ (z : Option ℕ). ByWords v m b r k refuse values o z) (sym real ∙ hears)
    (word_outcome o v m.rights a b d r k refuse v.registers v.pc (touched_same p b a values word shows)))
state_outcome (Exited status) v m b r k refuse values stays shows aligned = record { hart = refl; reserved = refl; bytes = refl }
state_outcome (Faulted cause) v m b r k refuse values stays shows aligned = record { hart = refl; reserved = refl; bytes = refl }

-- ---- the table's step
-- the world after a touch, by where it leads the table's hart
abbrev outcome_at : TableWorld HartValue → ℕ → Touch → (WordBytes → Bool → Site) → WordBytes → Bool → TableWorld HartValue
outcome_at w k t F v ok = record {
  harts = put_at w.harts k (F v ok).hart;
  shared = after_touch w.shared (kind_of t.act ok) k t.word (if is_store (kind_of t.act ok) then bytes_at (F v true).memory.bytes t.word else v);
}

abbrev outcome_of : TableWorld HartValue → ℕ → Bool → Option Touch → (WordBytes → Bool → Site) → TableWorld HartValue
outcome_of w k refuse None F = record { harts = put_at w.harts k (F [] false).hart; shared = w.shared }
outcome_of w k refuse (Some t) F = outcome_at w k t F (w.shared.values t.word) (succeeds t.act refuse (names (w.shared.marks k) t.word))

abbrev leads : Memory → HartValue → WordBytes → WordBytes → Bool → Site
leads m h c v ok = stepped 0 false (told m h c v ok)

done_is : (m : Memory) (w : TableWorld HartValue) (k : ℕ) (refuse : Bool) (h : HartValue) (c : WordBytes) (p : Option Touch) → planned m h c ≡ p
    → done (table m) w k refuse h c p ≡ outcome_of w k refuse p (λ v ok. leads m h c v ok)
done_is m w k refuse h c None e = refl
done_is m w k refuse h c (Some t) e =
    let v = w.shared.values t.word in
    let ok = succeeds t.act refuse (names (w.shared.marks k) t.word) in
    ap (λ (q : Option Touch). after_stored w k t (leads m h c v ok).hart ok (bytes_left q (leads m h c v true)) v) e
  where
    after_stored : TableWorld HartValue → ℕ → Touch → HartValue → Bool → WordBytes → WordBytes → TableWorld HartValue
    after_stored w k t h ok u v = record {
      harts = put_at w.harts k h;
      shared = after_touch w.shared (kind_of t.act ok) k t.word (if is_store (kind_of t.act ok) then u else v);
    }

placed : {A : Type 0} (f : ℕ → A) (k : ℕ) (x y : A) → x ≡ y → put_at f k x k ≡ y
placed f k x y e = rw (eq-eqb k k refl) e

value_shows : (s : Bool) (f : ℕ → WordBytes) (x y : ℕ) (u v o : WordBytes) → f y ≡ o
    → (if s then with_word_bytes f x (if s then u else v) else f) y ≡ (if s then (if y == x then u else o) else o)
value_shows true f x y u v o e = ap (λ (z : WordBytes). if y == x then u else z) e
value_shows false f x y u v o e = e

outcome_shows : (p : Option Touch) (w : TableWorld HartValue) (k : ℕ) (refuse : Bool) (b : ℕ → ℕ) (r : Marks) (e : Site) (F : WordBytes → Bool → Site)
    → ShowsWords w.shared.values b → w.shared.marks ≡ r → Outcome p k refuse b r e (F (word_found (word_in p) w.shared.values))
    → ShowsSite (outcome_of w k refuse p F) k e
outcome_shows None w k refuse b r e F values marks out = record {
  hart = placed w.harts k (F [] false).hart e.hart (sym out.hart);
  values = λ x ax. values x ax ∙ ap (λ (f : ℕ → ℕ). bytes_at f x) (sym out.bytes);
  marks = marks ∙ sym out.reserved;
}
outcome_shows (Some t) w k refuse b r e F values marks out =
    let v = w.shared.values t.word in
    let ok = succeeds t.act refuse (names (r k) t.word) in
    let is : outcome_of w k refuse (Some t) F ≡ outcome_at w k t F v ok =
    ap (λ (n : Marks). outcome_at w k t F v (succeeds t.act refuse (names (n k) t.word))) marks in
    let shows : ShowsSite (outcome_at w k t F v ok) k e = record {
      hart = placed w.harts k (F v ok).hart e.hart (sym out.hart);
      values = λ y ay. value_shows (is_store (kind_of t.act ok)) w.shared.values t.word y (bytes_at (F v true).memory.bytes t.word) v (bytes_at b y) (values y ay) ∙ sym (out.values y ay);
      marks = ap (λ (n : Marks). marks_after (kind_of t.act ok) n k t.word) marks ∙ sym out.reserved;
    } in
    subst (λ (z : TableWorld HartValue). ShowsSite z k e) (sym is) shows

hart_shows : (m : Memory) (k : ℕ) (refuse : Bool) (v : HartValue) (b : ℕ → ℕ) (r : Marks) (w : TableWorld HartValue)
    → Stays m b → v.pc % 4 ≡ 0 → w.harts k ≡ v → ShowsWords w.shared.values b → w.shared.marks ≡ r
    → ShowsSite (table_step (table m) w k refuse) k (stepped k refuse (at_bytes v m.rights b r))
unfolding stepped
hart_shows m k refuse v b r w stays aligned here values marks =
    let c = word_found (needed_code v.state m v.pc) w.shared.values in
    let p = planned m v c in
    let is : table_step (table m) w k refuse ≡ outcome_of w k refuse p (λ u ok. leads m v c u ok) =
    ap (λ (h : HartValue). step_from (table m) w k refuse h (word_found (needed_code h.state m h.pc) w.shared.values)) here
    ∙ done_is m w k refuse v c p refl in
    subst (λ (z : TableWorld HartValue). ShowsSite z k (stepped k refuse (at_bytes v m.rights b r))) (sym is)
    (outcome_shows p w k refuse b r (stepped k refuse (at_bytes v m.rights b r)) (λ u ok. leads m v c u ok) values marks
    (state_outcome v.state v m b r k refuse w.shared.values stays values aligned))

pub step_shows : (m : Memory) (k : ℕ) (refuse : Bool) (s : Site) (w : TableWorld HartValue) → Keeps m s.memory → IsAligned s.hart → ShowsSite w k s
    → ShowsSite (table_step (table m) w k refuse) k (stepped k refuse s)
step_shows m k refuse s w keeps aligned shows =
    subst (λ (g : ℕ → Option ℕ). ShowsSite (table_step (table m) w k refuse) k (stepped k refuse (at_bytes s.hart g s.memory.bytes s.reserved))) (sym keeps.rights)
    (hart_shows m k refuse s.hart s.memory.bytes s.reserved w keeps.bytes aligned shows.hart shows.values shows.marks)
