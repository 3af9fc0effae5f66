-- The stops after a step.
use Rattle.std.proofs.Common.{◌≡◌, ◌≢◌, ℕ, ◌-◌, ◌%◌, Bool, true, false, not, ◌&&◌, ◌||◌, cond, eqb, ltb, List, [], ◌∷◌, Option, Some, None, ◌⊎◌, inl, inr, ◌∙◌, sym, ap, ap₂, refl, arith}
use Rattle.std.proofs.lemmas.Bool.{cases_Bool}
use Rattle.std.proofs.lemmas.Bool.Decides.{nat_tests}
use Rattle.std.proofs.lemmas.List.Elements.{All-head, All-tail}
use Rattle.std.specs.List.{All, list_any, find, slice_get}
use Rattle.std.specs.Ordering.{nat_cmp, is_eq}
use Rattle.hart_reservations.specs.Marks.{word_of}
use Rattle.hart_step.specs.Hart.{HartValue}
use Rattle.hart_step.specs.declared.data_access.Access.{Access}
use Rattle.machine.specs.World.{World, step}
use Rattle.machine.specs.declared.choice.Choice.{Choice}
use Rattle.debug_session.specs.Words.{word_if}
use Rattle.debug_session.specs.Accessed.{accessed}
use Rattle.debug_session.specs.Points.{WatchedWords}
use Rattle.debug_session.specs.Touched.{if_place, if_runs, touched}
use Rattle.debug_session.specs.Stops.{has, differs, break_of, hit_for, stop_for, stop_after, stop_at, watched}
use Rattle.debug_session.specs.declared.stop.AtBreak.{AtBreak}
use Rattle.debug_session.specs.declared.stop.Stop.{Stop}
use Rattle.debug_session.specs.declared.stop.WatchHit.{WatchHit}
use Rattle.debug_session.proofs.ElsewhereLemmas.{IsOther, same_elsewhere}

-- ---- sets of addresses
equal_tests : (x k : ℕ) → is_eq (nat_cmp x k) ≡ eqb k x
equal_tests x k = elim (cases_Bool (ltb x k)) [
  | inl below ↦ (let e : eqb k x ≡ false = grind (arith, nat_tests, below) in rw (below, e) refl)
  | inr above ↦ elim (cases_Bool (eqb x k)) [
    | inl same ↦ (let e : eqb k x ≡ true = grind (arith, nat_tests, same) in rw (above, same, e) refl)
    | inr other ↦ (let e : eqb k x ≡ false = grind (arith, nat_tests, other) in rw (above, other, e) refl)
  ]
]

-- a look-up in a set
pub contains-has : (ks : List ℕ) (x : ℕ) → list_any (λ k. is_eq (nat_cmp x k)) ks ≡ has ks x
contains-has [] x = refl
contains-has (k ∷ ks) x = ap₂ (λ (p q : Bool). p || q) (equal_tests x k) (contains-has ks x)

-- ---- the lowest watched word that differs
-- a candidate, if it passes the test
abbrev pub found_in : (ℕ → Bool) → Option ℕ → Option ℕ
found_in p None = None
found_in p (Some a) = cond (p a) (Some a) None

find_none : (p : ℕ → Bool) (ws : List ℕ) → All (λ a. a % 4 ≡ 0) ws → ((a : ℕ) → a % 4 ≡ 0 → p a ≡ false) → find p ws ≡ None
find_none p [] all leaves = refl
find_none p (a ∷ ws) all leaves =
    rw (leaves a (All-head (λ a. a % 4 ≡ 0) a ws all)) (find_none p ws (All-tail (λ a. a % 4 ≡ 0) a ws all) leaves)

same_or_not : (k h : ℕ) → (k ≡ h) ⊎ (k ≢ h)
same_or_not k h = grind arith

find_at : (p : ℕ → Bool) (t : ℕ) (ws : List ℕ) → All (λ a. a % 4 ≡ 0) ws → ((a : ℕ) → a % 4 ≡ 0 → t ≢ a → p a ≡ false)
    → find p ws ≡ cond (has ws t && p t) (Some t) None
find_at p t [] all leaves = refl
find_at p t (a ∷ ws) all leaves =
    let rest : find p ws ≡ cond (has ws t && p t) (Some t) None = find_at p t ws (All-tail (λ a. a % 4 ≡ 0) a ws all) leaves in
    elim (same_or_not t a) [
      | inl same ↦ (let on : eqb a t ≡ true = grind (arith, nat_tests, same) in
          rw (on, sym same) (at_it (p t) (has ws t) rest))
      | inr other ↦ (let off : eqb a t ≡ false = grind (arith, nat_tests, other) in
          rw (off, leaves a (All-head (λ a. a % 4 ≡ 0) a ws all) other) rest)
    ]
  where
    at_it : (b h : Bool) → find p ws ≡ cond (h && b) (Some t) None → cond b (Some t) (find p ws) ≡ cond b (Some t) None
    at_it true h e = refl
    at_it false true e = e
    at_it false false e = e

find_watched : (p : ℕ → Bool) (o : Option Access) (ws : List ℕ) → All (λ a. a % 4 ≡ 0) ws → ((a : ℕ) → a % 4 ≡ 0 → IsOther o a → p a ≡ false)
    → find p ws ≡ found_in p (watched ws o)
find_watched p None ws all leaves = find_none p ws all (λ a aligned. leaves a aligned tt)
find_watched p (Some b) ws all leaves = find_at p (word_of b.address) ws all leaves ∙ either (has ws (word_of b.address))
  where
    either : (h : Bool) → cond (h && p (word_of b.address)) (Some (word_of b.address)) None ≡ found_in p (cond h (Some (word_of b.address)) None)
    either true = refl
    either false = refl

-- ---- a step's stop
-- a hart is at a breakpoint
pub stands : (bs : List ℕ) (h : ℕ) (o : Option HartValue) (hart : HartValue) → o ≡ Some hart
    → list_any (λ k. is_eq (nat_cmp hart.pc k)) bs ≡ true → ◌≡◌ {A = Option AtBreak} (Some (record { hart = h; address = hart.pc })) (break_of bs h o)
stands bs h o hart there on =
    let e : has bs hart.pc ≡ true = sym (contains-has bs hart.pc) ∙ on in
    rw (there, e) refl

-- it does not
pub stands_not : (bs : List ℕ) (h : ℕ) (o : Option HartValue) (hart : HartValue) → o ≡ Some hart
    → list_any (λ k. is_eq (nat_cmp hart.pc k)) bs ≡ false → None ≡ break_of bs h o
stands_not bs h o hart there off =
    let e : has bs hart.pc ≡ false = sym (contains-has bs hart.pc) ∙ off in
    rw (there, e) refl

either_way : (x y a : ℕ) → cond (eqb x y) None (Some a) ≡ cond (not (eqb y x)) (Some a) None
either_way x y a = elim (cases_Bool (eqb x y)) [
  | inl same ↦ (let e : eqb y x ≡ true = grind (arith, nat_tests, same) in rw (same, e) refl)
  | inr other ↦ (let e : eqb y x ≡ false = grind (arith, nat_tests, other) in rw (other, e) refl)
]

-- of the words that are watched for changes only the one that is accessed can differ
changed_is : (ws : List ℕ) (v w : World) (c : Choice) (o changed : Option ℕ) → w ≡ step v c → All (λ a. a % 4 ≡ 0) ws
    → o ≡ watched ws (accessed v (slice_get v.harts c.hart))
    → changed ≡ cond (eqb (word_if w.memory o) (word_if v.memory o)) None o
    → changed ≡ find (differs v w) ws
changed_is ws v w c o changed is all seen e =
    e ∙ by o ∙ ap (λ (p : Option ℕ). found_in (differs v w) p) seen
    ∙ sym (find_watched (differs v w) (accessed v (slice_get v.harts c.hart)) ws all
    (λ a aligned other. ap (λ (u : World). differs v u a) is ∙ same_elsewhere v c a aligned other))
  where
    by : (o : Option ℕ) → cond (eqb (word_if w.memory o) (word_if v.memory o)) None o ≡ found_in (differs v w) o
    by None = refl
    by (Some a) = either_way (word_if w.memory (Some a)) (word_if v.memory (Some a)) a

-- the stop after a step, from what is seen before and after it
pub stop_is : (bs : List ℕ) (ws : WatchedWords) (v w : World) (c : Choice) (access placed made : Option Access) (word changed : Option ℕ) (before : ℕ)
    (at : Option AtBreak) (hit : Option WatchHit) (stop : Option Stop) → w ≡ step v c → All (λ a. a % 4 ≡ 0) ws.changes
    → access ≡ accessed v (slice_get v.harts c.hart) → placed ≡ if_place v c access → word ≡ watched ws.changes access
    → before ≡ word_if v.memory word → changed ≡ cond (eqb (word_if w.memory word) before) None word
    → made ≡ if_runs (slice_get w.harts c.hart) placed → hit ≡ hit_for ws changed made
    → at ≡ break_of bs c.hart (slice_get w.harts c.hart) → stop ≡ stop_for at hit → stop ≡ stop_at bs ws v c
unfolding stop_after
stop_is bs ws v w c access placed made word changed before at hit stop is all a p o b e m h t s =
    let left : changed ≡ find (differs v w) ws.changes =
    changed_is ws.changes v w c word changed is all (o ∙ ap (λ (x : Option Access). watched ws.changes x) a)
    (e ∙ ap (λ (n : ℕ). cond (eqb (word_if w.memory word) n) None word) b) in
    let there : made ≡ if_runs (slice_get w.harts c.hart) (touched v c) =
    m ∙ ap (λ (x : Option Access). if_runs (slice_get w.harts c.hart) x) (p ∙ ap (λ (x : Option Access). if_place v c x) a) in
    s ∙ ap₂ (λ (x : Option AtBreak) (y : Option WatchHit). stop_for x y) t
    (h ∙ ap₂ (λ (x : Option ℕ) (y : Option Access). hit_for ws x y) left there)
    ∙ ap (λ (u : World). stop_after bs ws v u c.hart (if_runs (slice_get u.harts c.hart) (touched v c))) is

-- the watched word of an access
pub watched_there : (ws : List ℕ) (o : Option Access) (a : Access) → o ≡ Some a → list_any (λ k. is_eq (nat_cmp (a.address - a.address % 4) k)) ws ≡ true → Some (a.address - a.address % 4) ≡ watched ws o
watched_there ws o a some on =
    let e : has ws (word_of a.address) ≡ true = sym (contains-has ws (word_of a.address)) ∙ on in
    rw (some, e) refl

pub watched_not : (ws : List ℕ) (o : Option Access) (a : Access) → o ≡ Some a → list_any (λ k. is_eq (nat_cmp (a.address - a.address % 4) k)) ws ≡ false → None ≡ watched ws o
watched_not ws o a some off =
    let e : has ws (word_of a.address) ≡ false = sym (contains-has ws (word_of a.address)) ∙ off in
    rw (some, e) refl
