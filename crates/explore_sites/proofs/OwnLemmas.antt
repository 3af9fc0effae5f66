-- A table's step that no other hart sees, and one that is clear of its words.
use Rattle.std.proofs.Common.{◌≡◌, ℕ, Bool, true, false, not, ◌&&◌, ◌||◌, [], Option, Some, None, refl, ap, sym, ◌∙◌, inl, inr, ◌⊎◌}
use Rattle.std.specs.Prelude.{if◌then◌else◌}
use Rattle.std.proofs.lemmas.Bool.{eqb-true, ne_eqb, cases_Bool, and_parts, or_cases, not-true, both_ways}
use Rattle.mem_store.specs.Memory.{Memory}
use Rattle.hart_step.specs.Hart.{HartValue}
use Rattle.hart_reservations.specs.Marks.{names}
use Rattle.bank_laws.specs.Banks.{WordBytes, is_store, with_word_bytes}
use Rattle.bank_laws.specs.Runs.{Act, Reads, Writes, Reserves, Tries, Touch, StepTable, TableWorld, kind_of, word_after, word_found, done, step_from, table_step, succeeds}
use Rattle.bank_laws.specs.Table.{is_unwritable, needed_code, planned, table}
use Rattle.explore_sites.specs.Own.{Owners, is_hart, is_other, only_loads, may_store, is_store_conditional, is_clear_touch, is_own_touch, is_clear_code, is_clear_if, is_own_if}
use Rattle.explore_sites.proofs.SwapLemmas.{value_still}
use Rattle.explore_sites.proofs.TurnLemmas.{KeepApart, IsSure, done_swap}

-- ---- what tests say
owner_is : (o : Option ℕ) (h : ℕ) → is_hart o h ≡ true → o ≡ Some h
owner_is None h e = absurd cc
owner_is (Some k) h e = ap Some (eqb-true k h e)

-- a word of hart h is no word that another hart may touch
not_clear : (owners : Owners) (h k x y : ℕ) → (h ≡ k → ⊥) → is_hart (owners x) h ≡ true → not (is_other (owners y) k) ≡ true
    → x ≡ y → ⊥
not_clear owners h k x y off mine clear same =
    let is : owners y ≡ Some h = ap owners (sym same) ∙ owner_is (owners x) h mine in
    let so : is_other (owners y) k ≡ true = ap (λ o. is_other o k) is ∙ ap not (ne_eqb h k off) in
    both_ways (is_other (owners y) k) (not-true (is_other (owners y) k) clear) so

-- what a touch as a hart's own is
pub record OwnTouch (owners : Owners) (m : Memory) (h : ℕ) (t : Touch) : Type 0 where
  pub clear : is_clear_touch owners m h t ≡ true
  pub sure : is_store_conditional t.act ≡ false
  pub its : (is_hart (owners t.word) h ≡ true) ⊎ ((only_loads t.act ≡ true) × (is_unwritable m t.word ≡ true))

pub own_parts : (owners : Owners) (m : Memory) (h : ℕ) (t : Touch) → is_own_touch owners m h t ≡ true → OwnTouch owners m h t
own_parts owners m h t e =
    let clear = is_clear_touch owners m h t in
    let sure = not (is_store_conditional t.act) in
    let its = is_hart (owners t.word) h || (only_loads t.act && is_unwritable m t.word) in
    let parts = and_parts (clear && sure) its e in
    let first = and_parts clear sure parts.0 in
    record {
      clear = first.0;
      sure = not-true (is_store_conditional t.act) first.1;
      its = elim (or_cases (is_hart (owners t.word) h) (only_loads t.act && is_unwritable m t.word) parts.1) [
        | inl mine ↦ inl mine
        | inr loads ↦ inr (and_parts (only_loads t.act) (is_unwritable m t.word) loads)
      ];
    }

-- ---- what they say of two steps
pub own_is_sure : (owners : Owners) (m : Memory) (h : ℕ) (p : Option Touch) → is_own_if owners m h p ≡ true → IsSure p
own_is_sure owners m h None own = tt
own_is_sure owners m h (Some t) own = (own_parts owners m h t own).sure

-- a word that may not be stored to isn't one that is
unwritable_apart : (m : Memory) (x y : ℕ) (act : Act) → is_unwritable m x ≡ true → not (may_store act && is_unwritable m y) ≡ true
    → may_store act ≡ true → x ≡ y → ⊥
unwritable_apart m x y act shut clear stores same =
    both_ways (is_unwritable m y)
    (ap (λ b. b && is_unwritable m y) (sym stores) ∙ not-true (may_store act && is_unwritable m y) clear)
    (ap (is_unwritable m) (sym same) ∙ shut)

touches_apart : (owners : Owners) (m : Memory) (h k : ℕ) (t o : Touch) → (h ≡ k → ⊥) → OwnTouch owners m h t
    → is_clear_touch owners m k o ≡ true → KeepApart (Some t) (Some o)
touches_apart owners m h k t o off own clear =
    let parts = and_parts (not (is_other (owners o.word) k)) (not (may_store o.act && is_unwritable m o.word)) clear in
    elim own.its [
      | inl mine ↦ inl (not_clear owners h k t.word o.word off mine parts.0)
      | inr loads ↦ elim (cases_Bool (may_store o.act)) [
        | inl stores ↦ inl (unwritable_apart m t.word o.word o.act loads.1 parts.1 stores)
        | inr keeps ↦ inr (loads.0, keeps)
      ]
    ]

pub own_apart : (owners : Owners) (m : Memory) (h k : ℕ) (p q : Option Touch) → (h ≡ k → ⊥) → is_own_if owners m h p ≡ true
    → is_clear_if owners m k q ≡ true → KeepApart p q
own_apart owners m h k None q off own clear = tt
own_apart owners m h k (Some t) None off own clear = tt
own_apart owners m h k (Some t) (Some o) off own clear = touches_apart owners m h k t o off (own_parts owners m h t own) clear

-- a touch isn't of the needed word, or only loads
abbrev pub LeavesCode : Option Touch → Option ℕ → Type 0
LeavesCode None need = Unit {0}
LeavesCode (Some t) None = Unit {0}
LeavesCode (Some t) (Some z) = (t.word ≡ z → ⊥) ⊎ (only_loads t.act ≡ true)

pub own_leaves : (owners : Owners) (m : Memory) (h k : ℕ) (p : Option Touch) (need : Option ℕ) → (h ≡ k → ⊥)
    → is_own_if owners m h p ≡ true → is_clear_code owners k need ≡ true → LeavesCode p need
own_leaves owners m h k None need off own clear = tt
own_leaves owners m h k (Some t) None off own clear = tt
own_leaves owners m h k (Some t) (Some z) off own clear = elim (own_parts owners m h t own).its [
  | inl mine ↦ inl (not_clear owners h k t.word z off mine clear)
  | inr loads ↦ inr loads.0
]

-- ---- steps of a table
module _ {H : Type 0} (T : StepTable H) where
  pub hart_still : (w : TableWorld H) (h : ℕ) (refuse : Bool) (s : H) (c : WordBytes) (p : Option Touch) (j : ℕ) → (j ≡ h → ⊥)
      → (done T w h refuse s c p).harts j ≡ w.harts j
  hart_still w h refuse s c None j ne = rw (ne_eqb j h ne) refl
  hart_still w h refuse s c (Some t) j ne = rw (ne_eqb j h ne) refl

  word_still : (w : TableWorld H) (h : ℕ) (s : H) (c : WordBytes) (act : Act) (x z : ℕ) (ok : Bool) → (x ≡ z → ⊥)
      → (if is_store (kind_of act ok) then with_word_bytes w.shared.values x (word_after T s c (w.shared.values x) (kind_of act ok)) else w.shared.values) z
      ≡ w.shared.values z
  word_still w h s c act x z ok ne =
      value_still (kind_of act ok) w.shared.values x z (word_after T s c (w.shared.values x) (kind_of act ok)) ne

  loads_still : (w : TableWorld H) (h : ℕ) (refuse : Bool) (s : H) (c : WordBytes) (act : Act) (x z : ℕ) → only_loads act ≡ true
      → (done T w h refuse s c (Some (record { act = act; word = x }))).shared.values z ≡ w.shared.values z
  loads_still w h refuse s c Reads x z loads = refl
  loads_still w h refuse s c Writes x z loads = absurd cc
  loads_still w h refuse s c Reserves x z loads = absurd cc
  loads_still w h refuse s c Tries x z loads = absurd cc

  pub code_still : (w : TableWorld H) (h : ℕ) (refuse : Bool) (s : H) (c : WordBytes) (p : Option Touch) (need : Option ℕ)
      → LeavesCode p need → word_found need (done T w h refuse s c p).shared.values ≡ word_found need w.shared.values
  code_still w h refuse s c p None leaves = refl
  code_still w h refuse s c None (Some z) leaves = refl
  code_still w h refuse s c (Some t) (Some z) leaves = elim leaves [
    | inl ne ↦ word_still w h s c t.act t.word z (succeeds t.act refuse (names (w.shared.marks h) t.word)) ne
    | inr loads ↦ loads_still w h refuse s c t.act t.word z loads
  ]

  -- the step of a hart that is there, whose code is there
  pub step_is : (w : TableWorld H) (k : ℕ) (refuse : Bool) (u : H) (d : WordBytes) → w.harts k ≡ u
      → word_found (T.need u) w.shared.values ≡ d → table_step T w k refuse ≡ done T w k refuse u d (T.plan u d)
  step_is w k refuse u d is code =
      ap (λ z. step_from T w k refuse z (word_found (T.need z) w.shared.values)) is ∙ ap (λ z. step_from T w k refuse u z) code

  -- a hart that needs no word to know its instruction
  pub known_code : (need : Option ℕ) (values : ℕ → WordBytes) → need ≡ None → word_found need values ≡ []
  known_code need values none = ap (λ o. word_found o values) none

  module _ (w : TableWorld H) (h k : ℕ) (refuse : Bool) (off : h ≡ k → ⊥) where
    s : H
    s = w.harts h

    u : H
    u = w.harts k

    d : WordBytes
    d = word_found (T.need u) w.shared.values

    pub step_swap : T.need (w.harts h) ≡ None → IsSure (T.plan (w.harts h) [])
        → KeepApart (T.plan (w.harts h) []) (T.plan (w.harts k) (word_found (T.need (w.harts k)) w.shared.values))
        → LeavesCode (T.plan (w.harts h) []) (T.need (w.harts k))
        → table_step T (table_step T w h false) k refuse ≡ table_step T (table_step T w k refuse) h false
    unfolding s u d
    step_swap none sure apart leaves =
        let one : TableWorld H = done T w h false s [] (T.plan s []) in
        let two : TableWorld H = done T w k refuse u d (T.plan u d) in
        let one_is : table_step T w h false ≡ one = step_is w h false s [] refl (known_code (T.need s) w.shared.values none) in
        let two_is : table_step T w k refuse ≡ two = step_is w k refuse u d refl refl in
        ap (λ z. table_step T z k refuse) one_is
        ∙ step_is one k refuse u d (hart_still w h false s [] (T.plan s []) k (λ e. off (sym e)))
        (code_still w h false s [] (T.plan s []) (T.need u) leaves)
        ∙ done_swap T w h k refuse s u [] d off (T.plan s []) (T.plan u d) sure apart
        ∙ sym (step_is two h false s [] (hart_still w k refuse u d (T.plan u d) h off) (known_code (T.need s) two.shared.values none))
        ∙ ap (λ z. table_step T z h false) (sym two_is)

-- ---- steps of an image's table
pub table_swap : (owners : Owners) (m : Memory) (w : TableWorld HartValue) (h k : ℕ) (refuse : Bool) → (h ≡ k → ⊥)
    → needed_code (w.harts h).state m (w.harts h).pc ≡ None → is_own_if owners m h (planned m (w.harts h) []) ≡ true
    → is_clear_code owners k (needed_code (w.harts k).state m (w.harts k).pc) ≡ true
    → is_clear_if owners m k (planned m (w.harts k) (word_found (needed_code (w.harts k).state m (w.harts k).pc) w.shared.values)) ≡ true
    → table_step (table m) (table_step (table m) w h false) k refuse ≡ table_step (table m) (table_step (table m) w k refuse) h false
table_swap owners m w h k refuse off none own code clear =
    let p = planned m (w.harts h) [] in
    let need = needed_code (w.harts k).state m (w.harts k).pc in
    let q = planned m (w.harts k) (word_found need w.shared.values) in
    step_swap (table m) w h k refuse off none (own_is_sure owners m h p own) (own_apart owners m h k p q off own clear)
    (own_leaves owners m h k p need off own code)
