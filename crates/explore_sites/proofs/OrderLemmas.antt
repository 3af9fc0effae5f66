-- Steps of two harts of a machine in either order.
use Rattle.std.proofs.Common.{◌≡◌, ℕ, zero, suc, ◌+◌, ◌%◌, ◌<◌, ◌≤◌, true, false, List, [], ◌∷◌, length, get_or, Option, Some, None, refl, ap, sym, ◌∙◌, subst, arith, inl, inr}
use Rattle.std.specs.List.{All, slice_get, slice_index}
use Rattle.std.specs.Option.{is_none}
use Rattle.std.proofs.lemmas.Bool.{cases_lt, and_parts, false≢true}
use Rattle.std.proofs.lemmas.Option.{slice_get_past, slice_get-get_or, get_or_from_slice_get}
use Rattle.mem_store.specs.Memory.{Memory}
use Rattle.hart_reservations.specs.Marks.{Marks, word_of}
use Rattle.hart_step.specs.Hart.{HartValue}
use Rattle.hart_step.specs.Laws.{Keeps, IsAligned}
use Rattle.hart_step.specs.declared.hart.HartState.TheVariants.{Running}
use Rattle.machine.specs.World.{World, step_of, step, run}
use Rattle.machine.specs.declared.choice.Choice.{Choice}
use Rattle.machine.proofs.RunLaws.{run-keeps, run_length}
use Rattle.bank_laws.specs.Runs.{TableWorld, Turn, word_found, table_step, table_run}
use Rattle.bank_laws.specs.Words.{bytes_at}
use Rattle.bank_laws.specs.Table.{needed_code, planned, table}
use Rattle.bank_laws.specs.Worlds.{ShowsWorld}
use Rattle.bank_laws.proofs.WordLemmas.{index_at}
use Rattle.bank_laws.proofs.WorldLemmas.{run_shows}
use Rattle.explore_sites.specs.Own.{Owners, unrefused, touch_ahead, is_clear_code, is_clear_if, is_own_if, is_clear, is_alone, alone_by, clear_by, alone_in, clear_in}
use Rattle.explore_sites.proofs.OwnLemmas.{table_swap}

-- ---- worlds that a table shows alike
lists_same : (xs ys : List HartValue) → length xs ≡ length ys
    → ((j : ℕ) (x y : HartValue) → slice_get xs j ≡ Some x → slice_get ys j ≡ Some y → x ≡ y) → xs ≡ ys
lists_same [] [] e same = refl
lists_same [] (y ∷ ys) e same = absurd (omega (arith, e))
lists_same (x ∷ xs) [] e same = absurd (omega (arith, e))
lists_same (x ∷ xs) (y ∷ ys) e same =
    ap (λ (z : HartValue). z ∷ xs) (same zero x y refl refl)
    ∙ ap (λ (zs : List HartValue). y ∷ zs) (lists_same xs ys (omega (arith, e)) (λ j a b p q. same (suc j) a b p q))

word_and_rest : (y : ℕ) → word_of y + y % 4 ≡ y
word_and_rest y = omega arith

byte_in : (b : ℕ → ℕ) (y : ℕ) → slice_index (bytes_at b (word_of y)) (y % 4) ≡ b y
byte_in b y = index_at b (word_of y) (y % 4) (omega arith) ∙ ap b (word_and_rest y)

bytes_by_words : (b d : ℕ → ℕ) → ((x : ℕ) → x % 4 ≡ 0 → bytes_at b x ≡ bytes_at d x) → b ≡ d
bytes_by_words b d same = λ i y. each y i
  where
    each : (y : ℕ) → b y ≡ d y
    each y = sym (byte_in b y) ∙ ap (λ v. slice_index v (y % 4)) (same (word_of y) (omega arith)) ∙ byte_in d y

world_by : (hs gs : List HartValue) (g f : ℕ → Option ℕ) (b d : ℕ → ℕ) (r q : Marks) → hs ≡ gs → g ≡ f → b ≡ d → r ≡ q
    → ◌≡◌ {A = World} (record { harts = hs; memory = record { rights = g; bytes = b }; reserved = r })
    (record { harts = gs; memory = record { rights = f; bytes = d }; reserved = q })
world_by hs gs g f b d r q p1 p2 p3 p4 =
    λ i. record { harts = p1 i; memory = record { rights = p2 i; bytes = p3 i }; reserved = p4 i }

worlds_same : (t : TableWorld HartValue) (a b : World) → ShowsWorld t a → ShowsWorld t b → length a.harts ≡ length b.harts
    → a.memory.rights ≡ b.memory.rights → a ≡ b
worlds_same t a b one other long rights =
    world_by a.harts b.harts a.memory.rights b.memory.rights a.memory.bytes b.memory.bytes a.reserved b.reserved
    (lists_same a.harts b.harts long (λ j x y p q. sym (one.harts j x p) ∙ other.harts j y q)) rights
    (bytes_by_words a.memory.bytes b.memory.bytes (λ x at. sym (one.values x at) ∙ other.values x at))
    (sym one.marks ∙ other.marks)

-- ---- a world as a table's
pub idle : HartValue
idle = record { registers = λ _. 0; pc = 0; state = Running }

abbrev pub table_world : World → TableWorld HartValue
table_world w = record {
  harts = λ k. get_or w.harts k idle;
  shared = record { values = λ x. bytes_at w.memory.bytes x; marks = w.reserved };
}

pub table_shows : (w : World) → ShowsWorld (table_world w) w
table_shows w = record {
  harts = λ k h e. get_or_from_slice_get w.harts k h idle e;
  values = λ x at. refl;
  marks = refl;
}

pub keeps_itself : (m : Memory) → Keeps m m
keeps_itself m = record { rights = refl; bytes = λ a e. refl }

-- ---- runs of two steps
pub run_one : (w : World) (c : Choice) → run w (c ∷ []) ≡ step w c
unfolding run
run_one w c = refl

run_two : (w : World) (c d : Choice) → run w (c ∷ d ∷ []) ≡ step (step w c) d
unfolding run
run_two w c d = refl

two_length : (w : World) (c d : Choice) → length (step (step w c) d).harts ≡ length w.harts
two_length w c d = ap (λ (u : World). length u.harts) (sym (run_two w c d)) ∙ run_length w (c ∷ d ∷ [])

two_rights : (w : World) (c d : Choice) → (step (step w c) d).memory.rights ≡ w.memory.rights
two_rights w c d =
    ap (λ (u : World). u.memory.rights) (sym (run_two w c d)) ∙ (run-keeps w (c ∷ d ∷ [])).rights

two_shown : (w : World) (c d : Choice) → All IsAligned w.harts → c.hart < length w.harts → d.hart < length w.harts
    → ShowsWorld (table_step (table w.memory) (table_step (table w.memory) (table_world w) c.hart c.refuse) d.hart d.refuse) (step (step w c) d)
two_shown w c d aligned one other =
    let turns : List Turn = record { hart = c.hart; refuse = c.refuse } ∷ record { hart = d.hart; refuse = d.refuse } ∷ [] in
    subst (λ (u : World). ShowsWorld (table_run (table w.memory) (table_world w) turns) u) (run_two w c d)
    (run_shows w.memory turns w (table_world w) (keeps_itself w.memory) aligned (one, (other, tt)) (table_shows w))

-- ---- a step alone
none_is : (o : Option ℕ) → is_none o ≡ true → o ≡ None
none_is None e = refl
none_is (Some x) e = absurd cc

-- a hart that is alone needs no word to know its instruction, and touches none but as its own
pub record StandsAlone (owners : Owners) (m : Memory) (h : ℕ) (v : HartValue) : Type 0 where
  pub code : needed_code v.state m v.pc ≡ None
  pub touch : is_own_if owners m h (planned m v []) ≡ true

pub alone_parts : (owners : Owners) (m : Memory) (h : ℕ) (v : HartValue) → is_alone owners m h v ≡ true → StandsAlone owners m h v
alone_parts owners m h v e =
    let parts = and_parts (is_none (needed_code v.state m v.pc)) (is_own_if owners m h (touch_ahead m v)) e in
    let none : needed_code v.state m v.pc ≡ None = none_is (needed_code v.state m v.pc) parts.0 in
    record {
      code = none;
      touch = ap (λ o. is_own_if owners m h (planned m v (word_found o (λ x. bytes_at m.bytes x)))) (sym none) ∙ parts.1;
    }

-- a hart that is alone is there
pub alone_there : (owners : Owners) (w : World) (h : ℕ) → alone_in owners w h ≡ true → h < length w.harts
alone_there owners w h e = elim (cases_lt h (length w.harts)) [
  | inl inside ↦ inside
  | inr past ↦ absurd (false≢true (ap (alone_by owners w h) (sym (slice_get_past w.harts h past)) ∙ e))
]

-- the step of a hart that isn't there
pub step_past : (w : World) (c : Choice) → length w.harts ≤ c.hart → step w c ≡ w
unfolding step
step_past w c past = ap (step_of w c) (slice_get_past w.harts c.hart past)

pub step_length : (w : World) (c : Choice) → length (step w c).harts ≡ length w.harts
step_length w c = ap (λ (u : World). length u.harts) (sym (run_one w c)) ∙ run_length w (c ∷ [])

both_there : (owners : Owners) (w : World) (h : ℕ) (c : Choice) → All IsAligned w.harts → (h ≡ c.hart → ⊥)
    → h < length w.harts → c.hart < length w.harts
    → StandsAlone owners w.memory h (get_or w.harts h idle) → is_clear owners w.memory c.hart (get_or w.harts c.hart idle) ≡ true
    → step (step w (unrefused h)) c ≡ step (step w c) (unrefused h)
both_there owners w h c aligned off one other alone clear =
    let m = w.memory in
    let u = get_or w.harts c.hart idle in
    let parts = and_parts (is_clear_code owners c.hart (needed_code u.state m u.pc)) (is_clear_if owners m c.hart (touch_ahead m u)) clear in
    let swap = table_swap owners m (table_world w) h c.hart c.refuse off alone.code alone.touch parts.0 parts.1 in
    worlds_same (table_step (table m) (table_step (table m) (table_world w) c.hart c.refuse) h false)
    (step (step w (unrefused h)) c) (step (step w c) (unrefused h))
    (subst (λ (t : TableWorld HartValue). ShowsWorld t (step (step w (unrefused h)) c)) swap
    (two_shown w (unrefused h) c aligned one other))
    (two_shown w c (unrefused h) aligned other one)
    (two_length w (unrefused h) c ∙ sym (two_length w c (unrefused h)))
    (two_rights w (unrefused h) c ∙ sym (two_rights w c (unrefused h)))

pub alone_commutes : (owners : Owners) (w : World) (h : ℕ) (c : Choice) → All IsAligned w.harts → (h ≡ c.hart → ⊥)
    → alone_in owners w h ≡ true → clear_in owners w c.hart ≡ true
    → step (step w (unrefused h)) c ≡ step (step w c) (unrefused h)
alone_commutes owners w h c aligned off alone clear =
    let inside : h < length w.harts = alone_there owners w h alone in
    let here : slice_get w.harts h ≡ Some (get_or w.harts h idle) = slice_get-get_or w.harts h idle inside in
    elim (cases_lt c.hart (length w.harts)) [
      | inl other ↦ both_there owners w h c aligned off inside other
          (alone_parts owners w.memory h (get_or w.harts h idle) (ap (alone_by owners w h) (sym here) ∙ alone))
          (ap (clear_by owners w c.hart) (sym (slice_get-get_or w.harts c.hart idle other)) ∙ clear)
      | inr past ↦ step_past (step w (unrefused h)) c (subst (λ n. n ≤ c.hart) (sym (step_length w (unrefused h))) past)
          ∙ ap (λ (z : World). step z (unrefused h)) (sym (step_past w c past))
    ]
