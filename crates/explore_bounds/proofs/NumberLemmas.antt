-- Numbers of keys, and what raises them.
use Rattle.std.proofs.Common.{◌≡◌, ℕ, zero, suc, ◌+◌, ◌-◌, ◌<◌, ◌≤◌, ◌^◌, Bool, true, false, List, [], ◌∷◌, length, set, min, cond, Some, refl, ap, sym, ◌∙◌, subst, arith, inl, inr, ◌⊎◌, eq-eqb, ne_eqb, Option}
use Rattle.std.specs.Prelude.{if◌then◌else◌}
use Rattle.std.specs.List.{Contains, slice_get}
use Rattle.std.proofs.lemmas.Bool.{cases_eq}
use Rattle.std.proofs.lemmas.Option.{slice_get_within, get_or_from_slice_get}
use Rattle.explore_table.proofs.ListLemmas.{get_there, at_contains}
use Rattle.machine.specs.World.{World}
use Rattle.machine.specs.declared.choice.Choice.{Choice}
use Rattle.explore_laws.specs.Places.{Place, place_after}
use Rattle.explore_laws.specs.OwnSteps.{steps_in_turn, NumbersFall}
use Rattle.explore_laws.specs.Settling.{Stride}
use Rattle.explore_laws.proofs.OwnLemmas.{other_steps}
use Rattle.explore_laws.proofs.PathLemmas.{path_none, path_more}
use Rattle.explore_laws.proofs.ListLemmas.{there_set, get_set_other}
use Rattle.explore_search.specs.Edges.{HaveEdges, Lead}
use Rattle.explore_search.proofs.SearchLemmas.{below_or}
use Rattle.explore_bounds.specs.Steps.{AreStepsFrom, HaveSteps}
use Rattle.explore_bounds.specs.Numbers.{own_in, raised_by, HasOver, HasPathOf, AreTaken, room, RaisesTo, IsSettled, RaisesOne, AreSettled, RaisesAll}

same_at : {X : Type 0} (xs : List X) (k : ℕ) (x y : X) → slice_get xs k ≡ Some x → slice_get xs k ≡ Some y → x ≡ y
same_at xs k x y e f = cc

pub contains_at : {X : Type 0} (xs : List X) (k : ℕ) (x : X) → slice_get xs k ≡ Some x → Contains xs x
contains_at xs k x e = (k, slice_get_within xs k x e, get_or_from_slice_get xs k x x e)

-- ---- a hart's own steps in a turn
pub own_is : (stride : Stride) (w : World) (h s : ℕ) (c : Choice) → s ≡ steps_in_turn stride w c.hart c
    → own_in c.hart h s ≡ steps_in_turn stride w h c
own_is stride w h s c is = elim (cases_eq c.hart h) [
  | inl same ↦ ap (λ (b : Bool). if b then s else 0) (eq-eqb c.hart h same) ∙ is ∙ ap (λ k. steps_in_turn stride w k c) same
  | inr other ↦ ap (λ (b : Bool). if b then s else 0) (ne_eqb c.hart h other) ∙ sym (other_steps stride w h c other)
]

pub own_low : (hart h s : ℕ) → own_in hart h s ≤ s
own_low hart h s = elim (cases_eq hart h) [
  | inl same ↦ let all : own_in hart h s ≡ s = ap (λ (b : Bool). if b then s else 0) (eq-eqb hart h same) in omega (arith, all)
  | inr other ↦ let none : own_in hart h s ≡ 0 = ap (λ (b : Bool). if b then s else 0) (ne_eqb hart h other) in omega (arith, none)
]

-- ---- how far numbers go
pub min_low : (a top : ℕ) → min a top ≤ a
min_low a top = omega arith

pub min_fits : (a top : ℕ) → min a top ≤ top
min_fits a top = omega arith

-- a sum below what a number holds is itself
pub min_whole : (a top n limit : ℕ) → min a top ≤ n → n ≤ limit → limit < top → a ≤ n
min_whole a top n limit low under inside = omega arith

pub room_less : (top : ℕ) (numbers : List ℕ) (k n m : ℕ) → slice_get numbers k ≡ Some n → n < m → m ≤ top
    → room top (set numbers k m) < room top numbers
unfolding room
room_less top [] k n m e less fits = absurd (cc)
room_less top (x ∷ numbers) zero n m e less fits = let same : x ≡ n = cc in omega (arith, same, less, fits)
room_less top (x ∷ numbers) (suc k) n m e less fits =
    let rest = room_less top numbers k n m e less fits in omega (arith, rest)

-- ---- paths
-- a turn before a path
pub path_raised : (meant : List Choice) (h : ℕ) (p : Place) (c : Choice) (s t m : ℕ) → Contains meant c
    → s ≡ steps_in_turn p.stride p.world c.hart c → m ≤ own_in c.hart h s + t → HasPathOf meant h (place_after p c) t → HasPathOf meant h p m
path_raised meant h p c s t m is own low of =
    let same = own_is p.stride p.world h s c own in
    let enough = of.enough in
    record {
      steps = steps_in_turn p.stride p.world h c + of.steps;
      path = path_more meant h p c of.steps is of.path;
      enough = omega (arith, same, enough, low);
    }

pub none_taken : (meant : List Choice) (h : ℕ) (place : List ℕ → Place) (keys : List (List ℕ)) (numbers : List ℕ)
    → ((k n : ℕ) → slice_get numbers k ≡ Some n → n ≡ 0) → AreTaken meant h place keys numbers
none_taken meant h place keys numbers none k key n e f =
    let zero_is = none k n f in
    record { steps = 0; path = path_none meant h (place key); enough = omega (arith, zero_is) }

-- ---- one turn is looked at
module _ (turns : List Choice) (h : ℕ) (row steps : List ℕ) (number i to s t m : ℕ) (c : Choice)
    (c_is : slice_get turns i ≡ Some c) (to_is : slice_get row i ≡ Some to) (s_is : slice_get steps i ≡ Some s) where
  pub turn_taken : (place : List ℕ → Place) (keys : List (List ℕ)) (key : List ℕ) (numbers more : List ℕ) (answer : Bool)
      → slice_get keys number ≡ Some key → Lead place turns keys (place key) row → AreStepsFrom turns (place key) steps
      → slice_get numbers to ≡ Some t → m ≡ raised_by (own_in c.hart h s) t → number < length numbers
      → RaisesTo numbers more number m answer → AreTaken turns h place keys numbers → AreTaken turns h place keys more
  turn_taken place keys key numbers more false there lead own t_is m_is inside raises taken =
      subst (AreTaken turns h place keys) (sym raises.0) taken
  turn_taken place keys key numbers more true there lead own t_is m_is inside raises taken = λ k x n e f. elim (cases_eq k number) [
    | inl same ↦
        let at = lead i to c to_is c_is in
        let old = get_there numbers number inside in
        let n_is : m ≡ n
        = same_at (set numbers number m) number m n (there_set numbers number old.0 m old.1)
        (ap (λ ns. slice_get ns number) (sym raises.1) ∙ ap (slice_get more) (sym same) ∙ f) in
        let x_is : key ≡ x = same_at keys number key x there (ap (slice_get keys) (sym same) ∙ e) in
        let fits = min_low (own_in c.hart h s + t) (2 ^ 64 - 1) in
        subst (λ y. HasPathOf turns h (place y) n) x_is
        (subst (HasPathOf turns h (place key)) n_is
        (path_raised turns h (place key) c s t m (contains_at turns i c c_is) (own.are i s c s_is c_is)
        (subst (λ r. r ≤ own_in c.hart h s + t) (sym m_is) fits)
        (subst (λ q. HasPathOf turns h q t) at.is (taken to at.key t at.there t_is))))
    | inr other ↦
        taken k x n e (sym (get_set_other numbers number k m other) ∙ ap (λ ns. slice_get ns k) (sym raises.1) ∙ f)
  ]

  looked_more : (before numbers more : List ℕ) (so_far : Bool) → number < length numbers → m ≤ 2 ^ 64 - 1
      → RaisesOne turns h row steps before numbers number i so_far → RaisesTo numbers more number m true
      → RaisesOne turns h row steps before more number (i + 1) true
  looked_more before numbers more so_far inside fits so raises =
      let old = get_there numbers number inside in
      let less = room_less (2 ^ 64 - 1) numbers number old.0 m old.1 (raises.0 old.0 old.1) fits in
      let smaller : room (2 ^ 64 - 1) more < room (2 ^ 64 - 1) numbers
      = subst (λ ns. room (2 ^ 64 - 1) ns < room (2 ^ 64 - 1) numbers) (sym raises.1) less in
      from_before so_far so smaller
    where
      from_before : (b : Bool) → RaisesOne turns h row steps before numbers number i b
          → room (2 ^ 64 - 1) more < room (2 ^ 64 - 1) numbers → room (2 ^ 64 - 1) more < room (2 ^ 64 - 1) before
      from_before true so smaller = omega (arith, so, smaller)
      from_before false so smaller = subst (λ ns. room (2 ^ 64 - 1) more < room (2 ^ 64 - 1) ns) so.0 smaller

  looked_same : (before numbers more : List ℕ) (so_far : Bool) → slice_get numbers to ≡ Some t → m ≡ raised_by (own_in c.hart h s) t
      → RaisesOne turns h row steps before numbers number i so_far → RaisesTo numbers more number m false
      → RaisesOne turns h row steps before more number (i + 1) so_far
  looked_same before numbers more true t_is m_is so raises =
      subst (λ ns. room (2 ^ 64 - 1) ns < room (2 ^ 64 - 1) before) (sym raises.0) so
  looked_same before numbers more false t_is m_is so raises = (
    raises.0 ∙ so.0,
    λ j to2 s2 t2 n c2 low c2_is to2_is s2_is t2_is n_is. elim (below_or j i low) [
      | inl below ↦ so.1 j to2 s2 t2 n c2 below c2_is to2_is s2_is t2_is n_is
      | inr here ↦
          let c_same : c ≡ c2 = same_at turns i c c2 c_is (ap (slice_get turns) (sym here) ∙ c2_is) in
          let to_same : to ≡ to2 = same_at row i to to2 to_is (ap (slice_get row) (sym here) ∙ to2_is) in
          let s_same : s ≡ s2 = same_at steps i s s2 s_is (ap (slice_get steps) (sym here) ∙ s2_is) in
          let t_same : t ≡ t2
          = same_at numbers to t t2 t_is (ap (slice_get numbers) to_same ∙ ap (λ ns. slice_get ns to2) so.0 ∙ t2_is) in
          let low_m : m ≤ n = raises.1 n (ap (λ ns. slice_get ns number) so.0 ∙ n_is) in
          subst (λ (d : Choice). raised_by (own_in d.hart h s2) t2 ≤ n) c_same
          (subst (λ x. raised_by (own_in c.hart h x) t2 ≤ n) s_same
          (subst (λ x. raised_by (own_in c.hart h s) x ≤ n) t_same
          (subst (λ x. x ≤ n) m_is low_m)))
    ],
  )

  pub turn_looked : (before numbers more : List ℕ) (so_far answer after : Bool) → slice_get numbers to ≡ Some t
      → m ≡ raised_by (own_in c.hart h s) t → m ≤ 2 ^ 64 - 1 → number < length numbers
      → RaisesOne turns h row steps before numbers number i so_far → RaisesTo numbers more number m answer
      → ((answer ≡ true) × (after ≡ true)) ⊎ ((answer ≡ false) × (after ≡ so_far))
      → RaisesOne turns h row steps before more number (i + 1) after
  turn_looked before numbers more so_far answer after t_is m_is fits inside so raises by = elim by [
    | inl yes_ ↦ subst (RaisesOne turns h row steps before more number (i + 1)) (sym yes_.1)
        (looked_more before numbers more so_far inside fits so (subst (RaisesTo numbers more number m) yes_.0 raises))
    | inr no_ ↦ subst (RaisesOne turns h row steps before more number (i + 1)) (sym no_.1)
        (looked_same before numbers more so_far t_is m_is so (subst (RaisesTo numbers more number m) no_.0 raises))
  ]

-- no turn is looked at yet
pub none_looked : (turns : List Choice) (h : ℕ) (row steps numbers : List ℕ) (number : ℕ)
    → RaisesOne turns h row steps numbers numbers number 0 false
none_looked turns h row steps numbers number = (refl, λ i to s t n c low c_is to_is s_is t_is n_is. absurd (omega (arith, low)))

-- ---- one key is looked at
module _ (turns : List Choice) (h : ℕ) (rows steps : List (List ℕ)) where
  pub pass_begins : (numbers : List ℕ) (n : ℕ) → length rows ≤ n → RaisesAll turns h rows steps numbers numbers n false
  pass_begins numbers n all =
      (refl, λ k row own low there own_there. absurd (let w = slice_get_within rows k row there in omega (arith, w, low, all)))

  key_raised : (before numbers more : List ℕ) (n : ℕ) (so_far : Bool) → RaisesAll turns h rows steps before numbers n so_far
      → room (2 ^ 64 - 1) more < room (2 ^ 64 - 1) numbers → room (2 ^ 64 - 1) more < room (2 ^ 64 - 1) before
  key_raised before numbers more n true so smaller = omega (arith, so, smaller)
  key_raised before numbers more n false so smaller = subst (λ ns. room (2 ^ 64 - 1) more < room (2 ^ 64 - 1) ns) so.0 smaller

  key_same : (before numbers more : List ℕ) (n number : ℕ) (row own : List ℕ) (so_far : Bool) → n ≤ number + 1
      → slice_get rows number ≡ Some row → slice_get steps number ≡ Some own → RaisesAll turns h rows steps before numbers n so_far
      → RaisesOne turns h row own numbers more number (length row) false → RaisesAll turns h rows steps before more number so_far
  key_same before numbers more n number row own true low there own_there so one =
      subst (λ ns. room (2 ^ 64 - 1) ns < room (2 ^ 64 - 1) before) (sym one.0) so
  key_same before numbers more n number row own false low there own_there so one = (
    one.0 ∙ so.0,
    λ k row2 own2 above e f. elim (cases_eq k number) [
      | inl same ↦
          let row_is : row ≡ row2 = same_at rows number row row2 there (ap (slice_get rows) (sym same) ∙ e) in
          let own_is2 : own ≡ own2 = same_at steps number own own2 own_there (ap (slice_get steps) (sym same) ∙ f) in
          subst (λ x. IsSettled turns h row2 own2 before x (length row2)) (sym same)
          (subst (λ y. IsSettled turns h row2 y before number (length row2)) own_is2
          (subst (λ y. IsSettled turns h y own before number (length y)) row_is
          (subst (λ ns. IsSettled turns h row own ns number (length row)) so.0 one.1)))
      | inr other ↦ so.1 k row2 own2 (omega (arith, above, other, low)) e f
    ],
  )

  pub key_looked : (before numbers more : List ℕ) (n m number : ℕ) (row own : List ℕ) (so_far answer after : Bool) → n ≤ number + 1
      → m ≡ number → slice_get rows number ≡ Some row → slice_get steps number ≡ Some own
      → RaisesAll turns h rows steps before numbers n so_far → RaisesOne turns h row own numbers more number (length row) answer
      → ((answer ≡ true) × (after ≡ true)) ⊎ ((answer ≡ false) × (after ≡ so_far))
      → RaisesAll turns h rows steps before more m after
  key_looked before numbers more n m number row own so_far answer after low m_is there own_there so one by = elim by [
    | inl yes_ ↦ subst (RaisesAll turns h rows steps before more m) (sym yes_.1)
        (key_raised before numbers more n so_far so (subst (RaisesOne turns h row own numbers more number (length row)) yes_.0 one))
    | inr no_ ↦ subst (RaisesAll turns h rows steps before more m) (sym no_.1)
        (subst (λ at. RaisesAll turns h rows steps before more at so_far) (sym m_is)
        (key_same before numbers more n number row own so_far low there own_there so
        (subst (RaisesOne turns h row own numbers more number (length row)) no_.0 one)))
  ]

  pub pass_ends : (before numbers : List ℕ) (n : ℕ) (so_far : Bool) → n ≡ 0 → RaisesAll turns h rows steps before numbers n so_far
      → RaisesAll turns h rows steps before numbers 0 so_far
  pass_ends before numbers n so_far none so = subst (λ m. RaisesAll turns h rows steps before numbers m so_far) none so

  pub settled_after : (numbers more : List ℕ) (answer : Bool) → RaisesAll turns h rows steps numbers more 0 answer → answer ≡ false
      → AreSettled turns h rows steps more 0
  settled_after numbers more true passed none = absurd (let no : true ≡ false = none in cc)
  settled_after numbers more false passed none = subst (λ ns. AreSettled turns h rows steps ns 0) (sym passed.0) passed.1

  pub pass_smaller : (numbers more : List ℕ) (before answer : Bool) → before ≡ true → RaisesAll turns h rows steps numbers more 0 answer
      → room (2 ^ 64 - 1) more + cond answer 1 0 < room (2 ^ 64 - 1) numbers + cond before 1 0
  pass_smaller numbers more false answer was passed = absurd (let no : false ≡ true = was in cc)
  pass_smaller numbers more true true was passed = omega (arith, passed)
  pass_smaller numbers more true false was passed =
      let is : room (2 ^ 64 - 1) more ≡ room (2 ^ 64 - 1) numbers = ap (room (2 ^ 64 - 1)) passed.0 in omega (arith, is)

-- ---- settled numbers fall
pub settled_fall : (meant : List Choice) (h : ℕ) (place : List ℕ → Place) (keys rows steps : List (List ℕ)) (numbers : List ℕ) (limit : ℕ)
    → HaveEdges place meant keys rows → HaveSteps place meant keys steps → length numbers ≡ length rows
    → AreSettled meant h rows steps numbers 0 → HasOver limit numbers false → limit < 2 ^ 64 - 1
    → NumbersFall meant h place keys numbers
settled_fall meant h place keys rows steps numbers limit have own even settled under inside k key n c there number_is meant_c =
    let within = slice_get_within keys k key there in
    let row_count = have.count in
    let own_count = own.count in
    let i = at_contains meant c meant_c in
    let i_in = slice_get_within meant i.0 c i.1 in
    let row = get_there rows k (omega (arith, within, row_count)) in
    let from = have.edges k key row.0 there row.1 in
    let wide = from.count in
    let to = get_there row.0 i.0 (omega (arith, i_in, wide)) in
    let at = from.lead i.0 to.0 c to.1 i.1 in
    let steps_row = get_there steps k (omega (arith, within, own_count)) in
    let steps_from = own.from k key steps_row.0 there steps_row.1 in
    let own_wide = steps_from.count in
    let s = get_there steps_row.0 i.0 (omega (arith, i_in, own_wide)) in
    let to_in = slice_get_within keys to.0 at.key at.there in
    let t = get_there numbers to.0 (omega (arith, to_in, even, row_count)) in
    let low = settled k row.0 steps_row.0 (omega arith) row.1 steps_row.1 i.0 to.0 s.0 t.0 n c (omega (arith, i_in, wide)) i.1 to.1 s.1 t.1
    number_is in
    let whole = min_whole (own_in c.hart h s.0 + t.0) (2 ^ 64 - 1) n limit low (under k n number_is) inside in
    let same = own_is (place key).stride (place key).world h s.0 c (steps_from.are i.0 s.0 c s.1 i.1) in (
      t.0,
      record { index = to.0; key = at.key; there = at.there; is = at.is; number_is = t.1 },
      subst (λ x. x + t.0 ≤ n) same whole,
    )
