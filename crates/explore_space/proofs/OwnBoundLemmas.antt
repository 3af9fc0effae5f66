-- Rows of steps, and bounds of harts, as they grow.
use Rattle.std.proofs.Common.{◌≡◌, ℕ, ◌+◌, ◌<◌, List, [], ◌∷◌, ◌++◌, length, Some, ap, sym, ◌∙◌, subst, arith, inl, inr}
use Rattle.std.proofs.lemmas.List.Elements.{All-contains}
use Rattle.std.proofs.lemmas.Option.{slice_get_within, get_or_from_slice_get}
use Rattle.std.specs.List.{All, Contains, slice_get}
use Rattle.machine.specs.World.{World}
use Rattle.machine.specs.declared.choice.Choice.{Choice}
use Rattle.explore_table.proofs.ListLemmas.{get_either, get_there}
use Rattle.explore_laws.specs.Covering.{AreClear}
use Rattle.explore_laws.specs.Places.{Place}
use Rattle.explore_laws.specs.OwnSteps.{steps_in_turn, KeysAreClear}
use Rattle.explore_search.specs.Answers.{AreAllReached}
use Rattle.explore_search.specs.Counted.{IsLedTo}
use Rattle.explore_search.specs.Edges.{HaveEdges}
use Rattle.explore_search.specs.Marked.{AllBelow, AreAllSeen}
use Rattle.explore_search.specs.declared.seen.Link.{Link}
use Rattle.explore_search.proofs.EdgeLemmas.{edges_below}
use Rattle.explore_bounds.specs.Numbers.{AreWide}
use Rattle.explore_bounds.specs.Steps.{AreLedTo, AreStepsFrom, HaveSteps}
use Rattle.explore_bounds.specs.declared.bound.Bound.{Bound}
use Rattle.explore_space.specs.Bounds.{AnswersBounds, MayAllStep, TellsOwn}
use Rattle.explore_space.specs.Every.{meant_choices}
use Rattle.explore_space.specs.declared.meant.ScRefusals.{ScRefusals}
use Rattle.explore_space.specs.declared.own_bounds.OwnBounds.{OwnBounds}
use Rattle.explore_space.proofs.EveryLemmas.{in_range, plain_meant}
use Rattle.explore_space.specs.Habits.{Habits, clear_by_habit}

same_at : {X : Type 0} (xs : List X) (k : ℕ) (x y : X) → slice_get xs k ≡ Some x → slice_get xs k ≡ Some y → x ≡ y
same_at xs k x y e f = cc

contains_at : {X : Type 0} (xs : List X) (k : ℕ) (x : X) → slice_get xs k ≡ Some x → Contains xs x
contains_at xs k x e = (k, slice_get_within xs k x e, get_or_from_slice_get xs k x x e)

-- ---- a row of steps
-- the numbers of a row are those of the turns so far
abbrev pub AreSteps : List Choice → Place → List ℕ → Type 0
AreSteps turns p row = (i s : ℕ) (c : Choice) → slice_get row i ≡ Some s → slice_get turns i ≡ Some c → s ≡ steps_in_turn p.stride p.world c.hart c

pub steps_none : (turns : List Choice) (p : Place) (row : List ℕ) → row ≡ [] → AreSteps turns p row
steps_none turns p row none i s c e f =
    absurd (let w = slice_get_within row i s e in let n = ap (λ (r : List ℕ). length r) none in omega (arith, w, n))

pub steps_more : (turns : List Choice) (p : Place) (row more : List ℕ) (i s : ℕ) (c : Choice) → length row ≡ i → slice_get turns i ≡ Some c
    → s ≡ steps_in_turn p.stride p.world c.hart c → AreSteps turns p row → more ≡ row ++ s ∷ [] → AreSteps turns p more
steps_more turns p row more i s c count there is before pushed k x d e f =
    elim (get_either row s x k (ap (λ r. slice_get r k) (sym pushed) ∙ e)) [
      | inl old ↦ before k x d old f
      | inr new ↦
          let same : c ≡ d = same_at turns i c d there (ap (slice_get turns) (sym (new.0 ∙ count)) ∙ f) in
          sym new.1 ∙ is ∙ ap (λ (y : Choice). steps_in_turn p.stride p.world y.hart y) same
    ]

-- ---- rows of steps
abbrev pub AreRows : (List ℕ → Place) → List Choice → List (List ℕ) → List (List ℕ) → Type 0
AreRows place turns keys rows = (k : ℕ) (key row : List ℕ) → slice_get keys k ≡ Some key → slice_get rows k ≡ Some row
    → AreStepsFrom turns (place key) row

pub rows_none : (place : List ℕ → Place) (turns : List Choice) (keys rows : List (List ℕ)) → rows ≡ [] → AreRows place turns keys rows
rows_none place turns keys rows none k key row e f =
    absurd (let w = slice_get_within rows k row f in let n = ap (λ (r : List (List ℕ)). length r) none in omega (arith, w, n))

pub rows_more : (place : List ℕ → Place) (turns : List Choice) (keys rows more : List (List ℕ)) (n : ℕ) (key row : List ℕ) → length rows ≡ n
    → slice_get keys n ≡ Some key → AreStepsFrom turns (place key) row → AreRows place turns keys rows → more ≡ rows ++ row ∷ []
    → AreRows place turns keys more
rows_more place turns keys rows more n key row count there from before pushed k x y e f =
    elim (get_either rows row y k (ap (λ r. slice_get r k) (sym pushed) ∙ f)) [
      | inl old ↦ before k x y e old
      | inr new ↦
          let same : key ≡ x = same_at keys n key x there (ap (slice_get keys) (sym (new.0 ∙ count)) ∙ e) in
          subst (λ z. AreStepsFrom turns (place z) y) same (subst (AreStepsFrom turns (place key)) new.1 from)
    ]

-- ---- what a search gives
module _ (IsKey : List ℕ → Type 0) (place : List ℕ → Place) (first : Place) (turns : List Choice) (keys : List (List ℕ)) where
  pub led_from : (links : List Link) → AreAllSeen IsKey place first turns keys links → AreAllReached IsKey place turns first keys
      → AreLedTo turns first place keys
  led_from links seen reaches = record {
    first_key = seen.reached.first.0;
    at_first = seen.reached.first.1;
    is_first = seen.reached.first.2;
    led_to = λ k key e. All-contains (λ x. IsLedTo turns first (place x)) keys key reaches.led_to (contains_at keys k key e);
  }

  pub some_rows : (links : List Link) (rows : List (List ℕ)) → AreAllSeen IsKey place first turns keys links → HaveEdges place turns keys rows
      → 0 < length rows
  some_rows links rows seen have =
      let first_in = slice_get_within keys 0 seen.reached.first.0 seen.reached.first.1 in
      let count = have.count in
      omega (arith, first_in, count)

-- where each step is clear wherever turns lead, so it is at the keys of these places
pub keys_clear : (habits : Habits) (meant : List Choice) (first : Place) (place : List ℕ → Place) (keys : List (List ℕ))
    → ((n : ℕ) → AreClear (clear_by_habit habits) meant first n) → All (λ key. IsLedTo meant first (place key)) keys
    → KeysAreClear (clear_by_habit habits) meant place keys
keys_clear habits meant first place keys clear led k key c at there =
    let of = All-contains (λ x. IsLedTo meant first (place x)) keys key led (contains_at keys k key at) in
    ap (λ (p : Place). clear_by_habit habits p.world c.hart) (sym of.leads)
    ∙ clear (length of.list + 1) of.list c of.meant there (omega arith)

-- rows of edges and of steps have a number for each turn
pub wide_edges : (place : List ℕ → Place) (turns : List Choice) (keys rows : List (List ℕ)) → HaveEdges place turns keys rows
    → AreWide (length turns) rows
wide_edges place turns keys rows have k row e =
    let within = slice_get_within rows k row e in
    let count = have.count in
    let key = get_there keys k (omega (arith, within, count)) in
    (have.edges k key.0 row key.1 e).count

pub wide_steps : (place : List ℕ → Place) (turns : List Choice) (keys rows : List (List ℕ)) → HaveSteps place turns keys rows
    → AreWide (length turns) rows
wide_steps place turns keys rows have k row e =
    let within = slice_get_within rows k row e in
    let count = have.count in
    let key = get_there keys k (omega (arith, within, count)) in
    (have.from k key.0 row key.1 e).count

pub below_edges : (place : List ℕ → Place) (turns : List Choice) (keys rows : List (List ℕ)) → HaveEdges place turns keys rows
    → AllBelow (length rows) rows
below_edges place turns keys rows have k row e i to f =
    let below = edges_below place turns keys rows have k row e i to f in
    let count = have.count in
    omega (arith, below, count)

-- ---- bounds of harts
abbrev pub AreTold : List Choice → World → List Bound → Type 0
AreTold turns first bounds = (h : ℕ) (bound : Bound) → slice_get bounds h ≡ Some bound → TellsOwn turns first h bound

pub told_none : (turns : List Choice) (first : World) (bounds : List Bound) → bounds ≡ [] → AreTold turns first bounds
told_none turns first bounds none h bound e =
    absurd (let w = slice_get_within bounds h bound e in let n = ap (λ (bs : List Bound). length bs) none in omega (arith, w, n))

pub told_more : (turns : List Choice) (first : World) (bounds more : List Bound) (h : ℕ) (bound : Bound) → length bounds ≡ h
    → TellsOwn turns first h bound → AreTold turns first bounds → more ≡ bounds ++ bound ∷ [] → AreTold turns first more
told_more turns first bounds more h bound count tells before pushed k b e =
    elim (get_either bounds bound b k (ap (λ bs. slice_get bs k) (sym pushed) ∙ e)) [
      | inl old ↦ before k b old
      | inr new ↦ subst (λ i. TellsOwn turns first i b) (sym (new.0 ∙ count)) (subst (TellsOwn turns first h) new.1 tells)
    ]

-- ---- the choices of harts
pub all_may_step : (refusals : ScRefusals) (n : ℕ) → MayAllStep (meant_choices refusals n) n
all_may_step refusals n = record {
  plain = λ c there. plain_meant refusals n c.hart (in_range refusals n c there);
  each = λ h low. plain_meant refusals n h low;
}

-- the same by equal parts
pub moved_bounds : (asked : OwnBounds) {ms ns : List Choice} {w v : World} {m n : ℕ} (bounds : List Bound) → ms ≡ ns → w ≡ v → m ≡ n
    → AnswersBounds asked ms w m bounds → AnswersBounds asked ns v n bounds
moved_bounds asked {ms} {ns} {w} {v} {m} {n} bounds same world count a =
    subst (λ k. AnswersBounds asked ns v k bounds) count
    (subst (λ x. AnswersBounds asked ns x m bounds) world (subst (λ xs. AnswersBounds asked xs w m bounds) same a))

pub moved_may : {ms ns : List Choice} {m n : ℕ} → ns ≡ ms → n ≡ m → MayAllStep ms m → MayAllStep ns n
moved_may {ms} {ns} {m} {n} same count may = subst (λ xs. MayAllStep xs n) (sym same) (subst (MayAllStep ms) (sym count) may)
