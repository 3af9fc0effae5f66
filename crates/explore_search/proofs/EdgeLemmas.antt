-- Rows of edges, as keys and rows grow.
use Rattle.std.proofs.Common.{◌≡◌, ℕ, ◌+◌, ◌<◌, ◌≤◌, List, [], ◌∷◌, ◌++◌, length, Some, ap, sym, ◌∙◌, subst, arith, inl, inr}
use Rattle.std.specs.List.{slice_get}
use Rattle.std.proofs.lemmas.List.{length-append}
use Rattle.std.proofs.lemmas.Option.{slice_get_within}
use Rattle.explore_table.proofs.ListLemmas.{get_behind, get_either, get_there}
use Rattle.machine.specs.declared.choice.Choice.{Choice}
use Rattle.explore_laws.specs.Places.{Place, place_after}
use Rattle.explore_search.specs.Searched.{GoesOn}
use Rattle.explore_search.specs.Rows.{KeepsRow, CountsRows}
use Rattle.explore_search.specs.Edges.{IsNumberOf, Lead, AreEdgesFrom, AreEdges, HaveEdges, SearchLeads}
use Rattle.explore_search.specs.declared.edges.Edges.{Edges}
use Rattle.explore_search.specs.declared.edges.Edges.TheVariants.{Kept, NotKept}
use Rattle.explore_search.specs.declared.searching.Found.TheVariants.{Safe}
use Rattle.explore_search.specs.declared.seen.Seen.{Seen}
use Rattle.explore_search.proofs.SearchLemmas.{Added, get_later, old_at}

same_at : {X : Type 0} (xs : List X) (k : ℕ) (x y : X) → slice_get xs k ≡ Some x → slice_get xs k ≡ Some y → x ≡ y
same_at xs k x y e f = cc

-- ---- adding a key
pub at_added : (later : List ℕ → Place) (keys longer : List (List ℕ)) (key : List ℕ) (number : ℕ) (p : Place)
    → Added keys longer key number → later key ≡ p → IsNumberOf later longer number p
at_added later keys longer key number p added is = elim added [
  | inl old ↦ record { key = key; there = ap (λ ks. slice_get ks number) old.1 ∙ old.0; is = is }
  | inr new ↦ record {
    key = key;
    is = is;
    there = ap (λ ks. slice_get ks number) new.2 ∙ ap (slice_get (keys ++ key ∷ [])) new.0 ∙ get_behind keys key;
  }
]

-- ---- what stands for places may grow
module _ (IsKey IsKeyLater : List ℕ → Type 0) (place later : List ℕ → Place)
    (kept : (k : List ℕ) → IsKey k → IsKeyLater k × (later k ≡ place k)) (choices : List Choice) (keys longer : List (List ℕ))
    (begins : GoesOn keys longer) (are : (i : ℕ) (k : List ℕ) → slice_get keys i ≡ Some k → IsKey k) where
  at_stays : (k : ℕ) (p : Place) → IsNumberOf place keys k p → IsNumberOf later longer k p
  at_stays k p a = record {
    key = a.key;
    there = get_later keys longer k a.key begins a.there;
    is = (kept a.key (are k a.key a.there)).1 ∙ a.is;
  }

  lead_stays : (key row : List ℕ) → IsKey key → Lead place choices keys (place key) row → Lead later choices longer (later key) row
  lead_stays key row is lead i to c e f =
      subst (λ p. IsNumberOf later longer to (place_after p c)) (sym (kept key is).1)
      (at_stays to (place_after (place key) c) (lead i to c e f))

  pub edges_stay : (rows : List (List ℕ)) (n : ℕ) → length rows ≤ n → n ≤ length keys → AreEdges place choices keys rows
      → AreEdges later choices longer rows
  edges_stay rows n few within edges k key row e f =
      let below = slice_get_within rows k row f in
      let old : slice_get keys k ≡ Some key
      = old_at keys begins.0 n k key within (omega (arith, below, few)) (ap (λ ks. slice_get ks k) (sym begins.1) ∙ e) in
      let from = edges k key row old f in
      record { count = from.count; lead = lead_stays key row (are k key old) from.lead }

  -- one edge more
  pub lead_more : (key row more : List ℕ) (to : ℕ) (i : ℕ) → IsKey key → length row ≡ i
      → Lead place choices keys (place key) row
      → ((d : Choice) → slice_get choices i ≡ Some d → IsNumberOf later longer to (place_after (place key) d))
      → more ≡ row ++ to ∷ [] → Lead later choices longer (later key) more
  lead_more key row more to i is count lead now pushed k x d e f =
      elim (get_either row to x k (ap (λ r. slice_get r k) (sym pushed) ∙ e)) [
        | inl old ↦ lead_stays key row is lead k x d old f
        | inr new ↦
            subst (λ p. IsNumberOf later longer x (place_after p d)) (sym (kept key is).1)
            (subst (λ n. IsNumberOf later longer n (place_after (place key) d)) new.1
            (now d (ap (slice_get choices) (sym (new.0 ∙ count)) ∙ f)))
      ]

-- no edge is there yet
pub lead_none : (place : List ℕ → Place) (choices : List Choice) (keys : List (List ℕ)) (p : Place) (row : List ℕ) → row ≡ []
    → Lead place choices keys p row
lead_none place choices keys p row none i to c e f =
    absurd (let w = slice_get_within row i to e in let n = ap (λ (r : List ℕ). length r) none in omega (arith, w, n))

-- no row is there yet
pub edges_none : (place : List ℕ → Place) (choices : List Choice) (keys rows : List (List ℕ)) → rows ≡ []
    → AreEdges place choices keys rows
edges_none place choices keys rows none k key row e f =
    absurd (let w = slice_get_within rows k row f in let n = ap (λ (r : List (List ℕ)). length r) none in omega (arith, w, n))

pub counts_none : (edges : Edges) (rows : List (List ℕ)) → rows ≡ [] → CountsRows edges 0 rows
counts_none Kept rows none = ap (λ (r : List (List ℕ)). length r) none
counts_none NotKept rows none = none

pub counts_few : (edges : Edges) (n : ℕ) (rows : List (List ℕ)) → CountsRows edges n rows → length rows ≤ n
counts_few Kept n rows count = omega (arith, count)
counts_few NotKept n rows none = let no = ap (λ (r : List (List ℕ)). length r) none in omega (arith, no)

-- ---- one row more
edges_pushed : (place : List ℕ → Place) (choices : List Choice) (keys rows : List (List ℕ)) (n : ℕ) (key row : List ℕ)
    → length rows ≡ n → slice_get keys n ≡ Some key → AreEdgesFrom place choices keys (place key) row
    → AreEdges place choices keys rows → AreEdges place choices keys (rows ++ row ∷ [])
edges_pushed place choices keys rows n key row count there from edges k x y e f = elim (get_either rows row y k f) [
  | inl old ↦ edges k x y e old
  | inr new ↦
      let same : key ≡ x = same_at keys n key x there (ap (slice_get keys) (sym (new.0 ∙ count)) ∙ e) in
      subst (λ z. AreEdgesFrom place choices keys (place z) y) same
      (subst (AreEdgesFrom place choices keys (place key)) new.1 from)
]

pub edges_kept : (place : List ℕ → Place) (choices : List Choice) (keys rows more : List (List ℕ)) (n : ℕ) (key row : List ℕ)
    (edges : Edges) → CountsRows edges n rows → slice_get keys n ≡ Some key → AreEdgesFrom place choices keys (place key) row
    → AreEdges place choices keys rows → KeepsRow edges row rows more → AreEdges place choices keys more
edges_kept place choices keys rows more n key row Kept count there from old kept =
    subst (AreEdges place choices keys) (sym kept) (edges_pushed place choices keys rows n key row count there from old)
edges_kept place choices keys rows more n key row NotKept count there from old kept = subst (AreEdges place choices keys) (sym kept) old

pub counts_kept : (edges : Edges) (n : ℕ) (rows more : List (List ℕ)) (row : List ℕ) → CountsRows edges n rows
    → KeepsRow edges row rows more → CountsRows edges (n + 1) more
counts_kept Kept n rows more row count kept =
    ap (λ (r : List (List ℕ)). length r) kept ∙ length-append rows (row ∷ []) ∙ ap (λ m. m + 1) count
counts_kept NotKept n rows more row none kept = kept ∙ none

-- ---- a search that has looked at all places
pub closed_leads : {Z : Type 0} (edges : Edges) (place : List ℕ → Place) (choices : List Choice) (seen : Seen Z) (n : ℕ)
    → CountsRows edges n seen.rows → n ≤ length seen.keys → length seen.keys ≤ n → AreEdges place choices seen.keys seen.rows
    → SearchLeads {Z = Z} edges place choices (Safe seen)
closed_leads Kept place choices seen n count low all are = record { count = omega (arith, count, low, all); edges = are }
closed_leads NotKept place choices seen n none low all are = none

-- each number is that of a key
pub edges_below : (place : List ℕ → Place) (choices : List Choice) (keys rows : List (List ℕ)) → HaveEdges place choices keys rows
    → (k : ℕ) (row : List ℕ) → slice_get rows k ≡ Some row → (i to : ℕ) → slice_get row i ≡ Some to → to < length keys
edges_below place choices keys rows h k row e i to f =
    let within = slice_get_within rows k row e in
    let count = h.count in
    let key = get_there keys k (omega (arith, within, count)) in
    let from = h.edges k key.0 row key.1 e in
    let inside = slice_get_within row i to f in
    let even = from.count in
    let choice = get_there choices i (omega (arith, inside, even)) in
    let at = from.lead i to choice.0 f choice.1 in
    slice_get_within keys to at.key at.there
