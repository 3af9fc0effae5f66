-- Where choices lead, by the numbers of keys.
use Rattle.std.specs.Prelude.{◌≡◌, ℕ, List, [], Some, length, slice_get}
use Rattle.machine.specs.declared.choice.Choice.{Choice}
use Rattle.explore_laws.specs.Places.{Place, place_after}
use Rattle.explore_search.specs.declared.edges.Edges.{Edges}
use Rattle.explore_search.specs.declared.edges.Edges.TheVariants.{Kept, NotKept}
use Rattle.explore_search.specs.declared.searching.Found.{Found}
use Rattle.explore_search.specs.declared.searching.Found.TheVariants.{Safe, Bad, Undecided}

-- key number k stands for a place
pub record IsNumberOf (place : List ℕ → Place) (keys : List (List ℕ)) (k : ℕ) (p : Place) : Type 0 where
  pub key : List ℕ
  pub there : slice_get keys k ≡ Some key
  pub is : place key ≡ p

-- number i of a row is that of the key of the place that choice i leads to
abbrev pub Lead : (List ℕ → Place) → List Choice → List (List ℕ) → Place → List ℕ → Type 0
Lead place choices keys p row = (i to : ℕ) (c : Choice) → slice_get row i ≡ Some to → slice_get choices i ≡ Some c
    → IsNumberOf place keys to (place_after p c)

-- a row has such a number for each choice
pub record AreEdgesFrom (place : List ℕ → Place) (choices : List Choice) (keys : List (List ℕ)) (p : Place)
    (row : List ℕ) : Type 0 where
  pub count : length row ≡ length choices
  pub lead : Lead place choices keys p row

-- row number k is that of the place of key number k, of the rows that are there
abbrev pub AreEdges : (List ℕ → Place) → List Choice → List (List ℕ) → List (List ℕ) → Type 0
AreEdges place choices keys rows = (k : ℕ) (key row : List ℕ) → slice_get keys k ≡ Some key
    → slice_get rows k ≡ Some row → AreEdgesFrom place choices keys (place key) row

-- each key has its row
pub record HaveEdges (place : List ℕ → Place) (choices : List Choice) (keys rows : List (List ℕ)) : Type 0 where
  pub count : length rows ≡ length keys
  pub edges : AreEdges place choices keys rows

-- so has each key of a search that has looked at all places, if rows are kept; else there is none
abbrev pub SearchLeads : {Z : Type 0} → Edges → (List ℕ → Place) → List Choice → Found Z → Type 0
SearchLeads Kept place choices (Safe seen) = HaveEdges place choices seen.keys seen.rows
SearchLeads NotKept place choices (Safe seen) = seen.rows ≡ []
SearchLeads edges place choices (Bad list) = Unit {0}
SearchLeads edges place choices Undecided = Unit {0}
