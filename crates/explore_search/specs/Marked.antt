-- Marks of keys, and which places have a way out by them.
use Rattle.std.specs.Prelude.{
  ◌≡◌,
  ℕ,
  suc,
  ◌<◌,
  Bool,
  true,
  false,
  List,
  [],
  ◌∷◌,
  Option,
  Some,
  None,
  length,
  slice_get,
  slice_set,
  Vec,
}
use Rattle.std.specs.List.{All, Contains}
use Rattle.machine.specs.declared.choice.Choice.{Choice}
use Rattle.explore_laws.specs.Places.{Place, place_after, place_reached}
use Rattle.explore_laws.specs.WaysOut.{HasWayOut, HaveWaysOut}
use Rattle.explore_search.specs.Searched.{IsSeen, AreReached, AreRising, AreSoon}
use Rattle.explore_search.specs.declared.seen.Link.{Link}
use Rattle.explore_search.specs.declared.searching.Found.{Found}
use Rattle.explore_search.specs.declared.searching.Found.TheVariants.{Safe, Bad, Undecided}

-- what follows the keys' places is seen
abbrev pub AreClosed : (List ℕ → Place) → List Choice → List (List ℕ) → Type 0
AreClosed place choices keys =
    (k : ℕ) (key : List ℕ) (c : Choice) → slice_get keys k ≡ Some key → Contains choices c
    → IsSeen place keys (place_after (place key) c)

-- the keys are those of all places, nearer ones first
pub record AreAllSeen (IsKey : List ℕ → Type 0) (place : List ℕ → Place) (start : Place)
    (choices : List Choice) (keys : List (List ℕ)) (links : List Link) : Type 0 where
  pub reached : AreReached IsKey place start choices keys links
  pub closed : AreClosed place choices keys
  pub rising : (n : ℕ) × AreRising links n
  pub soon : AreSoon place choices keys links (length keys)

-- so are those of a search that has looked at all places
abbrev pub SearchSees : {Z : Type 0} → (List ℕ → Type 0) → (List ℕ → Place) → List Choice → Place
    → Found Z → Type 0
SearchSees IsKey place choices first (Safe seen) =
    AreAllSeen IsKey place first choices seen.keys seen.links.items
SearchSees IsKey place choices first (Bad list) = Unit {0}
SearchSees IsKey place choices first Undecided = Unit {0}

-- a place is that of some key with this mark
pub record IsMarked (place : List ℕ → Place) (keys : List (List ℕ)) (marks : List Bool)
    (mark : Bool) (p : Place) : Type 0 where
  pub number : ℕ
  pub key : List ℕ
  pub there : slice_get keys number ≡ Some key
  pub is : place key ≡ p
  pub mark_is : slice_get marks number ≡ Some mark

-- each number of a row is below n
abbrev pub AreBelow : ℕ → List ℕ → Type 0
AreBelow n row = (i to : ℕ) → slice_get row i ≡ Some to → to < n

-- so are those of all rows
abbrev pub AllBelow : ℕ → List (List ℕ) → Type 0
AllBelow n rows = (k : ℕ) (row : List ℕ) → slice_get rows k ≡ Some row → AreBelow n row

-- a row leads to some marked key, or to none
abbrev pub LeadsToMarked : List ℕ → List Bool → Bool → Type 0
LeadsToMarked row marks true =
    (i : ℕ) × (to : ℕ) × (slice_get row i ≡ Some to) × (slice_get marks to ≡ Some true)
LeadsToMarked row marks false =
    (i to : ℕ) → slice_get row i ≡ Some to → slice_get marks to ≡ Some false

-- the keys' marks, one for each, tell which places have ended
abbrev pub MarkEnded : (List ℕ → Place) → (Place → Bool) → List (List ℕ) → List Bool → Type 0
MarkEnded place ended keys marks =
    (k : ℕ) (key : List ℕ) → slice_get keys k ≡ Some key
    → slice_get marks k ≡ Some (ended (place key))

-- marked places have a way out
abbrev pub HaveMarkedWaysOut : List Choice → (Place → Bool) → (List ℕ → Place) → List (List ℕ)
    → List Bool → Type 0
HaveMarkedWaysOut choices ended place keys marks =
    (k : ℕ) (key : List ℕ) → slice_get keys k ≡ Some key → slice_get marks k ≡ Some true
    → HasWayOut choices ended (place key)

-- no row of a key that isn't marked leads to one that is; of the keys from number n on
abbrev pub AreShut : List (List ℕ) → List Bool → ℕ → Type 0
AreShut rows marks n =
    (k : ℕ) (row : List ℕ) → n < suc k → slice_get rows k ≡ Some row
    → slice_get marks k ≡ Some false → LeadsToMarked row marks false

-- what was marked stays marked
abbrev pub MarksStay : List Bool → List Bool → Type 0
MarksStay marks more = (k : ℕ) → slice_get marks k ≡ Some true → slice_get more k ≡ Some true

-- how many marks are missing
unfoldable pub marks_missing : List Bool → ℕ
marks_missing [] = 0
marks_missing (true ∷ marks) = marks_missing marks
marks_missing (false ∷ marks) = suc (marks_missing marks)

-- a key was marked, since its row leads to a marked one; or it was before, or the row doesn't
abbrev pub MarksOne : List ℕ → List Bool → List Bool → ℕ → Bool → Type 0
MarksOne row marks more number true =
    (slice_get marks number ≡ Some false) × (more ≡ slice_set marks number true)
    × LeadsToMarked row marks true
MarksOne row marks more number false =
    (more ≡ marks) × (slice_get marks number ≡ Some false → LeadsToMarked row marks false)

-- keys were marked, or nothing is left to be marked among those from number n on
abbrev pub MarksMore : List (List ℕ) → List Bool → List Bool → ℕ → Bool → Type 0
MarksMore rows marks more n true = marks_missing more < marks_missing marks
MarksMore rows marks more n false = (more ≡ marks) × AreShut rows marks n

-- a list of meant choices leads to a place that has no way out, and each shorter one to a place
-- that has one
pub record LeadsToStuck (choices : List Choice) (first : Place) (ended : Place → Bool)
    (list : List Choice) : Type 0 where
  pub meant : All (Contains choices) list
  pub stuck : HasWayOut choices ended (place_reached first list) → ⊥
  pub nearest : (other : List Choice) → All (Contains choices) other → length other < length list
      → HasWayOut choices ended (place_reached first other)

-- a search for a place without a way out is right: there is none, or this list leads to one, and no
-- shorter one
abbrev pub AnswersStuck : {Z : Type 0} → List Choice → Place → (Place → Bool)
    → Option (Vec Choice Z) → Type 0
AnswersStuck choices first ended None = HaveWaysOut choices first ended
AnswersStuck choices first ended (Some list) = LeadsToStuck choices first ended list.items
