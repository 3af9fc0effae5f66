-- How far a search is.
use Rattle.std.specs.Prelude.{◌≡◌, ◌≢◌, ℕ, ◌+◌, ◌<◌, ◌≤◌, Bool, false, List, ◌++◌, Some, length, slice_get}
use Rattle.std.specs.List.{AllPairs, Contains}
use Rattle.machine.specs.declared.choice.Choice.{Choice}
use Rattle.explore_laws.specs.Places.{Place, place_after}
use Rattle.explore_search.specs.declared.seen.Link.{Link}

-- a list goes on as another does, and perhaps further
abbrev pub GoesOn : {X : Type 0} → List X → List X → Type 0
GoesOn {X} xs longer = (more : List X) × (longer ≡ xs ++ more)

-- different keys stand for different places
abbrev pub KeysDiffer : (List ℕ → Type 0) → (List ℕ → Place) → Type 0
KeysDiffer IsKey place = (k l : List ℕ) → IsKey k → IsKey l → place k ≡ place l → k ≡ l

-- a place is that of some key
pub record IsSeen (place : List ℕ → Place) (keys : List (List ℕ)) (p : Place) : Type 0 where
  pub number : ℕ
  pub key : List ℕ
  pub there : slice_get keys number ≡ Some key
  pub is : place key ≡ p

-- key number k is there by a choice from an earlier one
pub record IsReached (place : List ℕ → Place) (choices : List Choice) (keys : List (List ℕ)) (links : List Link) (k : ℕ) : Type 0 where
  pub link : Link
  pub choice : Choice
  pub key : List ℕ
  pub from : List ℕ
  pub there : slice_get links k ≡ Some link
  pub this : slice_get keys k ≡ Some key
  pub earlier : link.from < k
  pub before : slice_get keys link.from ≡ Some from
  pub meant : slice_get choices link.turn ≡ Some choice
  pub is : place key ≡ place_after (place from) choice

-- the keys stand for different places, the first of them for the first place, and each other one
-- for a place that a choice leads to
pub record AreReached (IsKey : List ℕ → Type 0) (place : List ℕ → Place) (start : Place) (choices : List Choice)
    (keys : List (List ℕ)) (links : List Link) : Type 0 where
  pub are : (k : ℕ) (key : List ℕ) → slice_get keys k ≡ Some key → IsKey key
  pub differ : KeysDiffer IsKey place
  pub distinct : AllPairs (λ k l. k ≢ l) keys
  pub first : (key : List ℕ) × (slice_get keys 0 ≡ Some key) × (place key ≡ start)
  pub even : length links ≡ length keys
  pub ways : (k : ℕ) → k + 1 < length keys → IsReached place choices keys links (k + 1)

-- the places of the first n keys aren't bad, and what follows them is seen
pub record AreDone (place : List ℕ → Place) (bad : Place → Bool) (choices : List Choice) (keys : List (List ℕ)) (n : ℕ) : Type 0 where
  pub good : (k : ℕ) (key : List ℕ) → k < n → slice_get keys k ≡ Some key → bad (place key) ≡ false
  pub next : (k : ℕ) (key : List ℕ) (c : Choice) → k < n → slice_get keys k ≡ Some key → Contains choices c
      → IsSeen place keys (place_after (place key) c)

-- a place is that of some key, which was found by a link
pub record IsFound (place : List ℕ → Place) (keys : List (List ℕ)) (links : List Link) (p : Place) : Type 0 where
  pub number : ℕ
  pub key : List ℕ
  pub link : Link
  pub there : slice_get keys number ≡ Some key
  pub found : slice_get links number ≡ Some link
  pub is : place key ≡ p

-- a place is that of some key that was found by no more than so many choices
abbrev pub IsSoon : (List ℕ → Place) → List (List ℕ) → List Link → ℕ → Place → Type 0
IsSoon place keys links most p = (by : IsFound place keys links p) × (by.link.steps ≤ most)

-- keys are found by one choice more than those that they come from, nearer ones first; and while
-- key n is looked at, none by more than one choice more than it
pub record AreRising (links : List Link) (n : ℕ) : Type 0 where
  pub zero_first : (a : Link) → slice_get links 0 ≡ Some a → a.steps ≡ 0
  pub back : (k : ℕ) (a : Link) → slice_get links (k + 1) ≡ Some a → a.from < k + 1
  pub up : (k : ℕ) (a b : Link) → slice_get links (k + 1) ≡ Some a → slice_get links a.from ≡ Some b → a.steps ≡ b.steps + 1
  pub least : (k : ℕ) (a : Link) → slice_get links k ≡ Some a → a.steps ≤ k
  pub rising : (i j : ℕ) (a b : Link) → i ≤ j → slice_get links i ≡ Some a → slice_get links j ≡ Some b → a.steps ≤ b.steps
  pub near : (j : ℕ) (a b : Link) → slice_get links n ≡ Some a → slice_get links j ≡ Some b → b.steps ≤ a.steps + 1

-- what follows one of the first n keys was found by no more than one choice more
abbrev pub AreSoon : (List ℕ → Place) → List Choice → List (List ℕ) → List Link → ℕ → Type 0
AreSoon place choices keys links n = (k : ℕ) (key : List ℕ) (link : Link) (c : Choice) → k < n → slice_get keys k ≡ Some key
    → slice_get links k ≡ Some link → Contains choices c → IsSoon place keys links (link.steps + 1) (place_after (place key) c)
