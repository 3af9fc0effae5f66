-- Numbers of keys that are raised by where turns lead.
use Rattle.std.specs.Prelude.{
  ◌≡◌,
  ℕ,
  suc,
  ◌+◌,
  ◌-◌,
  ◌*◌,
  ◌<◌,
  ◌≤◌,
  ◌^◌,
  ◌⊎◌,
  ◌==◌,
  Bool,
  true,
  false,
  if◌then◌else◌,
  List,
  [],
  ◌∷◌,
  Some,
  length,
  min,
  slice_get,
  slice_set,
}
use Rattle.machine.specs.declared.choice.Choice.{Choice}
use Rattle.explore_laws.specs.Places.{Place}
use Rattle.explore_laws.specs.OwnSteps.{HasPath}
use Rattle.explore_bounds.specs.Rounds.{GoRound}

-- how many of a turn's steps are those of hart h: those of the turn's hart, or none
abbrev pub own_in : ℕ → ℕ → ℕ → ℕ
own_in hart h steps = if hart == h then steps else 0

-- the steps of a turn and those behind it, as far as a number goes
abbrev pub raised_by : ℕ → ℕ → ℕ
raised_by own behind = min (own + behind) (2 ^ 64 - 1)

-- each row has so many numbers
abbrev pub AreWide : ℕ → List (List ℕ) → Type 0
AreWide n rows = (k : ℕ) (row : List ℕ) → slice_get rows k ≡ Some row → length row ≡ n

-- no number of any row is larger than n
abbrev pub AllAtMost : ℕ → List (List ℕ) → Type 0
AllAtMost n rows = (k i s : ℕ) (row : List ℕ) → slice_get rows k ≡ Some row → slice_get row i ≡ Some s → s ≤ n

-- some number is over a limit, or none
abbrev pub HasOver : ℕ → List ℕ → Bool → Type 0
HasOver limit numbers true = (k : ℕ) × (n : ℕ) × (slice_get numbers k ≡ Some n) × (limit < n)
HasOver limit numbers false = (k n : ℕ) → slice_get numbers k ≡ Some n → n ≤ limit

-- meant turns from a place in which hart h takes n steps or more
pub record HasPathOf (meant : List Choice) (h : ℕ) (p : Place) (n : ℕ) : Type 0 where
  pub steps : ℕ
  pub path : HasPath meant h p steps
  pub enough : n ≤ steps

-- each key's place has such turns for its number
abbrev pub AreTaken : List Choice → ℕ → (List ℕ → Place) → List (List ℕ) → List ℕ → Type 0
AreTaken meant h place keys numbers =
    (k : ℕ) (key : List ℕ) (n : ℕ) → slice_get keys k ≡ Some key → slice_get numbers k ≡ Some n
    → HasPathOf meant h (place key) n

-- how much numbers can still grow
unfoldable pub room : ℕ → List ℕ → ℕ
room top [] = 0
room top (n ∷ numbers) = (top - n) + room top numbers

-- a number was raised, or it is large enough
abbrev pub RaisesTo : List ℕ → List ℕ → ℕ → ℕ → Bool → Type 0
RaisesTo numbers more number most true =
    ((n : ℕ) → slice_get numbers number ≡ Some n → n < most) × (more ≡ slice_set numbers number most)
RaisesTo numbers more number most false =
    (more ≡ numbers) × ((n : ℕ) → slice_get numbers number ≡ Some n → most ≤ n)

-- a key's number is no less than the steps in each of the first m turns and behind it
abbrev pub IsSettled : List Choice → ℕ → List ℕ → List ℕ → List ℕ → ℕ → ℕ → Type 0
IsSettled turns h row steps numbers number m =
    (i to s t n : ℕ) (c : Choice) → i < m → slice_get turns i ≡ Some c → slice_get row i ≡ Some to
    → slice_get steps i ≡ Some s → slice_get numbers to ≡ Some t → slice_get numbers number ≡ Some n
    → raised_by (own_in c.hart h s) t ≤ n

-- a key's number was raised by some of the first m turns, or by none
abbrev pub RaisesOne : List Choice → ℕ → List ℕ → List ℕ → List ℕ → List ℕ → ℕ → ℕ → Bool → Type 0
RaisesOne turns h row steps numbers more number m true = room (2 ^ 64 - 1) more < room (2 ^ 64 - 1) numbers
RaisesOne turns h row steps numbers more number m false =
    (more ≡ numbers) × IsSettled turns h row steps numbers number m

-- the numbers of the keys from number n on are settled
abbrev pub AreSettled : List Choice → ℕ → List (List ℕ) → List (List ℕ) → List ℕ → ℕ → Type 0
AreSettled turns h rows steps numbers n =
    (k : ℕ) (row own : List ℕ) → n < suc k → slice_get rows k ≡ Some row → slice_get steps k ≡ Some own
    → IsSettled turns h row own numbers k (length row)

-- numbers were raised, or those of the keys from number n on are settled
abbrev pub RaisesAll : List Choice → ℕ → List (List ℕ) → List (List ℕ) → List ℕ → List ℕ → ℕ → Bool → Type 0
RaisesAll turns h rows steps numbers more n true = room (2 ^ 64 - 1) more < room (2 ^ 64 - 1) numbers
RaisesAll turns h rows steps numbers more n false =
    (more ≡ numbers) × AreSettled turns h rows steps numbers n

-- all numbers are settled and none is over a limit, or one is, or turns go round
abbrev pub EndsRaising : List Choice → ℕ → List (List ℕ) → List (List ℕ) → ℕ → List ℕ → Bool → Type 0
EndsRaising turns h rows steps limit numbers true =
    AreSettled turns h rows steps numbers 0 × HasOver limit numbers false
EndsRaising turns h rows steps limit numbers false = HasOver limit numbers true ⊎ GoRound turns h rows steps

-- no more than a limit is taken by as many turns as there are rows, each of which takes no more than
-- some number of the rows
abbrev pub IsLimit : List (List ℕ) → ℕ → Type 0
IsLimit steps limit = (u : ℕ) × AllAtMost u steps × (length steps * u ≤ limit) × (limit < 2 ^ 64 - 1)
