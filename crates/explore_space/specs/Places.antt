-- The place that a key stands for: words that tell a hart's number and whether it was chosen, and
-- the number of what harts share.
use Rattle.std.specs.Prelude.{◌≡◌, ◌≢◌, ℕ, ◌+◌, ◌/◌, ◌%◌, ◌<◌, ◌==◌, Bool, List, [], Option, Some, None, take, map, length, slice_get, slice_index}
use Rattle.std.specs.List.{All, AllPairs}
use Rattle.image.specs.Image.{ImageValue}
use Rattle.mem_store.specs.Memory.{Memory}
use Rattle.mem_store.specs.Image.{image_memory}
use Rattle.hart_reservations.specs.Marks.{Marks, mark_at, word_of}
use Rattle.hart_step.specs.Hart.{HartValue, hart_of}
use Rattle.hart_step.specs.Laws.{Keeps, IsAligned}
use Rattle.hart_step.specs.declared.hart.Hart.{Hart}
use Rattle.hart_step.specs.declared.hart.HartState.TheVariants.{Running}
use Rattle.machine.specs.World.{World, step}
use Rattle.machine.specs.declared.choice.Choice.{Choice}
use Rattle.bank_laws.specs.Banks.{WordBytes}
use Rattle.bank_laws.specs.Words.{bytes_at}
use Rattle.explore_sites.specs.Cells.{AreCanonical, words_shown, WordsDiffer}
use Rattle.explore_sites.specs.declared.cell.Cell.{Cell}
use Rattle.explore_laws.specs.OwnSteps.{steps_in_turn}
use Rattle.explore_laws.specs.Places.{Place}
use Rattle.explore_laws.specs.Settling.{world_settled}
use Rattle.explore_space.specs.Habits.{Habits, stride_by_habit}
use Rattle.explore_space.specs.declared.shared.Shared.{Shared}

-- the hart of a number
abbrev pub hart_in : Option Hart → HartValue
hart_in None = record { registers = λ _. 0; pc = 0; state = Running }
hart_in (Some h) = hart_of h

abbrev pub hart_numbered : List Hart → ℕ → HartValue
hart_numbered harts id = hart_in (slice_get harts id)

-- the hart of a word of a key: the kept hart whose number is half of it
abbrev pub hart_worded : List Hart → ℕ → HartValue
hart_worded harts word = hart_numbered harts (word / 2)

-- and whether it was chosen: such a word is odd
abbrev pub chosen_worded : ℕ → Bool
chosen_worded word = word % 2 == 1

-- whether hart k was chosen by a key of n harts; none past these was
abbrev pub chosen_by_key : ℕ → List ℕ → ℕ → Bool
chosen_by_key n key k = chosen_worded (slice_index (take n key) k)

-- the cells and the reservations of a number
abbrev pub cells_in : {Z : Type 0} → Option (Shared Z) → List Cell
cells_in None = []
cells_in (Some s) = s.cells.items

abbrev pub marks_in : {Z : Type 0} → Option (Shared Z) → Marks
marks_in None = λ _. None
marks_in (Some s) = mark_at s.marks

-- a memory with the rights of another, in which words stand
unfoldable pub memory_over : Memory → (ℕ → WordBytes) → Memory
memory_over m values = record { rights = m.rights; bytes = λ y. slice_index (values (word_of y)) (y % 4) }

-- the world of a key of n harts
abbrev pub world_of_key : {Z : Type 0} → ImageValue → ℕ → List Hart → List (Shared Z) → List ℕ → World
world_of_key image n harts shareds key = record {
  harts = map (hart_worded harts) (take n key);
  memory = memory_over (image_memory image) (words_shown image (cells_in (slice_get shareds (slice_index key n))));
  reserved = marks_in (slice_get shareds (slice_index key n));
}

-- its place
abbrev pub place_of_key : {Z : Type 0} → Habits → ImageValue → ℕ → List Hart → List (Shared Z) → List ℕ → Place
place_of_key habits image n harts shareds key = record {
  stride = stride_by_habit habits;
  world = world_of_key image n harts shareds key;
  chosen = chosen_by_key n key;
}

-- kept harts differ
abbrev pub HartsDiffer : List Hart → Type 0
HartsDiffer harts = AllPairs (λ a b. hart_of a ≢ hart_of b) harts

-- what harts share isn't the same in two parts: reservations differ, or some word
abbrev pub AreUnlike : {Z : Type 0} → ImageValue → Shared Z → Shared Z → Type 0
AreUnlike image a b =
    mark_at a.marks ≡ mark_at b.marks → WordsDiffer (words_shown image a.cells.items) (words_shown image b.cells.items)

-- kept parts that harts share differ, and their cells are canonical
abbrev pub SharedsDiffer : {Z : Type 0} → ImageValue → List (Shared Z) → Type 0
SharedsDiffer {Z} image shareds = AllPairs (AreUnlike image) shareds
    × ((k : ℕ) (s : Shared Z) → slice_get shareds k ≡ Some s → AreCanonical image s.cells.items)

-- each hart is kept once, and so is what they share
abbrev pub KeptOnce : {Z : Type 0} → ImageValue → List Hart → List (Shared Z) → Type 0
KeptOnce image harts shareds = HartsDiffer harts × SharedsDiffer image shareds

-- a row of words is a key
pub record IsKey {Z : Type 0} (image : ImageValue) (n : ℕ) (known : List Hart) (shareds : List (Shared Z)) (key : List ℕ) : Type 0 where
  pub len : length key ≡ n + 1
  pub harts : (k word : ℕ) → slice_get (take n key) k ≡ Some word → word / 2 < length known
  pub shared : slice_index key n < length shareds
  pub once : KeptOnce image known shareds
  pub keeps : Keeps (image_memory image) (world_of_key image n known shareds key).memory
  pub words : (x : ℕ) → x % 4 ≡ 0 → words_shown image (cells_in (slice_get shareds (slice_index key n))) x
      ≡ bytes_at (world_of_key image n known shareds key).memory.bytes x
  pub aligned : All IsAligned (world_of_key image n known shareds key).harts

-- a row of words is the key of a place
abbrev pub IsKeyOf : {Z : Type 0} → Habits → ImageValue → ℕ → List Hart → List (Shared Z) → List ℕ → Place → Type 0
IsKeyOf habits image n harts shareds key p =
    IsKey image n harts shareds key × (place_of_key habits image n harts shareds key ≡ p)

-- keys stay the keys of their places where more is known
abbrev pub KeysStay : {Z : Type 0} → Habits → ImageValue → ℕ → List Hart → List (Shared Z) → List Hart → List (Shared Z) → Type 0
KeysStay habits image n harts shareds more_harts more_shareds = (k : List ℕ) → IsKey image n harts shareds k
    → IsKeyOf habits image n more_harts more_shareds k (place_of_key habits image n harts shareds k)

-- hart h of a world is this one, and the words and reservations there are these
pub record ShowsThem (image : ImageValue) (w : World) (h : ℕ) (v : HartValue) (values : ℕ → WordBytes) (marks : Marks) : Type 0 where
  pub there : slice_get w.harts h ≡ Some v
  pub aligned : IsAligned v
  pub keeps : Keeps (image_memory image) w.memory
  pub words : (x : ℕ) → x % 4 ≡ 0 → values x ≡ bytes_at w.memory.bytes x
  pub reserved : marks ≡ w.reserved

-- the same by what it shares
abbrev pub ShowsHart : {Z : Type 0} → ImageValue → World → ℕ → HartValue → Shared Z → Type 0
ShowsHart image w h v shared = ShowsThem image w h v (words_shown image shared.cells.items) (mark_at shared.marks)

-- the same by numbers of parts
abbrev pub ShowsParts : {Z : Type 0} → ImageValue → World → ℕ → List Hart → List (Shared Z) → ℕ → ℕ → Type 0
ShowsParts image w h harts shareds hart shared =
    ShowsThem image w h (hart_numbered harts hart) (words_shown image (cells_in (slice_get shareds shared))) (marks_in (slice_get shareds shared))

-- the world one turn further
abbrev pub world_turned : Habits → World → Choice → World
world_turned habits w c = world_settled (stride_by_habit habits) (step w c) c.hart

-- a turn leads from a hart and what it shares to others, and the hart takes so many steps in it
pub record Turns (habits : Habits) (image : ImageValue) (c : Choice) (v new_v : HartValue) (values new_values : ℕ → WordBytes)
    (marks new_marks : Marks) (steps : ℕ) : Type 0 where
  pub leads : (w : World) → ShowsThem image w c.hart v values marks → ShowsThem image (world_turned habits w c) c.hart new_v new_values new_marks
  pub counts : (w : World) → ShowsThem image w c.hart v values marks → steps ≡ steps_in_turn (stride_by_habit habits) w c.hart c

-- the same by numbers of parts
abbrev pub PartsTurn : {Z : Type 0} → Habits → ImageValue → Choice → List Hart → List (Shared Z) → ℕ → ℕ
    → List Hart → List (Shared Z) → ℕ → ℕ → ℕ → Type 0
PartsTurn habits image c harts shareds hart shared more_harts more_shareds new_hart new_shared steps =
    Turns habits image c (hart_numbered harts hart) (hart_numbered more_harts new_hart)
    (words_shown image (cells_in (slice_get shareds shared))) (words_shown image (cells_in (slice_get more_shareds new_shared)))
    (marks_in (slice_get shareds shared)) (marks_in (slice_get more_shareds new_shared)) steps
