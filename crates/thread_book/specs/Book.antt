-- A book, and the world that follows from it.
use Rattle.std.specs.Prelude.{ℕ, ◌<◌, List, length, Option, slice_get}
use Rattle.std.specs.List.{All}
use Rattle.image.specs.Image.{ImageValue, IsSound}
use Rattle.image.specs.Segment.{SegmentValue}
use Rattle.hart_step.specs.Hart.{HartValue}
use Rattle.hart_local.specs.CodeMemory.{code_segments}
use Rattle.machine.specs.World.{World, run}
use Rattle.machine.specs.Start.{IsStartable, started}
use Rattle.history.specs.declared.entry.Entry.{Entry}
use Rattle.history.specs.History.{expanded}

-- the program, the harts' inputs, and the history
pub record BookValue : Type 0 where
  pub image : ImageValue
  pub inputs : List ℕ
  pub history : List Entry

-- the image is sound, a machine takes the inputs, and each entry is of one of their harts
pub record IsSoundBook (b : BookValue) : Type 0 where
  pub image : IsSound b.image.entry b.image.segments
  pub inputs : IsStartable b.inputs
  pub entries : All (λ e. e.hart < length b.inputs) b.history

-- the world after a history: the run of the choices that it stands for
unfoldable pub replayed : ImageValue → List ℕ → List Entry → World
replayed image inputs history = run (started image inputs) (expanded history)

-- the world of a book is the replay of its history
abbrev pub world_of : BookValue → World
world_of b = replayed b.image b.inputs b.history

-- a hart of the book's world, if it exists
abbrev pub hart_in_book : BookValue → ℕ → Option HartValue
hart_in_book b h = slice_get (world_of b).harts h

-- the code of the book's program
abbrev pub book_code : BookValue → List SegmentValue
book_code b = code_segments b.image
