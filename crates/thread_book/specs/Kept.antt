-- The invariant of each book's fields.
use Rattle.std.specs.Prelude.{◌≡◌, ℕ, List}
use Rattle.image.specs.Image.{ImageValue}
use Rattle.image.specs.Segment.{SegmentValue}
use Rattle.mem_store.specs.Image.{segments_memory, image_memory}
use Rattle.hart_local.specs.CodeMemory.{code_in, code_segments}
use Rattle.machine.specs.World.{World}
use Rattle.history.specs.declared.entry.Entry.{Entry}
use Rattle.thread_book.specs.Book.{IsSoundBook, replayed}

-- the book is sound, the world is the replay of the history, and the code that of the image
pub record IsBookKept (image : ImageValue) (inputs : List ℕ) (history : List Entry) (code : List SegmentValue) (world : World) : Type 0 where
  pub sound : IsSoundBook (record { image = image; inputs = inputs; history = history })
  pub replay : world ≡ replayed image inputs history
  pub code_is : code ≡ code_segments image
  pub memory : segments_memory code ≡ code_in (image_memory image)
