-- The choices that a cursor has left.
use Rattle.std.specs.Prelude.{◌≡◌, List, [], ◌∷◌, Option, Some, None}
use Rattle.machine.specs.declared.choice.Choice.{Choice}
use Rattle.cmd_trace.specs.Left.{Leaves}
use Rattle.cmd_trace.specs.declared.cursor.Cursor.{Cursor}

-- a cursor has these choices left
abbrev pub Has : Cursor → List Choice → Type 0
Has c left = Leaves c.harts c.text.now c.at c.named left

-- the first of these choices was taken, and a cursor has the others left; or there is none
abbrev pub Takes : Cursor → List Choice → Option Choice → Type 0
Takes c left None = (left ≡ []) × Has c left
Takes c left (Some choice) =
    (more : List Choice) × (left ≡ choice ∷ more) × Has c more
