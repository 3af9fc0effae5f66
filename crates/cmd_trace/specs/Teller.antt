-- The next step of a teller.
use Rattle.std.specs.Prelude.{◌≡◌, ℕ, List, [], ◌∷◌, Option, Some, None, take, drop}
use Rattle.image.specs.Segment.{SegmentValue}
use Rattle.machine.specs.State.{state}
use Rattle.machine.specs.declared.machine.Machine.{Machine}
use Rattle.machine.specs.declared.choice.Choice.{Choice}
use Rattle.trace_steps.specs.Ends.{kept_ends}
use Rattle.trace_steps.specs.Explains.{Followed, explained, follow, followed, followed_run}
use Rattle.trace_steps.specs.declared.ending.Endings.{Endings}
use Rattle.trace_steps.specs.declared.explaining.Explained.{Explained}
use Rattle.cmd_trace.specs.Cursor.{Has}
use Rattle.cmd_trace.specs.declared.cursor.Cursor.{Cursor}

-- where a machine is, with the ends that are kept beside it
abbrev pub place : {Z : Type 0} → Machine (List SegmentValue) Z → Endings → Followed
place m endings = followed (state m) (kept_ends endings)

-- the first of these choices, which has number k, was done and reported, and a cursor has the others; or
-- none is left
abbrev pub TellsNext : Followed → Followed → ℕ → Cursor → List Choice → Option Explained → Type 0
TellsNext old new k cursor left None = (left ≡ []) × (new ≡ old) × Has cursor left
TellsNext old new k cursor left (Some e) =
    (c : Choice) × (more : List Choice) × (left ≡ c ∷ more) × (e ≡ explained old c) × (new ≡ follow old k c) × Has cursor more

-- the first n of these choices, which are numbered from k on, were done, and a cursor has the others
abbrev pub Skips : ℕ → Followed → Followed → ℕ → Cursor → List Choice → Type 0
Skips count old new k cursor left = (new ≡ followed_run old k (take count left)) × Has cursor (drop count left)
