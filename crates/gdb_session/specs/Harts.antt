-- The harts of GDB's threads: GDB's manual, "Remote Serial Protocol", "Packets".
use Rattle.std.specs.Prelude.{ℕ, zero, suc, ◌<◌, ⊤, nat_lt, Option, Some, None, option_map, if◌then◌else◌}
use Rattle.gdb_requests.specs.declared.request.Threads.{Threads}
use Rattle.gdb_requests.specs.declared.request.Threads.TheVariants as threads
use Rattle.gdb_replies.specs.declared.stop.Stop.{Stop}
use Rattle.gdb_session.specs.declared.selected.Selected.{Selected}
use Rattle.gdb_session.specs.declared.selected.Selected.TheVariants.{All, Any, One}
use Rattle.gdb_session.specs.Talk.{TalkValue, hart_count}

-- the hart of a thread among so many harts: thread h + 1 is hart h
abbrev pub hart_of_thread : ℕ → ℕ → Option ℕ
hart_of_thread harts zero = None
hart_of_thread harts (suc hart) = if nat_lt hart harts then Some hart else None

-- the harts of threads; none if there is no such thread
abbrev pub selected_harts : ℕ → Threads → Option Selected
selected_harts harts threads.All = Some All
selected_harts harts threads.Any = Some Any
selected_harts harts (threads.One thread) = option_map One (hart_of_thread harts thread)

-- the hart of the last stop; hart 0 before any
abbrev pub stopped_hart : Option Stop → ℕ
stopped_hart None = 0
stopped_hart (Some stop) = stop.hart

-- the hart that `Hg` chose; that of the last stop if it chose any or all
abbrev pub selected_or : ℕ → Selected → ℕ
selected_or other (One hart) = hart
selected_or other Any = other
selected_or other All = other

-- the hart that is read
abbrev pub hart_read : TalkValue → ℕ
hart_read t = selected_or (stopped_hart t.stop) t.reads

-- chosen harts are among so many
abbrev pub AreAmong : ℕ → Selected → Type 0
AreAmong harts (One hart) = hart < harts
AreAmong harts Any = ⊤
AreAmong harts All = ⊤

-- the harts of `Hg`, of `Hc` and of the last stop are there
abbrev pub ChosenAreThere : TalkValue → Type 0
ChosenAreThere t = AreAmong (hart_count t) t.reads × AreAmong (hart_count t) t.moves
    × (stopped_hart t.stop < hart_count t)
