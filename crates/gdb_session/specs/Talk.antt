-- The state of a session with GDB.
use Rattle.std.specs.Prelude.{ℕ, Bool, List, length, Option, option_map}
use Rattle.hart_step.specs.Hart.{HartValue}
use Rattle.machine.specs.World.{World}
use Rattle.debug_session.specs.Session.{Session, session, world_at}
use Rattle.gdb_moves.specs.After.{Alone, alone_of}
use Rattle.gdb_moves.specs.Points.{Marked, marked}
use Rattle.gdb_moves.specs.declared.alone_steps.AloneSteps.{AloneSteps}
use Rattle.gdb_replies.specs.declared.stop.Stop.{Stop}
use Rattle.gdb_session.specs.declared.selected.Selected.{Selected}
use Rattle.gdb_session.specs.declared.talk.Talk.{Talk}

-- the run and the position in it, breakpoints and watches, the harts of `Hg` and of `Hc`, the last
-- stop, the steps alone before it, whether packets are acknowledged, and whether GDB has announced
-- `swbreak`
pub record TalkValue : Type 0 where
  pub session : Session
  pub points : Marked
  pub reads : Selected
  pub moves : Selected
  pub stop : Option Stop
  pub alone : Option Alone
  pub acknowledges : Bool
  pub software_stops : Bool

-- the steps alone of the code as contracts see them, if any are kept
abbrev pub kept_of : {Z : Type 0} → Option (AloneSteps Z) → Option Alone
kept_of kept = option_map alone_of kept

-- the state of the code as contracts see it
abbrev pub talk_of : {Z : Type 0} → Talk Z → TalkValue
talk_of t = record {
  session = session t.debugger;
  points = marked t.points;
  reads = t.reads;
  moves = t.moves;
  stop = t.stop;
  alone = kept_of t.alone;
  acknowledges = t.acknowledges;
  software_stops = t.software_stops;
}

-- what GDB sees: the world of the run at the position
abbrev pub world_seen : TalkValue → World
world_seen t = world_at t.session t.session.position

-- the harts that GDB sees, and their number
abbrev pub harts_seen : TalkValue → List HartValue
harts_seen t = (world_seen t).harts

abbrev pub hart_count : TalkValue → ℕ
hart_count t = length (harts_seen t)
