-- The session with GDB that a file, inputs and a choice text begin, and its output.
use Rattle.std.specs.Prelude.{ℕ, List, [], Option, Ok, Err, None, true, false}
use Rattle.debug_session.specs.Session.{Session}
use Rattle.cmd_debug.specs.Opening.{Opening}
use Rattle.gdb_frames.specs.Items.{frames_of}
use Rattle.gdb_session.specs.Talk.{TalkValue}
use Rattle.gdb_session.specs.declared.selected.Selected.TheVariants.{Any}
use Rattle.cmd_gdb.specs.Serving.{standing, BeginsServed, Served, ServerState}

-- before the first packet: no breakpoint and no watch, no hart chosen, and packets are acknowledged
abbrev pub first_talk : Session → TalkValue
first_talk s = record {
  session = s;
  points = record { software = []; hardware = []; watches = [] };
  reads = Any;
  moves = Any;
  stop = None;
  alone = None;
  acknowledges = true;
  software_stops = false;
}

-- nothing was sent before
abbrev pub first_standing : Session → ServerState
first_standing s = standing (first_talk s) []

-- what is sent for the packets of an input was appended
abbrev pub ServesOpened : Opening → List ℕ → Option (List ℕ) → Option (List ℕ) → Type 0
ServesOpened (Ok s) input old new = Served (first_standing s) (frames_of input) old new
ServesOpened (Err why) input old new = ⊥

-- a beginning of it was appended
abbrev pub BeginsOpened : Opening → List ℕ → Option (List ℕ) → Option (List ℕ) → Type 0
BeginsOpened (Ok s) input old new = BeginsServed (first_standing s) (frames_of input) old new
BeginsOpened (Err why) input old new = ⊥
