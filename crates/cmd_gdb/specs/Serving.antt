-- What is sent for the packets and acknowledgments of an input: GDB's manual, "Remote Serial
-- Protocol", "Overview" and "Packet Acknowledgment".
use Rattle.std.specs.Prelude.{◌≡◌, ℕ, List, [], ◌∷◌, ◌++◌, take, Option, Some, None, if◌then◌else◌}
use Rattle.std.specs.Io.KnownBytes.{Appends}
use Rattle.gdb_frames.specs.Frames.{framed}
use Rattle.gdb_frames.specs.Items.{FrameItem}
use Rattle.gdb_replies.specs.Fixed.{fixed_text}
use Rattle.gdb_replies.specs.declared.fixed.FixedReply.TheVariants.{BadChecksum}
use Rattle.gdb_session.specs.Talk.{TalkValue, talk_of}
use Rattle.gdb_session.specs.declared.answer.Next.{Next}
use Rattle.gdb_session.specs.declared.answer.Next.TheVariants as next
use Rattle.cmd_gdb.specs.Answers.{AnswersPacket}
use Rattle.cmd_gdb.specs.declared.server.Server.{Server}
use Rattle.cmd_gdb.specs.declared.server.Turn.{Turn}
use Rattle.cmd_gdb.specs.declared.server.Turn.TheVariants as turn

-- the state of a session, and the packet that was sent last
pub record ServerState : Type 0 where
  pub talk : TalkValue
  pub last : List ℕ

abbrev pub standing : TalkValue → List ℕ → ServerState
standing t last = record { talk = t; last = last }

-- the state of the code as contracts see it
abbrev pub standing_of : {Z : Type 0} → Server Z → ServerState
standing_of s = standing (talk_of s.talk) s.last.items

-- what is sent while packets are acknowledged, and what is sent after that
abbrev pub while_acks : TalkValue → List ℕ → List ℕ → List ℕ
while_acks t first second = if t.acknowledges then first else second

-- `+` for a packet whose checksum is right, while packets are acknowledged
abbrev pub acknowledgment : TalkValue → List ℕ
acknowledgment t = while_acks t (43 ∷ []) []

-- `-` for one whose checksum is wrong; E02 once packets aren't acknowledged
abbrev pub complaint : TalkValue → List ℕ
complaint t = while_acks t (45 ∷ []) (framed (fixed_text BadChecksum))

-- the packet of an answer; `k` has none
unfoldable pub packet_sent : Next → List ℕ → List ℕ
packet_sent next.Killed text = []
packet_sent next.Answered text = framed text
packet_sent next.Move text = framed text
packet_sent next.Detached text = framed text

-- the session goes on, unless it ends with this packet
unfoldable pub after_next : Next → ServerState → Option ServerState
after_next next.Answered s = Some s
after_next next.Move s = Some s
after_next next.Detached s = None
after_next next.Killed s = None

-- a packet is acknowledged and then answered
pub record AnswersWhole (s : ServerState) (body sent : List ℕ) (after : Option ServerState)
    : Type 0 where
  pub text : List ℕ
  pub come : Next
  pub talk : TalkValue
  pub answers : AnswersPacket s.talk body text come talk
  pub is_sent : sent ≡ acknowledgment s.talk ++ packet_sent come text
  pub is_after : after ≡ after_next come (standing talk (framed text))

-- these bytes are sent for an item, and the session goes on from this state, or ends
abbrev pub Reacts : ServerState → FrameItem → List ℕ → Option ServerState → Type 0
Reacts s (FrameItem.whole body) sent after = AnswersWhole s body sent after
Reacts s FrameItem.spoiled sent after = (sent ≡ complaint s.talk) × (after ≡ Some s)
Reacts s FrameItem.ack sent after = (sent ≡ []) × (after ≡ Some s)
Reacts s FrameItem.again sent after = (sent ≡ while_acks s.talk s.last []) × (after ≡ Some s)

-- these bytes are sent for items: for one after the other, until one ends the session or none is
-- left
pub data Serves : ServerState → List FrameItem → List ℕ → Type 0 where
  none_left : (s : ServerState) → Serves s [] []
  ends : (s : ServerState) (item : FrameItem) (items : List FrameItem) (sent : List ℕ)
      → Reacts s item sent None → Serves s (item ∷ items) sent
  on : (s u : ServerState) (item : FrameItem) (items : List FrameItem) (sent more : List ℕ)
      → Reacts s item sent (Some u) → Serves u items more → Serves s (item ∷ items) (sent ++ more)

-- what is sent for an item is cut off; of a packet also before it is answered
pub data CutsOff : ServerState → FrameItem → List ℕ → Type 0 where
  acknowledged : (s : ServerState) (body : List ℕ) (n : ℕ)
      → CutsOff s (FrameItem.whole body) (take n (acknowledgment s.talk))
  part : (s : ServerState) (item : FrameItem) (sent : List ℕ) (after : Option ServerState) (n : ℕ)
      → Reacts s item sent after → CutsOff s item (take n sent)

-- these bytes are a beginning of what is sent for items
pub data BeginsToServe : ServerState → List FrameItem → List ℕ → Type 0 where
  nothing : (s : ServerState) (items : List FrameItem) → BeginsToServe s items []
  cut : (s : ServerState) (item : FrameItem) (items : List FrameItem) (sent : List ℕ)
      → CutsOff s item sent → BeginsToServe s (item ∷ items) sent
  on : (s u : ServerState) (item : FrameItem) (items : List FrameItem) (sent more : List ℕ)
      → Reacts s item sent (Some u) → BeginsToServe u items more
      → BeginsToServe s (item ∷ items) (sent ++ more)

-- what is sent for an item was appended, and the session goes on from this state, or ends
pub record Sends (s : ServerState) (item : FrameItem) (old new : Option (List ℕ))
    (after : Option ServerState) : Type 0 where
  pub sent : List ℕ
  pub appended : Appends old new sent
  pub reacts : Reacts s item sent after

-- a part of it was appended
pub record SendsPart (s : ServerState) (item : FrameItem) (old new : Option (List ℕ)) : Type 0 where
  pub sent : List ℕ
  pub appended : Appends old new sent
  pub cut : CutsOff s item sent

-- whether a session goes on from a state
abbrev pub after_turn : Turn → ServerState → Option ServerState
after_turn turn.Next s = Some s
after_turn turn.Last s = None

-- what is sent for items was appended
abbrev pub Served : ServerState → List FrameItem → Option (List ℕ) → Option (List ℕ) → Type 0
Served s items old new = (sent : List ℕ) × Appends old new sent × Serves s items sent

-- a beginning of it was appended
abbrev pub BeginsServed : ServerState → List FrameItem → Option (List ℕ) → Option (List ℕ) → Type 0
BeginsServed s items old new = (sent : List ℕ) × Appends old new sent × BeginsToServe s items sent
