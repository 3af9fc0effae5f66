-- What is answered to a packet, and the state after it: GDB's manual, "Remote Serial Protocol",
-- "Packets".
use Rattle.std.specs.Prelude.{◌≡◌, ℕ, List, Option, Some, None, Result, Ok, Err}
use Rattle.gdb_monitor.specs.Monitoring.{Monitoring, monitored}
use Rattle.gdb_monitor.specs.declared.monitored.Motion.{Motion}
use Rattle.gdb_monitor.specs.declared.monitored.Motion.TheVariants.{Moved, Stayed}
use Rattle.gdb_replies.specs.Digits.{bytes_text}
use Rattle.gdb_replies.specs.Fixed.{fixed_text}
use Rattle.gdb_replies.specs.declared.fixed.FixedReply.TheVariants as fixed
use Rattle.gdb_requests.specs.Asked.{Asked, request_of}
use Rattle.gdb_requests.specs.declared.fault.RequestFault.{RequestFault}
use Rattle.gdb_requests.specs.declared.fault.RequestFault.TheVariants as fault
use Rattle.gdb_requests.specs.declared.request.Plain.{Plain}
use Rattle.gdb_session.specs.Answers.{after_answer, answer_text, last_stop_text, next_after}
use Rattle.gdb_session.specs.Moves.{move_asked, MovesTo}
use Rattle.gdb_session.specs.Resumes.{resume_asked}
use Rattle.gdb_session.specs.Talk.{TalkValue}
use Rattle.gdb_session.specs.declared.answer.Next.{Next}
use Rattle.gdb_session.specs.declared.answer.Next.TheVariants as next
use Rattle.gdb_session.specs.declared.movement.Move.{Move}

-- nothing but this text, and nothing has changed
abbrev pub AnswersOnly : TalkValue → List ℕ → List ℕ → Next → TalkValue → Type 0
AnswersOnly t wanted text come u = (text ≡ wanted) × (come ≡ next.Answered) × (u ≡ t)

-- a move is done, and answered by the stop where it ends
abbrev pub AnswersMove : TalkValue → Move → List ℕ → Next → TalkValue → Type 0
AnswersMove t move text come u =
    MovesTo t move u × (text ≡ last_stop_text u.stop) × (come ≡ next.Answered)

-- a request without a list is answered by the move that it asks for, else by what it reads or sets
abbrev pub AnswersPlain : TalkValue → Plain → Option Move → List ℕ → Next → TalkValue → Type 0
AnswersPlain t simple (Some move) text come u = AnswersMove t move text come u
AnswersPlain t simple None text come u =
    (text ≡ answer_text t simple) × (come ≡ next_after simple) × (u ≡ after_answer t simple)

-- actions are answered by the move that they ask for; by E01 if they ask for none
abbrev pub AnswersResume : TalkValue → Option Move → List ℕ → Next → TalkValue → Type 0
AnswersResume t (Some move) text come u = AnswersMove t move text come u
AnswersResume t None text come u = AnswersOnly t (fixed_text fixed.BadOperand) text come u

-- the state after a command of `monitor`: steps alone are forgotten if it has moved
abbrev pub after_motion : Motion → TalkValue → TalkValue
after_motion Moved t = record t { alone = None }
after_motion Stayed t = t

-- a command of `monitor` is answered by its text in digits
abbrev pub AnswersMonitor : TalkValue → Monitoring → List ℕ → Next → TalkValue → Type 0
AnswersMonitor t m text come u =
    (text ≡ bytes_text m.text) × (come ≡ next.Answered)
    × (u ≡ after_motion m.motion (record t { session = m.after }))

-- a request is answered by this text; this comes after it, from this state
unfoldable pub AnswersRequest : TalkValue → Asked → List ℕ → Next → TalkValue → Type 0
AnswersRequest t (Asked.plain simple) text come u =
    AnswersPlain t simple (move_asked t simple) text come u
AnswersRequest t (Asked.resume actions) text come u =
    AnswersResume t (resume_asked t actions) text come u
AnswersRequest t (Asked.monitor command) text come u =
    AnswersMonitor t (monitored t.session command) text come u

-- a packet that is refused: E01 for bad operands, an empty packet for one that isn't known
abbrev pub AnswersFault : TalkValue → RequestFault → List ℕ → Next → TalkValue → Type 0
AnswersFault t fault.BadOperand text come u =
    AnswersOnly t (fixed_text fixed.BadOperand) text come u
AnswersFault t fault.Unknown text come u =
    AnswersOnly t (fixed_text fixed.Unsupported) text come u
AnswersFault t fault.Memory text come u = ⊥

abbrev pub AnswersAsked : TalkValue → Result Asked RequestFault → List ℕ → Next → TalkValue → Type 0
AnswersAsked t (Ok request) text come u = AnswersRequest t request text come u
AnswersAsked t (Err why) text come u = AnswersFault t why text come u

-- a packet with this data is answered by this text; this comes after it, from this state
unfoldable pub AnswersPacket : TalkValue → List ℕ → List ℕ → Next → TalkValue → Type 0
AnswersPacket t body text come u = AnswersAsked t (request_of body) text come u
