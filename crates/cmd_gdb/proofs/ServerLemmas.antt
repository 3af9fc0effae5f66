-- What is sent for an item, in whole or in part.
use Rattle.std.proofs.Common.{refl, ◌≡◌, ℕ, ◌+◌, List, ◌++◌, length, take, Option, Result, Ok, Err, IfOk, OnErr, OnOk, arith, subst, sym}
use Rattle.std.proofs.KnownBytes.{Appends-trans}
use Rattle.std.proofs.Math.Seq.{take-append-add}
use Rattle.std.proofs.lemmas.List.{take_all}
use Rattle.std.proofs.lemmas.Result.{on_err_weaker}
use Rattle.std.specs.Io.KnownBytes.{Appends}
use Rattle.gdb_frames.specs.Frames.{framed}
use Rattle.gdb_frames.specs.Items.{FrameItem}
use Rattle.gdb_session.specs.Talk.{TalkValue}
use Rattle.gdb_session.specs.declared.answer.Next.{Next}
use Rattle.cmd_gdb.specs.Answers.{AnswersPacket}
use Rattle.cmd_gdb.specs.declared.server.Turn.{Turn}
use Rattle.cmd_gdb.specs.Serving.{acknowledgment, after_next, packet_sent, standing, AnswersWhole, CutsOff, Reacts, Sends, SendsPart, ServerState, after_turn}

-- a fact, whether or not there is an error
pub on_err : {T E X : Type 0} (r : Result T E) → X → OnErr r X
on_err (Ok v) x = tt
on_err (Err e) x = x

-- an item was answered
pub sent_for : (s : ServerState) (item : FrameItem) (sent : List ℕ) (after : Option ServerState)
    (old new : Option (List ℕ))
    → Reacts s item sent after → Appends old new sent → Sends s item old new after
sent_for s item sent after old new reacts appended = record {
  sent = sent;
  appended = appended;
  reacts = reacts;
}

-- in part
pub cut_off : (s : ServerState) (item : FrameItem) (sent : List ℕ) (after : Option ServerState) (n : ℕ)
    (old new : Option (List ℕ))
    → Reacts s item sent after → Appends old new (take n sent) → SendsPart s item old new
cut_off s item sent after n old new reacts appended = record {
  sent = take n sent;
  appended = appended;
  cut = CutsOff.part s item sent after n reacts;
}

-- of a packet's acknowledgment a part was sent
pub acknowledged_in_part : (s : ServerState) (body : List ℕ) (n : ℕ) (old new : Option (List ℕ))
    → Appends old new (take n (acknowledgment s.talk)) → SendsPart s (FrameItem.whole body) old new
acknowledged_in_part s body n old new appended = record {
  sent = take n (acknowledgment s.talk);
  appended = appended;
  cut = CutsOff.acknowledged s body n;
}

-- or the whole, and nothing behind it
pub acknowledged : (s : ServerState) (body : List ℕ) (old new : Option (List ℕ))
    → Appends old new (acknowledgment s.talk) → SendsPart s (FrameItem.whole body) old new
acknowledged s body old new appended =
    let n : ℕ = length (acknowledgment s.talk) in
    acknowledged_in_part s body n old new
    (subst (Appends old new) (sym (take_all n (acknowledgment s.talk) (omega arith))) appended)

-- a packet was acknowledged, and then answered in whole or in part
module _ (s : ServerState) (body text : List ℕ) (come : Next) (talk : TalkValue)
    (old mid new : Option (List ℕ)) (answers : AnswersPacket s.talk body text come talk)
    (first : Appends old mid (acknowledgment s.talk)) where
  abbrev ack : List ℕ
  ack = acknowledgment s.talk

  abbrev packet : List ℕ
  packet = packet_sent come text

  abbrev whole_reply : (after : Option ServerState)
      → after ≡ after_next come (standing talk (framed text))
      → AnswersWhole s body (ack ++ packet) after
  whole_reply after is = record {
    text = text;
    come = come;
    talk = talk;
    answers = answers;
    is_sent = refl;
    is_after = is;
  }

  pub answered : (after : Option ServerState) → after ≡ after_next come (standing talk (framed text))
      → Appends mid new packet → Sends s (FrameItem.whole body) old new after
  answered after is second =
      sent_for s (FrameItem.whole body) (ack ++ packet) after old new (whole_reply after is)
      (Appends-trans old mid new ack packet first second)

  pub answered_in_part : (n : ℕ) → Appends mid new (take n packet)
      → SendsPart s (FrameItem.whole body) old new
  answered_in_part n second =
      let after : Option ServerState = after_next come (standing talk (framed text)) in
      cut_off s (FrameItem.whole body) (ack ++ packet) after (length ack + n) old new
      (whole_reply after refl)
      (subst (Appends old new) (sym (take-append-add ack packet n))
      (Appends-trans old mid new ack (take n packet) first second))

  pub answered_if : {E : Type 0} (r : Result Turn E) (u : ServerState)
      → OnOk r (Appends mid new packet)
      → IfOk r (λ turn. after_turn turn u ≡ after_next come (standing talk (framed text)))
      → IfOk r (λ turn. Sends s (FrameItem.whole body) old new (after_turn turn u))
  answered_if (Ok turn) u second is = answered (after_turn turn u) is second
  answered_if (Err e) u second is = tt

  pub cut_if : {E : Type 0} (r : Result Turn E)
      → OnErr r ((n : ℕ) × Appends mid new (take n packet))
      → OnErr r (SendsPart s (FrameItem.whole body) old new)
  cut_if r second = on_err_weaker r (λ part. answered_in_part part.0 part.1) second
