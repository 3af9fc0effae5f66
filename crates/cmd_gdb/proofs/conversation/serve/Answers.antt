use Rattle.std.proofs.Common.{rules, Some, None, subst}
use Rattle.gdb_frames.specs.Items.{item_of}
use Rattle.cmd_gdb.specs.Reading.{ReadsTo}
use Rattle.cmd_gdb.specs.Serving.{after_turn, standing_of, Sends, SendsPart}
use Rattle.cmd_gdb.proofs.ConversationLemmas.{goes_on_behind, has_begun, is_cut, is_done, is_ended}
use Rattle.cmd_gdb.proofs.conversation.serve.Goals as goal

pub returns-in-Ok-None-clause-done : goal.returns-in-Ok-None-clause-done
returns-in-Ok-None-clause-done g c =
    let l0 = g.S.Source.left c.packets.source in
    let l1 = g.S.Source.left c.next_found.new.source in
    is_done _ _ l0 l1 _ _ _ c.packets.reader c.next_found.new.reader c.packets.invariant.0
    (subst (ReadsTo l0 l1 c.packets.reader c.next_found.new.reader) c.in-Ok-None.field-0-is
    c.in-Ok-None.ensures.found)

pub returns-in-Err-Device-clause-begun : goal.returns-in-Err-Device-clause-begun
returns-in-Err-Device-clause-begun g c = has_begun _ _ _ _ _ _ _ c.packets.invariant.0

pub returns-in-Err-Memory-clause-begun : goal.returns-in-Err-Memory-clause-begun
returns-in-Err-Memory-clause-begun g c = has_begun _ _ _ _ _ _ _ c.packets.invariant.0

pub packets-preserved : goal.packets-preserved
packets-preserved g c =
    let l0 = g.S.Source.left c.packets.source in
    let l1 = g.S.Source.left c.next_found.new.source in
    let k0 = g.K.Sink.held c.packets.sink in
    let k1 = g.K.Sink.held c.react.new.sink in
    let r0 = c.packets.reader in
    let r1 = c.next_found.new.reader in
    let s = standing_of c.packets.server in
    let u = standing_of c.react.new.self in
    let found = c.in-Ok-Some.found in
    let read : ReadsTo l0 l1 r0 r1 (Some found)
    = subst (ReadsTo l0 l1 r0 r1) c.in-Ok-Some.field-0-is c.in-Ok-Some.ensures.found in
    let sends : Sends s (item_of found r1.body) k0 k1 (Some u)
    = subst (λ body. Sends s (item_of found body) k0 k1 (Some u)) c.body.ensures
    (subst (λ turn. Sends s (item_of found c.body.result.now) k0 k1 (after_turn turn u))
    c.in-Ok-Next.field-0-is c.in-Ok-Next.ensures.sends) in (
      goes_on_behind _ _ l0 l1 _ k0 k1 s u r0 r1 found c.packets.invariant.0 read sends,
      search rules,
      search rules,
    )

pub returns-in-Ok-Last-clause-done : goal.returns-in-Ok-Last-clause-done
returns-in-Ok-Last-clause-done g c =
    let l0 = g.S.Source.left c.packets.source in
    let l1 = g.S.Source.left c.next_found.new.source in
    let k0 = g.K.Sink.held c.packets.sink in
    let k1 = g.K.Sink.held c.react.new.sink in
    let r0 = c.packets.reader in
    let r1 = c.next_found.new.reader in
    let s = standing_of c.packets.server in
    let u = standing_of c.react.new.self in
    let found = c.in-Ok-Some.found in
    let read : ReadsTo l0 l1 r0 r1 (Some found)
    = subst (ReadsTo l0 l1 r0 r1) c.in-Ok-Some.field-0-is c.in-Ok-Some.ensures.found in
    let sends : Sends s (item_of found r1.body) k0 k1 None
    = subst (λ body. Sends s (item_of found body) k0 k1 None) c.body.ensures
    (subst (λ turn. Sends s (item_of found c.body.result.now) k0 k1 (after_turn turn u))
    c.in-Ok-Last.field-0-is c.in-Ok-Last.ensures.sends) in
    is_ended _ _ l0 l1 _ k0 k1 s r0 r1 found c.packets.invariant.0 read sends

pub returns-in-Err-Device-react-clause-begun : goal.returns-in-Err-Device-react-clause-begun
returns-in-Err-Device-react-clause-begun g c =
    let l0 = g.S.Source.left c.packets.source in
    let l1 = g.S.Source.left c.next_found.new.source in
    let k0 = g.K.Sink.held c.packets.sink in
    let k1 = g.K.Sink.held c.react.new.sink in
    let r0 = c.packets.reader in
    let r1 = c.next_found.new.reader in
    let s = standing_of c.packets.server in
    let found = c.in-Ok-Some.found in
    let read : ReadsTo l0 l1 r0 r1 (Some found)
    = subst (ReadsTo l0 l1 r0 r1) c.in-Ok-Some.field-0-is c.in-Ok-Some.ensures.found in
    is_cut _ _ l0 l1 _ k0 k1 s r0 r1 found c.packets.invariant.0 read
    (subst (λ body. SendsPart s (item_of found body) k0 k1) c.body.ensures
    c.in-Err-Device-react.ensures.cut)

pub returns-in-Err-Memory-react-clause-begun : goal.returns-in-Err-Memory-react-clause-begun
returns-in-Err-Memory-react-clause-begun g c =
    let l0 = g.S.Source.left c.packets.source in
    let l1 = g.S.Source.left c.next_found.new.source in
    let k0 = g.K.Sink.held c.packets.sink in
    let k1 = g.K.Sink.held c.react.new.sink in
    let r0 = c.packets.reader in
    let r1 = c.next_found.new.reader in
    let s = standing_of c.packets.server in
    let found = c.in-Ok-Some.found in
    let read : ReadsTo l0 l1 r0 r1 (Some found)
    = subst (ReadsTo l0 l1 r0 r1) c.in-Ok-Some.field-0-is c.in-Ok-Some.ensures.found in
    is_cut _ _ l0 l1 _ k0 k1 s r0 r1 found c.packets.invariant.0 read
    (subst (λ body. SendsPart s (item_of found body) k0 k1) c.body.ensures
    c.in-Err-Memory-react.ensures.cut)
