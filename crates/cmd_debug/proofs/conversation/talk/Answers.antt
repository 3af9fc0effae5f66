use Rattle.std.proofs.Common.{◌≡◌, [], rules, take, MatchOption, string_bytes, true, false, subst, ap, sym, ◌∙◌}
use Rattle.std.specs.Io.KnownBytes.{Appends}
use Rattle.debug_session.specs.Session.{session}
use Rattle.debug_text.specs.Reply.{reply_outcome}
use Rattle.cmd_debug.specs.Lines.{TakesLine, TakesNone}
use Rattle.cmd_debug.specs.Talk.{outcome_to}
use Rattle.cmd_debug.proofs.TalkLemmas.{goes_on, has_begun, is_cut, is_ended}
use Rattle.cmd_debug.proofs.conversation.talk.Goals as goal

pub returns-in-Err-Device-clause-begun : goal.returns-in-Err-Device-clause-begun
returns-in-Err-Device-clause-begun g c = has_begun _ _ _ _ _ _ _ c.lines.invariant.0

pub returns-in-Err-Memory-clause-begun : goal.returns-in-Err-Memory-clause-begun
returns-in-Err-Memory-clause-begun g c = has_begun _ _ _ _ _ _ _ c.lines.invariant.0

pub returns-in-Err-clause-begun : goal.returns-in-Err-clause-begun
returns-in-Err-clause-begun g c = has_begun _ _ _ _ _ _ _ c.lines.invariant.0

pub returns-in-Ok-Quit-clause-done : goal.returns-in-Ok-Quit-clause-done
returns-in-Ok-Quit-clause-done g c =
    let l0 = g.S.Source.left c.lines.source in
    let l1 = g.S.Source.left c.read_line.new.source in
    let took : TakesLine l0 l1 c.in-Ok-Some.line.items
    = subst (λ o. MatchOption o (TakesNone l0 l1) (λ line. TakesLine l0 l1 line.items)) c.in-Ok-Some.field-0-is c.in-Ok-Some.ensures.line in
    let outcome : outcome_to c.args.symbols.now (session c.lines.debugger) c.in-Ok-Some.line.items ≡ record { text = []; after = session c.answer_line.new.debugger; ended = true }
    = ap (outcome_to c.args.symbols.now (session c.lines.debugger)) (sym c.deref.ensures.value) ∙ c.in-Ok-Quit.ensures ∙ ap (λ a. reply_outcome a (session c.answer_line.new.debugger)) c.in-Ok-Quit.field-0-is in
    is_ended _ _ _ l0 l1 _ _ _ (session c.answer_line.new.debugger) c.in-Ok-Some.line.items c.lines.invariant.0 took outcome

pub lines-preserved : goal.lines-preserved
lines-preserved g c =
    let l0 = g.S.Source.left c.lines.source in
    let l1 = g.S.Source.left c.read_line.new.source in
    let took : TakesLine l0 l1 c.in-Ok-Some.line.items
    = subst (λ o. MatchOption o (TakesNone l0 l1) (λ line. TakesLine l0 l1 line.items)) c.in-Ok-Some.field-0-is c.in-Ok-Some.ensures.line in
    let outcome : outcome_to c.args.symbols.now (session c.lines.debugger) c.in-Ok-Some.line.items ≡ record { text = string_bytes c.in-Ok-Text.text; after = session c.answer_line.new.debugger; ended = false }
    = ap (outcome_to c.args.symbols.now (session c.lines.debugger)) (sym c.deref.ensures.value) ∙ c.in-Ok-Text.ensures ∙ ap (λ a. reply_outcome a (session c.answer_line.new.debugger)) c.in-Ok-Text.field-0-is in
    let wrote : Appends (g.K.Sink.held c.lines.sink) (g.K.Sink.held c.write_all.new.sink) (string_bytes c.in-Ok-Text.text) = search rules in (
      goes_on _ _ _ l0 l1 _ _ _ _ (session c.answer_line.new.debugger) c.in-Ok-Some.line.items (string_bytes c.in-Ok-Text.text) c.lines.invariant.0 took outcome wrote,
      search rules,
      search rules,
    )

pub returns-in-Err-write_all-clause-begun : goal.returns-in-Err-write_all-clause-begun
returns-in-Err-write_all-clause-begun g c =
    let l0 = g.S.Source.left c.lines.source in
    let l1 = g.S.Source.left c.read_line.new.source in
    let took : TakesLine l0 l1 c.in-Ok-Some.line.items
    = subst (λ o. MatchOption o (TakesNone l0 l1) (λ line. TakesLine l0 l1 line.items)) c.in-Ok-Some.field-0-is c.in-Ok-Some.ensures.line in
    let outcome : outcome_to c.args.symbols.now (session c.lines.debugger) c.in-Ok-Some.line.items ≡ record { text = string_bytes c.in-Ok-Text.text; after = session c.answer_line.new.debugger; ended = false }
    = ap (outcome_to c.args.symbols.now (session c.lines.debugger)) (sym c.deref.ensures.value) ∙ c.in-Ok-Text.ensures ∙ ap (λ a. reply_outcome a (session c.answer_line.new.debugger)) c.in-Ok-Text.field-0-is in
    let text : c.as_bytes.result.now ≡ string_bytes c.in-Ok-Text.text = search rules in
    is_cut _ _ _ l0 l1 _ _ _ _ (session c.answer_line.new.debugger) c.in-Ok-Some.line.items (string_bytes c.in-Ok-Text.text) c.in-Err-write_all.ensures.err.0
    c.lines.invariant.0 took outcome
    (subst (λ xs. Appends (g.K.Sink.held c.lines.sink) (g.K.Sink.held c.write_all.new.sink) (take c.in-Err-write_all.ensures.err.0 xs)) text c.in-Err-write_all.ensures.err.1)
