use Rattle.std.proofs.Common.{ℕ, ◌++◌, length, ◌∙◌, List, [], drop, ap, subst, sym}
use Rattle.machine.specs.State.{state}
use Rattle.sched_text.specs.Reading.{choices_read}
use Rattle.cmd_trace.specs.Output.{SoFar}
use Rattle.cmd_trace.specs.Page.{PageValue}
use Rattle.cmd_trace.specs.Teller.{place}
use Rattle.cmd_trace.specs.Trace.{trace_head, told_entries, trace_text}
use Rattle.cmd_trace.proofs.OutputLemmas.{sent_all}
use Rattle.cmd_trace.proofs.WholeLemmas.{head_waits, page_is}
use Rattle.cmd_trace.proofs.writing.write_trace.Goals as goal

pub returns-in-Err-write_entries-clause-begun : goal.returns-in-Err-write_entries-clause-begun
returns-in-Err-write_entries-clause-begun g c choices read counted =
    let has = c.in-Ok.ensures.has choices (ap (λ (text : List ℕ). choices_read (length c.args.run.now.inputs) text) c.deref.ensures.value ∙ read) in
    let skipped = c.skip.ensures choices has in
    let waits = head_waits c.args.plan c.args.run.now.program.image c.args.run.now.program.symbols.items c.args.run.now.inputs choices c.args.count c.span_of-span.result
    (place c.in-Ok.teller.machine c.in-Ok.teller.endings) (place c.skip.new.self.machine c.skip.new.self.endings) c.push_head_of.new.buffer.items (g.K.Sink.held c.args.sink.now) c.span_of-span.ensures.value counted
    c.in-Ok.ensures.start skipped.0 (c.in-Ok-push_head_of.ensures ∙ ap (λ (l : List ℕ). l ++ trace_head c.args.plan.form c.args.run.now.program.image.entry c.args.run.now.inputs
    c.span_of-span.result c.args.run.now.program.symbols.items (state c.skip.new.self.machine)) c.new-buffer.ensures.items) in
    let rest = drop c.span_of-span.result.from choices in
    let all = trace_text c.args.plan c.args.run.now.program.image c.args.run.now.program.symbols.items c.args.run.now.inputs choices in
    let waiting = subst (λ (page : PageValue). SoFar all (g.K.Sink.held c.args.sink.now) (g.K.Sink.held c.args.sink.now) c.push_head_of.new.buffer.items
    (told_entries page c.span_of-span.result (place c.skip.new.self.machine c.skip.new.self.endings) rest))
    (page_is c.args.plan.form (length c.args.run.now.inputs) _ c.args.run.now.program.symbols.items _ c.args.plan.word c.harts.ensures.harts c.deref-2.ensures.value) waits in
    c.in-Err-write_entries.ensures.begun rest all (g.K.Sink.held c.args.sink.now) skipped.1 waiting

pub returns-in-Ok-flush-clause-told : goal.returns-in-Ok-flush-clause-told
returns-in-Ok-flush-clause-told g c choices read counted =
    let has = c.in-Ok.ensures.has choices (ap (λ (text : List ℕ). choices_read (length c.args.run.now.inputs) text) c.deref.ensures.value ∙ read) in
    let skipped = c.skip.ensures choices has in
    let waits = head_waits c.args.plan c.args.run.now.program.image c.args.run.now.program.symbols.items c.args.run.now.inputs choices c.args.count c.span_of-span.result
    (place c.in-Ok.teller.machine c.in-Ok.teller.endings) (place c.skip.new.self.machine c.skip.new.self.endings) c.push_head_of.new.buffer.items (g.K.Sink.held c.args.sink.now) c.span_of-span.ensures.value counted
    c.in-Ok.ensures.start skipped.0 (c.in-Ok-push_head_of.ensures ∙ ap (λ (l : List ℕ). l ++ trace_head c.args.plan.form c.args.run.now.program.image.entry c.args.run.now.inputs
    c.span_of-span.result c.args.run.now.program.symbols.items (state c.skip.new.self.machine)) c.new-buffer.ensures.items) in
    let rest = drop c.span_of-span.result.from choices in
    let all = trace_text c.args.plan c.args.run.now.program.image c.args.run.now.program.symbols.items c.args.run.now.inputs choices in
    let waiting = subst (λ (page : PageValue). SoFar all (g.K.Sink.held c.args.sink.now) (g.K.Sink.held c.args.sink.now) c.push_head_of.new.buffer.items
    (told_entries page c.span_of-span.result (place c.skip.new.self.machine c.skip.new.self.endings) rest))
    (page_is c.args.plan.form (length c.args.run.now.inputs) _ c.args.run.now.program.symbols.items _ c.args.plan.word c.harts.ensures.harts c.deref-2.ensures.value) waits in
    let told = c.in-Ok-write_entries.ensures.taken rest all (g.K.Sink.held c.args.sink.now) skipped.1 waiting in
    sent_all all c.flush.new.buffer.items (g.K.Sink.held c.args.sink.now) (g.K.Sink.held c.flush.new.sink) c.in-Ok-flush.ensures.empty
    (c.in-Ok-flush.ensures.sent all (g.K.Sink.held c.args.sink.now) [] told)

pub returns-clause-begun : goal.returns-clause-begun
returns-clause-begun g c choices read counted =
    let has = c.in-Ok.ensures.has choices (ap (λ (text : List ℕ). choices_read (length c.args.run.now.inputs) text) c.deref.ensures.value ∙ read) in
    let skipped = c.skip.ensures choices has in
    let waits = head_waits c.args.plan c.args.run.now.program.image c.args.run.now.program.symbols.items c.args.run.now.inputs choices c.args.count c.span_of-span.result
    (place c.in-Ok.teller.machine c.in-Ok.teller.endings) (place c.skip.new.self.machine c.skip.new.self.endings) c.push_head_of.new.buffer.items (g.K.Sink.held c.args.sink.now) c.span_of-span.ensures.value counted
    c.in-Ok.ensures.start skipped.0 (c.in-Ok-push_head_of.ensures ∙ ap (λ (l : List ℕ). l ++ trace_head c.args.plan.form c.args.run.now.program.image.entry c.args.run.now.inputs
    c.span_of-span.result c.args.run.now.program.symbols.items (state c.skip.new.self.machine)) c.new-buffer.ensures.items) in
    let rest = drop c.span_of-span.result.from choices in
    let all = trace_text c.args.plan c.args.run.now.program.image c.args.run.now.program.symbols.items c.args.run.now.inputs choices in
    let waiting = subst (λ (page : PageValue). SoFar all (g.K.Sink.held c.args.sink.now) (g.K.Sink.held c.args.sink.now) c.push_head_of.new.buffer.items
    (told_entries page c.span_of-span.result (place c.skip.new.self.machine c.skip.new.self.endings) rest))
    (page_is c.args.plan.form (length c.args.run.now.inputs) _ c.args.run.now.program.symbols.items _ c.args.plan.word c.harts.ensures.harts c.deref-2.ensures.value) waits in
    let told = c.in-Ok-write_entries.ensures.taken rest all (g.K.Sink.held c.args.sink.now) skipped.1 waiting in
    c.in-Err-flush.ensures.begun all (g.K.Sink.held c.args.sink.now) [] told
