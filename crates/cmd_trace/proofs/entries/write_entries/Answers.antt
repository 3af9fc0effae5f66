use Rattle.std.proofs.Common.{ℕ, ◌+◌, ◌-◌, List, take, subst, ◌∙◌, arith}
use Rattle.trace_steps.specs.Explains.{explains}
use Rattle.cmd_trace.specs.Output.{SoFar}
use Rattle.cmd_trace.specs.Teller.{place}
use Rattle.cmd_trace.specs.Trace.{entries, told_count}
use Rattle.cmd_trace.proofs.EntryLemmas.{entries_more, entries_none, entries_end}
use Rattle.cmd_trace.proofs.entries.write_entries.Goals as goal

pub returns-in_default-clause-taken : goal.returns-in_default-clause-taken
returns-in_default-clause-taken g c left all start has begun =
    let (more, here, so_far) = c.choices.invariant.so_far left all start has begun in
    subst (λ (rest : List ℕ). SoFar all start (g.K.Sink.held c.choices.sink) c.choices.buffer.items rest)
    (entries_none c.args.page.now (c.args.span.from + c.choices.i) (told_count c.args.span - c.choices.i) (place c.choices.teller.machine c.choices.teller.endings) more
    (c.in_default.ensures more here).0) so_far

pub returns-in-Err-clause-begun : goal.returns-in-Err-clause-begun
returns-in-Err-clause-begun g c left all start has begun =
    let (more, here, so_far) = c.choices.invariant.so_far left all start has begun in
    let (choice, others, is, told, stepping, after) = c.in-Some.ensures more here in
    c.in-Err.ensures.begun all start
    (entries c.args.page.now (c.args.span.from + (c.choices.i + 1)) (explains (place c.next.new.self.machine c.next.new.self.endings) (c.args.span.from + (c.choices.i + 1)) (take (told_count c.args.span - (c.choices.i + 1)) others)))
    (subst (λ (rest : List ℕ). SoFar all start (g.K.Sink.held c.choices.sink) c.choices.buffer.items rest)
    (entries_more c.args.page.now c.args.span.from c.choices.i (told_count c.args.span) (place c.choices.teller.machine c.choices.teller.endings) (place c.next.new.self.machine c.next.new.self.endings) more others
    choice c.in-Some.explained (omega (arith, c.choices-test.true, c.told_count-i-end.ensures)) is told stepping) so_far)

pub choices-preserved : goal.choices-preserved
choices-preserved g c = record {
  counted = c.in-Ok.ensures.count ∙ c.choices.invariant.counted;
  so_far = λ left all start has begun.
      let (more, here, so_far) = c.choices.invariant.so_far left all start has begun in
      let (choice, others, is, told, stepping, after) = c.in-Some.ensures more here in (
        others,
        after,
        c.in-Ok.ensures.taken all start
            (entries c.args.page.now (c.args.span.from + (c.choices.i + 1)) (explains (place c.next.new.self.machine c.next.new.self.endings) (c.args.span.from + (c.choices.i + 1)) (take (told_count c.args.span - (c.choices.i + 1)) others)))
            (subst (λ (rest : List ℕ). SoFar all start (g.K.Sink.held c.choices.sink) c.choices.buffer.items rest)
            (entries_more c.args.page.now c.args.span.from c.choices.i (told_count c.args.span) (place c.choices.teller.machine c.choices.teller.endings) (place c.next.new.self.machine c.next.new.self.endings) more others
            choice c.in-Some.explained (omega (arith, c.choices-test.true, c.told_count-i-end.ensures)) is told stepping) so_far),
      );
}

pub returns-clause-taken : goal.returns-clause-taken
returns-clause-taken g c left all start has begun =
    let (more, here, so_far) = c.choices.invariant.so_far left all start has begun in
    subst (λ (rest : List ℕ). SoFar all start (g.K.Sink.held c.choices.sink) c.choices.buffer.items rest)
    (entries_end c.args.page.now (c.args.span.from + c.choices.i) c.choices.i (told_count c.args.span) (place c.choices.teller.machine c.choices.teller.endings) more
    (omega (arith, c.choices-test.false, c.told_count-i-end.ensures))) so_far
