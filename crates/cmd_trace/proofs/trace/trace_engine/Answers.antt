use Rattle.std.proofs.Common.{◌≡◌, ◌⊎◌, length, Err}
use Rattle.std.specs.Io.KnownBytes.{Keeps}
use Rattle.sched_text.specs.Reading.{choices_read}
use Rattle.program_open.specs.Answers.{BeginsToPrint, Prints}
use Rattle.program_open.specs.Opening.{with_choices}
use Rattle.cmd_trace.specs.Answer.{trace_after, trace_answer}
use Rattle.cmd_trace.proofs.AnswerLemmas.{known_answer}
use Rattle.cmd_trace.proofs.trace.trace_engine.Goals as goal

pub returns-in-Err-clause-refused : goal.returns-in-Err-clause-refused
returns-in-Err-clause-refused g c refusal = c.in-Err.ensures.refused refusal c.args.plan

pub returns-in-Ok-trace_run-clause-done : goal.returns-in-Ok-trace_run-clause-done
returns-in-Ok-trace_run-clause-done g c =
    known_answer (λ a. Prints a c.in-Ok-trace_run.status (g.K.Sink.held c.args.sink.now) (g.K.Sink.held c.trace_run.new.sink))
    (g.P.Source.left c.args.program.now) (g.C.Source.left c.args.choices.now)
    (trace_answer c.args.form c.args.plan c.args.inputs.now)
    (trace_after c.args.plan c.in-Ok.run'.program.symbols.items c.in-Ok.run'.inputs
    (with_choices c.in-Ok.run'.program.image (choices_read (length c.in-Ok.run'.inputs) c.in-Ok.run'.text.items)))
    (c.in-Ok.ensures.opened c.args.plan)
    c.in-Ok-trace_run.ensures.done

pub returns-clause-refused : goal.returns-clause-refused
returns-clause-refused g c refusal =
    known_answer (λ a. a ≡ Err c.in-Err-trace_run.fault)
    (g.P.Source.left c.args.program.now) (g.C.Source.left c.args.choices.now)
    (trace_answer c.args.form c.args.plan c.args.inputs.now)
    (trace_after c.args.plan c.in-Ok.run'.program.symbols.items c.in-Ok.run'.inputs
    (with_choices c.in-Ok.run'.program.image (choices_read (length c.in-Ok.run'.inputs) c.in-Ok.run'.text.items)))
    (c.in-Ok.ensures.opened c.args.plan)
    (c.in-Err-trace_run.ensures.refused refusal)

pub returns-clause-begun : goal.returns-clause-begun
returns-clause-begun g c is =
    known_answer (λ a. BeginsToPrint a (g.K.Sink.held c.args.sink.now) (g.K.Sink.held c.trace_run.new.sink))
    (g.P.Source.left c.args.program.now) (g.C.Source.left c.args.choices.now)
    (trace_answer c.args.form c.args.plan c.args.inputs.now)
    (trace_after c.args.plan c.in-Ok.run'.program.symbols.items c.in-Ok.run'.inputs
    (with_choices c.in-Ok.run'.program.image (choices_read (length c.in-Ok.run'.inputs) c.in-Ok.run'.text.items)))
    (c.in-Ok.ensures.opened c.args.plan)
    (c.in-Err-trace_run.ensures.begun is)

pub returns-clause-halted : goal.returns-clause-halted
returns-clause-halted g c is =
    known_answer (λ a. Keeps (g.K.Sink.held c.args.sink.now) (g.K.Sink.held c.trace_run.new.sink)
    ⊎ BeginsToPrint a (g.K.Sink.held c.args.sink.now) (g.K.Sink.held c.trace_run.new.sink))
    (g.P.Source.left c.args.program.now) (g.C.Source.left c.args.choices.now)
    (trace_answer c.args.form c.args.plan c.args.inputs.now)
    (trace_after c.args.plan c.in-Ok.run'.program.symbols.items c.in-Ok.run'.inputs
    (with_choices c.in-Ok.run'.program.image (choices_read (length c.in-Ok.run'.inputs) c.in-Ok.run'.text.items)))
    (c.in-Ok.ensures.opened c.args.plan)
    (c.in-Err-trace_run.ensures.halted is)
