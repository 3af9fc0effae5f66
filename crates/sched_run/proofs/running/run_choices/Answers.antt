use Rattle.std.proofs.Common.{refl, ap, ◌∙◌, arith}
use Rattle.machine.specs.State.{state}
use Rattle.sched_run.specs.Chosen.{harts_of}
use Rattle.sched_run.specs.Left.{left_of, none_left}
use Rattle.sched_run.proofs.RunLemmas.{begun, run_taken, all_run, item_bad}
use Rattle.sched_run.proofs.StopLemmas.{stopped}
use Rattle.sched_run.proofs.running.run_choices.Goals as goal

pub runs-init : goal.runs-init
runs-init g c =
    let begin = c.begin-reading.ensures in
    record {
      within = omega (arith, begin.within);
      harts = refl;
      so_far = begun c.args.harts c.args.text.now (left_of c.args.harts c.args.text.now c.begin-reading.result) (state c.args.machine.now)
          (harts_of c.new-chosen.result) (begin.at_front c.args.harts c.args.text.now) c.new-chosen.ensures;
    }

pub runs-preserved : goal.runs-preserved
runs-preserved g c = record {
  within = c.next.ensures.within;
  harts = c.take_run.ensures.harts ∙ c.runs.invariant.harts;
  so_far = run_taken c.args.harts c.args.text.now (left_of c.args.harts c.args.text.now c.runs.reading)
      (left_of c.args.harts c.args.text.now c.next.new.self) (state c.args.machine.now) (state c.runs.machine) (state c.take_run.new.machine)
      (harts_of c.runs.chosen) (harts_of c.add.new.self) c.in-Some.equal c.in-Some.ensures.counted
      c.in-Some.ensures.some c.take_run.ensures.taken c.add.ensures c.runs.invariant.so_far;
}

pub returns-in-Some-fault-clause-refused : goal.returns-in-Some-fault-clause-refused
returns-in-Some-fault-clause-refused g c =
    item_bad c.args.harts c.args.text.now (left_of c.args.harts c.args.text.now c.runs.reading) (state c.args.machine.now) (state c.runs.machine)
    (harts_of c.runs.chosen) c.in-Some-fault.fault (c.in_default.ensures.none ∙ ap none_left c.in-Some-fault.is) c.runs.invariant.so_far

pub returns-in-Some-fault-clause-stopped : goal.returns-in-Some-fault-clause-stopped
returns-in-Some-fault-clause-stopped g c =
    stopped c.args.harts c.args.text.now (left_of c.args.harts c.args.text.now c.runs.reading) (state c.args.machine.now) (state c.runs.machine)
    (harts_of c.runs.chosen) c.in-Some-fault.fault c.ranges.harts.fits (c.in_default.ensures.none ∙ ap none_left c.in-Some-fault.is)
    c.runs.invariant.so_far

pub returns-in-None-clause-ran : goal.returns-in-None-clause-ran
returns-in-None-clause-ran g c =
    all_run c.args.harts c.args.text.now (left_of c.args.harts c.args.text.now c.runs.reading) (state c.args.machine.now) (state c.runs.machine)
    (harts_of c.runs.chosen) (c.in_default.ensures.none ∙ ap none_left c.in-None.is) c.runs.invariant.so_far
