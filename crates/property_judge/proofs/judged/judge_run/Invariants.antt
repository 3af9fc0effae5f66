use Rattle.std.proofs.Common.{◌≡◌, take, length}
use Rattle.machine.specs.World.{run}
use Rattle.machine.specs.Machine.{world}
use Rattle.property_judge.proofs.RunLemmas.{Judging}
use Rattle.property_judge.specs.Reach.{reach_of}
use Rattle.property_judge.proofs.judged.judge_run.Given as goal

-- the choices before the index are done, and the worlds up to the one they lead to are judged
abbrev pub invariant-choices : goal.invariant-choices
invariant-choices g l = record {
  reached : world g.S.Store.memory l.machine ≡ run (world g.S.Store.memory l.fn.machine) (take l.done l.choices);
  harts : length (world g.S.Store.memory l.machine).harts ≡ length (world g.S.Store.memory l.fn.machine).harts;
  judging : Judging l.done (world g.S.Store.memory l.fn.machine) (world g.S.Store.memory l.machine) l.choices
      l.fn.judged l.judged;
  reach : l.reach ≡ reach_of l.judged;
}
