use Rattle.std.proofs.Common.{◌≡◌, ◌≤◌, length}
use Rattle.machine.specs.Start.{started}
use Rattle.explore_space.proofs.BeginLemmas.{AreFirst}
use Rattle.explore_space.proofs.beginning.begun_steps.Given as goal

-- the harts before this one have their steps
abbrev pub invariant-harts : goal.invariant-harts
invariant-harts g l = record {
  count : length l.steps.items ≡ l.hart-index;
  low : length l.steps.items ≤ length l.inputs;
  are : AreFirst l.code.section (started l.image l.inputs) l.steps.items;
}
