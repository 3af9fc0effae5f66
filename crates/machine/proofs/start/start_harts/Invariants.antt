use Rattle.std.proofs.Common.{◌≡◌, map, take, length, vec_len}
use Rattle.hart_step.specs.Hart.{hart_of}
use Rattle.machine.specs.Start.{first_harts}
use Rattle.machine.proofs.start.start_harts.Given as goal

abbrev pub invariant-loop-number : goal.invariant-loop-number
invariant-loop-number g l = record {
  items : map hart_of l.harts.items ≡ first_harts l.entry (length l.inputs) 0 (take l.number l.inputs);
  len : vec_len l.harts ≡ l.number;
}
