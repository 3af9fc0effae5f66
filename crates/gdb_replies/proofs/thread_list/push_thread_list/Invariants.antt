use Rattle.std.proofs.Common.{◌≡◌, ◌++◌, drop, map}
use Rattle.hart_step.specs.Hart.{hart_of}
use Rattle.gdb_replies.specs.Fronts.{BeginsWith}
use Rattle.gdb_replies.specs.Threads.{thread_elements}
use Rattle.gdb_replies.proofs.thread_list.push_thread_list.Given as goal

-- the text so far, and then the threads that are left
abbrev pub invariant-harts : goal.invariant-harts
invariant-harts g l = record {
  text : l.out.items ++ thread_elements l.number (map hart_of (drop l.number l.harts))
      ≡ l.initial.out.items ++ thread_elements 0 (map hart_of l.harts);
  kept : BeginsWith l.out.items l.initial.out.items;
}
