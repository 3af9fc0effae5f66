use Rattle.std.proofs.Common.{◌≡◌, ◌++◌, ◌-◌}
use Rattle.gdb_replies.specs.Fronts.{BeginsWith}
use Rattle.gdb_replies.specs.Threads.{thread_items}
use Rattle.gdb_replies.proofs.threads.push_thread_numbers.Given as goal

-- the text so far, and then the threads that are left
abbrev pub invariant-harts : goal.invariant-harts
invariant-harts g l = record {
  text : l.out.items ++ thread_items l.hart (l.harts - l.hart) ≡ l.initial.out.items ++ thread_items 0 l.harts;
  kept : BeginsWith l.out.items l.initial.out.items;
}
