use Rattle.std.proofs.Common.{◌≡◌, take}
use Rattle.thread_book.proofs.sameness.is_same_code.Given as goal

abbrev pub invariant-each : goal.invariant-each
invariant-each g l = take l.k l.ones ≡ take l.k l.others
