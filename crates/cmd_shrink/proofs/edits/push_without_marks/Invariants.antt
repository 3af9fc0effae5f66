use Rattle.std.proofs.Common.{◌≡◌, ◌++◌, map, take}
use Rattle.cmd_shrink.specs.Edits.{unmarked_choice}
use Rattle.cmd_shrink.proofs.edits.push_without_marks.Given as goal

-- those that were gone through are appended
abbrev pub invariant-part : goal.invariant-part
invariant-part g l = l.list.items ≡ l.fn.list.items ++ map unmarked_choice (take l.choice-index l.part)
