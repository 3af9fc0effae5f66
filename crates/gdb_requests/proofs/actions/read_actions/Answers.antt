use Rattle.std.proofs.Common.{rules, ◌≡◌, ◌==◌, length, true, false, Some, None}
use Rattle.text_items.specs.Numbers.{before_byte, from_byte}
use Rattle.gdb_requests.specs.Actions.{thread_action_of}
use Rattle.gdb_requests.proofs.ListLemmas.{action_bad, action_last, action_more}
use Rattle.gdb_requests.proofs.actions.read_actions.Goals as goal

pub returns-in_default-clause-bad : goal.returns-in_default-clause-bad
returns-in_default-clause-bad g c = λ no_memory.
    let bad : thread_action_of (before_byte 59 c.parts.rest.now) ≡ None = search rules in
    action_bad c.parts.actions.items c.parts.rest.now c.args.list.now bad c.parts.invariant

pub returns-then-is_empty-clause-ok : goal.returns-then-is_empty-clause-ok
returns-then-is_empty-clause-ok g c =
    let is : thread_action_of (before_byte 59 c.parts.rest.now) ≡ Some c.in-Some.action = search rules in
    let none : (length (from_byte 59 c.parts.rest.now) == 0) ≡ true = search rules in
    action_last c.parts.actions.items c.push.new.self.items c.in-Some.action c.parts.rest.now c.args.list.now is none
    c.in-Ok.ensures.items c.parts.invariant

pub parts-preserved : goal.parts-preserved
parts-preserved g c =
    let is : thread_action_of (before_byte 59 c.parts.rest.now) ≡ Some c.in-Some.action = search rules in
    let some : (length (from_byte 59 c.parts.rest.now) == 0) ≡ false = search rules in
    action_more c.parts.actions.items c.push.new.self.items c.in-Some.action c.parts.rest.now
    c.behind_first-rest.result.now c.args.list.now is some (search rules) c.in-Ok.ensures.items c.parts.invariant
