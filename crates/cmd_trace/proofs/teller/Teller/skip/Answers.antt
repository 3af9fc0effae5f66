use Rattle.std.proofs.Common.{ℕ, ◌+◌, ◌≡◌, drop, Some, None, arith, subst}
use Rattle.cmd_trace.specs.Teller.{TellsNext, place}
use Rattle.cmd_trace.proofs.TellerLemmas.{none_skipped, skipped_more, skipped_all}
use Rattle.cmd_trace.proofs.teller.Teller.skip.Goals as goal

pub choices-init : goal.choices-init
choices-init g c left has = none_skipped (place c.args.self.now.machine c.args.self.now.endings) 0 c.args.self.now.cursor left has

pub returns-in_default : goal.returns-in_default
returns-in_default g c left has =
    let so_far = c.choices.invariant left has in
    let now = place c.choices.self.machine c.choices.self.endings in
    let new = place c.next.new.self.machine c.next.new.self.endings in
    let number : c.choices.done ≡ 0 + c.choices.done = omega arith in
    skipped_all c.choices.done c.args.count 0 (place c.args.self.now.machine c.args.self.now.endings) now new c.choices.self.cursor
    c.next.new.self.cursor left (omega (arith, c.choices-test.true)) so_far
    (subst (λ (k : ℕ). TellsNext now new k c.next.new.self.cursor (drop c.choices.done left) None) number (c.in_default.ensures _ so_far.1))

pub choices-preserved : goal.choices-preserved
choices-preserved g c left has =
    let so_far = c.choices.invariant left has in
    let now = place c.choices.self.machine c.choices.self.endings in
    let new = place c.next.new.self.machine c.next.new.self.endings in
    let number : c.choices.done ≡ 0 + c.choices.done = omega arith in
    skipped_more c.choices.done 0 (place c.args.self.now.machine c.args.self.now.endings) now new c.choices.self.cursor
    c.next.new.self.cursor left c.in-Some._told so_far
    (subst (λ (k : ℕ). TellsNext now new k c.next.new.self.cursor (drop c.choices.done left) (Some c.in-Some._told)) number (c.in-Some.ensures _ so_far.1))
