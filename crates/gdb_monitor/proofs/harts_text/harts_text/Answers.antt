use Rattle.std.proofs.Common.{rules, arith, ◌<◌, ◌≤◌, length, string_bytes}
use Rattle.debug_session.specs.Session.{session, world_at}
use Rattle.gdb_monitor.specs.Texts.{hart_entries}
use Rattle.gdb_monitor.proofs.HartLemmas.{next_hart, last_hart}
use Rattle.gdb_monitor.proofs.harts_text.harts_text.Goals as goal

pub harts-preserved : goal.harts-preserved
harts-preserved g c =
    let s = session c.args.debugger.now in
    let w = world_at s s.position in
    let inside : c.harts.number < length c.ends-harts.result.now = search rules in
    next_hart w.reserved (string_bytes c.harts.text) (string_bytes c.push_hart.new.text)
    (hart_entries w.reserved 0 w.harts) c.ends-harts.result.now c.harts.number
    c.index-harts-number.result c.in_ok-word.word inside c.index-harts-number.is
    c.in_ok-word.ensures c.in_ok-push_hart.ensures c.harts.invariant

pub returns : goal.returns
returns g c =
    let s = session c.args.debugger.now in
    let w = world_at s s.position in
    let harts = c.ends-harts.result.now in
    let ended : length harts ≤ c.harts.number = omega (arith, c.harts-test.false) in
    last_hart w.reserved (string_bytes c.harts.text) (hart_entries w.reserved 0 w.harts) harts
    c.harts.number ended c.harts.invariant
