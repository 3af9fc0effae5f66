use Rattle.std.proofs.Common.{◌≡◌, ◌≤◌, length, ap, sym, subst, ◌∙◌}
use Rattle.debug_session.specs.Paged.{paged_world}
use Rattle.debug_session.specs.Session.{Session, moved, session, world_at}
use Rattle.gdb_session.specs.Talk.{talk_of}
use Rattle.cmd_gdb.proofs.MonitorLemmas.{only_moves}
use Rattle.cmd_gdb.proofs.answer.obey.Goals as goal

pub settle-requires-clause-inside : goal.settle-requires-clause-inside
settle-requires-clause-inside g c =
    let s = session c.args.talk.now.debugger in
    let u = session c.monitor.new.debugger in
    let e : u ≡ moved s u.position =
    only_moves s u c.args.command.now c.in_ok-told.told c.in_ok-told.ensures.ok in
    subst (λ (v : Session). c.in_ok-home.home.position ≤ length v.choices) (sym e)
    c.in_ok-home.ensures.inside

pub settle-requires-clause-world : goal.settle-requires-clause-world
settle-requires-clause-world g c =
    let s = session c.args.talk.now.debugger in
    let u = session c.monitor.new.debugger in
    let e : u ≡ moved s u.position =
    only_moves s u c.args.command.now c.in_ok-told.told c.in_ok-told.ensures.ok in
    subst
    (λ (v : Session). paged_world c.in_ok-home.home.machine
    ≡ world_at v c.in_ok-home.home.position) (sym e) c.in_ok-home.ensures.world

pub returns-then-is_err-clause-err : goal.returns-then-is_err-clause-err
returns-then-is_err-clause-err g c =
    let s = session c.args.talk.now.debugger in
    let u = session c.monitor.new.debugger in
    let p = c.in_ok-home.home.position in
    let e : u ≡ moved s u.position =
    only_moves s u c.args.command.now c.in_ok-told.told c.in_ok-told.ensures.ok in
    let back : session c.settle.new.self ≡ s =
    c.settle.ensures.moved ∙ ap (λ (v : Session). moved v p) e
    ∙ ap (moved s) c.in_ok-home.ensures.here in
    ap (λ (v : Session). record (talk_of c.args.talk.now) { session = v }) back
