use Rattle.std.proofs.Common.{◌≡◌, ◌++◌, string_bytes, drop, map}
use Rattle.hart_step.specs.Hart.{hart_of}
use Rattle.debug_session.specs.Session.{session, world_at}
use Rattle.gdb_monitor.specs.Texts.{hart_entries}
use Rattle.gdb_monitor.proofs.harts_text.harts_text.Given as goal

-- the text so far, and then the lines of the harts that are left
abbrev pub invariant-harts : goal.invariant-harts
invariant-harts g l =
    let s = session l.debugger in
    let w = world_at s s.position in
    string_bytes l.text ++ hart_entries w.reserved l.number (map hart_of (drop l.number l.harts))
    ≡ hart_entries w.reserved 0 w.harts
