use Rattle.std.proofs.Common.{◌≡◌, ◌++◌, string_bytes, drop}
use Rattle.std.specs.List.{flat_map}
use Rattle.gdb_monitor.specs.Texts.{schedule_entry}
use Rattle.gdb_monitor.proofs.schedule_text.schedule_text.Given as goal

-- the text so far, and then the lines that are left
abbrev pub invariant-views : goal.invariant-views
invariant-views g l =
    string_bytes l.text ++ flat_map (schedule_entry l.position) (drop l.view-index l.views)
    ≡ flat_map (schedule_entry l.position) l.views
