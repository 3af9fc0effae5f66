-- What is printed of a run in which properties may have been judged, and its status.
use Rattle.std.specs.Prelude.{ℕ, Bool, true, false, List, ◌++◌, length, Option, Some, None, if◌then◌else◌}
use Rattle.std.specs.List.{list_any}
use Rattle.machine.specs.World.{World}
use Rattle.machine.specs.declared.choice.Choice.{Choice}
use Rattle.byte_io.specs.declared.status.Status.{Status}
use Rattle.byte_io.specs.declared.status.Status.TheVariants as status
use Rattle.hart_step.specs.Hart.{HartValue}
use Rattle.object_library.specs.declared.verdict.Verdict.{Verdict}
use Rattle.outcome.specs.Ends.{lines_of_ends, verdict_on}
use Rattle.outcome.specs.declared.expect.Expect.{Expect}
use Rattle.property_judge.specs.declared.judged.Judged.{Judged}
use Rattle.cmd_run.specs.Run.{shown}
use Rattle.run_hangs.specs.Asked.{hangs_if}
use Rattle.run_hangs.specs.declared.asked.Hangs.{Hangs}
use Rattle.run_hangs.specs.declared.status.RunStatus.{RunStatus}
use Rattle.cmd_form.specs.declared.form.Form.{Form}
use Rattle.cmd_form.specs.declared.form.Form.TheVariants.{Text, Json}
use Rattle.cmd_properties.specs.Hangs.{hang_line, status_if}
use Rattle.cmd_properties.specs.Lines.{judged_lines}
use Rattle.cmd_properties.specs.Objects.{run_object}

-- whether a property is broken
abbrev pub is_broken : Judged → Bool
is_broken judged = is_after judged.broken
  where
    is_after : Option ℕ → Bool
    is_after None = false
    is_after (Some choices) = true

-- whether one of these properties is broken
abbrev pub has_broken : List Judged → Bool
has_broken judged = list_any is_broken judged

-- the status of a run that had one without properties
abbrev pub status_with : List Judged → Status → Status
status_with judged code = if has_broken judged then status.Broken else code

-- what is printed of a run: the lines of `run`, then those of its properties, and then whether it
-- hangs; or an object
abbrev pub printed : Form → Option Verdict → List HartValue → List Judged → Option Bool → List ℕ
printed Text verdict harts judged hangs =
    lines_of_ends verdict harts ++ (judged_lines judged ++ hang_line hangs)
printed Json verdict harts judged hangs = run_object verdict harts judged hangs

-- what is printed of the world after a list of choices, with the verdict, the properties and whether
-- the run hangs, and the status
abbrev pub shown_hanging : Form → Expect → List ℕ → List Choice → List Judged → Option Bool → World → List ℕ × RunStatus
shown_hanging form expect inputs choices judged hangs w = (
  printed form (verdict_on expect.rule inputs choices w.harts) w.harts judged hangs,
  status_if hangs (status_with judged (shown expect inputs choices w).1),
)

-- the same, where it may be asked whether the run hangs
abbrev pub judged_shown : Form → Expect → Hangs → List ℕ → List Choice → List Judged → World → List ℕ × RunStatus
judged_shown form expect asked inputs choices judged w =
    shown_hanging form expect inputs choices judged (hangs_if asked (length inputs) (length choices) w) w
