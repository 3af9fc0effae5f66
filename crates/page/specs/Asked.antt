-- What the numbers of a call ask for.
use Rattle.std.specs.Prelude.{ℕ, ◌==◌, if◌then◌else◌, Option, Some, None}
use Rattle.campaign_runs.specs.declared.campaign.Report.{Report}
use Rattle.campaign_runs.specs.declared.campaign.Report.TheVariants as report
use Rattle.cmd_run.specs.declared.file.FileView.{FileView}
use Rattle.cmd_run.specs.declared.file.FileView.TheVariants as view
use Rattle.cmd_trace.specs.declared.plan.TraceForm.TheVariants.{Lines}
use Rattle.cmd_trace.specs.declared.plan.TracePlan.{TracePlan}
use Rattle.explore_space.specs.declared.meant.ScRefusals.{ScRefusals}
use Rattle.explore_space.specs.declared.meant.ScRefusals.TheVariants as refusals
use Rattle.explore_space.specs.declared.own_bounds.OwnBounds.{OwnBounds}
use Rattle.explore_space.specs.declared.own_bounds.OwnBounds.TheVariants as bounds
use Rattle.object_library.specs.declared.kind.Kind.{Kind}
use Rattle.object_library.specs.declared.kind.Kind.TheVariants as kind
use Rattle.outcome.specs.declared.expect.Exit.{Exit}
use Rattle.outcome.specs.declared.expect.Exit.TheVariants as exit
use Rattle.outcome.specs.declared.expect.Expect.{Expect}

-- a rule by its number: 0 is none, and the kinds follow in the order of their names in help
abbrev pub rule_numbered : ℕ → Option (Option Kind)
rule_numbered n =
    if n == 0 then Some None
    else if n == 1 then Some (Some kind.Swap)
    else if n == 2 then Some (Some kind.Add)
    else if n == 3 then Some (Some kind.LrSc)
    else if n == 4 then Some (Some kind.AdoptCommit)
    else if n == 5 then Some (Some kind.Rounds)
    else None

-- whether a hart may still run at the end: 0 it may, 1 it must have exited
abbrev pub exit_numbered : ℕ → Option Exit
exit_numbered n = if n == 0 then Some exit.May else if n == 1 then Some exit.Must else None

abbrev pub expect_by : Option (Option Kind) → Option Exit → Option Expect
expect_by (Some rule) (Some exit) = Some record { rule = rule; exit = exit }
expect_by (Some rule) None = None
expect_by None exit = None

-- what is expected of a run
abbrev pub expect_numbered : ℕ → ℕ → Option Expect
expect_numbered rule exit = expect_by (rule_numbered rule) (exit_numbered exit)

-- what is shown of a file: 0 its listing, 1 its facts
abbrev pub view_numbered : ℕ → Option FileView
view_numbered n = if n == 0 then Some view.Listing else if n == 1 then Some view.Facts else None

-- the lines of the choices from one up to, but not including, another
abbrev pub lines_of : ℕ → ℕ → TracePlan
lines_of from to = record { form = Lines; from = from; to = Some to; word = None }

-- what is reported of a campaign: 0 all runs, 1 the failed ones, 2 outcomes, 3 outcomes with the
-- results of harts that have exited, 4 outcomes with the causes and the places of faults
abbrev pub report_numbered : ℕ → Option Report
report_numbered n =
    if n == 0 then Some report.Lines
    else if n == 1 then Some report.Failures
    else if n == 2 then Some report.Summary
    else if n == 3 then Some report.Outcomes
    else if n == 4 then Some report.Causes
    else None

-- whether the bounds on harts' own steps are asked for: 0 they aren't, 1 they are
abbrev pub bounds_numbered : ℕ → Option OwnBounds
bounds_numbered n =
    if n == 0 then Some bounds.NotAsked else if n == 1 then Some bounds.Asked else None

-- whether store-conditionals are refused that could succeed: 0 never, 1 they are too
abbrev pub refusals_numbered : ℕ → Option ScRefusals
refusals_numbered n =
    if n == 0 then Some refusals.Never else if n == 1 then Some refusals.Also else None
