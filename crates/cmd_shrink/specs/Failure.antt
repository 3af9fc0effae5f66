-- How a run fails, and when another run fails in the same way.
use Rattle.std.specs.Prelude.{◌≡◌, ℕ, ◌+◌, Bool, IsTrue, if◌then◌else◌}
use Rattle.std.specs.Prelude.{List, [], ◌∷◌, length, slice_get, find, Option, Some, None, is_some}
use Rattle.image.specs.Image.{ImageValue}
use Rattle.hart_step.specs.Hart.{HartValue}
use Rattle.hart_step.specs.declared.hart.Cause.{Cause}
use Rattle.hart_step.specs.declared.hart.HartState.{HartState}
use Rattle.hart_step.specs.declared.hart.HartState.TheVariants.{Running, Exited, Faulted}
use Rattle.machine.specs.Start.{started}
use Rattle.machine.specs.World.{run}
use Rattle.machine.specs.declared.choice.Choice.{Choice}
use Rattle.object_library.specs.declared.kind.Kind.{Kind}
use Rattle.object_library.specs.declared.verdict.Verdict.{Verdict}
use Rattle.object_library.specs.declared.verdict.Verdict.TheVariants as verdict
use Rattle.object_library.specs.Judging.{verdict_of}
use Rattle.outcome.specs.Expect.{hangs}
use Rattle.outcome.specs.declared.expect.Exit.{Exit}
use Rattle.outcome.specs.declared.expect.Expect.{Expect}
use Rattle.property_judge.specs.Broken.{first_broken}
use Rattle.property_judge.specs.declared.property.Property.{Property}
use Rattle.run_hangs.specs.Hanging.{hangs_after, steps_for}
use Rattle.cmd_shrink.specs.declared.failure.Failure.{Failure}
use Rattle.cmd_shrink.specs.declared.failure.Failure.TheVariants as failure

-- whether a property is broken in the run of a list of choices, from an image's start: there is a
-- number of choices after which it doesn't hold
abbrev pub breaks_property : Property → ImageValue → List ℕ → List Choice → Bool
breaks_property property image inputs choices =
    is_some (first_broken property (started image inputs) choices)

-- the harts after choices, from an image's start
abbrev pub harts_after : ImageValue → List ℕ → List Choice → List HartValue
harts_after image inputs choices = (run (started image inputs) choices).harts

-- the verdict on a run with these inputs, choices and harts is that the rule of a kind is broken
abbrev pub BreaksRule : Kind → List ℕ → List Choice → List HartValue → Type 0
BreaksRule kind inputs choices harts = verdict_of kind inputs choices harts ≡ verdict.Broken

-- a hart has faulted with this cause at this pc
abbrev pub HasFaulted : HartValue → Cause → ℕ → Type 0
HasFaulted hart cause pc = (hart.state ≡ Faulted cause) × (hart.pc ≡ pc)

-- the hart with this number has faulted with this cause at this pc
abbrev pub HasFaultedAt : ℕ → Cause → ℕ → List HartValue → Type 0
HasFaultedAt number cause pc harts =
    (hart : HartValue) × (slice_get harts number ≡ Some hart) × HasFaulted hart cause pc

-- the run of a list of choices fails in this way, from an image's start: it breaks this property,
-- or its verdict is that the rule is broken, or this hart has faulted with this cause at this pc,
-- or the run hangs for this number of further steps
abbrev pub RunFailsSo : Failure → ImageValue → List ℕ → List Choice → Type 0
RunFailsSo (failure.BrokenProperty property) image inputs choices =
    IsTrue (breaks_property property image inputs choices)
RunFailsSo (failure.Broken kind) image inputs choices =
    BreaksRule kind inputs choices (harts_after image inputs choices)
RunFailsSo (failure.Faulted number cause pc) image inputs choices =
    HasFaultedAt number cause pc (harts_after image inputs choices)
RunFailsSo (failure.Hangs steps) image inputs choices =
    IsTrue (hangs_after steps image inputs choices)

-- the failure of a hart in this state, or else another
abbrev pub or_failure : Option Failure → ℕ → ℕ → HartState → Option Failure
or_failure other number pc Running = other
or_failure other number pc (Exited status) = other
or_failure other number pc (Faulted cause) = Some (failure.Faulted number cause pc)

-- the fault of the lowest hart that has one, of harts numbered from a number on
abbrev pub lowest_fault : ℕ → List HartValue → Option Failure
lowest_fault number [] = None
lowest_fault number (hart ∷ harts) =
    or_failure (lowest_fault (number + 1) harts) number hart.pc hart.state

-- a broken rule is a failure
abbrev pub failure_by : Kind → Verdict → Option Failure
failure_by kind verdict.Kept = None
failure_by kind verdict.Broken = Some (failure.Broken kind)

-- how a run fails at its end, if it does: under a rule by its verdict, and without one by the
-- lowest hart that has faulted
abbrev pub failure_of : Option Kind → List ℕ → List Choice → List HartValue → Option Failure
failure_of None inputs choices harts = lowest_fault 0 harts
failure_of (Some kind) inputs choices harts = failure_by kind (verdict_of kind inputs choices harts)

-- a failure, or else a hang, if each hart must exit
abbrev pub failure_or : Exit → ℕ → Bool → Option Failure → Option Failure
failure_or exit steps running (Some how) = Some how
failure_or exit steps running None = if hangs exit running then Some (failure.Hangs steps) else None

-- how the run of a list of choices fails, from an image's start, where it breaks no property: at
-- its end, or else, if each hart must exit, it hangs for as many further steps as the list has
-- choices, and at least 10,000
abbrev pub failure_otherwise : Expect → ImageValue → List ℕ → List Choice → Option Failure
failure_otherwise expect image inputs choices =
    failure_or expect.exit (steps_for (length choices))
    (hangs_after (steps_for (length choices)) image inputs choices)
    (failure_of expect.rule inputs choices (harts_after image inputs choices))

-- the first of these properties that is broken in the run of a list of choices
abbrev pub broken_property : List Property → ImageValue → List ℕ → List Choice → Option Property
broken_property properties image inputs choices =
    find (λ property. breaks_property property image inputs choices) properties

-- a broken property is a failure, whatever else is
abbrev pub property_or : Option Property → Option Failure → Option Failure
property_or (Some property) otherwise = Some (failure.BrokenProperty property)
property_or None otherwise = otherwise

-- how the run of a list of choices fails, from an image's start: it breaks the first of these
-- properties that it breaks, or else it fails as without them
abbrev pub failure_after : Expect → List Property → ImageValue → List ℕ → List Choice → Option Failure
failure_after expect properties image inputs choices =
    property_or (broken_property properties image inputs choices)
    (failure_otherwise expect image inputs choices)
