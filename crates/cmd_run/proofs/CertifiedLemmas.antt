-- The rules that the objects keep, in a run's answer.
use Rattle.std.proofs.Common.{◌≡◌, ℕ, ◌^◌, ◌<◌, Bool, true, false, cond, rules, List, length, Option, Some, None, Result, Ok, refl, arith, ap, sym, subst, ◌∙◌, inl, inr}
use Rattle.std.specs.List.{All}
use Rattle.hart_reservations.specs.Limit.{most_harts}
use Rattle.image.specs.Image.{ImageValue}
use Rattle.hart_step.specs.Hart.{HartValue}
use Rattle.machine.specs.World.{run}
use Rattle.machine.specs.Start.{started}
use Rattle.machine.specs.declared.choice.Choice.{Choice}
use Rattle.object_library.specs.declared.kind.Kind.{Kind}
use Rattle.object_library.specs.declared.kind.Kind.TheVariants.{Swap, Add, LrSc, AdoptCommit, Rounds}
use Rattle.object_library.specs.declared.verdict.Verdict.{Verdict}
use Rattle.object_library.specs.declared.verdict.Verdict.TheVariants as verdict
use Rattle.object_library.specs.Images.{image_of, IsSame}
use Rattle.object_library.specs.Rules.{KeepsRule}
use Rattle.object_library.proofs.JudgeLemmas.{kept-decides}
use Rattle.object_consensus.proofs.AmoRace.{swap_agrees_in, add_agrees_in}
use Rattle.object_consensus.proofs.LrscRace.{agrees_in as lrsc_agrees_in}
use Rattle.object_adopt.proofs.Alone.{agrees_in as adopt_agrees_in}
use Rattle.object_adopt.proofs.Four.{agrees_in as rounds_agrees_in}
use Rattle.cmd_run.specs.Certified.{AnswersKept, IsCertified, IsMeantFor, IsUnbroken}
use Rattle.outcome.specs.Ends.{ends_of, verdict_on}
use Rattle.outcome.specs.Expect.{status_by}
use Rattle.outcome.specs.Outcome.{some_run}
use Rattle.outcome.specs.declared.expect.Exit.{Exit}
use Rattle.outcome.specs.declared.expect.Exit.TheVariants.{May, Must}
use Rattle.outcome.specs.declared.expect.Expect.{Expect}
use Rattle.program_open.specs.Program.{program_of}
use Rattle.program_open.specs.Opening.{opening}
use Rattle.cmd_run.specs.Run.{run_after, run_answer, shown, shown_with, world_after}
use Rattle.program_open.specs.declared.program.ProgramForm.{ProgramForm}
use Rattle.program_open.specs.declared.command_fault.CommandFault.{CommandFault}

-- a run of an object keeps the rule of its kind
pub object_keeps : (kind : Kind) (image : ImageValue) (inputs : List ℕ) (choices : List Choice) → IsSame image (image_of kind)
    → IsMeantFor kind (length inputs) → All (λ x. x < 2 ^ 32) inputs → All (λ c. c.hart < length inputs) choices
    → KeepsRule kind inputs choices (run (started image inputs) choices).harts
object_keeps Swap image inputs choices same meant words there = swap_agrees_in image same inputs choices meant words there
object_keeps Add image inputs choices same meant words there = add_agrees_in image same inputs choices meant words there
object_keeps LrSc image inputs choices same meant words there =
    lrsc_agrees_in most_harts image (omega arith) same inputs choices meant words there
object_keeps AdoptCommit image inputs choices same meant words there =
    adopt_agrees_in most_harts image (omega arith) same inputs choices meant words there
object_keeps Rounds image inputs choices same meant words there = rounds_agrees_in image same inputs choices meant words there

-- so a judge says it is kept
pub object_is_kept : (kind : Kind) (image : ImageValue) (inputs : List ℕ) (choices : List Choice) → IsSame image (image_of kind)
    → IsMeantFor kind (length inputs) → All (λ x. x < 2 ^ 32) inputs → All (λ c. c.hart < length inputs) choices
    → verdict_on (Some kind) inputs choices (run (started image inputs) choices).harts ≡ Some verdict.Kept
object_is_kept kind image inputs choices same meant words there =
    let harts = (run (started image inputs) choices).harts in
    ap (λ kept. Some (cond kept verdict.Kept verdict.Broken))
    ((kept-decides kind inputs choices harts).1 (object_keeps kind image inputs choices same meant words there))

-- only a running hart makes a difference
unbroken : (b : Bool) → IsUnbroken Must (status_by false b)
unbroken true = inr refl
unbroken false = inl refl

-- harts that are shown with such a verdict
pub shown-kept : (exit : Exit) (v : Option Verdict) (harts : List HartValue) → v ≡ Some verdict.Kept
    → AnswersKept exit (Ok (shown_with exit v harts))
shown-kept May (Some verdict.Kept) harts e = record { ends = ends_of 0 harts; text_is = refl; unbroken = refl }
shown-kept Must (Some verdict.Kept) harts e =
    record { ends = ends_of 0 harts; text_is = refl; unbroken = unbroken (some_run harts) }
shown-kept exit (Some verdict.Broken) harts e = absurd (cc)
shown-kept exit None harts e = absurd (cc)

-- what is printed of a certified file's run keeps its rule
pub certified_shown : (form : ProgramForm) (inputs : List ℕ) (expect : Expect) (program : List ℕ) (image : ImageValue) (choices : List Choice)
    → All (λ x. x < 2 ^ 32) inputs → All (λ c. c.hart < length inputs) choices → program_of form program ≡ Ok image
    → IsCertified form program inputs expect.rule
    → AnswersKept expect.exit (Ok (shown expect inputs choices (world_after image inputs choices)))
certified_shown form inputs expect program image choices words there reads h =
    let one : h.image ≡ image = same_image h.image image (sym h.reads ∙ reads) in
    let harts = (world_after image inputs choices).harts in
    shown-kept expect.exit (verdict_on expect.rule inputs choices harts) harts
    (ap (λ r. verdict_on r inputs choices harts) h.ruled
    ∙ object_is_kept h.kind image inputs choices (subst (λ i. IsSame i (image_of h.kind)) one h.same) h.meant words there)
  where
    loads : ImageValue → Result ImageValue CommandFault
    loads x = Ok x

    same_image : (x y : ImageValue) → loads x ≡ loads y → x ≡ y
    same_image x y e = search (rules, e)

-- and so does what a run answers that begins with its image
pub certified_keeps : (form : ProgramForm) (inputs : List ℕ) (expect : Expect) (program text : List ℕ) (image : ImageValue) (choices : List Choice)
    → All (λ x. x < 2 ^ 32) inputs → All (λ c. c.hart < length inputs) choices → program_of form program ≡ Ok image
    → opening form (length inputs) program text ≡ Ok (image, choices) → IsCertified form program inputs expect.rule
    → AnswersKept expect.exit (run_answer form inputs expect program text)
unfolding run_answer
certified_keeps form inputs expect program text image choices words there reads opens h =
    subst (λ o. AnswersKept expect.exit (run_after expect inputs o)) (sym opens)
    (certified_shown form inputs expect program image choices words there reads h)
