-- Runs of an object in which each hart is chosen often enough.
use Rattle.std.proofs.Common.{suc, ◌≡◌, ℕ, ◌^◌, ◌<◌, ◌≤◌, ◌+◌, true, false, ◌||◌, cond, List, [], ◌∷◌, length, ltb, le-ltb, ne_eqb, slice_index_or, Option, Some, None, Ok, Err, refl, arith, ap, ap₂, sym, subst, ◌∙◌}
use Rattle.std.specs.Option.{IfSome}
use Rattle.std.specs.List.{All}
use Rattle.hart_reservations.specs.Limit.{most_harts}
use Rattle.image.specs.Image.{ImageValue}
use Rattle.hart_step.specs.Hart.{HartValue}
use Rattle.hart_step.specs.declared.hart.HartState.{HartState}
use Rattle.hart_step.specs.declared.hart.HartState.TheVariants.{Running, Exited, Faulted}
use Rattle.machine.specs.Start.{started}
use Rattle.machine.specs.World.{run}
use Rattle.machine.specs.Chosen.{own, refusals}
use Rattle.machine.specs.declared.choice.Choice.{Choice}
use Rattle.machine.proofs.RunLaws.{length-started, run_length}
use Rattle.sched_text.specs.Reading.{choices_read}
use Rattle.sched_text.proofs.Agreement.{hart_within, spells_of}
use Rattle.object_library.specs.declared.kind.Kind.{Kind}
use Rattle.object_library.specs.declared.kind.Kind.TheVariants.{Swap, Add, LrSc, AdoptCommit, Rounds}
use Rattle.object_library.specs.declared.verdict.Verdict.TheVariants.{Kept}
use Rattle.object_library.specs.Images.{image_of, IsSame}
use Rattle.object_library.specs.Rules.{HasExited, is_exited}
use Rattle.object_consensus.proofs.AmoRace.{add_ends_in, swap_ends_in}
use Rattle.object_consensus.proofs.LrscRace.{ends_in as lrsc_ends_in}
use Rattle.object_adopt.proofs.Alone.{ends_in as adopt_ends_in}
use Rattle.object_adopt.proofs.Four.{ends_in as rounds_ends_in}
use Rattle.outcome.specs.Ends.{verdict_on}
use Rattle.outcome.specs.Expect.{hangs, status_by, status_of}
use Rattle.outcome.specs.Outcome.{counted, counts, outcome_of}
use Rattle.outcome.specs.declared.expect.Exit.{Exit}
use Rattle.outcome.specs.declared.expect.Exit.TheVariants.{May, Must}
use Rattle.outcome.specs.declared.expect.Expect.{Expect}
use Rattle.outcome.specs.declared.run_outcome.End.TheVariants as end
use Rattle.byte_io.specs.declared.status.Status.TheVariants as status
use Rattle.program_open.specs.Opening.{Opened, after_program, opening, with_choices}
use Rattle.program_open.specs.declared.program.ProgramForm.{ProgramForm}
use Rattle.program_open.specs.declared.command_fault.CommandFault.TheVariants as fault
use Rattle.cmd_run.specs.Certified.{IsMeantFor}
use Rattle.cmd_run.specs.Enough.{enough, EndsWell, IsChosenEnough}
use Rattle.cmd_run.specs.Run.{run_after, run_answer, world_after}
use Rattle.cmd_run.proofs.CertifiedLemmas.{object_is_kept}

-- an object is for few harts
at_most : (kind : Kind) (n : ℕ) → IsMeantFor kind n → n ≤ most_harts
at_most Swap n meant = omega (arith, meant)
at_most Add n meant = omega (arith, meant)
at_most LrSc n meant = meant
at_most AdoptCommit n meant = meant
at_most Rounds n meant = meant

few : (kind : Kind) (n : ℕ) → IsMeantFor kind n → n < 2 ^ 32
few kind n meant = let below = at_most kind n meant in omega (arith, below)

-- an exited hart doesn't run
stopped : (state : HartState) → is_exited state ≡ true → counts end.Running state ≡ 0
stopped Running e = absurd (cc)
stopped (Exited status) e = refl
stopped (Faulted cause) e = absurd (cc)

-- if each has exited, none runs
none_runs : (harts : List HartValue) → ((h : ℕ) (d : HartValue) → h < length harts → HasExited (slice_index_or harts h d))
    → counted end.Running harts ≡ 0
none_runs [] each = refl
none_runs (hart ∷ harts) each =
    ap₂ (λ a b. a + b) (stopped hart.state (each 0 hart (omega arith))) (none_runs harts (λ h d lt. each (suc h) d (omega (arith, lt))))

-- a kept rule and no running hart are as expected, whatever that is
well : (exit : Exit) (running : ℕ) → running ≡ 0 → status_by false (false || (false || hangs exit (ltb 0 running))) ≡ status.Done
well May running e = refl
well Must running e = ap (λ n. status_by false (false || (false || ltb 0 n))) e

-- a hart of an object that is chosen often enough has exited
pub exited : (kind : Kind) (image : ImageValue) (inputs : List ℕ) (choices : List Choice) → IsSame image (image_of kind)
    → IsMeantFor kind (length inputs) → All (λ x. x < 2 ^ 32) inputs → All (λ c. c.hart < length inputs) choices
    → (h : ℕ) (d : HartValue) → h < length inputs → enough kind (length inputs) (refusals choices h) ≤ own choices h
    → HasExited (slice_index_or (run (started image inputs) choices).harts h d)
exited Swap image inputs choices same meant words there h d lt often = swap_ends_in image same inputs choices meant words there h d lt often
exited Add image inputs choices same meant words there h d lt often = add_ends_in image same inputs choices meant words there h d lt often
exited LrSc image inputs choices same meant words there h d lt often =
    lrsc_ends_in most_harts image (omega arith) same inputs choices meant words there h d lt often
exited AdoptCommit image inputs choices same meant words there h d lt often =
    adopt_ends_in most_harts image (omega arith) same inputs choices meant words there h d lt often
exited Rounds image inputs choices same meant words there h d lt often =
    rounds_ends_in image same inputs choices meant words there h d lt often

ends_well : (form : ProgramForm) (inputs : List ℕ) (expect : Expect) (program text : List ℕ) → All (λ x. x < 2 ^ 32) inputs
    → IsChosenEnough form program inputs expect.rule text → EndsWell (run_answer form inputs expect program text)
unfolding run_answer opening
ends_well form inputs expect program text words e =
    subst (λ p. P (after_program n (λ i. with_choices i (choices_read n text)) p)) (sym e.object.reads)
    (subst (λ none. P (cond none (Err fault.NoHarts) (cond (ltb most_harts n) (Err fault.TooManyHarts) (with_choices e.object.image (choices_read n text)))))
    (sym (ne_eqb n 0 (λ none. omega (arith, some, none))))
    (subst (λ many. P (cond many (Err fault.TooManyHarts) (with_choices e.object.image (choices_read n text))))
    (sym (le-ltb most_harts n (at_most e.object.kind n e.object.meant)))
    (subst (λ r. P (with_choices e.object.image r)) (sym e.reads) done)))
  where
    n : ℕ
    n = length inputs

    some : 0 < length inputs
    some = e.some

    P : Opened → Type 0
    P o = EndsWell (run_after expect inputs o)

    there : All (λ c. c.hart < length inputs) e.choices
    there = hart_within n text e.choices (spells_of n text e.choices (few e.object.kind n e.object.meant) e.reads)

    harts : List HartValue
    harts = (world_after e.object.image inputs e.choices).harts

    as_many : length harts ≡ length inputs
    as_many = run_length (started e.object.image inputs) e.choices ∙ length-started e.object.image inputs

    quiet : counted end.Running harts ≡ 0
    quiet =
        none_runs harts (λ h d lt.
        let below = subst (λ k. h < k) as_many lt in
        exited e.object.kind e.object.image inputs e.choices e.object.same e.object.meant words there h d below (e.often h below))

    kept : verdict_on expect.rule inputs e.choices harts ≡ Some Kept
    kept =
        ap (λ r. verdict_on r inputs e.choices harts) e.object.ruled
        ∙ object_is_kept e.object.kind e.object.image inputs e.choices e.object.same e.object.meant words there

    done : status_of expect.exit (outcome_of (verdict_on expect.rule inputs e.choices harts) harts) ≡ status.Done
    done = ap (λ v. status_of expect.exit (outcome_of v harts)) kept ∙ well expect.exit (counted end.Running harts) quiet

-- the same by what the devices had left
pub known_enough : (form : ProgramForm) (inputs : List ℕ) (expect : Expect) (program text : Option (List ℕ)) → All (λ x. x < 2 ^ 32) inputs
    → IfSome program (λ p. IfSome text (λ c. IsChosenEnough form p inputs expect.rule c → EndsWell (run_answer form inputs expect p c)))
known_enough form inputs expect None text words = tt
known_enough form inputs expect (Some p) None words = tt
known_enough form inputs expect (Some p) (Some c) words = λ e. ends_well form inputs expect p c words e
