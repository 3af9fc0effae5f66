-- A run's answer and its parts.
use Rattle.std.proofs.Common.{◌≡◌, ℕ, ◌^◌, ◌<◌, Bool, true, false, cond, eqb, ltb, List, length, map, Option, Some, None, Result, Ok, Err, refl, ap, sym, subst, ◌∙◌}
use Rattle.std.specs.Option.{IfSome}
use Rattle.std.specs.List.{All}
use Rattle.hart_reservations.specs.Limit.{most_harts}
use Rattle.image.specs.Image.{ImageValue}
use Rattle.hart_step.specs.Hart.{HartValue, hart_of}
use Rattle.hart_step.specs.declared.hart.Hart.{Hart}
use Rattle.machine.specs.World.{World, run}
use Rattle.machine.specs.Start.{started}
use Rattle.machine.specs.Chosen.{is_chosen}
use Rattle.machine.specs.declared.choice.Choice.{Choice}
use Rattle.machine.proofs.RunLaws.{length-started}
use Rattle.sched_text.specs.declared.choice_text.ChoiceFault.{ChoiceFault}
use Rattle.sched_text.specs.Reading.{choices_read}
use Rattle.sched_text.proofs.Agreement.{spells_of, hart_within}
use Rattle.sched_run.specs.Harts.{Harts}
use Rattle.sched_run.specs.Leads.{LeadsTo}
use Rattle.outcome.specs.Ends.{verdict_on}
use Rattle.outcome.specs.declared.expect.Expect.{Expect}
use Rattle.byte_io.specs.declared.status.Status.{Status}
use Rattle.program_open.specs.Program.{program_of}
use Rattle.program_open.specs.Answers.{Answer}
use Rattle.program_open.specs.Opening.{Opened, opening, after_program, with_choices}
use Rattle.program_open.specs.declared.program.ProgramForm.{ProgramForm}
use Rattle.program_open.specs.declared.command_fault.CommandFault.{CommandFault}
use Rattle.program_open.specs.declared.command_fault.CommandFault.TheVariants as fault
use Rattle.cmd_run.specs.Certified.{AnswersKept, IsCertified}
use Rattle.cmd_run.specs.Run.{run_after, run_answer, shown, shown_with, world_after}
use Rattle.cmd_run.proofs.CertifiedLemmas.{certified_keeps}

-- the ends of the harts after a text that was run
pub text_answered : (expect : Expect) (image : ImageValue) (inputs text : List ℕ) (old now : World) (chosen : Harts) (harts : List HartValue)
    (lines : List ℕ) (status : Status) → old ≡ started image inputs → LeadsTo (length inputs) text old now chosen → harts ≡ now.harts
    → ((choices : List Choice) → ((k : ℕ) → chosen k ≡ is_chosen choices k)
    → shown_with expect.exit (verdict_on expect.rule inputs choices harts) harts ≡ (lines, status))
    → run_after expect inputs (with_choices image (choices_read (length inputs) text)) ≡ Ok (lines, status)
text_answered expect image inputs text old now chosen harts lines status begun leads same shows =
    ap read_as leads.read ∙ ap world_as (sym here) ∙ ap harts_as (sym same) ∙ ap told (shows leads.choices leads.told)
  where
    read_as : Result (List Choice) ChoiceFault → Answer
    read_as r = run_after expect inputs (with_choices image r)

    world_as : World → Answer
    world_as w = Ok (shown expect inputs leads.choices w)

    harts_as : List HartValue → Answer
    harts_as hs = Ok (shown_with expect.exit (verdict_on expect.rule inputs leads.choices hs) hs)

    told : List ℕ × Status → Answer
    told a = Ok a

    here : now ≡ world_after image inputs leads.choices
    here = leads.led ∙ ap (λ w. run w leads.choices) begun

-- ---- certified files
-- what a run begins with that can begin
opened_parts : (form : ProgramForm) (n : ℕ) (program text : List ℕ) (image : ImageValue) (choices : List Choice)
    → opening form n program text ≡ Ok (image, choices) → (program_of form program ≡ Ok image) × (choices_read n text ≡ Ok choices)
unfolding opening
opened_parts form n program text image choices opens = first (program_of form program) refl opens
  where
    image_in : ImageValue → Opened → ImageValue
    image_in other (Ok o) = o.0
    image_in other (Err why) = other

    choices_in : List Choice → Opened → List Choice
    choices_in other (Ok o) = o.1
    choices_in other (Err why) = other

    answer : ImageValue → Bool → Bool → Result (List Choice) ChoiceFault → Opened
    answer i none many r = cond none (Err fault.NoHarts) (cond many (Err fault.TooManyHarts) (with_choices i r))

    rest : (i : ImageValue) → program_of form program ≡ Ok i → (none many : Bool) (r : Result (List Choice) ChoiceFault) → choices_read n text ≡ r
        → answer i none many r ≡ Ok (image, choices) → (program_of form program ≡ Ok image) × (choices_read n text ≡ Ok choices)
    rest i reads true many r is e = absurd (cc)
    rest i reads false true r is e = absurd (cc)
    rest i reads false false (Err why) is e = absurd (cc)
    rest i reads false false (Ok cs) is e = (
      subst (λ x. program_of form program ≡ Ok x) (ap (image_in i) e) reads,
      subst (λ x. choices_read n text ≡ Ok x) (ap (choices_in cs) e) is,
    )

    first : (p : Result ImageValue CommandFault) → program_of form program ≡ p → after_program n (λ i. with_choices i (choices_read n text)) p ≡ Ok (image, choices)
        → (program_of form program ≡ Ok image) × (choices_read n text ≡ Ok choices)
    first (Err why) reads e = absurd (cc)
    first (Ok i) reads e = rest i reads (eqb n 0) (ltb most_harts n) (choices_read n text) refl e

-- the answer of a certified file's run, for any choice text
certified_answers : (form : ProgramForm) (inputs : List ℕ) (expect : Expect) (program text : List ℕ) → All (λ x. x < 2 ^ 32) inputs
    → length inputs < 2 ^ 32 → IsCertified form program inputs expect.rule → AnswersKept expect.exit (run_answer form inputs expect program text)
unfolding run_answer
certified_answers form inputs expect program text words few h = by (opening form (length inputs) program text) refl
  where
    by : (o : Opened) → opening form (length inputs) program text ≡ o → AnswersKept expect.exit (run_after expect inputs o)
    by (Err why) opens = tt
    by (Ok o) opens =
        let parts = opened_parts form (length inputs) program text o.0 o.1 opens in
        let there = hart_within (length inputs) text o.1 (spells_of (length inputs) text o.1 few parts.1) in
        subst (λ o. AnswersKept expect.exit (run_after expect inputs o)) opens
        (certified_keeps form inputs expect program text o.0 o.1 words there parts.0 opens h)

-- the same by what the devices had left
pub known_kept : (form : ProgramForm) (inputs : List ℕ) (expect : Expect) (program text : Option (List ℕ)) → All (λ x. x < 2 ^ 32) inputs
    → length inputs < 2 ^ 32
    → IfSome program (λ p. IfSome text (λ c. IsCertified form p inputs expect.rule → AnswersKept expect.exit (run_answer form inputs expect p c)))
known_kept form inputs expect None text words few = tt
known_kept form inputs expect (Some p) None words few = tt
known_kept form inputs expect (Some p) (Some c) words few = certified_answers form inputs expect p c words few
