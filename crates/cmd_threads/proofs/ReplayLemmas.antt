-- What `replay` answers to a printed history.
use Rattle.std.proofs.Common.{◌≡◌, ℕ, ◌^◌, ◌<◌, ◌≤◌, Bool, cond, ltb, List, length, map, Option, Ok, Err, arith, ne_eqb, le-ltb, ap, ◌∙◌}
use Rattle.std.specs.List.{All}
use Rattle.std.proofs.lemmas.List.Elements.{All-map}
use Rattle.hart_reservations.specs.Limit.{most_harts}
use Rattle.image.specs.Image.{ImageValue}
use Rattle.machine.specs.Start.{IsStartable}
use Rattle.machine.specs.declared.choice.Choice.{Choice}
use Rattle.history.specs.declared.entry.Entry.{Entry}
use Rattle.history.specs.History.{expanded}
use Rattle.history.specs.Plain.{plain_entry}
use Rattle.history.specs.Printing.{history_text}
use Rattle.history.specs.Reading.{entries_of}
use Rattle.history.proofs.Agreement.{entries_of-spelled}
use Rattle.history.proofs.PrintLemmas.{history_spells}
use Rattle.outcome.specs.declared.expect.Expect.{Expect}
use Rattle.byte_io.specs.declared.status.Status.{Status}
use Rattle.program_open.specs.Answers.{Answer}
use Rattle.program_open.specs.Opening.{after_program}
use Rattle.program_open.specs.Program.{program_of}
use Rattle.program_open.specs.declared.program.ProgramForm.TheVariants as form
use Rattle.program_open.specs.declared.command_fault.CommandFault.TheVariants as fault
use Rattle.cmd_run.specs.Run.{shown, world_after}
use Rattle.cmd_replay.specs.Replay.{OpenedReplay, replay_after, replay_answer, replay_opening, with_history}

-- what follows a program that loads and a number of harts that a machine has
goes_on : (harts : ℕ) (next : ImageValue → OpenedReplay) (image : ImageValue) → 0 < harts → harts ≤ most_harts
    → after_program harts next (Ok image) ≡ next image
goes_on harts next image some few =
    ap by_none (ne_eqb harts 0 (λ none. omega (arith, some, none))) ∙ ap by_many (le-ltb most_harts harts few)
  where
    by_many : Bool → OpenedReplay
    by_many many = cond many (Err fault.TooManyHarts) (next image)

    by_none : Bool → OpenedReplay
    by_none none = cond none (Err fault.NoHarts) (by_many (ltb most_harts harts))

-- a printed history is read, if each entry is of one of the harts and its count fits
read_back : (harts : ℕ) (text : List ℕ) (entries : List Entry) → harts ≤ most_harts → All (λ e. e.hart < harts) entries
    → All (λ e. e.local < 2 ^ 32) entries → text ≡ history_text entries → entries_of harts text ≡ Ok entries
read_back harts text entries few there small printed =
    let word : harts < 2 ^ 32 = omega (arith, few) in
    ap (entries_of harts) printed
    ∙ entries_of-spelled harts (history_text entries) entries word (history_spells harts entries word there small)

-- so `replay` answers what is printed after it
pub replay_answers : (inputs : List ℕ) (expect : Expect) (program text : List ℕ) (image : ImageValue) (entries : List Entry) (answer : List ℕ × Status)
    → IsStartable inputs → All (λ e. e.hart < length inputs) entries → All (λ e. e.local < 2 ^ 32) entries
    → program_of form.Elf program ≡ Ok image → text ≡ history_text entries
    → shown expect inputs (expanded entries) (world_after image inputs (expanded entries)) ≡ answer
    → replay_answer inputs expect program text ≡ Ok answer
unfolding replay_answer replay_opening
replay_answers inputs expect program text image entries answer startable there small loads printed shows =
    ap (replay_after expect inputs)
    (ap (after_program (length inputs) next) loads ∙ goes_on (length inputs) next image startable.0 startable.1
    ∙ ap (with_history image) (read_back (length inputs) text entries startable.1 there small printed))
    ∙ ap answered shows
  where
    next : ImageValue → OpenedReplay
    next i = with_history i (entries_of (length inputs) text)

    answered : List ℕ × Status → Answer
    answered a = Ok a

-- entries of one choice each are of the choices' harts, and have no local steps
pub plain_there : (harts : ℕ) (choices : List Choice) → All (λ c. c.hart < harts) choices → All (λ e. e.hart < harts) (map plain_entry choices)
plain_there harts choices there = All-map (λ (e : Entry). e.hart < harts) plain_entry choices there

pub plain_small : (choices : List Choice) → All (λ e. e.local < 2 ^ 32) (map plain_entry choices)
plain_small choices =
    let small : 0 < 2 ^ 32 = omega arith in
    All-map (λ (e : Entry). e.local < 2 ^ 32) plain_entry choices (λ k d inside. small)
