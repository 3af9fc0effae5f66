-- The answer from a run's logs, and the rule of a certified file.
use Rattle.std.proofs.Common.{◌≡◌, ℕ, ◌^◌, ◌<◌, List, map, length, Option, Some, None, Ok, refl, ap, sym, subst, ◌∙◌}
use Rattle.std.specs.Prelude.{string_bytes}
use Rattle.std.specs.Option.{IfSome}
use Rattle.std.specs.List.{All}
use Rattle.image.specs.Image.{ImageValue}
use Rattle.hart_step.specs.Hart.{HartValue}
use Rattle.machine.specs.Start.{IsStartable}
use Rattle.machine.specs.World.{World}
use Rattle.machine.specs.declared.choice.Choice.{Choice}
use Rattle.bank_laws.specs.Banks.{after_log}
use Rattle.bank_laws.specs.Merged.{first_bank, EndsIn}
use Rattle.bank_order.specs.Merged.{IsMergeOf}
use Rattle.bank_memory.specs.BankLog.{BankLog}
use Rattle.bank_hart_log.specs.HartLog.{HartLogValue}
use Rattle.bank_merge.specs.Logs.{bank_log, segments_of_all}
use Rattle.bank_merge.specs.Merge.{slots, AreMatched, EndsAsLogged}
use Rattle.bank_threads.specs.Banked.{IsBanked}
use Rattle.history.specs.declared.entry.Entry.{Entry}
use Rattle.history.specs.History.{expanded}
use Rattle.history.specs.Plain.{plain_entry}
use Rattle.history.proofs.PlainLemmas.{plain_expands}
use Rattle.outcome.specs.declared.expect.Expect.{Expect}
use Rattle.outcome.specs.Ends.{verdict_on}
use Rattle.byte_io.specs.declared.status.Status.{Status}
use Rattle.program_open.specs.Program.{program_of}
use Rattle.program_open.specs.declared.program.ProgramForm.TheVariants as form
use Rattle.cmd_run.specs.Certified.{IsCertified, EndsKept}
use Rattle.cmd_run.specs.Run.{shown, shown_with, world_after}
use Rattle.cmd_run.proofs.CertifiedLemmas.{certified_shown}
use Rattle.cmd_replay.specs.Replay.{replay_answer}
use Rattle.cmd_threads.specs.declared.threads.ThreadsAnswer.{ThreadsAnswer}
use Rattle.cmd_threads.specs.BankedAnswer.{hart_of_log, text_for, IsBankedAnswer, IsMergedRun, IsOfRun}
use Rattle.cmd_threads.specs.declared.history_use.HistoryUse.{HistoryUse}
use Rattle.cmd_threads.specs.declared.history_use.HistoryUse.TheVariants.{Read}
use Rattle.cmd_threads.proofs.ReplayLemmas.{plain_small, plain_there, replay_answers}
use Rattle.cmd_threads.proofs.RunLemmas.{are_of, choices_within, harts_are}

module _ (image : ImageValue) (inputs : List ℕ) (budget : ℕ) (plan : List (ℕ × ℕ)) (logs : List HartLogValue) (banks : List BankLog) (b : IsBanked image inputs budget plan logs banks) (choices : List Choice) where
  pub merged_run : AreMatched logs banks → IsMergeOf (segments_of_all logs) choices → EndsAsLogged logs banks choices
      → IsMergedRun image inputs budget plan choices
  merged_run matched merged ends = record {
    logs = logs;
    banks = banks;
    banked = b;
    matched = matched;
    merged = merged;
    ends = ends image inputs (are_of image inputs budget plan logs banks b);
  }

  -- what is printed of the logs' harts is the printed world after the choices
  pub printed : (expect : Expect) (harts : List HartValue) (answer : List ℕ × Status)
      → EndsIn image inputs (world_after image inputs choices) (slots image inputs logs) (λ n. after_log (first_bank image) (bank_log banks n))
      → harts ≡ map hart_of_log logs → shown_with expect.exit (verdict_on expect.rule inputs choices harts) harts ≡ answer
      → shown expect inputs choices (world_after image inputs choices) ≡ answer
  printed expect harts answer ends are shows =
      let same : (world_after image inputs choices).harts ≡ harts
      = harts_are image inputs budget plan logs banks b (world_after image inputs choices) (λ n. after_log (first_bank image) (bank_log banks n)) ends ∙ sym are in
      ap (λ (hs : List HartValue). shown_with expect.exit (verdict_on expect.rule inputs choices hs) hs) same ∙ shows

  pub of_run : {A : Type 0} (expect : Expect) (history : HistoryUse) (harts : List HartValue) (answer : ThreadsAnswer A) → AreMatched logs banks
      → IsMergeOf (segments_of_all logs) choices → EndsAsLogged logs banks choices → string_bytes answer.history ≡ text_for history (map plain_entry choices)
      → harts ≡ map hart_of_log logs → shown_with expect.exit (verdict_on expect.rule inputs choices harts) harts ≡ (string_bytes answer.lines, answer.status)
      → IsOfRun image inputs budget plan expect history answer
  unfolding merged_run
  of_run expect history harts answer matched merged ends text are shows =
      let run = merged_run matched merged ends in
      record {
        choices = choices;
        run = run;
        entries = map plain_entry choices;
        each = refl;
        stand = plain_expands choices;
        text = text;
        prints = ap (λ (cs : List Choice). shown expect inputs cs (world_after image inputs cs)) (plain_expands choices)
            ∙ printed expect harts (string_bytes answer.lines, answer.status) run.ends are shows;
      }

-- the answer to a program that was read
pub answered : {A : Type 0} (image : ImageValue) (inputs : List ℕ) (budget : ℕ) (plan : List (ℕ × ℕ)) (left : Option (List ℕ)) (expect : Expect) (history : HistoryUse) (answer : ThreadsAnswer A)
    → IfSome left (λ p. program_of form.Elf p ≡ Ok image) → IsOfRun image inputs budget plan expect history answer
    → IfSome left (λ p. IsBankedAnswer inputs budget plan expect history p answer)
answered image inputs budget plan None expect history answer reads run = tt
answered image inputs budget plan (Some p) expect history answer reads run = record { image = image; reads = reads; of_run = run }

-- lines of inputs and choices as the code sees them
pub seen_lines : (expect : Expect) (inputs inputs_seen : List ℕ) (choices choices_seen : List Choice) (harts : List HartValue) (answer : List ℕ × Status)
    → inputs_seen ≡ inputs → choices_seen ≡ choices → shown_with expect.exit (verdict_on expect.rule inputs_seen choices_seen harts) harts ≡ answer
    → shown_with expect.exit (verdict_on expect.rule inputs choices harts) harts ≡ answer
seen_lines expect inputs inputs_seen choices choices_seen harts answer same_inputs same_choices shows =
    (λ i. shown_with expect.exit (verdict_on expect.rule (sym same_inputs i) (sym same_choices i) harts) harts) ∙ shows

-- a certified file keeps its rule
kept : {A : Type 0} (image : ImageValue) (inputs : List ℕ) (budget : ℕ) (plan : List (ℕ × ℕ)) (program : List ℕ) (expect : Expect) (history : HistoryUse) (answer : ThreadsAnswer A)
    → All (λ x. x < 2 ^ 32) inputs → program_of form.Elf program ≡ Ok image → IsOfRun image inputs budget plan expect history answer → IsCertified form.Elf program inputs expect.rule
    → EndsKept expect.exit (string_bytes answer.lines) answer.status
kept image inputs budget plan program expect history answer words reads o certified =
    let there : All (λ c. c.hart < length inputs) o.choices = choices_within o.run.logs o.choices (length inputs) o.run.banked.harts o.run.merged in
    subst (λ (a : List ℕ × Status). EndsKept expect.exit a.0 a.1) o.prints
    (certified_shown form.Elf inputs expect program image (expanded o.entries) words (subst (λ (cs : List Choice). All (λ c. c.hart < length inputs) cs) (sym o.stand) there) reads certified)

pub kept_of : {A : Type 0} (image : ImageValue) (inputs : List ℕ) (budget : ℕ) (plan : List (ℕ × ℕ)) (left : Option (List ℕ)) (expect : Expect) (history : HistoryUse) (answer : ThreadsAnswer A)
    → All (λ x. x < 2 ^ 32) inputs → IfSome left (λ p. program_of form.Elf p ≡ Ok image) → IsOfRun image inputs budget plan expect history answer
    → IfSome left (λ p. IsCertified form.Elf p inputs expect.rule → EndsKept expect.exit (string_bytes answer.lines) answer.status)
kept_of image inputs budget plan None expect history answer words reads run = tt
kept_of image inputs budget plan (Some p) expect history answer words reads run = λ certified. kept image inputs budget plan p expect history answer words reads run certified

-- what `replay` answers to a history that is read
replays : {A : Type 0} (image : ImageValue) (inputs : List ℕ) (budget : ℕ) (plan : List (ℕ × ℕ)) (program : List ℕ) (expect : Expect) (history : HistoryUse) (answer : ThreadsAnswer A)
    → IsStartable inputs → program_of form.Elf program ≡ Ok image → IsOfRun image inputs budget plan expect history answer → history ≡ Read
    → replay_answer inputs expect program (string_bytes answer.history) ≡ Ok (string_bytes answer.lines, answer.status)
replays image inputs budget plan program expect history answer startable reads o is =
    let within : All (λ c. c.hart < length inputs) o.choices = choices_within o.run.logs o.choices (length inputs) o.run.banked.harts o.run.merged in
    let there : All (λ e. e.hart < length inputs) o.entries =
    subst (λ (es : List Entry). All (λ e. e.hart < length inputs) es) (sym o.each) (plain_there (length inputs) o.choices within) in
    let small : All (λ e. e.local < 2 ^ 32) o.entries =
    subst (λ (es : List Entry). All (λ e. e.local < 2 ^ 32) es) (sym o.each) (plain_small o.choices) in
    replay_answers inputs expect program (string_bytes answer.history) image o.entries (string_bytes answer.lines, answer.status)
    startable there small reads (o.text ∙ ap (λ (h : HistoryUse). text_for h o.entries) is) o.prints

pub replays_known : {A : Type 0} (image : ImageValue) (inputs : List ℕ) (budget : ℕ) (plan : List (ℕ × ℕ)) (left : Option (List ℕ)) (expect : Expect) (history : HistoryUse) (answer : ThreadsAnswer A)
    → IsStartable inputs → IfSome left (λ p. program_of form.Elf p ≡ Ok image) → IsOfRun image inputs budget plan expect history answer
    → IfSome left (λ p. history ≡ Read → replay_answer inputs expect p (string_bytes answer.history) ≡ Ok (string_bytes answer.lines, answer.status))
replays_known image inputs budget plan None expect history answer startable reads run = tt
replays_known image inputs budget plan (Some p) expect history answer startable reads run = λ is. replays image inputs budget plan p expect history answer startable reads run is
