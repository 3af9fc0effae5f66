-- The answer of a run on threads, by its book.
use Rattle.std.proofs.Common.{◌≡◌, ℕ, ◌^◌, ◌<◌, List, length, Option, Some, None, Ok, arith, ap, sym, subst, ◌∙◌}
use Rattle.std.specs.Prelude.{string_bytes}
use Rattle.std.specs.Option.{IfSome}
use Rattle.std.specs.List.{All}
use Rattle.image.specs.Image.{ImageValue}
use Rattle.hart_step.specs.Hart.{HartValue}
use Rattle.machine.specs.Start.{IsStartable}
use Rattle.machine.specs.World.{World}
use Rattle.history.specs.declared.entry.Entry.{Entry}
use Rattle.history.specs.History.{expanded}
use Rattle.history.specs.Printing.{history_text}
use Rattle.outcome.specs.declared.expect.Expect.{Expect}
use Rattle.outcome.specs.Ends.{verdict_on}
use Rattle.byte_io.specs.declared.status.Status.{Status}
use Rattle.program_open.specs.Program.{program_of}
use Rattle.program_open.specs.declared.program.ProgramForm.TheVariants as form
use Rattle.cmd_run.specs.Certified.{IsCertified, EndsKept}
use Rattle.cmd_run.specs.Run.{shown, shown_with, world_after}
use Rattle.cmd_replay.specs.Replay.{replay_answer}
use Rattle.thread_book.specs.Book.{BookValue, replayed, world_of}
use Rattle.thread_run.specs.Outcome.{IsOutcome}
use Rattle.cmd_threads.specs.Threads.{IsAnswer}
use Rattle.cmd_threads.specs.declared.threads.ThreadsAnswer.{ThreadsAnswer}
use Rattle.cmd_run.proofs.CertifiedLemmas.{certified_shown}
use Rattle.cmd_replay.proofs.KeptLemmas.{within_history}
use Rattle.cmd_threads.proofs.ReplayLemmas.{replay_answers}

module _ (image : ImageValue) (inputs : List ℕ) (budget : ℕ) (total : Option ℕ) (plan : List (ℕ × ℕ)) (b : BookValue) (o : IsOutcome image inputs budget total plan b) where
  -- the book is that of the image and the inputs
  pub outcome_itself : IsOutcome image inputs budget total plan (record { image = image; inputs = inputs; history = b.history })
  outcome_itself = subst (λ (x : BookValue). IsOutcome image inputs budget total plan x)
      (λ i. record { image = o.same_image i; inputs = o.same_inputs i; history = b.history }) o

  -- what is printed of the book's harts is the printed world after its history
  pub printed : (expect : Expect) (harts : List HartValue) (answer : List ℕ × Status) → harts ≡ (world_of b).harts
      → shown_with expect.exit (verdict_on expect.rule b.inputs (expanded b.history) harts) harts ≡ answer
      → shown expect inputs (expanded b.history) (world_after image inputs (expanded b.history)) ≡ answer
  unfolding replayed
  printed expect harts answer are shows =
      (λ i. shown expect (sym o.same_inputs i) (expanded b.history) (world_after (sym o.same_image i) (sym o.same_inputs i) (expanded b.history)))
      ∙ ap (λ hs. shown_with expect.exit (verdict_on expect.rule b.inputs (expanded b.history) hs) hs) (sym are) ∙ shows

  -- a certified file keeps its rule
  pub kept : (expect : Expect) (program : List ℕ) (answer : List ℕ × Status) → All (λ x. x < 2 ^ 32) inputs
      → program_of form.Elf program ≡ Ok image → IsCertified form.Elf program inputs expect.rule
      → shown expect inputs (expanded b.history) (world_after image inputs (expanded b.history)) ≡ answer → EndsKept expect.exit answer.0 answer.1
  kept expect program answer words reads certified prints =
      subst (λ (a : List ℕ × Status). EndsKept expect.exit a.0 a.1) prints
      (certified_shown form.Elf inputs expect program image (expanded b.history) words
      (within_history (length inputs) b.history (λ k d lt. (o.within k d lt).0)) reads certified)

  -- what is printed of what the book shows
  pub printed_of : (expect : Expect) (shown_inputs : List ℕ) (entries : List Entry) (harts : List HartValue) (w : World) (answer : List ℕ × Status)
      → shown_inputs ≡ b.inputs → entries ≡ b.history → harts ≡ w.harts → w ≡ world_of b
      → shown_with expect.exit (verdict_on expect.rule shown_inputs (expanded entries) harts) harts ≡ answer
      → shown expect inputs (expanded b.history) (world_after image inputs (expanded b.history)) ≡ answer
  printed_of expect shown_inputs entries harts w answer same_inputs same_entries are at shows =
      printed expect harts answer (are ∙ ap (λ (v : World). v.harts) at)
      (ap (λ xs. shown_with expect.exit (verdict_on expect.rule xs (expanded b.history) harts) harts) (sym same_inputs)
      ∙ ap (λ es. shown_with expect.exit (verdict_on expect.rule shown_inputs (expanded es) harts) harts) (sym same_entries) ∙ shows)

  -- the answer to a program that was read
  pub answered : {A : Type 0} (left : Option (List ℕ)) (answer : ThreadsAnswer A)
      → IfSome left (λ p. program_of form.Elf p ≡ Ok image) → string_bytes answer.history ≡ history_text b.history
      → IfSome left (λ p. IsAnswer inputs budget total plan p answer)
  answered None answer reads text = tt
  answered (Some p) answer reads text =
      record { image = image; entries = b.history; reads = reads; outcome = outcome_itself; text = text }

  -- and where the program is certified
  pub kept_of : (left : Option (List ℕ)) (expect : Expect) (answer : List ℕ × Status) → All (λ x. x < 2 ^ 32) inputs
      → IfSome left (λ p. program_of form.Elf p ≡ Ok image)
      → shown expect inputs (expanded b.history) (world_after image inputs (expanded b.history)) ≡ answer
      → IfSome left (λ p. IsCertified form.Elf p inputs expect.rule → EndsKept expect.exit answer.0 answer.1)
  kept_of None expect answer words reads prints = tt
  kept_of (Some p) expect answer words reads prints = λ certified. kept expect p answer words reads certified prints

  -- an entry has fewer local steps than the budget, which is a word
  small : budget < 2 ^ 32 → All (λ e. e.local < 2 ^ 32) b.history
  small word = λ k d inside. let low = (o.within k d inside).1 in omega (arith, low, word)

  -- what `replay` answers to the text of its history
  pub replays_known : (left : Option (List ℕ)) (expect : Expect) (text : List ℕ) (answer : List ℕ × Status) → IsStartable inputs → budget < 2 ^ 32
      → IfSome left (λ p. program_of form.Elf p ≡ Ok image) → text ≡ history_text b.history
      → shown expect inputs (expanded b.history) (world_after image inputs (expanded b.history)) ≡ answer
      → IfSome left (λ p. replay_answer inputs expect p text ≡ Ok answer)
  replays_known None expect text answer startable word reads text_is shows = tt
  replays_known (Some p) expect text answer startable word reads text_is shows =
      replay_answers inputs expect p text image b.history answer startable (λ k d inside. (o.within k d inside).0) (small word) reads text_is shows
