-- The printed result of a certified file after a history.
use Rattle.std.proofs.Common.{◌≡◌, ℕ, suc, ◌^◌, ◌<◌, false, List, [], ◌∷◌, length, Option, Some, None, Ok, sym, subst, arith}
use Rattle.std.specs.Prelude.{replicate}
use Rattle.std.specs.Option.{IfSome}
use Rattle.std.specs.List.{All}
use Rattle.std.proofs.lemmas.List.Elements.{All-nil, All-cons, All-replicate, All-append}
use Rattle.image.specs.Image.{ImageValue}
use Rattle.machine.specs.declared.choice.Choice.{Choice}
use Rattle.history.specs.declared.entry.Entry.{Entry}
use Rattle.history.specs.History.{choice, entry_choices, expanded}
use Rattle.outcome.specs.declared.expect.Expect.{Expect}
use Rattle.program_open.specs.Program.{program_of}
use Rattle.program_open.specs.declared.program.ProgramForm.TheVariants as form
use Rattle.cmd_run.specs.Certified.{AnswersKept, IsCertified}
use Rattle.cmd_run.proofs.CertifiedLemmas.{certified_shown}
use Rattle.cmd_replay.specs.Replay.{replay_after, replay_opening, replay_answer}

-- each choice that a history stands for names a hart that exists
within_entry : (n : ℕ) (e : Entry) → e.hart < n → All (λ c. c.hart < n) (entry_choices e)
within_entry n e lt =
    let P : Choice → Type 0 = λ c. c.hart < n in
    All-append P (replicate e.local (choice e.hart false)) (choice e.hart e.refuse ∷ [])
    (All-replicate P e.local (choice e.hart false) lt) (All-cons P (choice e.hart e.refuse) [] lt (All-nil P))

pub within_history : (n : ℕ) (entries : List Entry) → All (λ e. e.hart < n) entries → All (λ c. c.hart < n) (expanded entries)
unfolding expanded
within_history n [] all = All-nil (λ (c : Choice). c.hart < n)
within_history n (e ∷ entries) all =
    All-append (λ (c : Choice). c.hart < n) (entry_choices e) (expanded entries) (within_entry n e (all 0 e (omega arith)))
    (within_history n entries (λ k d lt. all (suc k) d (omega arith)))

-- a replay of a certified file keeps its rule, by what the devices had left
pub known_kept : (inputs : List ℕ) (expect : Expect) (program text : Option (List ℕ)) (image : ImageValue) (entries : List Entry)
    → All (λ x. x < 2 ^ 32) inputs → All (λ e. e.hart < length inputs) entries → IfSome program (λ p. program_of form.Elf p ≡ Ok image)
    → IfSome program (λ p. IfSome text (λ h. replay_opening (length inputs) p h ≡ Ok (image, entries)))
    → IfSome program (λ p. IfSome text (λ h. IsCertified form.Elf p inputs expect.rule → AnswersKept expect.exit (replay_answer inputs expect p h)))
unfolding replay_answer
known_kept inputs expect None text image entries words there reads opens = tt
known_kept inputs expect (Some p) None image entries words there reads opens = tt
known_kept inputs expect (Some p) (Some h) image entries words there reads opens = λ certified.
    subst (λ o. AnswersKept expect.exit (replay_after expect inputs o)) (sym opens)
    (certified_shown form.Elf inputs expect p image (expanded entries) words (within_history (length inputs) entries there) reads certified)
