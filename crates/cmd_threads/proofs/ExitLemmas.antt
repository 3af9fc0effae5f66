-- An object on threads: each hart exits, and the rule is kept.
use Rattle.std.proofs.Common.{◌≡◌, ℕ, ◌^◌, ◌<◌, ◌≤◌, ◌⊎◌, true, false, List, length, None, refl, subst, sym, ap, ◌∙◌, arith, inl, inr}
use Rattle.std.specs.Prelude.{slice_get, slice_index_or}
use Rattle.std.specs.List.{All}
use Rattle.std.proofs.lemmas.Option.{slice_get-get_or}
use Rattle.image.specs.Image.{ImageValue}
use Rattle.hart_step.specs.Hart.{HartValue}
use Rattle.hart_step.specs.declared.hart.HartState.{HartState}
use Rattle.hart_step.specs.declared.hart.HartState.TheVariants.{Running, Exited, Faulted}
use Rattle.machine.specs.Chosen.{own, refusals}
use Rattle.machine.specs.Start.{started}
use Rattle.machine.specs.World.{run}
use Rattle.machine.specs.declared.choice.Choice.{Choice}
use Rattle.machine.proofs.RunLaws.{length-started, run_length}
use Rattle.history.specs.History.{expanded}
use Rattle.history.specs.declared.entry.Entry.{Entry}
use Rattle.object_library.specs.Images.{image_of, IsSame}
use Rattle.object_library.specs.Rules.{is_exited, is_faulted, HasExited, KeepsRule}
use Rattle.object_library.specs.declared.kind.Kind.{Kind}
use Rattle.object_library.specs.declared.kind.Kind.TheVariants.{Swap, Add, LrSc, AdoptCommit, Rounds}
use Rattle.thread_gate.specs.Stopped.{is_stopped}
use Rattle.thread_book.specs.Book.{BookValue, hart_in_book, replayed, world_of}
use Rattle.thread_run.specs.Outcome.{has_stopped, HasEnded, IsOutcome}
use Rattle.thread_run.specs.Own.{own_choices}
use Rattle.cmd_run.specs.Certified.{IsMeantFor}
use Rattle.cmd_run.specs.Enough.{enough}
use Rattle.cmd_run.proofs.CertifiedLemmas.{object_keeps}
use Rattle.cmd_run.proofs.EnoughLemmas.{exited}
use Rattle.cmd_replay.proofs.KeptLemmas.{within_history}
use Rattle.cmd_threads.specs.Exits.{ExitsKept, IsBudgetEnough}

-- where a rule is kept, no hart has faulted
sound : (kind : Kind) (inputs : List ℕ) (choices : List Choice) (harts : List HartValue) → KeepsRule kind inputs choices harts
    → All (λ h. is_faulted h.state ≡ false) harts
sound Swap inputs choices harts kept = kept.sound
sound Add inputs choices harts kept = kept.sound
sound LrSc inputs choices harts kept = kept.sound
sound AdoptCommit inputs choices harts kept = kept.sound
sound Rounds inputs choices harts kept = kept.sound

-- a hart that has stopped without a fault has exited
exited_by : (state : HartState) → is_stopped state ≡ true → is_faulted state ≡ false → is_exited state ≡ true
exited_by Running stopped whole = absurd (cc)
exited_by (Exited status) stopped whole = refl
exited_by (Faulted cause) stopped whole = absurd (cc)

module _ (kind : Kind) (image : ImageValue) (inputs : List ℕ) (choices : List Choice) (same : IsSame image (image_of kind))
    (meant : IsMeantFor kind (length inputs)) (words : All (λ x. x < 2 ^ 32) inputs) (there : All (λ c. c.hart < length inputs) choices) where
  harts : List HartValue
  harts = (run (started image inputs) choices).harts

  as_many : length harts ≡ length inputs
  unfolding harts
  as_many = run_length (started image inputs) choices ∙ length-started image inputs

  kept : KeepsRule kind inputs choices harts
  unfolding harts
  kept = object_keeps kind image inputs choices same meant words there

  -- a hart that has stopped, or was chosen often enough, has exited
  one_exited : (h : ℕ) (d : HartValue) → h < length inputs
      → (has_stopped (slice_get harts h) ≡ true) ⊎ (enough kind (length inputs) (refusals choices h) ≤ own choices h)
      → HasExited (slice_index_or harts h d)
  unfolding harts
  one_exited h d lt (inl stopped) =
      let below = subst (λ n. h < n) (sym as_many) lt in
      exited_by (slice_index_or harts h d).state (ap has_stopped (sym (slice_get-get_or harts h d below)) ∙ stopped)
      (sound kind inputs choices harts kept h d below)
  one_exited h d lt (inr often) = exited kind image inputs choices same meant words there h d lt often

  all_exited : ((h : ℕ) → h < length inputs
      → (has_stopped (slice_get harts h) ≡ true) ⊎ (enough kind (length inputs) (refusals choices h) ≤ own choices h))
      → All HasExited harts
  all_exited each = λ h d lt. let below = subst (λ n. h < n) as_many lt in one_exited h d below (each h below)

-- a book's harts have ended, and the budget is enough
exits_of : (kind : Kind) (image : ImageValue) (inputs : List ℕ) (history : List Entry) (budget : ℕ) → IsSame image (image_of kind)
    → IsMeantFor kind (length inputs) → All (λ x. x < 2 ^ 32) inputs → All (λ e. e.hart < length inputs) history
    → ((h : ℕ) → h < length inputs → ((has_stopped (slice_get (replayed image inputs history).harts h) ≡ true)
    × (own (expanded history) h ≤ budget)) ⊎ (own (expanded history) h ≡ budget))
    → ((h : ℕ) → h < length inputs → enough kind (length inputs) (refusals (expanded history) h) ≤ budget)
    → ExitsKept kind (record { image = image; inputs = inputs; history = history })
unfolding replayed harts
exits_of kind image inputs history budget same meant words within ended often = record {
  exited = all_exited kind image inputs choices same meant words there (λ h lt. by h lt (ended h lt));
  kept = kept kind image inputs choices same meant words there;
}
  where
    choices : List Choice
    choices = expanded history

    there : All (λ c. c.hart < length inputs) choices
    there = within_history (length inputs) history within

    by : (h : ℕ) → h < length inputs → ((has_stopped (slice_get (run (started image inputs) choices).harts h) ≡ true)
        × (own choices h ≤ budget)) ⊎ (own choices h ≡ budget)
        → (has_stopped (slice_get (harts kind image inputs choices same meant words there) h) ≡ true)
        ⊎ (enough kind (length inputs) (refusals choices h) ≤ own choices h)
    by h lt (inl (stopped, few)) = inl stopped
    by h lt (inr all) = inr (subst (λ n. enough kind (length inputs) (refusals choices h) ≤ n) (sym all) (often h lt))

-- without a total a hart has ended by itself
by_itself : (b : BookValue) (budget h : ℕ) → HasEnded b budget None h
    → ((has_stopped (hart_in_book b h) ≡ true) × (own_choices b h ≤ budget)) ⊎ (own_choices b h ≡ budget)
by_itself b budget h (inl stopped) = inl stopped
by_itself b budget h (inr (inl all)) = inr all
by_itself b budget h (inr (inr used)) = absurd used

pub exits_kept : (kind : Kind) (image : ImageValue) (inputs : List ℕ) (budget : ℕ) (plan : List (ℕ × ℕ)) (b : BookValue)
    → IsSame image (image_of kind) → IsMeantFor kind (length inputs) → All (λ x. x < 2 ^ 32) inputs
    → IsOutcome image inputs budget None plan b → IsBudgetEnough kind budget b → ExitsKept kind b
exits_kept kind image inputs budget plan b same meant words o often =
    exits_of kind b.image b.inputs b.history budget
    (subst (λ i. IsSame i (image_of kind)) (sym o.same_image) same)
    (subst (λ xs. IsMeantFor kind (length xs)) (sym o.same_inputs) meant)
    (subst (λ (xs : List ℕ). All (λ x. x < 2 ^ 32) xs) (sym o.same_inputs) words)
    (λ k d lt. subst (λ (xs : List ℕ). (slice_index_or b.history k d).hart < length xs) (sym o.same_inputs) (o.within k d lt).0)
    (λ h lt. by_itself b budget h (o.ended h (subst (λ (xs : List ℕ). h < length xs) o.same_inputs lt))) often
