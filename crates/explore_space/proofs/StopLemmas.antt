-- Where no hart runs, nothing is left to be taken: a world is covered by itself alone.
use Rattle.std.proofs.Common.{◌≡◌, ℕ, zero, suc, ltb, false, cond, List, [], ◌∷◌, Option, Some, None, refl, ap, sym, ◌∙◌, arith, true≢false}
use Rattle.std.proofs.lemmas.Bool.{lt-ltb}
use Rattle.std.specs.List.{slice_get}
use Rattle.hart_step.specs.Hart.{HartValue}
use Rattle.hart_step.specs.declared.hart.HartState.{HartState}
use Rattle.hart_step.specs.declared.hart.HartState.TheVariants.{Running, Exited, Faulted}
use Rattle.machine.specs.World.{World, run}
use Rattle.machine.specs.declared.choice.Choice.{Choice}
use Rattle.object_library.specs.declared.kind.Kind.{Kind}
use Rattle.object_library.specs.declared.verdict.Verdict.TheVariants as verdict
use Rattle.object_library.specs.Judging.{is_kept}
use Rattle.outcome.specs.Outcome.{counts, counted, outcome_of, some_run}
use Rattle.outcome.specs.declared.run_outcome.End.TheVariants as end
use Rattle.outcome.specs.Expect.{fails, judged}
use Rattle.outcome.specs.declared.expect.Exit.TheVariants.{May}
use Rattle.explore_laws.specs.Bounds.{not_stopped, still_runs}
use Rattle.explore_laws.specs.Covering.{WorldCovers}
use Rattle.explore_laws.specs.Quiet.{AreQuiet}
use Rattle.explore_laws.proofs.ListLemmas.{run_nothing}
use Rattle.explore_space.specs.Habits.{Habits, quiet_by_habit}
use Rattle.explore_space.proofs.PassLemmas.{not_broken}
use Rattle.explore_space.proofs.HabitLemmas.{habits_wait}

none_at : (n : ℕ) → ltb 0 n ≡ false → n ≡ 0
none_at zero e = refl
none_at (suc n) e = absurd (true≢false (sym (lt-ltb 0 (suc n) (omega arith)) ∙ e))

none_runs : (hs : List HartValue) → counted end.Running hs ≡ 0 → (h : ℕ) → still_runs (slice_get hs h) ≡ false
none_runs [] none h = refl
none_runs (v ∷ hs) none zero = one v.state (omega (arith, none))
  where
    one : (s : HartState) → counts end.Running s ≡ 0 → not_stopped s ≡ false
    one Running e = absurd (omega (arith, e))
    one (Exited status) e = refl
    one (Faulted cause) e = refl
none_runs (v ∷ hs) none (suc h) = none_runs hs (omega (arith, none)) h

pub same_harts : (habits : Habits) (s w : World) → WorldCovers (quiet_by_habit habits) s w → some_run w.harts ≡ false
    → s.harts ≡ w.harts
same_harts habits s w covers stopped = by_choices covers.choices covers.are_quiet covers.leads
  where
    by_choices : (choices : List Choice) → AreQuiet (quiet_by_habit habits) w choices → run w choices ≡ s → s.harts ≡ w.harts
    by_choices [] are leads = ap (λ (x : World). x.harts) (sym leads ∙ run_nothing w)
    by_choices (c ∷ choices) are leads =
        absurd (true≢false (sym ((habits_wait habits).runs w c.hart are.0)
        ∙ none_runs w.harts (none_at (counted end.Running w.harts) stopped) c.hart))

-- runs that haven't failed have the same outcome where they left the same harts
pub same_outcomes : (rule : Option Kind) (inputs : List ℕ) (a b : List Choice) (hs : List HartValue)
    → fails May (judged rule inputs a hs) ≡ false → fails May (judged rule inputs b hs) ≡ false
    → judged rule inputs a hs ≡ judged rule inputs b hs
same_outcomes None inputs a b hs good_a good_b = refl
same_outcomes (Some kind) inputs a b hs good_a good_b =
    ap (λ k. outcome_of (Some (cond k verdict.Kept verdict.Broken)) hs)
    (not_broken (is_kept kind inputs a hs) good_a ∙ sym (not_broken (is_kept kind inputs b hs) good_b))
