-- Where all harts run, no run has failed.
use Rattle.std.proofs.Common.{◌≡◌, ℕ, ◌+◌, ◌<◌, ◌≤◌, Bool, true, false, not, ◌&&◌, ◌||◌, cond, List, [], ◌∷◌, length, map, take, take_all, get_or, Option, Some, None, refl, ap, sym, ◌∙◌, ◌==◌, true≢false}
use Rattle.std.specs.Prelude.{nat_lt}
use Rattle.std.specs.List.{list_all}
use Rattle.std.proofs.lemmas.Bool.{and_from, and_parts}
use Rattle.std.proofs.lemmas.List.Folds.{list_all_at, list_all_more}
use Rattle.hart_step.specs.Hart.{HartValue}
use Rattle.hart_step.specs.declared.hart.Hart.{Hart}
use Rattle.hart_step.specs.declared.hart.HartState.{HartState}
use Rattle.hart_step.specs.declared.hart.HartState.TheVariants.{Running, Exited, Faulted}
use Rattle.machine.specs.declared.choice.Choice.{Choice}
use Rattle.object_library.specs.Judging.{adopts_or_commits, agrees, are_alike, is_kept, is_proposed}
use Rattle.object_library.specs.Rules.{flag_of, is_exited, is_faulted, value_of}
use Rattle.object_library.specs.declared.kind.Kind.{Kind}
use Rattle.object_library.specs.declared.kind.Kind.TheVariants.{Swap, Add, LrSc, AdoptCommit, Rounds}
use Rattle.object_library.specs.declared.verdict.Verdict.TheVariants.{Kept, Broken}
use Rattle.outcome.specs.Expect.{breaks, fails, has_faults, judged}
use Rattle.outcome.specs.Outcome.{counted, counts}
use Rattle.outcome.specs.declared.expect.Exit.TheVariants.{May}
use Rattle.outcome.specs.declared.run_outcome.End.TheVariants as end
use Rattle.explore_laws.specs.Bounds.{not_stopped}
use Rattle.explore_space.specs.Places.{hart_worded}

counts_none : (st : HartState) → not_stopped st ≡ true → counts end.Faulted st ≡ 0
counts_none Running e = refl
counts_none (Exited status) e = absurd (true≢false (sym e))
counts_none (Faulted cause) e = absurd (true≢false (sym e))

sound_one : (st : HartState) (b : Bool) → not_stopped st ≡ true → (not (is_faulted st) && (not (is_exited st) || b)) ≡ true
sound_one Running b e = refl
sound_one (Exited status) b e = absurd (true≢false (sym e))
sound_one (Faulted cause) b e = absurd (true≢false (sym e))

module _ (harts : List Hart) where
  abbrev runs : ℕ → Bool
  runs word = not_stopped (hart_worded harts word).state

  -- as words are read
  pub runs_on : (words : List ℕ) (i d : ℕ) → i < length words → list_all runs (take i words) ≡ true → runs (get_or words i d) ≡ true
      → list_all runs (take (i + 1) words) ≡ true
  runs_on words i d low before here = list_all_more runs words i d low ∙ rw (before, here) refl

  pub stops_at : (words : List ℕ) (i d : ℕ) → i < length words → runs (get_or words i d) ≡ false → list_all runs words ≡ false
  stops_at words i d low stops = list_all_at runs words i d low stops

  pub all_read : (words : List ℕ) (i : ℕ) → length words ≤ i → list_all runs (take i words) ≡ true → list_all runs words ≡ true
  all_read words i past all = sym (ap (list_all runs) (take_all i words past)) ∙ all

  none_faulted : (words : List ℕ) → list_all runs words ≡ true → counted end.Faulted (map (hart_worded harts) words) ≡ 0
  none_faulted [] e = refl
  none_faulted (word ∷ words) e =
      let both = and_parts (runs word) (list_all runs words) e in
      ap (λ n. n + counted end.Faulted (map (hart_worded harts) words)) (counts_none (hart_worded harts word).state both.0)
      ∙ ap (λ n. 0 + n) (none_faulted words both.1)

  all_sound : (decides : HartValue → Bool) (words : List ℕ) → list_all runs words ≡ true
      → list_all (λ h. not (is_faulted h.state) && (not (is_exited h.state) || decides h)) (map (hart_worded harts) words) ≡ true
  all_sound decides [] e = refl
  all_sound decides (word ∷ words) e =
      let both = and_parts (runs word) (list_all runs words) e in
      let h = hart_worded harts word in
      and_from (not (is_faulted h.state) && (not (is_exited h.state) || decides h))
      (list_all (λ h. not (is_faulted h.state) && (not (is_exited h.state) || decides h)) (map (hart_worded harts) words))
      (sound_one h.state (decides h) both.0) (all_sound decides words both.1)

  module _ (inputs words : List ℕ) (choices : List Choice) (all : list_all runs words ≡ true) where
    abbrev these : List HartValue
    these = map (hart_worded harts) words

    consensus : list_all (λ h. not (is_faulted h.state)
        && (not (is_exited h.state) || ((is_proposed inputs choices (value_of h) && (flag_of h == 1)) && list_all (agrees h) these))) these ≡ true
    consensus =
        all_sound (λ h. (is_proposed inputs choices (value_of h) && (flag_of h == 1)) && list_all (agrees h) these) words all

    adopted : list_all (λ h. not (is_faulted h.state) && adopts_or_commits (are_alike inputs choices) inputs choices these h) these ≡ true
    adopted =
        all_sound (λ h. is_proposed inputs choices (value_of h)
        && (((flag_of h == 1) && list_all (agrees h) these) || ((flag_of h == 0) && not (are_alike inputs choices)))) words all

    kept : (kind : Kind) → is_kept kind inputs choices these ≡ true
    kept Swap = consensus
    kept Add = consensus
    kept LrSc = consensus
    kept AdoptCommit = adopted
    kept Rounds = adopted

    pub nobody_fails : (rule : Option Kind) → fails May (judged rule inputs choices these) ≡ false
    nobody_fails None = ap (λ n. nat_lt 0 n || false) (none_faulted words all)
    nobody_fails (Some kind) =
        ap (λ b. breaks (Some (cond b Kept Broken)) || (has_faults (Some (cond b Kept Broken)) (counted end.Faulted these) || false)) (kept kind)
