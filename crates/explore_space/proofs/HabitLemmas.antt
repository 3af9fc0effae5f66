-- Local steps and steps on a hart's own words can wait.
use Rattle.std.proofs.Common.{◌≡◌, ℕ, zero, suc, ◌+◌, true, false, not, ◌&&◌, cond, List, [], ◌∷◌, ◌++◌, Option, Some, None, refl, ap, sym, ◌∙◌, subst, inl, inr, arith, true≢false}
use Rattle.std.proofs.lemmas.Bool.{and_from, and_parts, cases_Bool}
use Rattle.std.specs.List.{slice_get}
use Rattle.std.specs.Option.{is_some}
use Rattle.hart_step.specs.Hart.{HartValue}
use Rattle.hart_local.specs.CodeMemory.{code_in}
use Rattle.hart_local.specs.LocalRuns.{plain_choices}
use Rattle.machine.specs.World.{World, step, run}
use Rattle.machine.specs.declared.choice.Choice.{Choice}
use Rattle.machine.proofs.RunLaws.{run-keeps}
use Rattle.hart_step.specs.Laws.{Keeps}
use Rattle.hart_local.specs.LocalStep.{is_local_next}
use Rattle.explore_sites.proofs.LoneLemmas.{clear_alone, never_refused, stays_clear}
use Rattle.explore_sites.proofs.OrderLemmas.{alone_commutes}
use Rattle.explore_sites.proofs.StayLemmas.{alone_kept}
use Rattle.explore_laws.specs.Bounds.{not_stopped, still_runs, runs_in}
use Rattle.explore_laws.specs.Quiet.{AreAligned, AreQuiet, CanWait}
use Rattle.explore_laws.specs.Settling.{Stride}
use Rattle.explore_laws.proofs.QuietLemmas.{aligned_run, quiet_joined, step_aligned}
use Rattle.explore_laws.proofs.StopLemmas.{other_step}
use Rattle.explore_sites.specs.Own.{alone_by, alone_in, clear_in, is_alone, touch_ahead, unrefused}
use Rattle.explore_space.specs.Habits.{Habits, clear_by_habit, local_stride, own_at_once, own_stride, quiet_by_habit, stride_by_habit, takes_own_by, takes_own_step, takes_quiet_by, takes_quiet_step, world_rested}
use Rattle.explore_space.specs.Resting.{is_quiet, rests_in}
use Rattle.explore_space.proofs.AloneLemmas.{local_alone}
use Rattle.explore_space.proofs.TouchLemmas.{touches_kept}
use Rattle.explore_space.proofs.RestLemmas.{quiet_hart, section_waits, stride_stays}

pub step_keeps : (w : World) (c : Choice) → Keeps w.memory (step w c).memory
unfolding run
step_keeps w c = run-keeps w (c ∷ [])

pub plain_joined : (h m n : ℕ) → plain_choices h (m + n) ≡ plain_choices h m ++ plain_choices h n
plain_joined h zero n = let none : zero + n ≡ n = omega arith in ap (plain_choices h) none
plain_joined h (suc m) n =
    let one : suc m + n ≡ suc (m + n) = omega arith in
    ap (plain_choices h) one ∙ ap (λ (cs : List Choice). record { hart = h; refuse = false } ∷ cs) (plain_joined h m n)

module _ (habits : Habits) where
  -- what is known of a hart whose next step is quiet
  record IsQuietHart (w : World) (h : ℕ) (o : Option HartValue) : Type 0 where
    pub hart : HartValue
    pub is : o ≡ Some hart
    pub goes : not_stopped hart.state ≡ true
    pub alone : is_alone habits.owners w.memory h hart ≡ true

  parts : (w : World) (h : ℕ) (o : Option HartValue) → takes_quiet_by habits w h o ≡ true → IsQuietHart w h o
  parts w h None e = absurd (true≢false (sym e))
  parts w h (Some v) e =
      let both = and_parts (not_stopped v.state && not (rests_in habits.section v)) (is_alone habits.owners w.memory h v) e in
      let goes = and_parts (not_stopped v.state) (not (rests_in habits.section v)) both.0 in
      record { hart = v; is = refl; goes = goes.0; alone = both.1 }

  pub quiet_alone : (w : World) (h : ℕ) → quiet_by_habit habits w h ≡ true → alone_in habits.owners w h ≡ true
  quiet_alone w h e =
      let of = parts w h (slice_get w.harts h) e in
      ap (alone_by habits.owners w h) of.is ∙ of.alone

  quiet_runs : (w : World) (h : ℕ) → quiet_by_habit habits w h ≡ true → runs_in w h ≡ true
  quiet_runs w h e = let of = parts w h (slice_get w.harts h) e in ap still_runs of.is ∙ of.goes

  pub as_plain : (w : World) (c : Choice) → quiet_by_habit habits w c.hart ≡ true → step w c ≡ step w (unrefused c.hart)
  as_plain w c e = never_refused habits.owners w c.hart (quiet_alone w c.hart e) c.refuse

  quiet_alike : (w : World) (c d : Choice) → quiet_by_habit habits w c.hart ≡ true → d.hart ≡ c.hart → step w d ≡ step w c
  quiet_alike w c d e same =
      as_plain w d (ap (quiet_by_habit habits w) same ∙ e) ∙ ap (λ h. step w (unrefused h)) same ∙ sym (as_plain w c e)

  -- another hart's step leaves it quiet or not, and on a word of its own or not
  by_kept : (w : World) (c : Choice) (h : ℕ) (o : Option HartValue) → takes_quiet_by habits (step w c) h o ≡ takes_quiet_by habits w h o
  by_kept w c h None = refl
  by_kept w c h (Some v) =
      ap (λ b. (not_stopped v.state && not (rests_in habits.section v)) && b)
      (alone_kept habits.owners w.memory (step w c).memory h v (step_keeps w c))

  quiet_stays : (w : World) (h : ℕ) (c : Choice) → (h ≡ c.hart → ⊥) → quiet_by_habit habits (step w c) h ≡ quiet_by_habit habits w h
  quiet_stays w h c other = ap (takes_quiet_by habits (step w c) h) (other_step w c h other) ∙ by_kept w c h (slice_get w.harts h)

  own_kept : (w : World) (c : Choice) (h : ℕ) (o : Option HartValue) → takes_own_by habits (step w c) h o ≡ takes_own_by habits w h o
  own_kept w c h None = refl
  own_kept w c h (Some v) =
      touches_kept (not_stopped v.state && not (rests_in habits.section v)) habits.owners w.memory (step w c).memory h v (step_keeps w c)

  own_stays : (w : World) (h : ℕ) (c : Choice) → (h ≡ c.hart → ⊥) → takes_own_step habits (step w c) h ≡ takes_own_step habits w h
  own_stays w h c other = ap (takes_own_by habits (step w c) h) (other_step w c h other) ∙ own_kept w c h (slice_get w.harts h)

  own_quiet : (w : World) (h : ℕ) → takes_own_step habits w h ≡ true → quiet_by_habit habits w h ≡ true
  own_quiet w h e = by_hart (slice_get w.harts h) e
    where
      by_hart : (o : Option HartValue) → takes_own_by habits w h o ≡ true → takes_quiet_by habits w h o ≡ true
      by_hart None e = e
      by_hart (Some v) e = (and_parts (takes_quiet_step habits w.memory h v) (is_some (touch_ahead w.memory v)) e).0

  was_clear : (w : World) (c : Choice) (h : ℕ) → AreAligned w → (h ≡ c.hart → ⊥) → quiet_by_habit habits w c.hart ≡ true
      → clear_by_habit habits (step w c) h ≡ true → clear_by_habit habits w h ≡ true
  was_clear w c h aligned other e clear =
      sym (stays_clear habits.owners w c.hart h aligned other (quiet_alone w c.hart e))
      ∙ ap (λ x. clear_in habits.owners x h) (sym (as_plain w c e)) ∙ clear

  quiet_swaps : (w : World) (d c : Choice) → AreAligned w → (d.hart ≡ c.hart → ⊥) → quiet_by_habit habits w d.hart ≡ true
      → clear_by_habit habits w c.hart ≡ true → step (step w d) c ≡ step (step w c) d
  quiet_swaps w d c aligned other e clear =
      ap (λ x. step x c) (as_plain w d e)
      ∙ alone_commutes habits.owners w d.hart c aligned other (quiet_alone w d.hart e) clear
      ∙ sym (as_plain (step w c) d (quiet_stays w d.hart c other ∙ e))

  -- ---- local steps are quiet
  pub local_quiet : (w : World) (h : ℕ) → is_quiet habits.section w h ≡ true → quiet_by_habit habits w h ≡ true
  local_quiet w h e =
      let of = quiet_hart habits.section w (slice_get w.harts h) e in
      let v = of.0 in
      let walks = and_parts (is_local_next (code_in w.memory) v) (not (rests_in habits.section v)) of.2 in
      let goes : not_stopped v.state ≡ true = ap still_runs (sym of.1) ∙ (section_waits habits.section).runs w h e in
      ap (takes_quiet_by habits w h) of.1
      ∙ and_from (not_stopped v.state && not (rests_in habits.section v)) (is_alone habits.owners w.memory h v)
      (and_from (not_stopped v.state) (not (rests_in habits.section v)) goes walks.1)
      (local_alone habits.owners w.memory h v walks.0)

  all_quiet : (w : World) (choices : List Choice) → AreQuiet (is_quiet habits.section) w choices → AreQuiet (quiet_by_habit habits) w choices
  all_quiet w [] are = tt
  all_quiet w (c ∷ choices) are = (local_quiet w c.hart are.0, all_quiet (step w c) choices are.1)

  pub rest_quiet : (w : World) (h : ℕ) → AreAligned w → AreQuiet (quiet_by_habit habits) w (plain_choices h (local_stride habits w h))
  rest_quiet w h aligned = all_quiet w (plain_choices h (local_stride habits w h)) ((section_waits habits.section).strides w h aligned)

  -- ---- strides
  both_quiet : (w : World) (h m n : ℕ) → AreQuiet (quiet_by_habit habits) w (plain_choices h m)
      → AreQuiet (quiet_by_habit habits) (run w (plain_choices h m)) (plain_choices h n)
      → AreQuiet (quiet_by_habit habits) w (plain_choices h (m + n))
  both_quiet w h m n first second =
      subst (AreQuiet (quiet_by_habit habits) w) (sym (plain_joined h m n))
      (quiet_joined (quiet_by_habit habits) w (plain_choices h m) (plain_choices h n) first second)

  own_strides : (n : ℕ) (w : World) (h : ℕ) → AreAligned w → AreQuiet (quiet_by_habit habits) w (plain_choices h (own_stride habits n w h))
  unfolding own_stride
  own_strides zero w h aligned = tt
  own_strides (suc n) w h aligned = elim (cases_Bool (takes_own_step habits w h)) [
    | inl own ↦
        let v : World = step w (unrefused h) in
        let on = step_aligned w (unrefused h) aligned in
        let u : World = world_rested habits v h in
        let rest = own_strides n u h (aligned_run v (plain_choices h (local_stride habits v h)) on) in
        subst (λ b. AreQuiet (quiet_by_habit habits) w (plain_choices h (cond b (suc (local_stride habits v h + own_stride habits n u h)) 0))) (sym own)
        (own_quiet w h own, both_quiet v h (local_stride habits v h) (own_stride habits n u h) (rest_quiet v h on) rest)
    | inr no_ ↦
        subst (λ b. AreQuiet (quiet_by_habit habits) w (plain_choices h (cond b (suc (local_stride habits (step w (unrefused h)) h
        + own_stride habits n (world_rested habits (step w (unrefused h)) h) h)) 0))) (sym no_) tt
  ]

  habit_strides : (w : World) (h : ℕ) → AreAligned w → AreQuiet (quiet_by_habit habits) w (plain_choices h (stride_by_habit habits w h))
  habit_strides w h aligned =
      both_quiet w h (local_stride habits w h) (own_stride habits own_at_once (world_rested habits w h) h) (rest_quiet w h aligned)
      (own_strides own_at_once (world_rested habits w h) h (aligned_run w (plain_choices h (local_stride habits w h)) aligned))

  -- ---- another hart's quiet step leaves strides
  -- it may be taken before plain choices of a hart that are quiet, or behind them
  past_plain : (w : World) (c : Choice) (h n : ℕ) → AreAligned w → (h ≡ c.hart → ⊥) → quiet_by_habit habits w c.hart ≡ true
      → AreQuiet (quiet_by_habit habits) w (plain_choices h n)
      → (run (step w c) (plain_choices h n) ≡ step (run w (plain_choices h n)) c)
      × (quiet_by_habit habits (run w (plain_choices h n)) c.hart ≡ true)
  unfolding run
  past_plain w c h zero aligned other e are = (refl, e)
  past_plain w c h (suc n) aligned other e are =
      let d : Choice = unrefused h in
      let still : quiet_by_habit habits (step w d) c.hart ≡ true = quiet_stays w c.hart d (λ s. other (sym s)) ∙ e in
      let more = past_plain (step w d) c h n (step_aligned w d aligned) other still are.1 in
      let clear = clear_alone habits.owners w c.hart (quiet_alone w c.hart e) in
      (ap (λ x. run x (plain_choices h n)) (sym (quiet_swaps w d c aligned other are.0 clear)) ∙ more.0, more.1)

  rest_paces : (w : World) (c : Choice) (h : ℕ) → (h ≡ c.hart → ⊥) → local_stride habits (step w c) h ≡ local_stride habits w h
  rest_paces w c h other = stride_stays habits.section w c h other

  rested_past : (w : World) (c : Choice) (h : ℕ) → AreAligned w → (h ≡ c.hart → ⊥) → quiet_by_habit habits w c.hart ≡ true
      → (world_rested habits (step w c) h ≡ step (world_rested habits w h) c)
      × (quiet_by_habit habits (world_rested habits w h) c.hart ≡ true)
  rested_past w c h aligned other e =
      let of = past_plain w c h (local_stride habits w h) aligned other e (rest_quiet w h aligned) in
      (ap (λ n. run (step w c) (plain_choices h n)) (rest_paces w c h other) ∙ of.0, of.1)

  own_paces : (n : ℕ) (w : World) (c : Choice) (h : ℕ) → AreAligned w → (h ≡ c.hart → ⊥) → quiet_by_habit habits w c.hart ≡ true
      → own_stride habits n (step w c) h ≡ own_stride habits n w h
  unfolding own_stride
  own_paces zero w c h aligned other e = refl
  own_paces (suc n) w c h aligned other e = elim (cases_Bool (takes_own_step habits w h)) [
    | inl own ↦
        let d : Choice = unrefused h in
        let v : World = step w d in
        let on = step_aligned w d aligned in
        let still : quiet_by_habit habits v c.hart ≡ true = quiet_stays w c.hart d (λ s. other (sym s)) ∙ e in
        let clear = clear_alone habits.owners w c.hart (quiet_alone w c.hart e) in
        let swaps : step (step w c) d ≡ step v c = sym (quiet_swaps w d c aligned other (own_quiet w h own) clear) in
        let of = rested_past v c h on other still in
        let u : World = world_rested habits v h in
        let more = own_paces n u c h (aligned_run v (plain_choices h (local_stride habits v h)) on) other of.1 in
        let both : ℕ → World → ℕ = λ k x. suc (k + own_stride habits n x h) in
        ap (λ b. cond b (suc (local_stride habits (step (step w c) d) h + own_stride habits n (world_rested habits (step (step w c) d) h) h)) 0)
        (own_stays w h c other ∙ own)
        ∙ ap (λ x. suc (local_stride habits x h + own_stride habits n (world_rested habits x h) h)) swaps
        ∙ ap (λ k. both k (world_rested habits (step v c) h)) (rest_paces v c h other)
        ∙ ap (both (local_stride habits v h)) of.0
        ∙ ap (λ k. suc (local_stride habits v h + k)) more
        ∙ sym (ap (λ b. cond b (suc (local_stride habits v h + own_stride habits n u h)) 0) own)
    | inr no_ ↦
        ap (λ b. cond b (suc (local_stride habits (step (step w c) (unrefused h)) h
        + own_stride habits n (world_rested habits (step (step w c) (unrefused h)) h) h)) 0) (own_stays w h c other ∙ no_)
        ∙ sym (ap (λ b. cond b (suc (local_stride habits (step w (unrefused h)) h
        + own_stride habits n (world_rested habits (step w (unrefused h)) h) h)) 0) no_)
  ]

  habit_paces : (w : World) (c : Choice) (h : ℕ) → AreAligned w → (h ≡ c.hart → ⊥) → quiet_by_habit habits w c.hart ≡ true
      → stride_by_habit habits (step w c) h ≡ stride_by_habit habits w h
  habit_paces w c h aligned other e =
      let of = rested_past w c h aligned other e in
      let u : World = world_rested habits w h in
      ap (λ k. k + own_stride habits own_at_once (world_rested habits (step w c) h) h) (rest_paces w c h other)
      ∙ ap (λ x. local_stride habits w h + own_stride habits own_at_once x h) of.0
      ∙ ap (λ k. local_stride habits w h + k)
      (own_paces own_at_once u c h (aligned_run w (plain_choices h (local_stride habits w h)) aligned) other of.1)

  -- ---- what lets quiet steps wait, whatever strides of them are taken
  waits_with : (stride : Stride)
      → ((w : World) (h : ℕ) → AreAligned w → AreQuiet (quiet_by_habit habits) w (plain_choices h (stride w h)))
      → ((w : World) (c : Choice) (h : ℕ) → AreAligned w → (h ≡ c.hart → ⊥) → quiet_by_habit habits w c.hart ≡ true
      → stride (step w c) h ≡ stride w h)
      → CanWait (quiet_by_habit habits) (clear_by_habit habits) stride
  waits_with stride strides paces = record {
    runs = quiet_runs;
    alike = quiet_alike;
    stays = λ w h c aligned other e. quiet_stays w h c other ∙ e;
    is_clear = λ w h aligned e. clear_alone habits.owners w h (quiet_alone w h e);
    was_clear = was_clear;
    swaps = quiet_swaps;
    strides = strides;
    paces = paces;
  }

  pub habits_wait : CanWait (quiet_by_habit habits) (clear_by_habit habits) (stride_by_habit habits)
  habits_wait = waits_with (stride_by_habit habits) habit_strides habit_paces

  -- so they do where local steps alone are taken at once
  pub rests_wait : CanWait (quiet_by_habit habits) (clear_by_habit habits) (local_stride habits)
  rests_wait = waits_with (local_stride habits) rest_quiet (λ w c h aligned other e. rest_paces w c h other)
