-- Paths of turns that choose a hart often.
use Rattle.std.proofs.Common.{◌≡◌, ℕ, zero, suc, ◌+◌, ◌-◌, ◌<◌, ◌≤◌, true, false, List, [], ◌∷◌, ◌++◌, refl, ap, sym, ◌∙◌, subst, inl, inr, arith}
use Rattle.std.proofs.lemmas.Bool.{cases_eq, cases_Bool, cases_lt}
use Rattle.std.proofs.lemmas.List.Elements.{All-nil, All-cons, All-append, All-head, All-tail}
use Rattle.std.specs.List.{All, Contains}
use Rattle.hart_local.specs.LocalRuns.{plain_choices}
use Rattle.machine.specs.Chosen.{own}
use Rattle.machine.specs.World.{World, step, run}
use Rattle.machine.specs.declared.choice.Choice.{Choice}
use Rattle.explore_laws.specs.Settling.{Stride, world_settled, turn_choices, turns_choices}
use Rattle.explore_laws.specs.Quiet.{AreAligned, AreQuiet, CanWait, OfNextStep}
use Rattle.explore_laws.specs.Places.{Place, place_begun, place_reached}
use Rattle.explore_laws.specs.Bounds.{runs_in, RunsAfter, HasNoBound}
use Rattle.explore_laws.specs.OwnSteps.{steps_in_turn, steps_in_turns, HasPlainChoices, HasPath, GoesRound}
use Rattle.explore_laws.proofs.CountLemmas.{own_joined, one_own, own_plain}
use Rattle.explore_laws.proofs.ListLemmas.{run_joined, run_nothing}
use Rattle.explore_laws.proofs.PlaceLemmas.{stride_reached}
use Rattle.explore_laws.proofs.QuietLemmas.{aligned_run, step_aligned}
use Rattle.explore_laws.proofs.TurnLemmas.{run_of_turn, run_of_turns, turns_from}
use Rattle.explore_laws.proofs.OwnLemmas.{own_steps, other_steps, stopped_steps, turn_at_most, turns_at_most}

-- ---- a hart runs at each of its quiet steps
runs_on : (quiet : OfNextStep) (w : World) (h k n : ℕ) → AreQuiet quiet w (plain_choices h k) → n < k
    → quiet (run w (plain_choices h n)) h ≡ true
unfolding run
runs_on quiet w h zero n are low = absurd (omega (arith, low))
runs_on quiet w h (suc k) zero are low = are.0
runs_on quiet w h (suc k) (suc n) are low =
    runs_on quiet (step w (record { hart = h; refuse = false })) h k n are.1 (omega (arith, low))

-- ---- lists that leave a hart running
module _ (meant : List Choice) (plain : HasPlainChoices meant) where
  plain_meant : (h n : ℕ) → Contains meant (record { hart = h; refuse = false }) → All (Contains meant) (plain_choices h n)
  plain_meant h zero is = All-nil (Contains meant)
  plain_meant h (suc n) is =
      All-cons (Contains meant) (record { hart = h; refuse = false }) (plain_choices h n) is (plain_meant h n is)

  turn_meant : (stride : Stride) (w : World) (c : Choice) → Contains meant c → All (Contains meant) (turn_choices stride w c)
  turn_meant stride w c is =
      let k : ℕ = stride (step w c) c.hart in
      All-cons (Contains meant) c (plain_choices c.hart k) is (plain_meant c.hart k (plain c is))

  turns_meant : (stride : Stride) (w : World) (turns : List Choice) → All (Contains meant) turns
      → All (Contains meant) (turns_choices stride w turns)
  unfolding turns_choices
  turns_meant stride w [] all = all
  turns_meant stride w (c ∷ turns) all =
      let after = world_settled stride (step w c) c.hart in
      All-append (Contains meant) (turn_choices stride w c) (turns_choices stride after turns)
      (turn_meant stride w c (All-head (Contains meant) c turns all))
      (turns_meant stride after turns (All-tail (Contains meant) c turns all))

  -- a list before another that leaves the hart running
  runs_later : (w v : World) (h k n : ℕ) (before : List Choice) → All (Contains meant) before → k ≤ own before h → run w before ≡ v
      → RunsAfter meant v h n → RunsAfter meant w h (k + n)
  runs_later w v h k n before all often leads after = record {
    choices = before ++ after.choices;
    are_meant = All-append (Contains meant) before after.choices all after.are_meant;
    often =
        (let both = own_joined before after.choices h in
        let more = after.often in
        omega (arith, both, often, more));
    runs = ap (λ (x : World). runs_in x h) (run_joined w before after.choices ∙ ap (λ (x : World). run x after.choices) leads)
        ∙ after.runs;
  }

  at_once_runs : (w : World) (h : ℕ) → runs_in w h ≡ true → RunsAfter meant w h 0
  at_once_runs w h runs = record {
    choices = [];
    are_meant = All-nil (Contains meant);
    often = omega arith;
    runs = ap (λ (x : World). runs_in x h) (run_nothing w) ∙ runs;
  }

module _ (quiet clear : OfNextStep) (stride : Stride) (waits : CanWait quiet clear stride)
    (meant : List Choice) (plain : HasPlainChoices meant) where
  -- within a turn
  on_the_way : (w : World) (c : Choice) (n : ℕ) → AreAligned w → Contains meant c → n < stride (step w c) c.hart
      → RunsAfter meant w c.hart (suc n)
  unfolding run
  on_the_way w c n is meant_c low =
      let at : World = run (step w c) (plain_choices c.hart n) in
      record {
        choices = c ∷ plain_choices c.hart n;
        are_meant = All-cons (Contains meant) c (plain_choices c.hart n) meant_c (plain_meant meant plain c.hart n (plain c meant_c));
        often =
            (let first = one_own c (plain_choices c.hart n) c.hart refl in
            let behind = own_plain c.hart n in
            omega (arith, first, behind));
        runs = waits.runs at c.hart (runs_on quiet (step w c) c.hart (stride (step w c) c.hart) n
            (waits.strides (step w c) c.hart (step_aligned w c is)) low);
      }

  in_turn : (w : World) (h n : ℕ) (c : Choice) → AreAligned w → Contains meant c → n < steps_in_turn stride w h c → RunsAfter meant w h n
  in_turn w h n c is meant_c low = elim (cases_eq c.hart h) [
    | inl same ↦ elim (cases_Bool (runs_in w h)) [
      | inl runs ↦ by_number n same runs low
      | inr stopped ↦ absurd (let none = stopped_steps stride w h c stopped in omega (arith, none, low))
    ]
    | inr other ↦ absurd (let none = other_steps stride w h c other in omega (arith, none, low))
  ]
    where
      by_number : (n : ℕ) → c.hart ≡ h → runs_in w h ≡ true → n < steps_in_turn stride w h c → RunsAfter meant w h n
      by_number zero same runs low = at_once_runs meant plain w h runs
      by_number (suc n) same runs low =
          let steps = own_steps stride w h c same runs in
          subst (λ i. RunsAfter meant w i (suc n)) same (on_the_way w c n is meant_c (omega (arith, steps, low)))

  -- each number of steps that turns come to, but the last
  pub in_turns : (w : World) (h n : ℕ) (turns : List Choice) → AreAligned w → All (Contains meant) turns
      → n < steps_in_turns stride w h turns → RunsAfter meant w h n
  unfolding steps_in_turns
  in_turns w h n [] is all low = absurd (omega (arith, low))
  in_turns w h n (c ∷ turns) is all low = elim (cases_lt n (steps_in_turn stride w h c)) [
    | inl within ↦ in_turn w h n c is (All-head (Contains meant) c turns all) within
    | inr past ↦
        let k : ℕ = steps_in_turn stride w h c in
        let after = world_settled stride (step w c) c.hart in
        let still : AreAligned after
        = aligned_run (step w c) (plain_choices c.hart (stride (step w c) c.hart)) (step_aligned w c is) in
        let more = in_turns after h (n - k) turns still (All-tail (Contains meant) c turns all) (omega (arith, low, past)) in
        let sum : k + (n - k) ≡ n = omega (arith, past) in
        subst (RunsAfter meant w h) sum
        (runs_later meant plain w after h k (n - k) (turn_choices stride w c)
        (turn_meant meant plain stride w c (All-head (Contains meant) c turns all)) (turn_at_most stride w h c)
        (run_of_turn stride w c) more)
  ]

  -- turns that lead back to their world, again and again
  rounds : (p : Place) (h n : ℕ) (round : List Choice) → p.stride ≡ stride → AreAligned p.world → All (Contains meant) round
      → (place_reached p round).world ≡ p.world → 0 < steps_in_turns p.stride p.world h round → RunsAfter meant p.world h n
  rounds p h zero round same is all back steps =
      in_turns p.world h 0 round is all (let at = ap (λ x. steps_in_turns x p.world h round) same in omega (arith, at, steps))
  rounds p h (suc n) round same is all back steps =
      let count = turns_at_most p.stride p.world h round in
      let one : 1 + n ≡ suc n = omega arith in
      subst (RunsAfter meant p.world h) one
      (runs_later meant plain p.world p.world h 1 n (turns_choices p.stride p.world round) (turns_meant meant plain p.stride p.world round all)
      (omega (arith, count, steps)) (turns_from p round ∙ back) (rounds p h n round same is all back steps))

  pub round_unbounded : (first : World) (h : ℕ) → AreAligned first → GoesRound meant h (place_begun stride first) → HasNoBound meant first h
  round_unbounded first h is goes n =
      let p : Place = goes.place in
      let all : 0 + n ≡ n = omega arith in
      let same : p.stride ≡ stride
      = ap (λ (q : Place). q.stride) (sym goes.leads) ∙ stride_reached (place_begun stride first) goes.there in
      let leads : run first (turns_choices stride first goes.there) ≡ p.world
      = run_of_turns stride first goes.there ∙ ap (λ (q : Place). q.world) goes.leads in
      let still : AreAligned p.world
      = subst AreAligned leads (aligned_run first (turns_choices stride first goes.there) is) in
      subst (RunsAfter meant first h) all
      (runs_later meant plain first p.world h 0 n (turns_choices stride first goes.there)
      (turns_meant meant plain stride first goes.there goes.there_meant) (omega arith) leads
      (rounds p h n goes.round same still goes.round_meant goes.back goes.steps))

  pub path_taken : (first : World) (h b n : ℕ) → AreAligned first → HasPath meant h (place_begun stride first) b → n < b
      → RunsAfter meant first h n
  path_taken first h b n is path less =
      let steps = path.steps in
      in_turns first h n path.turns is path.are_meant (omega (arith, less, steps))
