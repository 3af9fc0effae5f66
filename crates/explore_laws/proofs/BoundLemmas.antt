-- Numbers that fall bound a hart's own steps.
use Rattle.std.proofs.Common.{◌≡◌, ℕ, zero, suc, ◌+◌, ◌<◌, ◌≤◌, true, false, List, [], ◌∷◌, ◌++◌, refl, ap, sym, ◌∙◌, subst, inl, inr, arith, true≢false}
use Rattle.std.proofs.lemmas.Bool.{cases_eq, cases_Bool}
use Rattle.std.proofs.lemmas.List.Elements.{All-head, All-tail}
use Rattle.std.specs.List.{All, Contains, slice_get}
use Rattle.hart_local.specs.LocalRuns.{plain_choices}
use Rattle.machine.specs.Chosen.{own}
use Rattle.machine.specs.World.{World, step, run}
use Rattle.machine.specs.declared.choice.Choice.{Choice}
use Rattle.explore_laws.specs.Settling.{Stride, world_settled}
use Rattle.explore_laws.specs.Places.{Place, place_begun, place_after}
use Rattle.explore_laws.specs.Bounds.{still_runs, runs_in, IsBound}
use Rattle.explore_laws.specs.Covering.{WorldCovers}
use Rattle.explore_laws.specs.OwnSteps.{steps_in_turn, IsNumbered, NumbersFall, KeysAreClear}
use Rattle.explore_laws.specs.Quiet.{AreAligned, AreQuiet, CanWait, OfNextStep}
use Rattle.explore_laws.proofs.CountLemmas.{own_joined, one_own, none_own, own_plain, other_plain}
use Rattle.explore_laws.proofs.ListLemmas.{run_joined, run_nothing}
use Rattle.explore_laws.proofs.OwnLemmas.{own_steps, other_steps}
use Rattle.explore_laws.proofs.QuietLemmas.{IsAmong, IsBehind, by_quiet, others_run, quiet_joined, aligned_run, step_aligned}
use Rattle.explore_laws.proofs.StopLemmas.{run_stopped}

-- quiet steps that a world is behind another
record Behind (quiet : OfNextStep) (s w : World) (choices : List Choice) : Type 0 where
  pub are_quiet : AreQuiet quiet w choices
  pub leads : run w choices ≡ s

module _ (quiet clear : OfNextStep) (stride : Stride) (waits : CanWait quiet clear stride)
    (meant : List Choice) (h : ℕ) (place : List ℕ → Place) (keys : List (List ℕ)) (numbers : List ℕ)
    (are_clear : KeysAreClear clear meant place keys) (falls : NumbersFall meant h place keys numbers) where
  abbrev Numbered : Place → ℕ → Type 0
  Numbered p n = IsNumbered place keys numbers p n

  next : (p : Place) (n : ℕ) (c : Choice) → Numbered p n → Contains meant c
      → (m : ℕ) × Numbered (place_after p c) m × (steps_in_turn p.stride p.world h c + m ≤ n)
  next p n c at meant_c =
      subst (λ (q : Place). (m : ℕ) × Numbered (place_after q c) m × (steps_in_turn q.stride q.world h c + m ≤ n)) at.is
      (falls at.index at.key n c at.there at.number_is meant_c)

  is_clear : (p : Place) (n : ℕ) (c : Choice) → Numbered p n → Contains meant c → clear p.world c.hart ≡ true
  is_clear p n c at meant_c =
      subst (λ (q : Place). clear q.world c.hart ≡ true) at.is (are_clear at.index at.key c at.there meant_c)

  -- a hart that isn't behind runs in both worlds or in none
  same_there : (s w : World) (choices : List Choice) → Behind quiet s w choices → own choices h ≡ 0 → runs_in s h ≡ runs_in w h
  same_there s w choices behind none =
      ap (λ x. runs_in x h) (sym behind.leads) ∙ ap still_runs (others_run w choices h none)

  -- a running hart that isn't behind may take a step
  one_left : (c : Choice) → Contains meant c → c.hart ≡ h → (p : Place) (w : World) (n : ℕ) (choices : List Choice) → Numbered p n
      → Behind quiet p.world w choices → runs_in w h ≡ true → 0 < n + own choices h
  one_left c meant_c own_c p w n choices at behind runs = by_count (own choices h) refl
    where
      by_count : (d : ℕ) → own choices h ≡ d → 0 < n + own choices h
      by_count zero none =
          let goes : runs_in p.world h ≡ true = same_there p.world w choices behind none ∙ runs in
          let less = next p n c at meant_c in
          let fall = less.2 in
          let count = own_steps p.stride p.world h c own_c goes in
          omega (arith, fall, count)
      by_count (suc d) some = omega (arith, some)

  -- a list that leaves the hart running chooses it less often than the number says, and the quiet
  -- steps that it is behind
  abbrev Less : List Choice → Type 0
  Less choices = (p : Place) (w : World) (n : ℕ) (late : List Choice) → p.stride ≡ stride → AreAligned w → Numbered p n
      → Behind quiet p.world w late → runs_in (run w choices) h ≡ true → own choices h < n + own late h

  -- the choice is one of those steps
  among : (choices : List Choice) → Less choices → (c : Choice) (p : Place) (w : World) (n : ℕ) (late : List Choice) → p.stride ≡ stride
      → AreAligned w → Numbered p n → Behind quiet p.world w late → IsAmong quiet w c late → runs_in (run w (c ∷ choices)) h ≡ true
      → own (c ∷ choices) h < n + own late h
  unfolding run
  among choices go c p w n late same is at behind of runs =
      let less = go p (step w c) n of.left same (step_aligned w c is) at
      (record { are_quiet = of.are_quiet; leads = of.leads ∙ behind.leads }) runs in
      let count = of.owned h in
      elim (cases_eq c.hart h) [
        | inl here ↦
            let one = one_own c choices h here in
            let once = one_own c [] h here in
            omega (arith, less, count, one, once)
        | inr other ↦
            let one = none_own c choices h other in
            let once = none_own c [] h other in
            omega (arith, less, count, one, once)
      ]

  -- it is behind them, and the place's hart takes the same turn
  behind_them : (choices : List Choice) → Less choices → (c : Choice) → Contains meant c → (p : Place) (w : World) (n : ℕ) (late : List Choice)
      → p.stride ≡ stride → AreAligned w → Numbered p n → Behind quiet p.world w late → IsBehind quiet w c late
      → runs_in (run w (c ∷ choices)) h ≡ true → own (c ∷ choices) h < n + own late h
  unfolding run
  behind_them choices go c meant_c p w n late same is at behind of runs =
      let q : Place = place_after p c in
      let k : ℕ = p.stride (step p.world c) c.hart in
      let more = plain_choices c.hart k in
      let m = next p n c at meant_c in
      let fall = m.2 in
      let aligned_s : AreAligned (step p.world c)
      = step_aligned p.world c (subst AreAligned behind.leads (aligned_run w late is)) in
      let mid : run (step w c) late ≡ step p.world c = of.leads ∙ ap (λ x. step x c) behind.leads in
      let quiet_more : AreQuiet quiet (step p.world c) more
      = subst (λ x. AreQuiet quiet (step p.world c) (plain_choices c.hart (x (step p.world c) c.hart))) (sym same) (waits.strides (step p.world c) c.hart aligned_s) in
      let later : Behind quiet q.world (step w c) (late ++ more) = record {
        are_quiet = quiet_joined quiet (step w c) late more of.are_quiet (subst (λ x. AreQuiet quiet x more) (sym mid) quiet_more);
        leads = run_joined (step w c) late more ∙ ap (λ x. run x more) mid;
      } in
      let less = go q (step w c) m.0 (late ++ more) same (step_aligned w c is) m.1 later runs in
      let both = own_joined late more h in
      elim (cases_eq c.hart h) [
        | inl here ↦
            let goes : runs_in w h ≡ true = still w c choices runs in
            let none : own late h ≡ 0 = ap (own late) (sym here) ∙ of.none in
            let steps : steps_in_turn p.stride p.world h c ≡ 1 + k
            = own_steps p.stride p.world h c here (same_there p.world w late behind none ∙ goes) in
            let count : own more h ≡ k = ap (λ i. own (plain_choices i k) h) here ∙ own_plain h k in
            let one = one_own c choices h here in
            omega (arith, less, fall, both, none, steps, count, one)
        | inr other ↦
            let steps = other_steps p.stride p.world h c other in
            let count = other_plain c.hart k h other in
            let one = none_own c choices h other in
            omega (arith, less, fall, both, steps, count, one)
      ]
    where
      still : (w : World) (c : Choice) (choices : List Choice) → runs_in (run w (c ∷ choices)) h ≡ true → runs_in w h ≡ true
      still w c choices runs = elim (cases_Bool (runs_in w h)) [
        | inl goes ↦ goes
        | inr stopped ↦ absurd (true≢false (sym runs ∙ run_stopped w (c ∷ choices) h stopped))
      ]

  bounded : (mine : Choice) → Contains meant mine → mine.hart ≡ h → (choices : List Choice) → All (Contains meant) choices
      → Less choices
  unfolding run
  bounded mine meant_mine is_mine [] all p w n late same is at behind runs =
      one_left mine meant_mine is_mine p w n late at behind runs
  bounded mine meant_mine is_mine (c ∷ choices) all p w n late same is at behind runs =
      let go = bounded mine meant_mine is_mine choices (All-tail (Contains meant) c choices all) in
      let head = All-head (Contains meant) c choices all in
      let at_s : clear (run w late) c.hart ≡ true = ap (λ x. clear x c.hart) behind.leads ∙ is_clear p n c at head in
      elim (by_quiet quiet clear stride waits w c late is behind.are_quiet at_s) [
        | inl of ↦ among choices go c p w n late same is at behind of runs
        | inr of ↦ behind_them choices go c head p w n late same is at behind of runs
      ]

  -- a world that the first covers has the bound too, and the quiet steps more that it is behind
  pub numbers_bound_behind : (first w : World) (b : ℕ) → AreAligned w → Contains meant (record { hart = h; refuse = false })
      → (covers : WorldCovers quiet first w) → Numbered (place_begun stride first) b → IsBound meant w h (b + own covers.choices h)
  numbers_bound_behind first w b is meant_h covers at choices all often = elim (cases_Bool (runs_in (run w choices) h)) [
    | inl runs ↦
        let less = bounded (record { hart = h; refuse = false }) meant_h refl choices all (place_begun stride first) w b covers.choices
        refl is at (record { are_quiet = covers.are_quiet; leads = covers.leads }) runs in
        absurd (omega (arith, less, often))
    | inr stopped ↦ stopped
  ]

  pub numbers_bound : (first : World) (b : ℕ) → AreAligned first → Contains meant (record { hart = h; refuse = false })
      → Numbered (place_begun stride first) b → IsBound meant first h b
  numbers_bound first b is meant_h at =
      let none : b + own [] h ≡ b = omega arith in
      subst (IsBound meant first h) none
      (numbers_bound_behind first first b is meant_h (record { choices = []; are_quiet = tt; leads = run_nothing first }) at)
