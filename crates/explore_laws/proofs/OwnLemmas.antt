-- The steps that a hart takes in turns are choices of it.
use Rattle.std.proofs.Common.{◌≡◌, ℕ, ◌+◌, ◌≤◌, ◌==◌, Bool, true, false, List, [], ◌∷◌, ◌++◌, refl, ap, sym, ◌∙◌, inl, inr, arith, eq-eqb, ne_eqb, true≢false}
use Rattle.std.specs.Prelude.{if◌then◌else◌}
use Rattle.std.proofs.lemmas.Bool.{cases_eq, cases_Bool, and_left, and_right, and_from}
use Rattle.hart_local.specs.LocalRuns.{plain_choices}
use Rattle.machine.specs.Chosen.{own}
use Rattle.machine.specs.World.{World, step, run}
use Rattle.machine.specs.declared.choice.Choice.{Choice}
use Rattle.explore_laws.specs.Settling.{Stride, world_settled, turn_choices, turns_choices}
use Rattle.explore_laws.specs.Bounds.{runs_in}
use Rattle.explore_laws.specs.OwnSteps.{steps_in_turn, steps_in_turns}
use Rattle.explore_laws.proofs.CountLemmas.{own_joined, one_own, none_own, own_plain, other_plain}
use Rattle.explore_laws.proofs.ListLemmas.{run_joined}
use Rattle.explore_laws.proofs.TurnLemmas.{run_of_turn}
use Rattle.explore_laws.proofs.StopLemmas.{run_stopped}

-- ---- a turn
pub own_steps : (stride : Stride) (w : World) (h : ℕ) (c : Choice) → c.hart ≡ h → runs_in w h ≡ true
    → steps_in_turn stride w h c ≡ 1 + stride (step w c) c.hart
own_steps stride w h c same runs =
    ap (λ (b : Bool). if b then 1 + stride (step w c) c.hart else 0)
    (and_from (c.hart == h) (runs_in w h) (eq-eqb c.hart h same) runs)

pub other_steps : (stride : Stride) (w : World) (h : ℕ) (c : Choice) → (c.hart ≡ h → ⊥) → steps_in_turn stride w h c ≡ 0
other_steps stride w h c other =
    ap (λ (b : Bool). if b then 1 + stride (step w c) c.hart else 0)
    (and_left (c.hart == h) (runs_in w h) (ne_eqb c.hart h other))

pub stopped_steps : (stride : Stride) (w : World) (h : ℕ) (c : Choice) → runs_in w h ≡ false → steps_in_turn stride w h c ≡ 0
stopped_steps stride w h c stopped =
    ap (λ (b : Bool). if b then 1 + stride (step w c) c.hart else 0)
    (and_right (c.hart == h) (runs_in w h) stopped)

-- ---- turns
turn_counts : (stride : Stride) (w : World) (h : ℕ) (c : Choice) → (c.hart ≡ h → runs_in w h ≡ true)
    → steps_in_turn stride w h c ≡ own (turn_choices stride w c) h
turn_counts stride w h c goes = elim (cases_eq c.hart h) [
  | inl same ↦
      let k : ℕ = stride (step w c) c.hart in
      let steps = own_steps stride w h c same (goes same) in
      let first = one_own c (plain_choices c.hart k) h same in
      let behind : own (plain_choices c.hart k) h ≡ k = ap (λ i. own (plain_choices i k) h) same ∙ own_plain h k in
      omega (arith, steps, first, behind)
  | inr other ↦
      let k : ℕ = stride (step w c) c.hart in
      let steps = other_steps stride w h c other in
      let first = none_own c (plain_choices c.hart k) h other in
      let behind = other_plain c.hart k h other in
      omega (arith, steps, first, behind)
]

pub turn_at_most : (stride : Stride) (w : World) (h : ℕ) (c : Choice) → steps_in_turn stride w h c ≤ own (turn_choices stride w c) h
turn_at_most stride w h c = elim (cases_Bool (runs_in w h)) [
  | inl runs ↦ (let count = turn_counts stride w h c (λ e. runs) in omega (arith, count))
  | inr stopped ↦ (let none = stopped_steps stride w h c stopped in omega (arith, none))
]

pub turns_at_most : (stride : Stride) (w : World) (h : ℕ) (turns : List Choice)
    → steps_in_turns stride w h turns ≤ own (turns_choices stride w turns) h
unfolding steps_in_turns turns_choices
turns_at_most stride w h [] = omega arith
turns_at_most stride w h (c ∷ turns) =
    let after = world_settled stride (step w c) c.hart in
    let one = turn_at_most stride w h c in
    let more = turns_at_most stride after h turns in
    let both = own_joined (turn_choices stride w c) (turns_choices stride after turns) h in
    omega (arith, one, more, both)

-- a hart that still runs has taken a step with each choice
pub turns_count : (stride : Stride) (w : World) (h : ℕ) (turns : List Choice) → runs_in (run w (turns_choices stride w turns)) h ≡ true
    → steps_in_turns stride w h turns ≡ own (turns_choices stride w turns) h
unfolding steps_in_turns turns_choices
turns_count stride w h [] runs = refl
turns_count stride w h (c ∷ turns) runs =
    let after = world_settled stride (step w c) c.hart in
    let both = own_joined (turn_choices stride w c) (turns_choices stride after turns) h in
    let leads : run w (turn_choices stride w c ++ turns_choices stride after turns) ≡ run after (turns_choices stride after turns)
    = run_joined w (turn_choices stride w c) (turns_choices stride after turns)
    ∙ ap (λ (x : World). run x (turns_choices stride after turns)) (run_of_turn stride w c) in
    let more = turns_count stride after h turns (ap (λ (x : World). runs_in x h) (sym leads) ∙ runs) in
    let one = turn_counts stride w h c (λ e. elim (cases_Bool (runs_in w h)) [
      | inl going ↦ going
      | inr stopped ↦ absurd (true≢false (sym runs ∙ run_stopped w (turn_choices stride w c ++ turns_choices stride after turns) h stopped))
    ]) in
    omega (arith, one, more, both)
