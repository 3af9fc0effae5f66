-- Local steps can wait, and a hart that takes them at once rests.
use Rattle.std.proofs.Common.{◌≡◌, ◌≢◌, ℕ, zero, suc, ◌<◌, ◌≤◌, Bool, true, false, not, ◌&&◌, cond, List, [], ◌∷◌, set, Option, Some, None, refl, ap, sym, ◌∙◌, subst, inl, inr, arith, rules, true≢false}
use Rattle.std.proofs.lemmas.Bool.{cases_Bool}
use Rattle.std.specs.List.{slice_get}
use Rattle.std.specs.Option.{is_some}
use Rattle.mem_store.specs.Memory.{Memory}
use Rattle.hart_step.specs.Hart.{HartValue}
use Rattle.hart_step.specs.Effect.{Site, site}
use Rattle.hart_step.specs.Step.{stepped}
use Rattle.hart_step.specs.declared.hart.HartState.{HartState}
use Rattle.hart_step.specs.declared.hart.HartState.TheVariants.{Running, Exited, Faulted}
use Rattle.hart_local.specs.CodeMemory.{code_in}
use Rattle.hart_local.specs.LocalStep.{class_of, is_local_next, local_in, step_alone, walk}
use Rattle.hart_local.specs.declared.stepping.Class.TheVariants.{Local, Shared}
use Rattle.hart_local.specs.LocalRuns.{plain_choices, with_walked_hart}
use Rattle.hart_local.proofs.StepLemmas.{code_kept, step_is_alone}
use Rattle.machine.specs.World.{World, placed, step_of, step, run}
use Rattle.machine.specs.declared.choice.Choice.{Choice}
use Rattle.machine.proofs.RunLaws.{run-keeps}
use Rattle.explore_laws.specs.Bounds.{not_stopped, still_runs, runs_in}
use Rattle.explore_laws.specs.Quiet.{AreQuiet, CanWait}
use Rattle.explore_laws.specs.Settling.{world_settled}
use Rattle.explore_laws.proofs.ListLemmas.{get_set_other, run_more, run_nothing, same_value, there_set}
use Rattle.explore_laws.proofs.StopLemmas.{other_step}
use Rattle.explore_space.specs.Resting.{at_once, all_clear, is_quiet, is_quiet_by, may_walk, rest_steps, rested, resting_steps, rests_in, stride_of}
use Rattle.explore_space.specs.declared.section.Section.{Section}

-- ---- steps
pub step_code : (w : World) (c : Choice) → code_in (step w c).memory ≡ code_in w.memory
unfolding run
step_code w c = code_kept w.memory (step w c).memory (run-keeps w (c ∷ []))

pub step_is : (w : World) (c : Choice) (v : HartValue) → slice_get w.harts c.hart ≡ Some v
    → step w c ≡ placed w c.hart (stepped c.hart c.refuse (site v w.memory w.reserved))
unfolding step
step_is w c v there = ap (step_of w c) there

pub step_of_nobody : (w : World) (c : Choice) → slice_get w.harts c.hart ≡ None → step w c ≡ w
unfolding step
step_of_nobody w c none = ap (step_of w c) none

both_first : (a b : Bool) → a && b ≡ true → a ≡ true
both_first true b e = refl
both_first false b e = absurd (cc)

pub local_too : (section : Option Section) (code : Memory) (v : HartValue) → may_walk section code v ≡ true → is_local_next code v ≡ true
local_too section code v e = both_first (is_local_next code v) (not (rests_in section v)) e

state_runs : (state : HartState) (code : Memory) (pc : ℕ) → is_some (local_in state code pc) ≡ true → not_stopped state ≡ true
state_runs Running code pc local = refl
state_runs (Exited status) code pc local = absurd (true≢false (sym local))
state_runs (Faulted cause) code pc local = absurd (true≢false (sym local))

-- a hart's local step changes nothing but the hart
pub step_rests : (section : Option Section) (w : World) (c : Choice) (v : HartValue) → slice_get w.harts c.hart ≡ Some v
    → may_walk section (code_in w.memory) v ≡ true → step w c ≡ with_walked_hart w c.hart (step_alone (code_in w.memory) v)
step_rests section w c v there walks =
    let local : is_local_next (code_in w.memory) v ≡ true = local_too section (code_in w.memory) v walks in
    step_is w c v there
    ∙ ap (placed w c.hart) (step_is_alone v w.memory w.reserved c.hart c.refuse (let l = local in search rules))

-- the hart whose next step is quiet
pub quiet_hart : (section : Option Section) (w : World) (o : Option HartValue) → is_quiet_by section w o ≡ true
    → (v : HartValue) × (o ≡ Some v) × (may_walk section (code_in w.memory) v ≡ true)
quiet_hart section w None e = absurd (true≢false (sym e))
quiet_hart section w (Some v) e = (v, refl, e)

set_swaps : {X : Type 0} (xs : List X) (i j : ℕ) (x y : X) → i ≢ j → set (set xs i x) j y ≡ set (set xs j y) i x
set_swaps [] i j x y other = refl
set_swaps (z ∷ xs) zero zero x y other = absurd (other refl)
set_swaps (z ∷ xs) zero (suc j) x y other = refl
set_swaps (z ∷ xs) (suc i) zero x y other = refl
set_swaps (z ∷ xs) (suc i) (suc j) x y other = ap (λ (zs : List _). z ∷ zs) (set_swaps xs i j x y (λ e. other (ap suc e)))

set_twice : {X : Type 0} (xs : List X) (h : ℕ) (a b : X) → set (set xs h a) h b ≡ set xs h b
set_twice [] h a b = refl
set_twice (x ∷ xs) zero a b = refl
set_twice (x ∷ xs) (suc h) a b = ap (λ (ys : List _). x ∷ ys) (set_twice xs h a b)

set_same : (hs : List HartValue) (h : ℕ) (v : HartValue) → slice_get hs h ≡ Some v → hs ≡ set hs h v
set_same [] h v e = refl
set_same (x ∷ hs) zero v e = ap (λ (y : HartValue). y ∷ hs) (same_value x v (Some x) refl e)
set_same (x ∷ hs) (suc h) v e = ap (λ (ys : List HartValue). x ∷ ys) (set_same hs h v e)

same_hart : (w : World) (h : ℕ) (v : HartValue) → slice_get w.harts h ≡ Some v → w ≡ with_walked_hart w h v
same_hart w h v e = ap (λ (hs : List HartValue). record { harts = hs; memory = w.memory; reserved = w.reserved }) (set_same w.harts h v e)

module _ (section : Option Section) where
  quiet_runs : (w : World) (h : ℕ) → is_quiet section w h ≡ true → runs_in w h ≡ true
  quiet_runs w h e =
      let of = quiet_hart section w (slice_get w.harts h) e in
      ap still_runs of.1 ∙ state_runs of.0.state (code_in w.memory) of.0.pc (local_too section (code_in w.memory) of.0 of.2)

  quiet_alike : (w : World) (c d : Choice) → is_quiet section w c.hart ≡ true → d.hart ≡ c.hart → step w d ≡ step w c
  quiet_alike w c d e same =
      let of = quiet_hart section w (slice_get w.harts c.hart) e in
      step_rests section w d of.0 (ap (slice_get w.harts) same ∙ of.1) of.2
      ∙ ap (λ h. with_walked_hart w h (step_alone (code_in w.memory) of.0)) same ∙ sym (step_rests section w c of.0 of.1 of.2)

  -- another hart's step leaves what a hart takes at once
  still_quiet : (w : World) (c : Choice) (o : Option HartValue) → is_quiet_by section (step w c) o ≡ is_quiet_by section w o
  still_quiet w c None = refl
  still_quiet w c (Some v) = ap (λ m. may_walk section m v) (step_code w c)

  quiet_stays : (w : World) (h : ℕ) (c : Choice) → (h ≡ c.hart → ⊥) → is_quiet section (step w c) h ≡ is_quiet section w h
  quiet_stays w h c other = ap (is_quiet_by section (step w c)) (other_step w c h other) ∙ still_quiet w c (slice_get w.harts h)

  still_rests : (w : World) (c : Choice) (o : Option HartValue) → resting_steps section (step w c) o ≡ resting_steps section w o
  still_rests w c None = refl
  still_rests w c (Some v) = ap (λ m. rest_steps section m at_once v) (step_code w c)

  pub stride_stays : (w : World) (c : Choice) (h : ℕ) → (h ≡ c.hart → ⊥) → stride_of section (step w c) h ≡ stride_of section w h
  stride_stays w c h other = ap (resting_steps section (step w c)) (other_step w c h other) ∙ still_rests w c (slice_get w.harts h)

  quiet_swaps : (w : World) (d c : Choice) → (d.hart ≡ c.hart → ⊥) → is_quiet section w d.hart ≡ true
      → step (step w d) c ≡ step (step w c) d
  quiet_swaps w d c other e =
      let of = quiet_hart section w (slice_get w.harts d.hart) e in
      by_hart of.0 of.1 of.2 (slice_get w.harts c.hart) refl
    where
      by_hart : (v : HartValue) → slice_get w.harts d.hart ≡ Some v → may_walk section (code_in w.memory) v ≡ true
          → (o : Option HartValue) → slice_get w.harts c.hart ≡ o → step (step w d) c ≡ step (step w c) d
      by_hart v there walks None none =
          let is : step w c ≡ w = step_of_nobody w c none in
          step_of_nobody (step w d) c (other_step w d c.hart (λ s. other (sym s)) ∙ none) ∙ ap (λ x. step x d) (sym is)
      by_hart v there walks (Some u) at =
          let a : HartValue = step_alone (code_in w.memory) v in
          let wd : World = with_walked_hart w d.hart a in
          let new : Site = stepped c.hart c.refuse (site u w.memory w.reserved) in
          let wc : World = placed w c.hart new in
          let d_is : step w d ≡ wd = step_rests section w d v there walks in
          let c_is : step w c ≡ wc = step_is w c u at in
          let code : code_in wc.memory ≡ code_in w.memory = ap (λ (x : World). code_in x.memory) (sym c_is) ∙ step_code w c in
          let left : step wd c ≡ placed wd c.hart new
          = step_is wd c u (get_set_other w.harts d.hart c.hart a (λ s. other (sym s)) ∙ at) in
          let right : step wc d ≡ with_walked_hart wc d.hart (step_alone (code_in wc.memory) v)
          = step_rests section wc d v (get_set_other w.harts c.hart d.hart new.hart other ∙ there)
          (ap (λ m. may_walk section m v) code ∙ walks) in
          ap (λ x. step x c) d_is ∙ left
          ∙ ap (λ (hs : List HartValue). record { harts = hs; memory = new.memory; reserved = new.reserved }) (set_swaps w.harts d.hart c.hart a new.hart other)
          ∙ ap (with_walked_hart wc d.hart) (ap (λ m. step_alone m v) (sym code)) ∙ sym right ∙ ap (λ x. step x d) (sym c_is)

  -- ---- rests
  rests_quiet : (limit : ℕ) (w : World) (h : ℕ) (v : HartValue) → slice_get w.harts h ≡ Some v
      → AreQuiet (is_quiet section) w (plain_choices h (rest_steps section (code_in w.memory) limit v))
  unfolding rest_steps
  rests_quiet zero w h v there = tt
  rests_quiet (suc limit) w h v there = elim (cases_Bool (may_walk section (code_in w.memory) v)) [
    | inl is ↦
        let d : Choice = record { hart = h; refuse = false } in
        let a : HartValue = step_alone (code_in w.memory) v in
        let leads = step_rests section w d v there is in
        let at : slice_get (step w d).harts h ≡ Some a
        = ap (λ (x : World). slice_get x.harts h) leads ∙ there_set w.harts h v a there in
        let rest : AreQuiet (is_quiet section) (step w d) (plain_choices h (rest_steps section (code_in (step w d).memory) limit a))
        = rests_quiet limit (step w d) h a at in
        subst (λ b. AreQuiet (is_quiet section) w (plain_choices h (cond b (suc (rest_steps section (code_in w.memory) limit a)) 0))) (sym is) (
          ap (is_quiet_by section w) there ∙ is,
          subst (λ m. AreQuiet (is_quiet section) (step w d) (plain_choices h (rest_steps section m limit a))) (step_code w d) rest,
        )
    | inr no_ ↦
        subst (λ b. AreQuiet (is_quiet section) w (plain_choices h (cond b (suc (rest_steps section (code_in w.memory) limit (step_alone (code_in w.memory) v))) 0)))
        (sym no_) tt
  ]

  strides_quiet : (w : World) (h : ℕ) → AreQuiet (is_quiet section) w (plain_choices h (stride_of section w h))
  strides_quiet w h = by_hart (slice_get w.harts h) refl
    where
      by_hart : (o : Option HartValue) → slice_get w.harts h ≡ o
          → AreQuiet (is_quiet section) w (plain_choices h (resting_steps section w o))
      by_hart None e = tt
      by_hart (Some v) e = rests_quiet at_once w h v e

  pub section_waits : CanWait (is_quiet section) all_clear (stride_of section)
  section_waits = record {
    runs = quiet_runs;
    alike = quiet_alike;
    stays = λ w h c aligned other e. quiet_stays w h c other ∙ e;
    is_clear = λ w h aligned e. refl;
    was_clear = λ w c h aligned other e f. refl;
    swaps = λ w d c aligned other e f. quiet_swaps w d c other e;
    strides = λ w h aligned. strides_quiet w h;
    paces = λ w c h aligned other e. stride_stays w c h other;
  }

  -- ---- the world of a hart that rests
  abbrev pub rested_by : World → ℕ → Option HartValue → World
  rested_by w h None = w
  rested_by w h (Some v) = with_walked_hart w h (rested section (code_in w.memory) at_once v)

  rests_run : (limit : ℕ) (w : World) (h : ℕ) (v : HartValue) → slice_get w.harts h ≡ Some v
      → run w (plain_choices h (rest_steps section (code_in w.memory) limit v))
      ≡ with_walked_hart w h (rested section (code_in w.memory) limit v)
  unfolding rest_steps rested
  rests_run zero w h v there = run_nothing w ∙ same_hart w h v there
  rests_run (suc limit) w h v there =
      let code : Memory = code_in w.memory in
      let a : HartValue = step_alone code v in
      elim (cases_Bool (may_walk section code v)) [
        | inl is ↦
            let d : Choice = record { hart = h; refuse = false } in
            let wd : World = with_walked_hart w h a in
            let leads : step w d ≡ wd = step_rests section w d v there is in
            let rest : run wd (plain_choices h (rest_steps section (code_in wd.memory) limit a))
            ≡ with_walked_hart wd h (rested section (code_in wd.memory) limit a)
            = rests_run limit wd h a (there_set w.harts h v a there) in
            subst (λ b. run w (plain_choices h (cond b (suc (rest_steps section code limit a)) 0))
            ≡ with_walked_hart w h (cond b (rested section code limit a) v)) (sym is)
            (run_more w d (plain_choices h (rest_steps section code limit a))
            ∙ ap (λ x. run x (plain_choices h (rest_steps section code limit a))) leads ∙ rest
            ∙ ap (λ (hs : List HartValue). record { harts = hs; memory = w.memory; reserved = w.reserved })
            (set_twice w.harts h a (rested section code limit a)))
        | inr no_ ↦
            subst (λ b. run w (plain_choices h (cond b (suc (rest_steps section code limit a)) 0))
            ≡ with_walked_hart w h (cond b (rested section code limit a) v)) (sym no_) (run_nothing w ∙ same_hart w h v there)
      ]

  pub settled_is : (w : World) (h : ℕ) → world_settled (stride_of section) w h ≡ rested_by w h (slice_get w.harts h)
  settled_is w h = by_hart (slice_get w.harts h) refl
    where
      by_hart : (o : Option HartValue) → slice_get w.harts h ≡ o → run w (plain_choices h (resting_steps section w o)) ≡ rested_by w h o
      by_hart None e = run_nothing w
      by_hart (Some v) e = rests_run at_once w h v e

-- ---- one step more, or none
pub rested_here : (section : Option Section) (code : Memory) (n : ℕ) (v : HartValue) → may_walk section code v ≡ false
    → (rested section code n v ≡ v) × (rest_steps section code n v ≡ 0)
unfolding rested rest_steps
rested_here section code zero v rests = (refl, refl)
rested_here section code (suc n) v rests = rw rests (refl, refl)

pub rested_more : (section : Option Section) (code : Memory) (n : ℕ) (v : HartValue) → may_walk section code v ≡ true
    → (rested section code (suc n) v ≡ rested section code n (step_alone code v))
    × (rest_steps section code (suc n) v ≡ suc (rest_steps section code n (step_alone code v)))
unfolding rested rest_steps
rested_more section code n v walks = rw walks (refl, refl)

-- a walk that ends where the limit or a step that isn't local ends it
pub walked_is_rested : (code : Memory) (limit n : ℕ) (v u : HartValue) → walk code n v ≡ Some u → n ≤ limit
    → (n < limit → class_of code u ≡ Shared) → (u ≡ rested None code limit v) × (n ≡ rest_steps None code limit v)
unfolding walk rested rest_steps
walked_is_rested code zero zero v u e within stops = (same_value u v (Some v) e refl, refl)
walked_is_rested code zero (suc n) v u e within stops = absurd (omega (arith, within))
walked_is_rested code (suc limit) zero v u e within stops =
    let is : v ≡ u = same_value v u (Some v) refl e in
    let shared : class_of code v ≡ Shared = ap (class_of code) is ∙ stops (omega arith) in
    stay (is_local_next code v) code limit v u is shared
  where
    stay : (b : Bool) (code : Memory) (limit : ℕ) (v u : HartValue) → v ≡ u → cond b Local Shared ≡ Shared
        → (u ≡ cond (b && not false) (rested None code limit (step_alone code v)) v)
        × (0 ≡ cond (b && not false) (suc (rest_steps None code limit (step_alone code v))) 0)
    stay true code limit v u same shared = absurd (cc)
    stay false code limit v u same shared = (sym same, refl)
walked_is_rested code (suc limit) (suc n) v u e within stops = elim (cases_Bool (is_local_next code v)) [
  | inl yes_ ↦
      let walks : walk code n (step_alone code v) ≡ Some u = rw yes_ at e in
      let more = walked_is_rested code limit n (step_alone code v) u walks (omega (arith, within)) (λ low. stops (omega (arith, low))) in
      rw yes_ (more.0, ap suc more.1)
  | inr no_ ↦ absurd (let none : ◌≡◌ {A = Option HartValue} None (Some u) = rw no_ at e in cc)
]
