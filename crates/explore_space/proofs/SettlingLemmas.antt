-- Local steps that are taken one by one.
use Rattle.std.proofs.Common.{◌≡◌, ℕ, suc, ◌+◌, ◌-◌, ◌<◌, ◌≤◌, Bool, true, false, cond, Option, refl, ap, sym, ◌∙◌, arith}
use Rattle.mem_store.specs.Memory.{Memory}
use Rattle.hart_step.specs.Hart.{HartValue}
use Rattle.hart_local.specs.LocalStep.{step_alone}
use Rattle.hart_local.specs.declared.stepping.Class.TheVariants.{Local, Shared}
use Rattle.explore_space.specs.declared.section.Section.{Section}
use Rattle.explore_space.proofs.RestLemmas.{rested_here, rested_more}
use Rattle.explore_space.specs.Resting.{may_walk, rest_steps, rested}

-- a hart has taken some of its steps, of `all` at most, and takes the others from where it is
pub record IsOnTheWay (section : Option Section) (code : Memory) (all done : ℕ) (from here : HartValue) : Type 0 where
  pub low : done ≤ all
  pub rests : rested section code (all - done) here ≡ rested section code all from
  pub steps : done + rest_steps section code (all - done) here ≡ rest_steps section code all from

module _ (section : Option Section) (code : Memory) (all : ℕ) (from : HartValue) where
  pub way_none : IsOnTheWay section code all 0 from from
  way_none =
      let none : all - 0 ≡ all = omega arith in
      let count : 0 + rest_steps section code (all - 0) from ≡ rest_steps section code (all - 0) from = omega arith in
      record {
        low = omega arith;
        rests = ap (λ n. rested section code n from) none;
        steps = count ∙ ap (λ n. rest_steps section code n from) none;
      }

  pub way_more : (done : ℕ) (here : HartValue) → done < all → may_walk section code here ≡ true → IsOnTheWay section code all done from here
      → IsOnTheWay section code all (done + 1) from (step_alone code here)
  way_more done here less walks way =
      let left : all - done ≡ suc (all - (done + 1)) = omega (arith, less) in
      let more = rested_more section code (all - (done + 1)) here walks in
      let count = sym (ap (λ n. rest_steps section code n here) left ∙ more.1) in
      let before = way.steps in
      record {
        low = omega (arith, less);
        rests = sym (ap (λ n. rested section code n here) left ∙ more.0) ∙ way.rests;
        steps = omega (arith, count, before);
      }

  pub way_stops : (done : ℕ) (here : HartValue) → may_walk section code here ≡ false → IsOnTheWay section code all done from here
      → (here ≡ rested section code all from) × (done ≡ rest_steps section code all from)
  way_stops done here stops way =
      let stays = rested_here section code (all - done) here stops in
      let none = stays.1 in
      let count = way.steps in
      (sym stays.0 ∙ way.rests, omega (arith, none, count))

  pub way_ends : (done : ℕ) (here : HartValue) → all ≤ done → IsOnTheWay section code all done from here
      → (here ≡ rested section code all from) × (all ≡ rest_steps section code all from)
  unfolding rested rest_steps
  way_ends done here past way =
      let low = way.low in
      let none : all - done ≡ 0 = omega (arith, past, low) in
      let nothing = ap (λ n. rest_steps section code n here) none in
      let count = way.steps in
      (sym (ap (λ n. rested section code n here) none) ∙ way.rests, omega (arith, past, low, nothing, count))

-- ---- the class of a step
pub is_local : (b : Bool) → cond b Local Shared ≡ Local → b ≡ true
is_local true e = refl
is_local false e = absurd (cc)

pub is_shared : (b : Bool) → cond b Local Shared ≡ Shared → b ≡ false
is_shared false e = refl
is_shared true e = absurd (cc)
