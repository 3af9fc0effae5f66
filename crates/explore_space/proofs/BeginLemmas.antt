-- The key of the place where a hart has taken its first local steps.
use Rattle.std.proofs.Common.{◌≡◌, ℕ, suc, ◌+◌, ◌<◌, Bool, true, false, cond, List, [], ◌∷◌, ◌++◌, length, Some, refl, ap, sym, ◌∙◌, inl, inr, arith, Option}
use Rattle.std.proofs.lemmas.Option.{slice_get_within}
use Rattle.std.specs.List.{slice_get, slice_index}
use Rattle.image.specs.Image.{ImageValue}
use Rattle.hart_step.specs.Hart.{HartValue}
use Rattle.hart_step.specs.declared.hart.Hart.{Hart}
use Rattle.hart_local.specs.CodeMemory.{code_in}
use Rattle.hart_local.specs.LocalRuns.{plain_choices}
use Rattle.machine.specs.World.{World}
use Rattle.explore_table.proofs.ListLemmas.{get_either}
use Rattle.explore_laws.specs.Places.{Place, place_begun}
use Rattle.explore_space.specs.Begun.{begun_choices, first_steps, hart_begun, hart_settled, place_hart_begun, place_rested, runs_outside, runs_outside_there, runs_settled, world_begun}
use Rattle.explore_space.specs.Habits.{Habits, stride_by_habit}
use Rattle.explore_space.specs.Places.{hart_worded, place_of_key, IsKeyOf}
use Rattle.explore_space.specs.declared.shared.Shared.{Shared}
use Rattle.explore_space.proofs.KeyLemmas.{hart_at}
use Rattle.explore_space.specs.declared.section.Section.{Section}
use Rattle.explore_laws.proofs.ListLemmas.{there_set}
use Rattle.explore_laws.specs.Settling.{world_settled}
use Rattle.explore_space.proofs.RestLemmas.{rested_by, settled_is}
use Rattle.explore_space.specs.Resting.{at_once, rest_steps, rested, resting_steps, stride_of}

module _ {Z : Type 0} (habits : Habits) (image : ImageValue) (n : ℕ) (more_harts : List Hart) (shareds : List (Shared Z)) (p : Place) (number : ℕ)
    (low : number < n) (next : List ℕ) (is : IsKeyOf habits image n more_harts shareds next (place_rested habits.section p number)) where
  -- the hart runs outside behind its steps if the one under its new number does
  runs_there : runs_settled habits.section p.world number ≡ runs_outside habits.section (hart_worded more_harts (slice_index next number))
  runs_there = ap (λ (x : Place). runs_outside_there habits.section (slice_get x.world.harts number)) (sym is.1)
      ∙ ap (runs_outside_there habits.section) (hart_at image n more_harts shareds next is.0 number low)

  begun_by : (b : Bool) → runs_settled habits.section p.world number ≡ b
      → place_hart_begun habits.section p number
      ≡ record { stride = p.stride; world = cond b (hart_settled habits.section p.world number) p.world; chosen = p.chosen }
  begun_by b e = ap (λ (x : Bool). place_of (cond x (hart_settled habits.section p.world number) p.world)) e
    where
      place_of : World → Place
      place_of x = record { stride = p.stride; world = x; chosen = p.chosen }

  pub begun_here : runs_outside habits.section (hart_worded more_harts (slice_index next number)) ≡ true
      → IsKeyOf habits image n more_harts shareds next (place_hart_begun habits.section p number)
  begun_here runs = (is.0, is.1 ∙ sym (begun_by true (runs_there ∙ runs)))

  pub begun_not : (key : List ℕ) → IsKeyOf habits image n more_harts shareds key p
      → runs_outside habits.section (hart_worded more_harts (slice_index next number)) ≡ false
      → IsKeyOf habits image n more_harts shareds key (place_hart_begun habits.section p number)
  begun_not key stays stopped = (stays.0, stays.1 ∙ sym (begun_by false (runs_there ∙ stopped)))

pub begun_none : {Z : Type 0} (habits : Habits) (image : ImageValue) (n : ℕ) (harts : List Hart) (shareds : List (Shared Z)) (key : List ℕ) (w : World)
    → IsKeyOf habits image n harts shareds key (place_begun (stride_by_habit habits) w)
    → IsKeyOf habits image n harts shareds key (place_begun (stride_by_habit habits) (world_begun habits.section w (λ h. true) 0))
unfolding world_begun
begun_none habits image n harts shareds key w is = is

pub begun_more : {Z : Type 0} (habits : Habits) (image : ImageValue) (n : ℕ) (harts more_harts : List Hart) (shareds : List (Shared Z)) (key next : List ℕ)
    (w : World) (number : ℕ) → IsKeyOf habits image n harts shareds key (place_begun (stride_by_habit habits) (world_begun habits.section w (λ h. true) number))
    → IsKeyOf habits image n more_harts shareds next (place_hart_begun habits.section (place_of_key habits image n harts shareds key) number)
    → IsKeyOf habits image n more_harts shareds next (place_begun (stride_by_habit habits) (world_begun habits.section w (λ h. true) (number + 1)))
unfolding world_begun
begun_more habits image n harts more_harts shareds key next w number before is =
    let one : number + 1 ≡ suc number = omega arith in
    rw one (is.0, is.1 ∙ ap (λ (p : Place). place_hart_begun habits.section p number) before.1)

-- a hart runs outside behind its steps if what these make of it does
module _ (section : Option Section) (w : World) (h : ℕ) (v u : HartValue) (there : slice_get w.harts h ≡ Some v) (is : u ≡ rested section (code_in w.memory) at_once v) where
  runs_by_state : runs_settled section w h ≡ runs_outside section u
  runs_by_state =
      ap (λ (x : World). runs_outside_there section (slice_get x.harts h)) (settled_is section w h)
      ∙ ap (λ o. runs_outside_there section (slice_get (rested_by section w h o).harts h)) there
      ∙ ap (runs_outside_there section) (there_set w.harts h v (rested section (code_in w.memory) at_once v) there)
      ∙ ap (runs_outside section) (sym is)

  -- so it is as before, or has taken them
  pub begun_by_state : (b : Bool) → b ≡ runs_outside section u → cond b (world_settled (stride_of section) w h) w ≡ hart_begun section w h
  begun_by_state b e = ap (λ x. cond x (world_settled (stride_of section) w h) w) (e ∙ sym runs_by_state)

  pub first_by_state : (b : Bool) → b ≡ runs_outside section u → cond b (rest_steps section (code_in w.memory) at_once v) 0 ≡ first_steps section w h
  first_by_state b e =
      ap (λ o. cond b (resting_steps section w o) 0) (sym there)
      ∙ ap (λ x. cond x (resting_steps section w (slice_get w.harts h)) 0) (e ∙ sym runs_by_state)

-- ---- how many steps these are
abbrev pub AreFirst : Option Section → World → List ℕ → Type 0
AreFirst section w steps = (h n : ℕ) → slice_get steps h ≡ Some n → n ≡ first_steps section w h

pub first_of_none : (section : Option Section) (w : World) (steps : List ℕ) → steps ≡ [] → AreFirst section w steps
first_of_none section w steps none h n e =
    absurd (let low = slice_get_within steps h n e in let len = ap (λ (xs : List ℕ). length xs) none in omega (arith, low, len))

pub first_of_more : (section : Option Section) (w : World) (steps more : List ℕ) (k s : ℕ) → length steps ≡ k → s ≡ first_steps section w k → AreFirst section w steps
    → more ≡ steps ++ s ∷ [] → AreFirst section w more
first_of_more section w steps more k s count is before pushed h n e =
    elim (get_either steps s n h (ap (λ xs. slice_get xs h) (sym pushed) ∙ e)) [
      | inl old ↦ before h n old
      | inr new ↦ sym new.1 ∙ is ∙ ap (first_steps section w) (sym (new.0 ∙ count))
    ]

-- the first choices and where they lead, as they grow
pub first_none : (section : Option Section) (w : World) (asked : ℕ → Bool) → [] ≡ begun_choices section w asked 0
unfolding begun_choices
first_none section w asked = refl

pub world_none : (section : Option Section) (w : World) (asked : ℕ → Bool) → w ≡ world_begun section w asked 0
unfolding world_begun
world_none section w asked = refl

pub first_more : (section : Option Section) (w : World) (asked : ℕ → Bool) (n : ℕ) (b : Bool) → b ≡ asked n
    → begun_choices section w asked n ++ cond b (plain_choices n (first_steps section (world_begun section w asked n) n)) [] ≡ begun_choices section w asked (n + 1)
unfolding begun_choices
first_more section w asked n b is =
    let one : n + 1 ≡ suc n = omega arith in
    rw one (ap (λ x. begun_choices section w asked n ++ cond x (plain_choices n (first_steps section (world_begun section w asked n) n)) []) is)

pub world_more : (section : Option Section) (w : World) (asked : ℕ → Bool) (n : ℕ) (b : Bool) → b ≡ asked n
    → cond b (hart_begun section (world_begun section w asked n) n) (world_begun section w asked n) ≡ world_begun section w asked (n + 1)
unfolding world_begun
world_more section w asked n b is =
    let one : n + 1 ≡ suc n = omega arith in
    rw one (ap (λ x. cond x (hart_begun section (world_begun section w asked n) n) (world_begun section w asked n)) is)
