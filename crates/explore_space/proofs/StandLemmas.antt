-- Harts that stand in a section stand there in each world that covers theirs.
use Rattle.std.proofs.Common.{◌≡◌, ℕ, suc, ◌+◌, ◌≤◌, Bool, true, false, not, ◌&&◌, cond, List, [], ◌∷◌, length, Some, refl, ap, sym, ◌∙◌, inl, inr, arith, true≢false}
use Rattle.std.proofs.lemmas.Bool.{and_right, cases_eq}
use Rattle.std.proofs.lemmas.List.Sums.{sum_by-cons}
use Rattle.std.specs.List.{slice_get, count_by}
use Rattle.mem_store.specs.Memory.{Memory}
use Rattle.hart_step.specs.Hart.{HartValue}
use Rattle.machine.specs.World.{World, step, run}
use Rattle.machine.specs.declared.choice.Choice.{Choice}
use Rattle.property_judge.specs.Property.{harts_between, is_within}
use Rattle.explore_laws.specs.Bounds.{not_stopped}
use Rattle.explore_laws.specs.Covering.{WorldCovers}
use Rattle.explore_laws.specs.Quiet.{AreQuiet}
use Rattle.explore_laws.proofs.ListLemmas.{same_value}
use Rattle.explore_laws.proofs.StopLemmas.{other_step}
use Rattle.explore_sites.specs.Own.{is_alone}
use Rattle.explore_space.specs.Habits.{Habits, quiet_by_habit, takes_quiet_by, takes_quiet_step}
use Rattle.explore_space.specs.Resting.{rests_in}
use Rattle.explore_space.specs.declared.section.Section.{Section}
use Rattle.explore_space.proofs.PassLemmas.{covers_count}

-- a hart that stands in the section takes no quiet step
rests_there : (habits : Habits) (section : Section) (m : Memory) (h : ℕ) (v : HartValue) → habits.section ≡ Some section
    → is_within section.from section.to v ≡ true → takes_quiet_step habits m h v ≡ false
rests_there habits section m h v is within =
    let rests : rests_in habits.section v ≡ true = ap (λ o. rests_in o v) is ∙ within in
    ap (λ b. (not_stopped v.state && not b) && is_alone habits.owners m h v) rests
    ∙ ap (λ b. b && is_alone habits.owners m h v) (and_right (not_stopped v.state) false refl)

module _ (habits : Habits) (section : Section) (section_is : habits.section ≡ Some section) where
  stays_within : (w : World) (choices : List Choice) (h : ℕ) (v : HartValue) → AreQuiet (quiet_by_habit habits) w choices
      → slice_get w.harts h ≡ Some v → is_within section.from section.to v ≡ true → slice_get (run w choices).harts h ≡ Some v
  unfolding run
  stays_within w [] h v are there within = there
  stays_within w (c ∷ choices) h v are there within = elim (cases_eq h c.hart) [
    | inl same ↦
        let rests : quiet_by_habit habits w c.hart ≡ false
        = ap (takes_quiet_by habits w c.hart) (ap (slice_get w.harts) (sym same) ∙ there)
        ∙ rests_there habits section w.memory c.hart v section_is within in
        absurd (true≢false (sym are.0 ∙ rests))
    | inr other ↦ stays_within (step w c) choices h v are.1 (other_step w c h other ∙ there) within
  ]

  pub covered_within : (s w : World) → WorldCovers (quiet_by_habit habits) s w → (h : ℕ) (a b : HartValue)
      → slice_get w.harts h ≡ Some a → slice_get s.harts h ≡ Some b → is_within section.from section.to a ≡ true → a ≡ b
  covered_within s w covers h a b at_a at_b within =
      same_value a b (slice_get s.harts h)
      (ap (λ (x : World). slice_get x.harts h) (sym covers.leads) ∙ stays_within w covers.choices h a covers.are_quiet at_a within) at_b

count_more : (p : HartValue → Bool) (x : HartValue) (xs : List HartValue) → count_by p (x ∷ xs) ≡ cond (p x) 1 0 + count_by p xs
count_more p x xs = sum_by-cons (λ z. cond (p z) 1 0) x xs

-- what holds of a hart holds of the one that it leads to: no fewer have it
counts_pass : (p : HartValue → Bool) (xs ys : List HartValue) → length ys ≡ length xs
    → ((h : ℕ) (a b : HartValue) → slice_get xs h ≡ Some a → slice_get ys h ≡ Some b → p a ≡ true → p b ≡ true)
    → count_by p xs ≤ count_by p ys
counts_pass p [] ys even leads = omega arith
counts_pass p (x ∷ xs) [] even leads = absurd (omega (arith, even))
counts_pass p (x ∷ xs) (y ∷ ys) even leads =
    let rest = counts_pass p xs ys (omega (arith, even)) (λ h a b e f. leads (suc h) a b e f) in
    let here = count_more p x xs in
    let there = count_more p y ys in
    let one = head (p x) (p y) (leads 0 x y refl refl) in
    omega (arith, rest, here, there, one)
  where
    head : (a b : Bool) → (a ≡ true → b ≡ true) → cond a 1 0 ≤ cond b 1 0
    head false b leads = omega arith
    head true b leads = rw (leads refl) (omega arith)

pub within_passes : (habits : Habits) (section : Section) → habits.section ≡ Some section → (s w : World)
    → WorldCovers (quiet_by_habit habits) s w
    → harts_between section.from section.to w.harts ≤ harts_between section.from section.to s.harts
within_passes habits section is s w covers =
    counts_pass (is_within section.from section.to) w.harts s.harts (covers_count habits s w covers)
    (λ h a b at_a at_b within.
    ap (is_within section.from section.to) (sym (covered_within habits section is s w covers h a b at_a at_b within)) ∙ within)

pub same_counts : (p : HartValue → Bool) (xs ys : List HartValue) → length xs ≡ length ys
    → ((h : ℕ) (a b : HartValue) → slice_get xs h ≡ Some a → slice_get ys h ≡ Some b → p a ≡ p b)
    → count_by p xs ≡ count_by p ys
same_counts p [] [] even same = refl
same_counts p [] (y ∷ ys) even same = absurd (omega (arith, even))
same_counts p (x ∷ xs) [] even same = absurd (omega (arith, even))
same_counts p (x ∷ xs) (y ∷ ys) even same =
    count_more p x xs ∙ ap (λ b. cond b 1 0 + count_by p xs) (same 0 x y refl refl)
    ∙ ap (λ n. cond (p y) 1 0 + n) (same_counts p xs ys (omega (arith, even)) (λ h a b e f. same (suc h) a b e f))
    ∙ sym (count_more p y ys)
