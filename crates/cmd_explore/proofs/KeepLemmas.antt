-- Where no run of a list fails, what a word must be holds at the start and after each choice, and no
-- two harts stand in the section.
use Rattle.std.proofs.Common.{◌≡◌, ℕ, ◌<◌, ◌≤◌, Bool, true, false, not, ◌||◌, List, length, take, Option, Some, None, refl, ap, arith}
use Rattle.std.proofs.lemmas.List.{length-take-le}
use Rattle.std.proofs.lemmas.List.Elements.{All-take}
use Rattle.std.specs.List.{All, Contains}
use Rattle.image.specs.Image.{ImageValue}
use Rattle.machine.specs.Start.{started}
use Rattle.machine.specs.World.{World, run}
use Rattle.machine.specs.declared.choice.Choice.{Choice}
use Rattle.object_library.specs.declared.kind.Kind.{Kind}
use Rattle.outcome.specs.Expect.{fails, judged}
use Rattle.outcome.specs.declared.expect.Exit.TheVariants.{May}
use Rattle.property_judge.proofs.FirstLemmas.{is_first}
use Rattle.property_judge.specs.Broken.{first_broken}
use Rattle.property_judge.specs.Property.{holds_in}
use Rattle.property_judge.specs.declared.property.Property.{Property}
use Rattle.property_judge.specs.declared.property.Property.TheVariants as property
use Rattle.explore_space.specs.Every.{IsListOf, run_fails}
use Rattle.explore_space.specs.declared.section.Section.{Section}
use Rattle.explore_space.specs.Failing.{breaks_asked, breaks_section, breaks_word}
use Rattle.explore_space.specs.declared.question.Always.{Always}
use Rattle.cmd_explore.specs.Explore.{section_broken, word_broken, KeepsAll, KeepsBefore, KeepsBoth}

left_false : (a b : Bool) → a || b ≡ false → a ≡ false
left_false true b e = absurd (cc)
left_false false b e = refl

right_false : (a b : Bool) → a || b ≡ false → b ≡ false
right_false true b e = absurd (cc)
right_false false b e = e

-- a property that holds after each number of choices isn't broken
never_broken : (p : Property) (w : World) (choices : List Choice)
    → ((k : ℕ) → k ≤ length choices → not (holds_in p (run w (take k choices))) ≡ false)
    → (found : Option ℕ) → first_broken p w choices ≡ found → found ≡ None
never_broken p w choices holds None e = refl
never_broken p w choices holds (Some k) e =
    let first = is_first p w choices k e in
    let here = holds k first.within in
    let fails = first.fails in
    absurd (cc (here, ap not fails))

word_kept : (always : Option Always) (w : World) (choices : List Choice)
    → ((k : ℕ) → k ≤ length choices → breaks_word always (run w (take k choices)) ≡ false) → word_broken always w choices ≡ None
word_kept None w choices holds = refl
word_kept (Some always) w choices holds =
    never_broken (property.Always always.word always.comparison always.number) w choices holds
    (word_broken (Some always) w choices) refl

section_kept : (section : Option Section) (w : World) (choices : List Choice)
    → ((k : ℕ) → k ≤ length choices → breaks_section section (run w (take k choices)) ≡ false) → section_broken section w choices ≡ None
section_kept None w choices holds = refl
section_kept (Some section) w choices holds =
    never_broken (property.NeverBoth section.from section.to) w choices holds (section_broken (Some section) w choices) refl

both_kept : (always : Option Always) (section : Option Section) (w : World) (choices : List Choice)
    → ((k : ℕ) → k ≤ length choices → breaks_asked always section (run w (take k choices)) ≡ false)
    → KeepsBoth always section w choices
both_kept always section w choices holds = record {
  word = word_kept always w choices
      (λ k low. left_false (breaks_word always (run w (take k choices))) (breaks_section section (run w (take k choices))) (holds k low));
  apart = section_kept section w choices
      (λ k low. right_false (breaks_word always (run w (take k choices))) (breaks_section section (run w (take k choices))) (holds k low));
}

module _ (rule : Option Kind) (always : Option Always) (section : Option Section) (meant : List Choice) (image : ImageValue) (inputs : List ℕ) where
  first_kept : (choices : List Choice) → run_fails rule always section image inputs choices ≡ false
      → breaks_asked always section (run (started image inputs) choices) ≡ false
  first_kept choices good =
      left_false (breaks_asked always section (run (started image inputs) choices))
      (fails May (judged rule inputs choices (run (started image inputs) choices).harts)) good

  pub keeps_all : ((choices : List Choice) → IsListOf meant choices → run_fails rule always section image inputs choices ≡ false)
      → KeepsAll always section meant (started image inputs)
  keeps_all good choices are =
      both_kept always section (started image inputs) choices
      (λ k low. first_kept (take k choices) (good (take k choices) (All-take (Contains meant) k choices are)))

  pub keeps_before : (count : ℕ) → ((choices : List Choice) → IsListOf meant choices → length choices < count
      → run_fails rule always section image inputs choices ≡ false) → KeepsBefore always section meant (started image inputs) count
  keeps_before count good choices are few =
      both_kept always section (started image inputs) choices
      (λ k low. first_kept (take k choices) (good (take k choices) (All-take (Contains meant) k choices are)
      (let long = length-take-le k choices low in omega (arith, few, low, long))))
