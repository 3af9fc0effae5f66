-- The text of a minimal failing list.
use Rattle.std.proofs.Common.{◌≡◌, ℕ, suc, ◌^◌, ◌<◌, ◌==◌, List, [], ◌∷◌, length, Some, sym, subst, ap, ◌∙◌, arith, inl, inr}
use Rattle.std.specs.List.{All}
use Rattle.std.proofs.lemmas.List.Elements.{All-nil, All-cons, All-filter}
use Rattle.image.specs.Image.{ImageValue}
use Rattle.machine.specs.declared.choice.Choice.{Choice}
use Rattle.sched_text.specs.Printing.{runs_text}
use Rattle.sched_text.specs.Reading.{choices_read}
use Rattle.sched_text.proofs.Agreement.{choices_of-spelled}
use Rattle.sched_text.proofs.PrintLemmas.{runs_spell}
use Rattle.cmd_shrink.specs.Less.{IsLess, IsLessOfEach, choices_of_hart}
use Rattle.cmd_shrink.specs.Minimal.{IsMinimal}
use Rattle.cmd_shrink.specs.Switches.{HasFewSwitches}
use Rattle.cmd_shrink.proofs.LessLemmas.{less_same, one_left}
use Rattle.cmd_shrink.proofs.EachLemmas.{each_trans, each_less, choices_of_hart-first}
use Rattle.outcome.specs.declared.expect.Expect.{Expect}
use Rattle.property_judge.specs.declared.property.Property.{Property}
use Rattle.cmd_shrink.specs.Failure.{failure_after, RunFailsSo}
use Rattle.cmd_shrink.specs.declared.failure.Failure.{Failure}
use Rattle.cmd_shrink.specs.Shrink.{IsShrunk}

-- the choices of a list with some left out name harts that exist, if those of the whole list do
within_less : (n : ℕ) (list given : List Choice) → IsLess list given → All (λ c. c.hart < n) given → All (λ c. c.hart < n) list
unfolding IsLess
within_less n [] given less all = All-nil (λ (c : Choice). c.hart < n)
within_less n (c ∷ list) [] less all = absurd less
within_less n (c ∷ list) (d ∷ given) (inl (soft, less)) all =
    All-cons (λ (c : Choice). c.hart < n) c list (subst (λ h. h < n) (sym soft.0) (all 0 d (omega arith)))
    (within_less n list given less (λ k e lt. all (suc k) e (omega (arith, lt))))
within_less n (c ∷ list) (d ∷ given) (inr less) all =
    within_less n (c ∷ list) given less (λ k e lt. all (suc k) e (omega (arith, lt)))

-- the same where those of each hart do
within_each : (n : ℕ) (list given : List Choice) → IsLessOfEach list given → All (λ c. c.hart < n) given → All (λ c. c.hart < n) list
within_each n [] given less all = All-nil (λ (c : Choice). c.hart < n)
within_each n (c ∷ list) given less all =
    let own = subst (λ l. IsLess l (choices_of_hart c.hart given)) (choices_of_hart-first c list) (less c.hart) in
    let theirs = All-filter (λ (d : Choice). d.hart == c.hart) (λ d. d.hart < n) given all in
    let rest = each_trans list (c ∷ list) given (each_less list (c ∷ list) (one_left c list list (less_same list))) less in
    All-cons (λ (d : Choice). d.hart < n) c list
    (within_less n (c ∷ choices_of_hart c.hart list) (choices_of_hart c.hart given) own theirs 0 c (omega arith))
    (within_each n list given rest all)

module _ (expect : Expect) (properties : List Property) (image : ImageValue) (inputs : List ℕ)
    (given choices printed : List Choice) (text : List ℕ) (how : Failure) where
  pub is_shrunk : length inputs < 2 ^ 32 → All (λ c. c.hart < length inputs) given → failure_after expect properties image inputs given ≡ Some how
      → IsLessOfEach choices given → RunFailsSo how image inputs choices → IsMinimal (RunFailsSo how image inputs) choices
      → HasFewSwitches (RunFailsSo how image inputs) choices → printed ≡ choices → text ≡ runs_text printed → IsShrunk expect properties image inputs given text
  is_shrunk few within given_fails less fails minimal few_switches same shows =
      let is : text ≡ runs_text choices = shows ∙ ap runs_text same in
      let there = within_each (length inputs) choices given less within in
      record {
        choices = choices;
        how = how;
        given_fails = given_fails;
        less = less;
        fails = fails;
        minimal = minimal;
        few = few_switches;
        printed = is;
        read = ap (choices_read (length inputs)) is
            ∙ choices_of-spelled (length inputs) (runs_text choices) choices few (runs_spell (length inputs) choices few there);
      }
