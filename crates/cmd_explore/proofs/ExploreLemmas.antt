-- The choice text of a failing list.
use Rattle.std.proofs.Common.{◌≡◌, ℕ, zero, suc, ◌<◌, ◌^◌, ◌⊎◌, List, [], ◌∷◌, ◌++◌, length, codes, None, Ok, ap, sym, ◌∙◌, arith, inl, inr, Option}
use Rattle.std.specs.List.{All, Contains, slice_index_or}
use Rattle.image.specs.Image.{ImageValue}
use Rattle.machine.specs.Start.{started}
use Rattle.machine.specs.declared.choice.Choice.{Choice}
use Rattle.sched_text.specs.Printing.{runs_text}
use Rattle.sched_text.specs.Reading.{choices_read}
use Rattle.sched_text.proofs.Agreement.{choices_of-spelled}
use Rattle.sched_text.proofs.PrintLemmas.{runs_spell}
use Rattle.byte_io.specs.declared.status.Status.TheVariants as status
use Rattle.outcome.specs.declared.expect.Exit.{Exit}
use Rattle.outcome.specs.declared.expect.Exit.TheVariants.{May, Must}
use Rattle.explore_space.specs.Bounds.{TellsBounds}
use Rattle.explore_space.specs.Ends.{ends_in}
use Rattle.explore_space.specs.Every.{hart_choices, meant_choices, CountsPlaces, HoldsOfEvery, IsListOf, TellsEnds, TellsExits}
use Rattle.explore_space.specs.declared.exploring.Answer.TheVariants.{Holds, Fails, Hangs}
use Rattle.explore_space.specs.declared.exploring.Failing.{Failing}
use Rattle.explore_space.specs.declared.exploring.Held.{Held}
use Rattle.explore_space.specs.declared.meant.ScRefusals.{ScRefusals}
use Rattle.explore_space.specs.declared.meant.ScRefusals.TheVariants.{Also, Never}
use Rattle.explore_space.specs.declared.question.Question.{Question}
use Rattle.cmd_explore.specs.declared.finding.Explored.{Explored}
use Rattle.cmd_explore.specs.declared.finding.Finding.TheVariants as finding
use Rattle.cmd_form.specs.declared.form.Form.{Form}
use Rattle.cmd_explore.specs.Explore.{failing_status, list_shown, section_broken, word_broken, IsExplored, TellsHeld}
use Rattle.cmd_explore.proofs.KeepLemmas.{keeps_all, keeps_before}
use Rattle.explore_space.specs.declared.section.Section.{Section}

-- ---- the harts of meant choices
shifted : (c x : Choice) (xs ys : List Choice) → Contains xs x ⊎ Contains ys x → Contains (c ∷ xs) x ⊎ Contains ys x
shifted c x xs ys (inl (k, lt, e)) = inl (suc k, omega (arith, lt), e)
shifted c x xs ys (inr there) = inr there

in_either : (x : Choice) (xs ys : List Choice) → Contains (xs ++ ys) x → Contains xs x ⊎ Contains ys x
in_either x [] ys there = inr there
in_either x (c ∷ xs) ys (zero, lt, e) = inl (zero, omega arith, e)
in_either x (c ∷ xs) ys (suc k, lt, e) = shifted c x xs ys (in_either x xs ys (k, omega (arith, lt), e))

of_the_hart : (refusals : ScRefusals) (n : ℕ) (c : Choice) → Contains (hart_choices refusals n) c → c.hart ≡ n
of_the_hart Also n c (zero, lt, e) = sym (ap (λ (d : Choice). d.hart) e)
of_the_hart Also n c (suc zero, lt, e) = sym (ap (λ (d : Choice). d.hart) e)
of_the_hart Also n c (suc (suc k), lt, e) = absurd (omega (arith, lt))
of_the_hart Never n c (zero, lt, e) = sym (ap (λ (d : Choice). d.hart) e)
of_the_hart Never n c (suc k, lt, e) = absurd (omega (arith, lt))

hart_below : (refusals : ScRefusals) (n : ℕ) (c : Choice) → Contains (meant_choices refusals n) c → c.hart < n
unfolding meant_choices
hart_below refusals zero c (k, lt, e) = absurd (omega (arith, lt))
hart_below refusals (suc n) c there =
    by_either (λ earlier. hart_below refusals n c earlier) (in_either c (meant_choices refusals n) (hart_choices refusals n) there)
  where
    by_either : (Contains (meant_choices refusals n) c → c.hart < n)
        → Contains (meant_choices refusals n) c ⊎ Contains (hart_choices refusals n) c → c.hart < suc n
    by_either below (inl earlier) = let low = below earlier in omega (arith, low)
    by_either below (inr last) = let is = of_the_hart refusals n c last in omega (arith, is)

pub harts_below : (refusals : ScRefusals) (n : ℕ) (choices : List Choice) → IsListOf (meant_choices refusals n) choices
    → All (λ c. c.hart < n) choices
harts_below refusals n choices are k d lt = hart_below refusals n (slice_index_or choices k d) (are k d lt)

-- the text of meant choices reads as these
read_again : (refusals : ScRefusals) (n : ℕ) (choices : List Choice) → n < 2 ^ 32
    → IsListOf (meant_choices refusals n) choices → choices_read n (runs_text choices) ≡ Ok choices
read_again refusals n choices few are =
    choices_of-spelled n (runs_text choices) choices few (runs_spell n choices few (harts_below refusals n choices are))

-- ---- what is told
hanging_meant : {Z : Type 0} (section : Option Section) (exit : Exit) (refusals : ScRefusals) (image : ImageValue) (inputs : List ℕ) (hanging : Failing Z)
    → TellsExits section exit refusals image inputs (Hangs hanging) → IsListOf (meant_choices refusals (length inputs)) hanging.choices.items
hanging_meant section May refusals image inputs hanging none = absurd none
hanging_meant section Must refusals image inputs hanging hangs = hangs.meant_ones

module _ {Z : Type 0} (form : Form) (question : Question) (image : ImageValue) (inputs : List ℕ) (found : Explored Z) where
  pub tells_holding : (held : Held Z) → HoldsOfEvery {Z = Z} question.expect.rule question.always question.never_both question.refusals image inputs (Holds held)
      → CountsPlaces {Z = Z} question.never_both question.refusals image inputs question.most (Holds held)
      → TellsEnds {Z = Z} question.expect.rule question.refusals image inputs (Holds held)
      → TellsExits {Z = Z} question.never_both question.expect.exit question.refusals image inputs (Holds held)
      → TellsBounds {Z = Z} question.bounds question.refusals image inputs (Holds held)
      → TellsHeld form question.expect.exit held.places (ends_in held.ends) held.bounds.items found.text.items
      → found.status ≡ status.Done → found.broken ≡ None → found.both ≡ None → found.finding ≡ finding.Holds → IsExplored form question image inputs found
  tells_holding held holds counts ends exits bounds text status broken both finding_is = record {
    answer = Holds held;
    holds = holds;
    keeps = keeps_all question.expect.rule question.always question.never_both (meant_choices question.refusals (length inputs)) image inputs holds;
    counts = counts;
    ends = ends;
    exits = exits;
    bounds = bounds;
    told = (text, status, broken, both, finding_is);
  }

  pub tells_failing : length inputs < 2 ^ 32 → (failing : Failing Z)
      → HoldsOfEvery {Z = Z} question.expect.rule question.always question.never_both question.refusals image inputs (Fails failing)
      → TellsExits {Z = Z} question.never_both question.expect.exit question.refusals image inputs (Fails failing)
      → found.text.items ≡ list_shown form (codes "fails") failing.turns failing.choices.items → found.status ≡ failing_status question.expect.rule found.broken found.both
      → found.broken ≡ word_broken question.always (started image inputs) failing.choices.items
      → found.both ≡ section_broken question.never_both (started image inputs) failing.choices.items
      → found.finding ≡ finding.Fails failing.turns → IsExplored form question image inputs found
  tells_failing few failing fails exits text status broken both finding_is = record {
    answer = Fails failing;
    holds = fails;
    keeps = keeps_before question.expect.rule question.always question.never_both (meant_choices question.refusals (length inputs)) image inputs failing.turns fails.shortest;
    counts = tt;
    ends = tt;
    exits = exits;
    bounds = tt;
    told = (
      text,
      read_again question.refusals (length inputs) failing.choices.items few fails.meant_ones,
      status,
      broken,
      both,
      finding_is,
    );
  }

  pub tells_hanging : length inputs < 2 ^ 32 → (hanging : Failing Z)
      → HoldsOfEvery {Z = Z} question.expect.rule question.always question.never_both question.refusals image inputs (Hangs hanging)
      → TellsExits {Z = Z} question.never_both question.expect.exit question.refusals image inputs (Hangs hanging)
      → found.text.items ≡ list_shown form (codes "hangs") hanging.turns hanging.choices.items → found.status ≡ status.Faulted
      → found.broken ≡ None → found.both ≡ None → found.finding ≡ finding.Hangs hanging.turns → IsExplored form question image inputs found
  tells_hanging few hanging holds exits text status broken both finding_is = record {
    answer = Hangs hanging;
    holds = holds;
    keeps = keeps_all question.expect.rule question.always question.never_both (meant_choices question.refusals (length inputs)) image inputs holds;
    counts = tt;
    ends = tt;
    exits = exits;
    bounds = tt;
    told = (
      text,
      read_again question.refusals (length inputs) hanging.choices.items few
          (hanging_meant question.never_both question.expect.exit question.refusals image inputs hanging exits),
      status,
      broken,
      both,
      finding_is,
    );
  }
