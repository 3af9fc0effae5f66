-- A choice text of which some runs of choices were taken.
use Rattle.std.proofs.Common.{◌≡◌, ℕ, zero, suc, ◌+◌, ◌<◌, arith, false, List, [], ◌∷◌, ◌++◌, Option, Some, None, Ok, Err, refl, ap, sym, ◌∙◌, append_assoc, append-nil}
use Rattle.std.specs.Prelude.{replicate}
use Rattle.std.specs.declared.result.Result.{Result}
use Rattle.machine.specs.World.{World, step, run}
use Rattle.machine.specs.Chosen.{is_chosen}
use Rattle.machine.specs.declared.choice.Choice.{Choice}
use Rattle.machine.proofs.WorldLemmas.{run_append, run_none}
use Rattle.text_items.specs.Items.{Item, items_from}
use Rattle.text_items.specs.Reading.{followed_by, value_then, values_named}
use Rattle.sched_text.specs.declared.run.Run.{Run}
use Rattle.sched_text.specs.declared.choice_text.ChoiceFault.{ChoiceFault}
use Rattle.sched_text.specs.Runs.{equal_choices, expanded_runs}
use Rattle.sched_text.specs.Reading.{run_of, expanded_after, choices_read}
use Rattle.sched_run.specs.Harts.{Harts, with_hart}
use Rattle.sched_run.specs.Leads.{LeadsTo}
use Rattle.sched_run.specs.Left.{LeftChoices, none_left, behind_choices, item_then, left_of_items, left_after}
use Rattle.sched_run.proofs.ChosenLemmas.{run_chosen}

-- ---- what is left of a whole text is what is read of it
abbrev by_fault : List Choice → Option ChoiceFault → Result (List Choice) ChoiceFault
by_fault choices None = Ok choices
by_fault choices (Some fault) = Err fault

abbrev result_of : LeftChoices → Result (List Choice) ChoiceFault
result_of left = by_fault left.choices left.fault

run_then : (r : Run) (more : Result (List Run) ChoiceFault)
    → expanded_after [] (value_then (Ok r) more) ≡ followed_by (equal_choices r) (expanded_after [] more)
unfolding expanded_runs
run_then r (Ok runs) = refl
run_then r (Err fault) = refl

choices_then : (front choices : List Choice) (fault : Option ChoiceFault) → by_fault (front ++ choices) fault ≡ followed_by front (by_fault choices fault)
choices_then front choices None = refl
choices_then front choices (Some fault) = refl

items_read : (harts : ℕ) (items : List Item) → expanded_after [] (values_named (run_of harts) items) ≡ result_of (left_of_items harts items)
unfolding expanded_runs
items_read harts [] = refl
items_read harts (item ∷ items) = by (run_of harts item.at item.text) (items_read harts items)
  where
    by : (r : Result Run ChoiceFault) → expanded_after [] (values_named (run_of harts) items) ≡ result_of (left_of_items harts items)
        → expanded_after [] (value_then r (values_named (run_of harts) items)) ≡ result_of (item_then r (left_of_items harts items))
    by (Ok r) more =
        run_then r (values_named (run_of harts) items) ∙ ap (followed_by (equal_choices r)) more
        ∙ sym (choices_then (equal_choices r) (left_of_items harts items).choices (left_of_items harts items).fault)
    by (Err fault) more = refl

text_read : (harts : ℕ) (text : List ℕ) (left : LeftChoices) → left_after harts text 0 ≡ left → choices_read harts text ≡ result_of left
text_read harts text left e = items_read harts (items_from 0 text) ∙ ap result_of e

-- ---- run by run
-- the choices that were taken, which a text begins with and whose run has led to this world, and
-- those that are left
pub record SoFar (harts : ℕ) (text : List ℕ) (left : LeftChoices) (old now : World) (chosen : Harts) : Type 0 where
  pub done : List Choice
  pub read : left_after harts text 0 ≡ behind_choices done left
  pub led : now ≡ run old done
  pub told : (k : ℕ) → chosen k ≡ is_chosen done k

behind_more : (done more : List Choice) (left : LeftChoices)
    → behind_choices done (behind_choices more left) ≡ behind_choices (done ++ more) left
behind_more done more left =
    ap (λ choices. record { choices = choices; fault = left.fault }) (sym (append_assoc done more left.choices))

-- no choice was taken
pub begun : (harts : ℕ) (text : List ℕ) (left : LeftChoices) (w : World) (chosen : Harts)
    → left ≡ left_after harts text 0 → chosen ≡ (λ _. false) → SoFar harts text left w w chosen
begun harts text left w chosen whole none = record {
  done = [];
  read = sym whole;
  led = sym (run_none w);
  told = λ k. ap (λ (harts : Harts). harts k) none;
}

-- a run of equal choices more was taken
pub run_taken : (harts : ℕ) (text : List ℕ) (left now_left : LeftChoices) (old before after : World)
    (chosen more : Harts) (r : Run) → 0 < r.count
    → left ≡ behind_choices (equal_choices r) now_left → after ≡ run before (equal_choices r)
    → more ≡ with_hart chosen r.choice.hart
    → SoFar harts text left old before chosen → SoFar harts text now_left old after more
run_taken harts text left now_left old before after chosen more r some next ran is s = record {
  done = s.done ++ equal_choices r;
  read = s.read ∙ ap (behind_choices s.done) next ∙ behind_more s.done (equal_choices r) now_left;
  led = ran ∙ ap (λ w. run w (equal_choices r)) s.led ∙ sym (run_append old s.done (equal_choices r));
  told = λ k. ap (λ (harts : Harts). harts k) is ∙ run_chosen s.done r some chosen k (s.told k);
}

-- ---- a run of equal choices, of which some are left
-- a step is taken
pub one_less : (w next whole : World) (c : Choice) (n m : ℕ) → 0 < n → m + 1 ≡ n → next ≡ step w c → run w (replicate n c) ≡ whole
    → run next (replicate m c) ≡ whole
unfolding run
one_less w next whole c zero m some less stepped so_far = absurd (omega (arith, some))
one_less w next whole c (suc n) m some less stepped so_far =
    let same : m ≡ n = omega (arith, less) in
    ap (λ v. run v (replicate m c)) stepped ∙ ap (λ k. run (step w c) (replicate k c)) same ∙ so_far

-- none is left
pub all_run : (harts : ℕ) (text : List ℕ) (left : LeftChoices) (old now : World) (chosen : Harts) → left ≡ none_left None
    → SoFar harts text left old now chosen → LeadsTo harts text old now chosen
all_run harts text left old now chosen none s = record {
  choices = s.done;
  read = text_read harts text (behind_choices s.done (none_left None)) (s.read ∙ ap (behind_choices s.done) none) ∙ ap Ok (append-nil s.done);
  led = s.led;
  told = s.told;
}

-- a bad item is left
pub item_bad : (harts : ℕ) (text : List ℕ) (left : LeftChoices) (old now : World) (chosen : Harts) (fault : ChoiceFault)
    → left ≡ none_left (Some fault) → SoFar harts text left old now chosen → choices_read harts text ≡ Err fault
item_bad harts text left old now chosen fault bad s =
    text_read harts text (behind_choices s.done (none_left (Some fault))) (s.read ∙ ap (behind_choices s.done) bad)
