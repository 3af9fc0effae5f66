-- What is printed spells its list.
use Rattle.std.proofs.Common.{◌≡◌, ℕ, ◌+◌, ◌^◌, ◌<◌, ◌≤◌, Bool, true, false, List, [], ◌∷◌, ◌++◌, map, refl, arith, ap, sym, ◌∙◌, append-nil, append_assoc, eqb-true, subst, length, drop, get_or, rules}
use Rattle.std.proofs.lemmas.Fmt.{decimal_is_IsNumeral}
use Rattle.std.proofs.lemmas.Grind.{common_steps}
use Rattle.std.proofs.lemmas.List.{drop_more}
use Rattle.std.proofs.lemmas.List.Elements.{All-nil, All-cons, All-head, All-tail}
use Rattle.std.specs.Prelude.{◌==◌, ◌&&◌, nat_lt, if◌then◌else◌}
use Rattle.std.specs.Fmt.{decimal}
use Rattle.std.specs.List.{All}
use Rattle.machine.specs.declared.choice.Choice.{Choice}
use Rattle.text_items.specs.Numbers.{mark_of}
use Rattle.text_items.specs.Printing.{after_item, text_of}
use Rattle.text_items.proofs.PrintLemmas as texts
use Rattle.sched_text.specs.declared.run.Run.{Run}
use Rattle.sched_text.specs.Runs.{choice_run, expanded_runs, same_choice, runs_from, longest_runs}
use Rattle.sched_text.specs.Grammar.{Counts, NamesRun, SpellsRuns, SpellsChoices}
use Rattle.sched_text.specs.Printing.{item_text, choices_text, count_text, run_text, runs_text}
use Rattle.sched_text.proofs.ExpandLemmas.{IsCounted, longest-expanded, longest-counted, longest-all}

-- ---- a list, one item per choice
abbrev is_once : ℕ → Run → Type 0
is_once harts r = (r.choice.hart < harts) × (r.count ≡ 1)

expanded-once : (choices : List Choice) → expanded_runs (map (λ c. choice_run c 1) choices) ≡ choices
unfolding expanded_runs
expanded-once [] = refl
expanded-once (c ∷ choices) = ap (λ cs. c ∷ cs) (expanded-once choices)

after_item-once : (choices : List Choice) → after_item (λ r. item_text r.choice) (map (λ c. choice_run c 1) choices) ≡ after_item item_text choices
after_item-once [] = refl
after_item-once (c ∷ choices) = ap (λ xs. 32 ∷ (item_text c ++ xs)) (after_item-once choices)

text_of-once : (choices : List Choice) → text_of (λ r. item_text r.choice) (map (λ c. choice_run c 1) choices) ≡ choices_text choices
text_of-once [] = refl
text_of-once (c ∷ choices) = ap (λ xs. item_text c ++ xs) (after_item-once choices)

item_names : (r : Run) → r.choice.hart < 2 ^ 64 → r.count ≡ 1 → NamesRun (item_text r.choice) r
item_names r small single = record {
  digits = decimal r.choice.hart;
  counted = [];
  text = ap (λ m. decimal r.choice.hart ++ m) (sym (append-nil (mark_of r.choice.refuse)));
  number = texts.decimal_is_number r.choice.hart small;
  value = (decimal_is_IsNumeral r.choice.hart small).1;
  count = single;
}

once_all : (P : Choice → Type 0) (choices : List Choice) → All P choices → All (λ r. P r.choice) (map (λ c. choice_run c 1) choices)
once_all P [] all = All-nil (λ (r : Run). P r.choice)
once_all P (c ∷ choices) all =
    All-cons (λ (r : Run). P r.choice) (choice_run c 1) (map (λ c. choice_run c 1) choices) (All-head P c choices all) (once_all P choices (All-tail P c choices all))

once_fits : (harts : ℕ) (choices : List Choice) → All (λ c. c.hart < harts) choices → All (is_once harts) (map (λ c. choice_run c 1) choices)
once_fits harts [] all = All-nil (is_once harts)
once_fits harts (c ∷ choices) all =
    let here = All-head (λ (c : Choice). c.hart < harts) c choices all in
    All-cons (is_once harts) (choice_run c 1) (map (λ c. choice_run c 1) choices) (here, refl)
    (once_fits harts choices (All-tail (λ (c : Choice). c.hart < harts) c choices all))

pub text_spells : (harts : ℕ) (choices : List Choice) → harts < 2 ^ 32 → All (λ c. c.hart < harts) choices
    → SpellsChoices harts (choices_text choices) choices
text_spells harts choices few within =
    let runs = map (λ c. choice_run c 1) choices in
    record {
      runs = runs;
      spelled = subst (λ t. SpellsRuns harts t runs) (text_of-once choices)
          (texts.text_spells NamesRun (λ r. r.choice.hart < harts) (is_once harts) (λ r. item_text r.choice)
          (λ r fits. let below = fits.0 in item_names r (omega (arith, few, below)) fits.1) runs
          (once_all (λ c. c.hart < harts) choices within) (once_fits harts choices within));
      in_order = sym (expanded-once choices);
    }

pub spells_printed : (text : List ℕ) (choices : List Choice) → text ≡ choices_text choices
    → (harts : ℕ) → harts < 2 ^ 32 → All (λ c. c.hart < harts) choices → SpellsChoices harts text choices
spells_printed text choices e harts few within = subst (λ t. SpellsChoices harts t choices) (sym e) (text_spells harts choices few within)

-- ---- a list, one item per run
abbrev fits_text : ℕ → Run → Type 0
fits_text harts r = (r.choice.hart < harts) × IsCounted r

count_counts : (n : ℕ) → 1 ≤ n → n ≤ 16777216 → Counts (count_text n) n
count_counts n low high = by (n == 1) refl
  where
    by : (b : Bool) → (n == 1) ≡ b → Counts (if b then [] else 42 ∷ decimal n) n
    by true e = eqb-true n 1 e
    by false e =
        let small : n < 2 ^ 64 = omega (arith, high) in
        (refl, texts.decimal_is_number n small, (decimal_is_IsNumeral n small).1, low, high)

run_names : (r : Run) → r.choice.hart < 2 ^ 64 → IsCounted r → NamesRun (run_text r) r
run_names r small counted = record {
  digits = decimal r.choice.hart;
  counted = count_text r.count;
  text = refl;
  number = texts.decimal_is_number r.choice.hart small;
  value = (decimal_is_IsNumeral r.choice.hart small).1;
  count = count_counts r.count counted.0 counted.1;
}

pub runs_spell : (harts : ℕ) (choices : List Choice) → harts < 2 ^ 32 → All (λ c. c.hart < harts) choices
    → SpellsChoices harts (runs_text choices) choices
runs_spell harts choices few within =
    let there = longest-all (λ c. c.hart < harts) choices within in
    let counted = longest-counted choices in
    record {
      runs = longest_runs choices;
      spelled = texts.text_spells NamesRun (λ r. r.choice.hart < harts) (fits_text harts) run_text
          (λ r fits. let below = fits.0 in run_names r (omega (arith, few, below)) fits.1) (longest_runs choices) there
          (λ k d inside. (there k d inside, counted k d inside));
      in_order = sym (longest-expanded choices);
    }

pub spells_runs : (text : List ℕ) (choices : List Choice) → text ≡ runs_text choices
    → (harts : ℕ) → harts < 2 ^ 32 → All (λ c. c.hart < harts) choices → SpellsChoices harts text choices
spells_runs text choices e harts few within = subst (λ t. SpellsChoices harts t choices) (sym e) (runs_spell harts choices few within)

-- ---- printing, choice by choice

-- the text of n of a choice, and then the longest runs of a list
abbrev pub text_from : Choice → ℕ → List Choice → List ℕ
text_from c n choices = text_of run_text (runs_from c n choices)

after_runs : (c : Choice) (n : ℕ) (choices : List Choice) → after_item run_text (runs_from c n choices) ≡ 32 ∷ text_from c n choices
unfolding runs_from
after_runs c n [] = refl
after_runs c n (d ∷ choices) = by (same_choice c d && nat_lt n 16777216) (after_runs c (n + 1) choices)
  where
    by : (b : Bool) → after_item run_text (runs_from c (n + 1) choices) ≡ 32 ∷ text_from c (n + 1) choices
        → after_item run_text (if b then runs_from c (n + 1) choices else choice_run c n ∷ runs_from d 1 choices)
        ≡ 32 ∷ text_of run_text (if b then runs_from c (n + 1) choices else choice_run c n ∷ runs_from d 1 choices)
    by true more = more
    by false more = refl

pub text_from-more : (c : Choice) (n : ℕ) (d : Choice) (choices : List Choice) → same_choice c d && nat_lt n 16777216 ≡ true
    → text_from c n (d ∷ choices) ≡ text_from c (n + 1) choices
unfolding runs_from
text_from-more c n d choices e = ap (λ (b : Bool). text_of run_text (if b then runs_from c (n + 1) choices else choice_run c n ∷ runs_from d 1 choices)) e

pub text_from-next : (c : Choice) (n : ℕ) (d : Choice) (choices : List Choice) → same_choice c d && nat_lt n 16777216 ≡ false
    → text_from c n (d ∷ choices) ≡ run_text (choice_run c n) ++ 32 ∷ text_from d 1 choices
unfolding runs_from
text_from-next c n d choices e =
    ap (λ (b : Bool). text_of run_text (if b then runs_from c (n + 1) choices else choice_run c n ∷ runs_from d 1 choices)) e
    ∙ ap (λ xs. run_text (choice_run c n) ++ xs) (after_runs d 1 choices)

pub text_from-last : (c : Choice) (n : ℕ) → text_from c n [] ≡ run_text (choice_run c n) ++ 10 ∷ []
unfolding runs_from
text_from-last c n = refl

module _ (text whole : List ℕ) (c : Choice) (n i : ℕ) (rest : List Choice) (none : Choice)
    (so_far : text ++ text_from c n (drop i rest) ≡ whole) where
  -- the run goes on
  pub print_more : i < length rest → same_choice c (get_or rest i none) && nat_lt n 16777216 ≡ true
      → text ++ text_from c (n + 1) (drop (i + 1) rest) ≡ whole
  print_more inside e =
      ap (λ xs. text ++ xs) (sym (ap (text_from c n) (drop_more rest i none inside) ∙ text_from-more c n (get_or rest i none) (drop (i + 1) rest) e))
      ∙ so_far

  -- the run has ended, and another begins
  pub print_next : (after : List ℕ) → i < length rest → same_choice c (get_or rest i none) && nat_lt n 16777216 ≡ false
      → after ≡ text ++ (run_text (choice_run c n) ++ 32 ∷ [])
      → after ++ text_from (get_or rest i none) 1 (drop (i + 1) rest) ≡ whole
  print_next after inside e written =
      let d = get_or rest i none in
      let later = text_from d 1 (drop (i + 1) rest) in
      let item = run_text (choice_run c n) in
      ap (λ t. t ++ later) written ∙ append_assoc text (item ++ 32 ∷ []) later ∙ ap (λ xs. text ++ xs) (append_assoc item (32 ∷ []) later)
      ∙ ap (λ xs. text ++ xs) (sym (ap (text_from c n) (drop_more rest i none inside) ∙ text_from-next c n d (drop (i + 1) rest) e))
      ∙ so_far

  -- the last run
  pub print_last : (after : List ℕ) → length rest ≤ i → after ≡ text ++ (run_text (choice_run c n) ++ 10 ∷ []) → after ≡ whole
  print_last after end written =
      let none_left : drop i rest ≡ [] = search (rules, common_steps, end) in
      written ∙ ap (λ xs. text ++ xs) (sym (ap (text_from c n) none_left ∙ text_from-last c n)) ∙ so_far
