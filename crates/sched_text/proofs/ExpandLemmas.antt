-- The choices of runs, and the runs of choices.
use Rattle.std.proofs.Common.{◌≡◌, ℕ, zero, suc, ◌+◌, ◌<◌, ◌≤◌, Bool, true, false, List, [], ◌∷◌, ◌++◌, refl, arith, ap, ◌∙◌, eqb-true, ltb-true}
use Rattle.std.proofs.lemmas.List.Elements.{All-nil, All-cons, All-append, All-head, All-tail}
use Rattle.std.specs.Prelude.{◌==◌, ◌&&◌, nat_lt, replicate, if◌then◌else◌}
use Rattle.std.specs.List.{All}
use Rattle.machine.specs.declared.choice.Choice.{Choice}
use Rattle.sched_text.specs.declared.run.Run.{Run}
use Rattle.sched_text.specs.Runs.{choice_run, equal_choices, expanded_runs, same_mark, same_choice, runs_from, longest_runs}

all_equal : (P : Choice → Type 0) (n : ℕ) (c : Choice) → P c → All P (replicate n c)
all_equal P zero c p = All-nil P
all_equal P (suc n) c p = All-cons P c (replicate n c) p (all_equal P n c p)

-- what holds of each run's choice holds of each choice
pub all_expanded : (P : Choice → Type 0) (runs : List Run) → All (λ r. P r.choice) runs → All P (expanded_runs runs)
unfolding expanded_runs
all_expanded P [] all = All-nil P
all_expanded P (r ∷ runs) all =
    All-append P (equal_choices r) (expanded_runs runs)
    (all_equal P r.count r.choice (All-head (λ (r : Run). P r.choice) r runs all))
    (all_expanded P runs (All-tail (λ (r : Run). P r.choice) r runs all))

-- ---- the longest runs of a list
mark_same : (a b : Bool) → same_mark a b ≡ true → a ≡ b
mark_same true true e = refl
mark_same true false e = absurd (cc)
mark_same false true e = absurd (cc)
mark_same false false e = refl

both : (a b : Bool) → a && b ≡ true → (a ≡ true) × (b ≡ true)
both true b h = (refl, h)
both false b h = absurd (cc)

same_is : (c d : Choice) → same_choice c d ≡ true → c ≡ d
same_is c d e =
    let parts = both (c.hart == d.hart) _ e in
    let hart : c.hart ≡ d.hart = eqb-true _ _ parts.0 in
    let refuse : c.refuse ≡ d.refuse = mark_same c.refuse d.refuse parts.1 in
    λ i. record { hart = hart i; refuse = refuse i }

replicate-more : (n : ℕ) (c : Choice) (rest : List Choice) → replicate (n + 1) c ++ rest ≡ replicate n c ++ c ∷ rest
replicate-more zero c rest = refl
replicate-more (suc n) c rest =
    let more : suc n + 1 ≡ suc (n + 1) = omega arith in
    ap (λ k. replicate k c ++ rest) more ∙ ap (λ cs. c ∷ cs) (replicate-more n c rest)

-- the runs stand for the choices that they were made of
runs_from-expanded : (c : Choice) (n : ℕ) (choices : List Choice) → expanded_runs (runs_from c n choices) ≡ replicate n c ++ choices
unfolding expanded_runs runs_from
runs_from-expanded c n [] = refl
runs_from-expanded c n (d ∷ choices) =
    by (same_choice c d && nat_lt n 16777216) refl (runs_from-expanded c (n + 1) choices) (runs_from-expanded d 1 choices)
  where
    by : (b : Bool) → same_choice c d && nat_lt n 16777216 ≡ b
        → expanded_runs (runs_from c (n + 1) choices) ≡ replicate (n + 1) c ++ choices
        → expanded_runs (runs_from d 1 choices) ≡ replicate 1 d ++ choices
        → expanded_runs (if b then runs_from c (n + 1) choices else choice_run c n ∷ runs_from d 1 choices) ≡ replicate n c ++ d ∷ choices
    by true e more other =
        let same : c ≡ d = same_is c d (both (same_choice c d) _ e).0 in
        more ∙ replicate-more n c choices ∙ ap (λ d. replicate n c ++ d ∷ choices) same
    by false e more other = ap (λ cs. replicate n c ++ cs) other

pub longest-expanded : (choices : List Choice) → expanded_runs (longest_runs choices) ≡ choices
unfolding expanded_runs
longest-expanded [] = refl
longest-expanded (c ∷ choices) = runs_from-expanded c 1 choices

-- each run has at least one choice and at most n, all of which the list has
abbrev pub IsCounted : Run → Type 0
IsCounted r = (1 ≤ r.count) × (r.count ≤ 16777216)

runs_from-counted : (c : Choice) (n : ℕ) (choices : List Choice) → 1 ≤ n → n ≤ 16777216 → All IsCounted (runs_from c n choices)
unfolding runs_from
runs_from-counted c n [] low high = All-cons IsCounted (choice_run c n) [] (low, high) (All-nil IsCounted)
runs_from-counted c n (d ∷ choices) low high =
    by (same_choice c d && nat_lt n 16777216) refl (λ less. runs_from-counted c (n + 1) choices (omega (arith, low)) (omega (arith, less)))
    (runs_from-counted d 1 choices (omega arith) (omega arith))
  where
    by : (b : Bool) → same_choice c d && nat_lt n 16777216 ≡ b
        → (n < 16777216 → All IsCounted (runs_from c (n + 1) choices)) → All IsCounted (runs_from d 1 choices)
        → All IsCounted (if b then runs_from c (n + 1) choices else choice_run c n ∷ runs_from d 1 choices)
    by true e more other = more (ltb-true n 16777216 (both (same_choice c d) _ e).1)
    by false e more other = All-cons IsCounted (choice_run c n) (runs_from d 1 choices) (low, high) other

pub longest-counted : (choices : List Choice) → All IsCounted (longest_runs choices)
longest-counted [] = All-nil IsCounted
longest-counted (c ∷ choices) = runs_from-counted c 1 choices (omega arith) (omega arith)

runs_from-all : (P : Choice → Type 0) (c : Choice) (n : ℕ) (choices : List Choice) → P c → All P choices → All (λ r. P r.choice) (runs_from c n choices)
unfolding runs_from
runs_from-all P c n [] here all = All-cons (λ (r : Run). P r.choice) (choice_run c n) [] here (All-nil (λ (r : Run). P r.choice))
runs_from-all P c n (d ∷ choices) here all =
    by (same_choice c d && nat_lt n 16777216) (runs_from-all P c (n + 1) choices here (All-tail P d choices all))
    (runs_from-all P d 1 choices (All-head P d choices all) (All-tail P d choices all))
  where
    by : (b : Bool) → All (λ r. P r.choice) (runs_from c (n + 1) choices) → All (λ r. P r.choice) (runs_from d 1 choices)
        → All (λ r. P r.choice) (if b then runs_from c (n + 1) choices else choice_run c n ∷ runs_from d 1 choices)
    by true more other = more
    by false more other = All-cons (λ (r : Run). P r.choice) (choice_run c n) (runs_from d 1 choices) here other

pub longest-all : (P : Choice → Type 0) (choices : List Choice) → All P choices → All (λ r. P r.choice) (longest_runs choices)
longest-all P [] all = All-nil (λ (r : Run). P r.choice)
longest-all P (c ∷ choices) all = runs_from-all P c 1 choices (All-head P c choices all) (All-tail P c choices all)
