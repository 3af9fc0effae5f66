use Rattle.std.proofs.Common.{◌≡◌, ℕ, ◌+◌, ◌-◌, ◌<◌, ◌≤◌, suc, List, [], ◌∷◌, ◌++◌, codes, decimal, refl, ap, sym, ◌∙◌, rules, arith}
use Rattle.std.specs.Prelude.{◌==◌, if◌then◌else◌}
use Rattle.std.proofs.lemmas.Grind.{common_steps}
use Rattle.trace_steps.specs.declared.explaining.Explained.{Explained}
use Rattle.trace_text.specs.Table.{table_cell, columns_from, names_from, rules_of}

-- what stands in the column of a hart, and its bar
abbrev column : Explained → ℕ → List ℕ
column e h = (if h == e.told.choice.hart then table_cell e else 32 ∷ []) ++ codes " |"

-- while harts are left, the next one's name stands first
names_more : (h n : ℕ) → h < n → names_from h (n - h) ≡ codes " Hart " ++ (decimal h ++ (codes " |" ++ names_from (h + 1) (n - (h + 1))))
unfolding names_from
names_more h n left = let e : n - h ≡ suc (n - (h + 1)) = omega arith in rw e refl

-- behind the last stands that of labels
pub names_done : (h n : ℕ) → n ≤ h → names_from h (n - h) ≡ codes " At |\n"
unfolding names_from
names_done h n none = let e : n - h ≡ 0 = omega arith in rw e refl

-- one name more
pub next_name : (before a b longer all : List ℕ) (h n : ℕ) → h < n
    → a ≡ before ++ codes " Hart " → b ≡ a ++ decimal h → longer ≡ b ++ codes " |"
    → before ++ names_from h (n - h) ≡ all
    → longer ++ names_from (h + 1) (n - (h + 1)) ≡ all
next_name before a b longer all h n left is_a is_b is_longer so_far =
    let rest = names_from (h + 1) (n - (h + 1)) in
    let e : (((before ++ codes " Hart ") ++ decimal h) ++ codes " |") ++ rest ≡ before ++ (codes " Hart " ++ (decimal h ++ (codes " |" ++ rest))) =
    search (rules, common_steps) in
    ap (λ l. l ++ rest) (is_longer ∙ ap (λ l. l ++ codes " |") (is_b ∙ ap (λ l. l ++ decimal h) is_a))
    ∙ e ∙ ap (λ l. before ++ l) (sym (names_more h n left)) ∙ so_far

-- while columns are left, the next one's rule stands first
rules_more : (i n : ℕ) → i < n → rules_of (n - i) ≡ codes "---|" ++ rules_of (n - (i + 1))
unfolding rules_of
rules_more i n left = let e : n - i ≡ suc (n - (i + 1)) = omega arith in rw e refl

-- behind the last stands that of labels
pub rules_done : (i n : ℕ) → n ≤ i → rules_of (n - i) ≡ codes "---|\n"
unfolding rules_of
rules_done i n none = let e : n - i ≡ 0 = omega arith in rw e refl

-- one rule more
pub next_rule : (before longer all : List ℕ) (i n : ℕ) → i < n → longer ≡ before ++ codes "---|"
    → before ++ rules_of (n - i) ≡ all → longer ++ rules_of (n - (i + 1)) ≡ all
next_rule before longer all i n left is_longer so_far =
    let rest = rules_of (n - (i + 1)) in
    let e : (before ++ codes "---|") ++ rest ≡ before ++ (codes "---|" ++ rest) = search (rules, common_steps) in
    ap (λ l. l ++ rest) is_longer ∙ e ∙ ap (λ l. before ++ l) (sym (rules_more i n left)) ∙ so_far

-- what stands behind a cell
bar_joins : (cell bar rest : List ℕ) → (cell ++ bar) ++ rest ≡ cell ++ (bar ++ rest)
bar_joins cell bar rest = search (rules, common_steps)

-- while harts are left, the next one's column stands first
columns_more : (e : Explained) (h n : ℕ) → h < n → columns_from e h (n - h) ≡ column e h ++ columns_from e (h + 1) (n - (h + 1))
unfolding columns_from
columns_more e h n left =
    let rest : n - h ≡ suc (n - (h + 1)) = omega arith in
    rw rest (sym (bar_joins (if h == e.told.choice.hart then table_cell e else 32 ∷ []) (codes " |") (columns_from e (h + 1) (n - (h + 1)))))

-- behind the last stands nothing
pub columns_done : (e : Explained) (h n : ℕ) → n ≤ h → columns_from e h (n - h) ≡ []
unfolding columns_from
columns_done e h n none = let none_left : n - h ≡ 0 = omega arith in rw none_left refl

-- one column more
pub next_column : (before longer all : List ℕ) (e : Explained) (h n : ℕ) → h < n
    → longer ≡ before ++ ((if h == e.told.choice.hart then table_cell e else 32 ∷ []) ++ codes " |")
    → before ++ columns_from e h (n - h) ≡ all
    → longer ++ columns_from e (h + 1) (n - (h + 1)) ≡ all
next_column before longer all e h n left is_longer so_far =
    let rest = columns_from e (h + 1) (n - (h + 1)) in
    ap (λ l. l ++ rest) is_longer ∙ bar_joins before (column e h) rest
    ∙ ap (λ l. before ++ l) (sym (columns_more e h n left)) ∙ so_far
