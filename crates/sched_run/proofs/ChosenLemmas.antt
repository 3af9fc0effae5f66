-- Which harts a list of choices chooses, one choice more and by the marks of an array.
use Rattle.std.proofs.Common.{◌≡◌, ℕ, zero, suc, ◌+◌, ◌<◌, ◌≤◌, Bool, true, false, ◌||◌, ◌&&◌, ◌==◌, cond, ltb, List, [], ◌∷◌, ◌++◌, length, get_or, refl, ap, sym, ◌∙◌, arith, eqb-true, eq-eqb, ne_eqb, ltb-false, lt-ltb, le-ltb}
use Rattle.std.proofs.lemmas.Bool.Decides.{nat_tests}
use Rattle.std.specs.Prelude.{replicate}
use Rattle.machine.specs.Chosen.{is_chosen}
use Rattle.machine.specs.declared.choice.Choice.{Choice}
use Rattle.sched_text.specs.declared.run.Run.{Run}
use Rattle.sched_text.specs.Runs.{equal_choices}
use Rattle.sched_run.specs.Harts.{Harts, with_hart, marked_at}

pub any-append : (a b : List Choice) (k : ℕ) → is_chosen (a ++ b) k ≡ (is_chosen a k || is_chosen b k)
any-append [] b k = refl
any-append (c ∷ a) b k = go (c.hart == k) (any-append a b k)
  where
    go : (x : Bool) → is_chosen (a ++ b) k ≡ (is_chosen a k || is_chosen b k) → (x || is_chosen (a ++ b) k) ≡ ((x || is_chosen a k) || is_chosen b k)
    go true e = refl
    go false e = e

pub or-none : (x : Bool) → (x || false) ≡ x
or-none true = refl
or-none false = refl

and-all : (x : Bool) → (x && true) ≡ x
and-all true = refl
and-all false = refl

and-none : (x : Bool) → (x && false) ≡ false
and-none true = refl
and-none false = refl

-- ---- one more choice
pub added : (old new : List Choice) (c : Choice) (marked : Bool) → marked ≡ true → new ≡ old ++ c ∷ []
    → (k : ℕ) → is_chosen new k ≡ (is_chosen old k || (marked && (c.hart == k)))
added old new c marked is e k =
    ap (λ choices. is_chosen choices k) e ∙ any-append old (c ∷ []) k ∙ ap (λ x. is_chosen old k || x) (or-none (c.hart == k))
    ∙ ap (λ b. is_chosen old k || (b && (c.hart == k))) (sym is)

pub unmarked : (old : List Choice) (h : ℕ) (marked : Bool) → marked ≡ false → (k : ℕ) → is_chosen old k ≡ (is_chosen old k || (marked && (h == k)))
unmarked old h marked is k = sym (or-none (is_chosen old k)) ∙ ap (λ b. is_chosen old k || (b && (h == k))) (sym is)

-- ---- by the marks of an array
-- no mark is set at first
pub no_mark : (n k : ℕ) → get_or (replicate n false) k false ≡ false
no_mark zero k = refl
no_mark (suc n) zero = refl
no_mark (suc n) (suc k) = no_mark n k

pub none_yet : (marks : List Bool) (k : ℕ) → is_chosen [] k ≡ (ltb k 0 && marked_at marks k)
none_yet marks k = ap (λ b. b && marked_at marks k) (sym (le-ltb k 0 (omega arith)))

same_mark : (marks : List Bool) (i : ℕ) (d e : Bool) → i < length marks → get_or marks i d ≡ get_or marks i e
same_mark [] i d e inside = absurd (omega (arith, inside))
same_mark (m ∷ marks) zero d e inside = refl
same_mark (m ∷ marks) (suc i) d e inside = same_mark marks i d e (omega (arith, inside))

-- one more mark was read
pub one_more_mark : (marks : List Bool) (i : ℕ) (d : Bool) (old new : List Choice) → i < length marks
    → ((k : ℕ) → is_chosen new k ≡ (is_chosen old k || (get_or marks i d && (i == k))))
    → ((k : ℕ) → is_chosen old k ≡ (ltb k i && marked_at marks k))
    → (k : ℕ) → is_chosen new k ≡ (ltb k (i + 1) && marked_at marks k)
one_more_mark marks i d old new inside more so_far k =
    more k ∙ ap (λ x. x || (get_or marks i d && (i == k))) (so_far k) ∙ by (i == k) refl
  where
    by : (b : Bool) → (i == k) ≡ b → ((ltb k i && marked_at marks k) || (get_or marks i d && b)) ≡ (ltb k (i + 1) && marked_at marks k)
    by true e =
        let same : i ≡ k = eqb-true i k e in
        let low : ltb k i ≡ false = le-ltb k i (omega (arith, same)) in
        let high : ltb k (i + 1) ≡ true = lt-ltb k (i + 1) (omega (arith, same)) in
        ap (λ x. (x && marked_at marks k) || (get_or marks i d && true)) low
        ∙ and-all (get_or marks i d) ∙ same_mark marks i d false inside ∙ ap (λ j. marked_at marks j) same
        ∙ sym (ap (λ x. x && marked_at marks k) high)
    by false e =
        let other : ltb k (i + 1) ≡ ltb k i = grind (arith, nat_tests) in
        ap (λ x. (ltb k i && marked_at marks k) || x) (and-none (get_or marks i d)) ∙ or-none (ltb k i && marked_at marks k)
        ∙ sym (ap (λ x. x && marked_at marks k) other)

beyond : (marks : List Bool) (k : ℕ) → length marks ≤ k → get_or marks k false ≡ false
beyond [] k past = refl
beyond (m ∷ marks) zero past = absurd (omega (arith, past))
beyond (m ∷ marks) (suc k) past = beyond marks k (omega (arith, past))

-- all marks were read
pub all_marked : (marks : List Bool) (choices : List Choice) (i : ℕ) → length marks ≤ i
    → ((k : ℕ) → is_chosen choices k ≡ (ltb k i && marked_at marks k)) → (k : ℕ) → is_chosen choices k ≡ marked_at marks k
all_marked marks choices i past so_far k = so_far k ∙ by (ltb k i) refl
  where
    by : (b : Bool) → ltb k i ≡ b → (b && marked_at marks k) ≡ marked_at marks k
    by true e = refl
    by false e = sym (beyond marks k (omega (arith, past, ltb-false k i e)))

-- ---- one more choice, by harts
turned : (h k : ℕ) → (k == h) ≡ (h == k)
turned h k = by (k == h) refl
  where
    by : (b : Bool) → (k == h) ≡ b → b ≡ (h == k)
    by true e = sym (eq-eqb h k (sym (eqb-true k h e)))
    by false e = sym (ne_eqb h k (λ same. let there = eq-eqb k h (sym same) in absurd (cc)))

either : (b x : Bool) → cond b true x ≡ (x || b)
either true true = refl
either true false = refl
either false true = refl
either false false = refl

-- the hart of a choice was chosen too
pub choice_chosen : (done : List Choice) (c : Choice) (harts : Harts) (k : ℕ) → harts k ≡ is_chosen done k
    → with_hart harts c.hart k ≡ is_chosen (done ++ c ∷ []) k
choice_chosen done c harts k told =
    ap (λ b. cond b true (harts k)) (turned c.hart k) ∙ ap (λ x. cond (c.hart == k) true x) told ∙ either (c.hart == k) (is_chosen done k)
    ∙ ap (λ x. is_chosen done k || x) (sym (or-none (c.hart == k))) ∙ sym (any-append done (c ∷ []) k)

-- one more run of equal choices
chosen_again : (c : Choice) (n k : ℕ) → ((c.hart == k) || is_chosen (replicate n c) k) ≡ (c.hart == k)
chosen_again c zero k = or-none (c.hart == k)
chosen_again c (suc n) k = by (c.hart == k) (chosen_again c n k)
  where
    by : (b : Bool) → (b || is_chosen (replicate n c) k) ≡ b → (b || (b || is_chosen (replicate n c) k)) ≡ b
    by true e = refl
    by false e = e

pub run_chosen : (done : List Choice) (r : Run) → 0 < r.count → (harts : Harts) (k : ℕ) → harts k ≡ is_chosen done k
    → with_hart harts r.choice.hart k ≡ is_chosen (done ++ equal_choices r) k
run_chosen done r some harts k told =
    choice_chosen done r.choice harts k told ∙ any-append done (r.choice ∷ []) k
    ∙ ap (λ x. is_chosen done k || x) (or-none (r.choice.hart == k) ∙ sym (by r.count some))
    ∙ sym (any-append done (equal_choices r) k)
  where
    by : (n : ℕ) → 0 < n → is_chosen (replicate n r.choice) k ≡ (r.choice.hart == k)
    by zero none = absurd (omega (arith, none))
    by (suc n) _ = chosen_again r.choice n k
