-- How many harts need further choices.
use Rattle.std.proofs.Common.{◌≡◌, ◌≢◌, ◌⊎◌, ℕ, zero, suc, ◌+◌, ◌<◌, Bool, true, false, refl, ap, sym, ◌∙◌, arith, inl, inr}
use Rattle.std.specs.Prelude.{if◌then◌else◌}
use Rattle.thread_run.specs.Running.{open_below}

pub open_same : (p q : ℕ → Bool) (n : ℕ) → ((j : ℕ) → j < n → p j ≡ q j) → open_below p n ≡ open_below q n
open_same p q zero same = refl
open_same p q (suc n) same = λ i. if same n (omega arith) i then open_same p q n (λ j l. same j (omega arith)) i else open_same p q n (λ j l. same j (omega arith)) i + 1

-- at most n, or less
pub below : (k n : ℕ) → k < suc n → (k ≡ n) ⊎ (k < n)
below zero zero l = inl refl
below zero (suc n) l = inr (omega arith)
below (suc k) zero l = absurd (omega arith)
below (suc k) (suc n) l = elim (below k n (omega arith)) [ inl e ↦ inl (ap suc e) | inr h ↦ inr (omega arith) ]

-- one more is done
pub open_less : (p q : ℕ → Bool) (n k : ℕ) → k < n → p k ≡ false → q k ≡ true → ((j : ℕ) → j ≢ k → p j ≡ q j)
    → open_below p n ≡ open_below q n + 1
open_less p q zero k within was is others = absurd (omega arith)
open_less p q (suc n) k within was is others = elim (below k n within) [ inl e ↦ here e | inr h ↦ there h (open_less p q n k h was is others) ]
  where
    here : k ≡ n → open_below p (suc n) ≡ open_below q (suc n) + 1
    here e =
        let a : p n ≡ false = ap p (sym e) ∙ was in
        let b : q n ≡ true = ap q (sym e) ∙ is in
        let same = open_same p q n (λ j l. others j (omega arith)) in
        ap (λ (t : Bool). if t then open_below p n else open_below p n + 1) a ∙ ap (λ x. x + 1) same ∙ ap (λ (t : Bool). (if t then open_below q n else open_below q n + 1) + 1) (sym b)

    there : k < n → open_below p n ≡ open_below q n + 1 → open_below p (suc n) ≡ open_below q (suc n) + 1
    there l rest =
        let same : p n ≡ q n = others n (omega arith) in
        ap (λ (t : Bool). if t then open_below p n else open_below p n + 1) same ∙ pick (q n) (open_below p n) (open_below q n) rest
      where
        pick : (t : Bool) (x y : ℕ) → x ≡ y + 1 → (if t then x else x + 1) ≡ (if t then y else y + 1) + 1
        pick true x y e = e
        pick false x y e = omega arith

-- all are done
pub none_open : (p : ℕ → Bool) (n k : ℕ) → open_below p n ≡ 0 → k < n → p k ≡ true
none_open p zero k none within = absurd (omega arith)
none_open p (suc n) k none within =
    let both = split (p n) (open_below p n) none in
    elim (below k n within) [ inl e ↦ ap p e ∙ both.0 | inr l ↦ none_open p n k both.1 l ]
  where
    split : (t : Bool) (x : ℕ) → (if t then x else x + 1) ≡ 0 → (t ≡ true) × (x ≡ 0)
    split true x e = (refl, e)
    split false x e = absurd (omega arith)

-- none is done
pub all_open : (p : ℕ → Bool) (n : ℕ) → ((j : ℕ) → j < n → p j ≡ false) → open_below p n ≡ n
all_open p zero none = refl
all_open p (suc n) none =
    let rest = all_open p n (λ j l. none j (omega arith)) in
    ap (λ (b : Bool). if b then open_below p n else open_below p n + 1) (none n (omega arith)) ∙ omega (arith, rest)

pub eq_or_not : (j h : ℕ) → (j ≡ h) ⊎ (j ≢ h)
eq_or_not j h = grind arith

-- a ticket is spent when one more is done
pub ticket_counts : (d : Bool) (p q : ℕ → Bool) (n k left tickets : ℕ) → k < n → p k ≡ false → q k ≡ d → ((j : ℕ) → j ≢ k → p j ≡ q j)
    → left + (if d then 1 else 0) ≡ tickets → tickets ≡ open_below p n → left ≡ open_below q n
ticket_counts true p q n k left tickets within was is others spent all = omega (arith, open_less p q n k within was is others)
ticket_counts false p q n k left tickets within was is others spent all =
    let same : open_below p n ≡ open_below q n = open_same p q n (λ j l. elim (eq_or_not j k) [ inl e ↦ ap p e ∙ was ∙ sym is ∙ ap q (sym e) | inr apart ↦ others j apart ]) in
    omega arith
