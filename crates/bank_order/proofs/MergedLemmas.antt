-- Logs that are woven one after another are merged.
use Rattle.std.proofs.Common.{◌≡◌, ℕ, zero, suc, ◌+◌, ◌<◌, ◌≤◌, ◌&&◌, ◌==◌, Bool, true, false, List, [], ◌∷◌, refl, sym, ◌∙◌, subst, arith, inl, inr, ⊎_elim}
use Rattle.std.specs.Prelude.{nat_lt, ◌⊎◌, if◌then◌else◌}
use Rattle.std.specs.List.{AllByRecursion}
use Rattle.std.proofs.lemmas.Bool.{or_cases, and_parts, and_from, or_left, or_right, ltb-true, lt-ltb, eqb-true, eq-eqb, cases_lt}
use Rattle.bank_laws.specs.Segments.{LoggedSegment}
use Rattle.bank_laws.specs.Order.{In, Rises, Earlier, Ahead, IsMerged}
use Rattle.bank_order.specs.Weaving.{comes_first, woven, woven_with, log_of}
use Rattle.bank_order.proofs.WeavingLemmas.{in_woven, woven_in}

pub each_in : (P : LoggedSegment → Type 0) (xs : List LoggedSegment) (e : LoggedSegment) → AllByRecursion P xs → In e xs → P e
each_in P [] e each i = absurd i
each_in P (x ∷ xs) e each (inl q) = subst P (sym q) each.0
each_in P (x ∷ xs) e each (inr i) = each_in P xs e each.1 i

each_from : (P : LoggedSegment → Type 0) (xs : List LoggedSegment) → ((e : LoggedSegment) → In e xs → P e) → AllByRecursion P xs
each_from P [] f = tt
each_from P (x ∷ xs) f = (f x (inl refl), each_from P xs (λ e i. f e (inr i)))

-- ---- the order
ahead_then : (a b c : LoggedSegment) → Ahead a b → Ahead b c → Ahead a c
ahead_then a b c (inl x) (inl y) = inl (omega (arith, x, y))
ahead_then a b c (inl x) (inr y) = inl (omega (arith, x, y.0))
ahead_then a b c (inr x) (inl y) = inl (omega (arith, x.0, y))
ahead_then a b c (inr x) (inr y) = inr (x.0 ∙ y.0, omega (arith, x.1, y.1))

ahead_if : (e f : LoggedSegment) → comes_first e f ≡ true → Ahead e f
ahead_if e f t =
    ⊎_elim
    (λ (l : nat_lt e.stamp f.stamp ≡ true). inl (ltb-true e.stamp f.stamp l))
    (λ (r : (e.stamp == f.stamp && nat_lt e.hart f.hart) ≡ true).
    let both = and_parts (e.stamp == f.stamp) (nat_lt e.hart f.hart) r in
    inr (eqb-true e.stamp f.stamp both.0, ltb-true e.hart f.hart both.1))
    (or_cases (nat_lt e.stamp f.stamp) (e.stamp == f.stamp && nat_lt e.hart f.hart) t)

if_ahead : (e f : LoggedSegment) → Ahead e f → comes_first e f ≡ true
if_ahead e f (inl l) = or_left (nat_lt e.stamp f.stamp) _ (lt-ltb e.stamp f.stamp l)
if_ahead e f (inr p) = or_right (nat_lt e.stamp f.stamp) _ (and_from (e.stamp == f.stamp) _ (eq-eqb e.stamp f.stamp p.0) (lt-ltb e.hart f.hart p.1))

behind_if : (e f : LoggedSegment) → comes_first e f ≡ false → (e.hart ≡ f.hart → ⊥) → Ahead f e
behind_if e f t ne =
    ⊎_elim
    (λ (l : f.stamp < e.stamp). inl l)
    (λ (ge : e.stamp ≤ f.stamp). ⊎_elim
    (λ (l : e.stamp < f.stamp). cc (t, if_ahead e f (inl l)))
    (λ (le : f.stamp ≤ e.stamp).
    let same : e.stamp ≡ f.stamp = omega (arith, ge, le) in
    ⊎_elim
    (λ (h : e.hart < f.hart). cc (t, if_ahead e f (inr (same, h))))
    (λ (h : f.hart ≤ e.hart). inr (sym same, less f.hart e.hart h (λ q. ne (sym q))))
    (cases_lt e.hart f.hart))
    (cases_lt e.stamp f.stamp))
    (cases_lt f.stamp e.stamp)
  where
    less : (a b : ℕ) → a ≤ b → (a ≡ b → ⊥) → a < b
    less a b l n = ⊎_elim (λ (m : a < b). m) (λ (m : b ≤ a). absurd (n (omega (arith, l, m)))) (cases_lt a b)

-- the lists have no hart in common
abbrev Apart : List LoggedSegment → List LoggedSegment → Type 0
Apart xs ys = (e f : LoggedSegment) → In e xs → In f ys → e.hart ≡ f.hart → ⊥

woven_rises : (xs ys : List LoggedSegment) → Rises Ahead xs → Rises Ahead ys → Apart xs ys → Rises Ahead (woven xs ys)
unfolding woven
woven_rises [] ys rx ry apart = ry
woven_rises (x ∷ xs) [] rx ry apart = rx
woven_rises (x ∷ xs) (y ∷ ys) rx ry apart =
    at_test (comes_first x y) refl
    (woven_rises xs (y ∷ ys) rx.1 ry (λ e f i j. apart e f (inr i) j))
    (woven_rises (x ∷ xs) ys rx ry.1 (λ e f i j. apart e f i (inr j)))
  where
    from_y : Ahead x y → (e : LoggedSegment) → In e (y ∷ ys) → Ahead x e
    from_y a e (inl q) = subst (λ (z : LoggedSegment). Ahead x z) (sym q) a
    from_y a e (inr i) = ahead_then x y e a (each_in (Ahead y) ys e ry.0 i)

    from_x : Ahead y x → (e : LoggedSegment) → In e (x ∷ xs) → Ahead y e
    from_x a e (inl q) = subst (λ (z : LoggedSegment). Ahead y z) (sym q) a
    from_x a e (inr i) = ahead_then y x e a (each_in (Ahead x) xs e rx.0 i)

    at_test : (t : Bool) → comes_first x y ≡ t → Rises Ahead (woven xs (y ∷ ys)) → Rises Ahead (woven (x ∷ xs) ys)
        → Rises Ahead (if t then x ∷ woven xs (y ∷ ys) else y ∷ woven (x ∷ xs) ys)
    at_test true q f g = (each_from (Ahead x) (woven xs (y ∷ ys)) (λ e i. ⊎_elim (λ (a : In e xs). each_in (Ahead x) xs e rx.0 a) (λ (b : In e (y ∷ ys)). from_y (ahead_if x y q) e b) (woven_in xs (y ∷ ys) e i)), f)
    at_test false q f g = (each_from (Ahead y) (woven (x ∷ xs) ys) (λ e i. ⊎_elim (λ (a : In e (x ∷ xs)). from_x (behind_if x y q (apart x y (inl refl) (inl refl))) e a) (λ (b : In e ys). each_in (Ahead y) ys e ry.0 b) (woven_in (x ∷ xs) ys e i)), g)

-- ---- lists woven one after another
abbrev Own : ℕ → List (List LoggedSegment) → Type 0
Own n [] = Unit {0}
Own n (log ∷ logs) = AllByRecursion (λ e. e.hart ≡ n) log × Own (n + 1) logs

abbrev AllRise : List (List LoggedSegment) → Type 0
AllRise [] = Unit {0}
AllRise (log ∷ logs) = Rises Ahead log × AllRise logs

with_in : (e : LoggedSegment) (out : List LoggedSegment) (logs : List (List LoggedSegment)) → In e (woven_with out logs) → In e out ⊎ ((h : ℕ) × In e (log_of logs h))
unfolding woven_with
with_in e out [] i = inl i
with_in e out (log ∷ logs) i =
    ⊎_elim
    (λ (j : In e (woven out log)). ⊎_elim (λ (a : In e out). inl a) (λ (b : In e log). inr (0, b)) (woven_in out log e j))
    (λ (p : (h : ℕ) × In e (log_of logs h)). inr (suc p.0, p.1))
    (with_in e (woven out log) logs i)

in_with : (e : LoggedSegment) (out : List LoggedSegment) (logs : List (List LoggedSegment)) → In e out → In e (woven_with out logs)
unfolding woven_with
in_with e out [] i = i
in_with e out (log ∷ logs) i = in_with e (woven out log) logs (in_woven out log e (inl i))

log_in_with : (e : LoggedSegment) (out : List LoggedSegment) (logs : List (List LoggedSegment)) (h : ℕ) → In e (log_of logs h) → In e (woven_with out logs)
unfolding woven_with
log_in_with e out [] h i = absurd i
log_in_with e out (log ∷ logs) zero i = in_with e (woven out log) logs (in_woven out log e (inr i))
log_in_with e out (log ∷ logs) (suc h) i = log_in_with e (woven out log) logs h i

with_rises : (n : ℕ) (out : List LoggedSegment) (logs : List (List LoggedSegment)) → Rises Ahead out → AllByRecursion (λ e. e.hart < n) out → Own n logs → AllRise logs
    → Rises Ahead (woven_with out logs)
unfolding woven_with
with_rises n out [] ro below own rise = ro
with_rises n out (log ∷ logs) ro below own rise =
    with_rises (n + 1) (woven out log) logs
    (woven_rises out log ro rise.0 (λ e f i j q. far e.hart f.hart (each_in (λ (s : LoggedSegment). s.hart < n) out e below i) (each_in (λ (s : LoggedSegment). s.hart ≡ n) log f own.0 j) q))
    (each_from (λ (s : LoggedSegment). s.hart < n + 1) (woven out log) (λ e i.
    ⊎_elim (λ (a : In e out). let l = each_in (λ (s : LoggedSegment). s.hart < n) out e below a in omega (arith, l))
    (λ (b : In e log). let l = each_in (λ (s : LoggedSegment). s.hart ≡ n) log e own.0 b in omega (arith, l)) (woven_in out log e i)))
    own.1 rise.1
  where
    far : (a b : ℕ) → a < n → b ≡ n → a ≡ b → ⊥
    far a b l e q = omega (arith, l, e, q)

-- ---- logs by harts
own_from : (n : ℕ) (logs : List (List LoggedSegment)) → ((k : ℕ) → AllByRecursion (λ e. e.hart ≡ n + k) (log_of logs k)) → Own n logs
own_from n [] f = tt
own_from n (log ∷ logs) f = (
  each_from (λ (e : LoggedSegment). e.hart ≡ n) log (λ e i. let q = each_in (λ (s : LoggedSegment). s.hart ≡ n + 0) log e (f 0) i in omega (arith, q)),
  own_from (n + 1) logs (λ k. each_from (λ (e : LoggedSegment). e.hart ≡ n + 1 + k) (log_of logs k) (λ e i. let q = each_in (λ (s : LoggedSegment). s.hart ≡ n + suc k) (log_of logs k) e (f (suc k)) i in omega (arith, q))),
)

pub rises_ahead : (xs : List LoggedSegment) → Rises Earlier xs → Rises Ahead xs
rises_ahead [] r = tt
rises_ahead (x ∷ xs) r = (each_from (Ahead x) xs (λ e i. inl (each_in (Earlier x) xs e r.0 i)), rises_ahead xs r.1)

rise_from : (logs : List (List LoggedSegment)) → ((k : ℕ) → Rises Earlier (log_of logs k)) → AllRise logs
rise_from [] f = tt
rise_from (log ∷ logs) f = (rises_ahead log (f 0), rise_from logs (λ k. f (suc k)))

pub woven_is_merged : (logs : List (List LoggedSegment)) → ((h : ℕ) → AllByRecursion (λ e. e.hart ≡ h) (log_of logs h)) → ((h : ℕ) → Rises Earlier (log_of logs h))
    → IsMerged (log_of logs) (woven_with [] logs)
woven_is_merged logs own rise = record {
  order = with_rises 0 [] logs tt tt (own_from 0 logs (λ k. each_from (λ (e : LoggedSegment). e.hart ≡ 0 + k) (log_of logs k) (λ e i. let q = each_in (λ (s : LoggedSegment). s.hart ≡ k) (log_of logs k) e (own k) i in omega (arith, q)))) (rise_from logs rise);
  taken = λ e i. ⊎_elim (λ (j : In e []). absurd (none e j)) (λ (p : (h : ℕ) × In e (log_of logs h)). subst (λ (h : ℕ). In e (log_of logs h)) (sym (each_in (λ (s : LoggedSegment). s.hart ≡ p.0) (log_of logs p.0) e (own p.0) p.1)) p.1) (with_in e [] logs i);
  complete = λ h e i. log_in_with e [] logs h i;
}
  where
    none : (e : LoggedSegment) → In e [] → ⊥
    none e j = j
