-- The tests on sets decide matching.
use Rattle.std.proofs.Common.{◌≡◌, ℕ, zero, suc, ◌<◌, ◌≤◌, ◌+◌, Bool, true, List, [], ◌∷◌, ◌++◌, Some, length, refl, ap, sym, ◌∙◌, subst, inl, inr, ⊎_elim, arith}
use Rattle.std.specs.Prelude.{◌⊎◌, ◌↔◌, slice_get, slice_index_or}
use Rattle.std.specs.List.{AllByRecursion}
use Rattle.std.specs.Ordering.{eq_by_cmp, is_eq}
use Rattle.std.specs.declared.cmp.Ordering.{Ordering}
use Rattle.std.specs.declared.cmp.Ordering.TheVariants.{Less, Equal, Greater}
use Rattle.std.specs.BTreeSet.{BTreeSet}
use Rattle.std.proofs.lemmas.Bool.{or_cases, and_parts, and_from, or_left, or_right, cases_lt}
use Rattle.bank_laws.specs.declared.access.LoggedAccess.{LoggedAccess}
use Rattle.bank_laws.specs.Segments.{accesses}
use Rattle.bank_laws.specs.Order.{In, IsMatched}
use Rattle.bank_laws.specs.Merged.{bank_of}
use Rattle.bank_hart_log.specs.HartLog.{HartLogValue}
use Rattle.bank_memory.specs.BankLog.{BankLog, IsOfBank}
use Rattle.bank_merge.specs.Logs.{bank_log, hart_log, AreNumbered}
use Rattle.bank_merge.specs.Matching.{access_cmp, are_in, bank_accesses, hart_accesses, is_among, has_access, HasAllOf}
use Rattle.bank_merge.proofs.OrderLemmas.{exact, tied}

is_equal : (o : Ordering) → is_eq o ≡ true → o ≡ Equal
is_equal Less e = cc e
is_equal Equal e = refl
is_equal Greater e = cc e

in_among : (xs : List LoggedAccess) (a : LoggedAccess) → In a xs → is_among xs a ≡ true
in_among [] a i = absurd i
in_among (x ∷ xs) a (inl q) = or_left (eq_by_cmp access_cmp x a) (is_among xs a) (ap (λ (b : LoggedAccess). is_eq (access_cmp x b)) q ∙ ap is_eq (tied x))
in_among (x ∷ xs) a (inr i) = or_right (eq_by_cmp access_cmp x a) (is_among xs a) (in_among xs a i)

among_in : (xs : List LoggedAccess) (a : LoggedAccess) → is_among xs a ≡ true → In a xs
among_in [] a e = absurd (cc e)
among_in (x ∷ xs) a e = ⊎_elim
    (λ (q : eq_by_cmp access_cmp x a ≡ true). inl (sym (exact x a (is_equal (access_cmp x a) q))))
    (λ (q : is_among xs a ≡ true). inr (among_in xs a q))
    (or_cases (eq_by_cmp access_cmp x a) (is_among xs a) e)

all_in : (set : BTreeSet LoggedAccess) (xs : List LoggedAccess) → ((a : LoggedAccess) → In a xs → has_access set a ≡ true) → are_in set xs ≡ true
all_in set [] f = refl
all_in set (x ∷ xs) f = and_from (has_access set x) (are_in set xs) (f x (inl refl)) (all_in set xs (λ a i. f a (inr i)))

in_all : (set : BTreeSet LoggedAccess) (xs : List LoggedAccess) → are_in set xs ≡ true → (a : LoggedAccess) → In a xs → has_access set a ≡ true
in_all set [] e a i = absurd i
in_all set (x ∷ xs) e a (inl q) = ap (has_access set) q ∙ (and_parts (has_access set x) (are_in set xs) e).0
in_all set (x ∷ xs) e a (inr i) = in_all set xs (and_parts (has_access set x) (are_in set xs) e).1 a i

-- a set that has one list's accesses has all of another exactly where the list covers it
pub covers_test : (set : BTreeSet LoggedAccess) (xs ys : List LoggedAccess) (r : Bool) → ((a : LoggedAccess) → has_access set a ≡ is_among ys a) → r ≡ are_in set xs
    → (r ≡ true) ↔ HasAllOf xs ys
covers_test set xs ys r has is = (
  λ e a i. among_in ys a (sym (has a) ∙ in_all set xs (sym is ∙ e) a i),
  λ covers. is ∙ all_in set xs (λ a i. has a ∙ in_among ys a (covers a i)),
)

-- the same of equal lists
pub has_all_of : (xs ys vs ws : List LoggedAccess) → xs ≡ vs → ys ≡ ws → HasAllOf vs ws → HasAllOf xs ys
has_all_of xs ys vs ws e f all a i = subst (In a) (sym f) (all a (subst (In a) e i))

-- ---- lists one after another
in_parts : {X : Type 0} (xs ys : List X) (a : X) → In a (xs ++ ys) → In a xs ⊎ In a ys
in_parts [] ys a i = inr i
in_parts (x ∷ xs) ys a (inl q) = inl (inl q)
in_parts {X} (x ∷ xs) ys a (inr i) = ⊎_elim (λ (j : In a xs). inl (inr j)) (λ (j : In a ys). inr j) (in_parts xs ys a i)

in_first : {X : Type 0} (xs ys : List X) (a : X) → In a xs → In a (xs ++ ys)
in_first [] ys a i = absurd i
in_first (x ∷ xs) ys a (inl q) = inl q
in_first (x ∷ xs) ys a (inr i) = inr (in_first xs ys a i)

in_second : {X : Type 0} (xs ys : List X) (a : X) → In a ys → In a (xs ++ ys)
in_second [] ys a i = i
in_second (x ∷ xs) ys a i = inr (in_second xs ys a i)

in_bank : (banks : List BankLog) (a : LoggedAccess) → In a (bank_accesses banks) → (b : ℕ) × In a (bank_log banks b)
in_bank [] a i = absurd i
in_bank (k ∷ banks) a i = ⊎_elim
    (λ (j : In a k.log). (0, j))
    (λ (j : In a (bank_accesses banks)). let p = in_bank banks a j in (suc p.0, p.1))
    (in_parts k.log (bank_accesses banks) a i)

bank_in : (banks : List BankLog) (b : ℕ) (a : LoggedAccess) → In a (bank_log banks b) → In a (bank_accesses banks)
bank_in [] b a i = absurd i
bank_in (k ∷ banks) zero a i = in_first k.log (bank_accesses banks) a i
bank_in (k ∷ banks) (suc b) a i = in_second k.log (bank_accesses banks) a (bank_in banks b a i)

in_hart : (logs : List HartLogValue) (a : LoggedAccess) → In a (hart_accesses logs) → (h : ℕ) × In a (accesses (hart_log logs h))
in_hart [] a i = absurd i
in_hart (l ∷ logs) a i = ⊎_elim
    (λ (j : In a (accesses l.log)). (0, j))
    (λ (j : In a (hart_accesses logs)). let p = in_hart logs a j in (suc p.0, p.1))
    (in_parts (accesses l.log) (hart_accesses logs) a i)

hart_in : (logs : List HartLogValue) (h : ℕ) (a : LoggedAccess) → In a (accesses (hart_log logs h)) → In a (hart_accesses logs)
hart_in [] h a i = absurd i
hart_in (l ∷ logs) zero a i = in_first (accesses l.log) (hart_accesses logs) a i
hart_in (l ∷ logs) (suc h) a i = in_second (accesses l.log) (hart_accesses logs) a (hart_in logs h a i)

-- ---- the bank or the log at a place, or none
pub bank_at : (banks : List BankLog) (b : ℕ) → (bank_log banks b ≡ []) ⊎ ((k : BankLog) × (slice_get banks b ≡ Some k) × (bank_log banks b ≡ k.log))
bank_at [] b = inl refl
bank_at (k ∷ banks) zero = inr (k, refl, refl)
bank_at (k ∷ banks) (suc b) = bank_at banks b

pub hart_at : (logs : List HartLogValue) (h : ℕ) → (hart_log logs h ≡ []) ⊎ ((l : HartLogValue) × (slice_get logs h ≡ Some l) × (hart_log logs h ≡ l.log))
hart_at [] h = inl refl
hart_at (l ∷ logs) zero = inr (l, refl, refl)
hart_at (l ∷ logs) (suc h) = hart_at logs h

each_in : (P : LoggedAccess → Type 0) (xs : List LoggedAccess) (a : LoggedAccess) → AllByRecursion P xs → In a xs → P a
each_in P [] a each i = absurd i
each_in P (x ∷ xs) a each (inl q) = subst P (sym q) each.0
each_in P (x ∷ xs) a each (inr i) = each_in P xs a each.1 i

-- an access in a bank is to a word of the bank
its_bank : (banks : List BankLog) → ((b : ℕ) (k : BankLog) → slice_get banks b ≡ Some k → IsOfBank k) → AreNumbered banks
    → (b : ℕ) (a : LoggedAccess) → In a (bank_log banks b) → bank_of a.word ≡ b
its_bank banks keep numbered b a i = ⊎_elim
    (λ (e : bank_log banks b ≡ []). absurd (none (subst (λ (xs : List LoggedAccess). In a xs) e i)))
    (λ (p : (k : BankLog) × (slice_get banks b ≡ Some k) × (bank_log banks b ≡ k.log)).
    each_in (λ (x : LoggedAccess). bank_of x.word ≡ p.0.number) p.0.log a (keep b p.0 p.1).of_bank (subst (λ (xs : List LoggedAccess). In a xs) p.2 i)
    ∙ numbered b p.0 p.1)
    (bank_at banks b)
  where
    none : In a [] → ⊥
    none j = j

pub matched_if : (logs : List HartLogValue) (banks : List BankLog) → ((b : ℕ) (k : BankLog) → slice_get banks b ≡ Some k → IsOfBank k) → AreNumbered banks
    → HasAllOf (hart_accesses logs) (bank_accesses banks) → HasAllOf (bank_accesses banks) (hart_accesses logs) → IsMatched bank_of (hart_log logs) (bank_log banks)
matched_if logs banks keep numbered there back = record {
  in_bank = λ h a i. let p = in_bank banks a (there a (hart_in logs h a i)) in
      subst (λ (b : ℕ). In a (bank_log banks b)) (sym (its_bank banks keep numbered p.0 a p.1)) p.1;
  in_log = λ b a i. in_hart logs a (back a (bank_in banks b a i));
}

pub there_if : (logs : List HartLogValue) (banks : List BankLog) → IsMatched bank_of (hart_log logs) (bank_log banks) → HasAllOf (hart_accesses logs) (bank_accesses banks)
there_if logs banks matched a i = let p = in_hart logs a i in bank_in banks (bank_of a.word) a (matched.in_bank p.0 a p.1)

pub back_if : (logs : List HartLogValue) (banks : List BankLog) → IsMatched bank_of (hart_log logs) (bank_log banks) → HasAllOf (bank_accesses banks) (hart_accesses logs)
back_if logs banks matched a i = let p = in_bank banks a i in let q = matched.in_log p.0 a p.1 in hart_in logs q.0 a q.1

-- what was seen of the items so far, with one more
pub seen_more : {X : Type 0} (P : X → Type 0) (xs : List X) (i : ℕ) (y : X) → i < length xs → y ≡ slice_index_or xs i y
    → ((k : ℕ) (x : X) → k < i → slice_get xs k ≡ Some x → P x) → P y → (k : ℕ) (x : X) → k < i + 1 → slice_get xs k ≡ Some x → P x
seen_more {X} P xs i y low is so_far here k x below at = ⊎_elim
    (λ (l : k < i). so_far k x l at)
    (λ (e : k ≡ i). subst P (same (sym (get_item xs i y low is) ∙ ap (slice_get xs) (sym e) ∙ at)) here)
    (split k i below)
  where
    get_item : (zs : List X) (n : ℕ) (z : X) → n < length zs → z ≡ slice_index_or zs n z → slice_get zs n ≡ Some z
    get_item [] n z l e = absurd (omega (arith, l))
    get_item (w ∷ zs) zero z l e = ap (λ (v : X). Some v) (sym e)
    get_item (w ∷ zs) (suc n) z l e = get_item zs n z (omega (arith, l)) e

    same : {a b : X} → Some a ≡ Some b → a ≡ b
    same e = cc e

    split : (m n : ℕ) → m < n + 1 → (m < n) ⊎ (m ≡ n)
    split m n l = ⊎_elim (λ (a : m < n). inl a) (λ (b : n ≤ m). inr (omega (arith, l, b))) (cases_lt m n)
