-- The greatest of stamps, and the last one of a list that rises.
use Rattle.std.proofs.Common.{◌≡◌, ℕ, zero, suc, ◌+◌, ◌-◌, ◌^◌, ◌<◌, ◌≤◌, Bool, true, false, List, [], ◌∷◌, ◌++◌, length, length-append, Option, Some, None, refl, ap, ◌∙◌, arith, inl, inr, ⊎_elim}
use Rattle.std.specs.Prelude.{nat_lt, slice_get, if◌then◌else◌}
use Rattle.std.specs.List.{AllByRecursion}
use Rattle.std.proofs.lemmas.Bool.{ltb-true, lt-ltb, cases_lt}
use Rattle.bank_laws.specs.declared.access.LoggedAccess.{LoggedAccess}
use Rattle.bank_laws.specs.Order.{In, Rises}
use Rattle.bank_memory.specs.Stamps.{access_stamp, greatest, last_access_stamp, next_stamp, IsGreatest}

not_less : (a b : ℕ) → nat_lt a b ≡ false → b ≤ a
not_less a b e = ⊎_elim (λ (l : a < b). cc (e, lt-ltb a b l)) (λ (g : b ≤ a). g) (cases_lt a b)

-- one stamp more before those whose greatest is known
more : (stamp s : ℕ) (stamps : List ℕ) (g : ℕ) (b : Bool) → nat_lt stamp s ≡ b
    → IsGreatest ((if b then s else stamp) ∷ stamps) g → IsGreatest (stamp ∷ s ∷ stamps) g
more stamp s stamps g true e r = record {
  taken = at r.taken;
  most = (let l = ltb-true stamp s e in let m = r.most.0 in omega (arith, l, m), (r.most.0, r.most.1));
}
  where
    at : In g (s ∷ stamps) → In g (stamp ∷ s ∷ stamps)
    at i = inr i
more stamp s stamps g false e r = record {
  taken = at r.taken;
  most = (r.most.0, (let l = not_less stamp s e in let m = r.most.0 in omega (arith, l, m), r.most.1));
}
  where
    at : In g (stamp ∷ stamps) → In g (stamp ∷ s ∷ stamps)
    at (inl q) = inl q
    at (inr i) = inr (inr i)

pub greatest_is : (stamp : ℕ) (stamps : List ℕ) → IsGreatest (stamp ∷ stamps) (greatest stamp stamps)
greatest_is stamp [] = record { taken = inl refl; most = (omega arith, tt) }
greatest_is stamp (s ∷ stamps) =
    more stamp s stamps (greatest (if nat_lt stamp s then s else stamp) stamps) (nat_lt stamp s) refl
    (greatest_is (if nat_lt stamp s then s else stamp) stamps)

-- the next stamp is above all
pub next_above : (own : ℕ) (stamps : List ℕ) (stamp : ℕ) → next_stamp own stamps ≡ Some stamp → greatest own stamps < stamp
next_above own stamps stamp e = by (nat_lt (greatest own stamps + 1) (2 ^ 64 - 1)) e
  where
    by : (b : Bool) → ◌≡◌ {A = Option ℕ} (if b then Some (greatest own stamps + 1) else None) (Some stamp) → greatest own stamps < stamp
    by true q = let is : greatest own stamps + 1 ≡ stamp = cc (q) in omega (arith, is)
    by false q = cc (q)

pub next_above_own : (own : ℕ) (stamps : List ℕ) (stamp : ℕ) → next_stamp own stamps ≡ Some stamp → own < stamp
next_above_own own stamps stamp e =
    let low = (greatest_is own stamps).most.0 in
    let above = next_above own stamps stamp e in
    omega (arith, low, above)

-- no stamp of a list that rises is above the last one
pub below_last : {A : Type 0} (R : A → A → Type 0) (of : A → ℕ) (of_last : Option A → ℕ) → ((a c : A) → R a c → of a ≤ of c)
    → ((a : A) → of_last (Some a) ≡ of a) → (xs : List A) (n stamp : ℕ) → Rises R xs → n + 1 ≡ length xs → of_last (slice_get xs n) ≡ stamp
    → AllByRecursion (λ x. of x ≤ stamp) xs
below_last R of of_last ordered one [] n stamp rises last is = absurd (omega (arith, last))
below_last R of of_last ordered one (x ∷ []) zero stamp rises last is = (let same = one x in omega (arith, same, is), tt)
below_last R of of_last ordered one (x ∷ []) (suc n) stamp rises last is = absurd (omega (arith, last))
below_last R of of_last ordered one (x ∷ y ∷ xs) zero stamp rises last is = absurd (omega (arith, last))
below_last R of of_last ordered one (x ∷ y ∷ xs) (suc n) stamp rises last is =
    let rest = below_last R of of_last ordered one (y ∷ xs) n stamp rises.1 (omega (arith, last)) is in
    let next = ordered x y rises.0.0 in
    let below = rest.0 in
    (omega (arith, next, below), rest)

get_end : {A : Type 0} (xs : List A) (a : A) → slice_get (xs ++ a ∷ []) (length xs) ≡ Some a
get_end [] a = refl
get_end (x ∷ xs) a = get_end xs a

-- the last stamp of a log with one more access
pub last_push : (log : List LoggedAccess) (a : LoggedAccess) → last_access_stamp (log ++ a ∷ []) ≡ a.stamp
last_push log a =
    let long = length-append log (a ∷ []) in
    let last : length (log ++ a ∷ []) - 1 ≡ length log = omega (arith, long) in
    ap (λ (n : ℕ). access_stamp (slice_get (log ++ a ∷ []) n)) last ∙ ap access_stamp (get_end log a)
