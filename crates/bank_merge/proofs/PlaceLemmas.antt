-- A hart's accesses in the banks' logs, from places on.
use Rattle.std.proofs.Common.{◌≡◌, ℕ, ◌+◌, ◌<◌, Bool, true, false, Some, None, List, [], ◌∷◌, ◌++◌, length, drop, get_or, set, ap, sym, subst, ◌∙◌, append_assoc, append-nil, ⊎_elim}
use Rattle.std.specs.Prelude.{◌↔◌, ◌==◌, replicate}
use Rattle.std.proofs.lemmas.Bool.{cases_eq, eq-eqb, ne_eqb}
use Rattle.std.proofs.lemmas.List.{drop_more, get_or-set_same, get_or-set_other}
use Rattle.bank_laws.specs.declared.access.LoggedAccess.{LoggedAccess}
use Rattle.bank_laws.specs.Banks.{share_of}
use Rattle.bank_laws.specs.Merged.{bank_of, most_banks}
use Rattle.bank_memory.specs.BankLog.{BankLog}
use Rattle.bank_merge.specs.AccessOrder.{log_at, bank_logs, of_hart, AreLeft, IsBehind, IsOrdered, Passes}
use Rattle.bank_merge.proofs.ListLemmas.{left_out, map_here, taken_first, zeros}

heads : (x a : LoggedAccess) (xs ys : List LoggedAccess) → x ∷ xs ≡ a ∷ ys → x ≡ a
heads x a xs ys e = cc e

tails : (x a : LoggedAccess) (xs ys : List LoggedAccess) → x ∷ xs ≡ a ∷ ys → xs ≡ ys
tails x a xs ys e = cc e

-- ---- one log
module _ (log : List LoggedAccess) (h from i : ℕ) (d : LoggedAccess) (low : i < length log) (its : ((get_or log i d).hart == h) ≡ true)
    (so_far : of_hart h (drop i log) ≡ of_hart h (drop from log)) where
  found : of_hart h (drop from log) ≡ get_or log i d ∷ of_hart h (drop (i + 1) log)
  found = sym so_far ∙ ap (of_hart h) (drop_more log i d low) ∙ taken_first (λ (a : LoggedAccess). a.hart == h) (get_or log i d) (drop (i + 1) log) its

  pub found_it : (a : LoggedAccess) → get_or log i d ≡ a → IsBehind log h from a (Some (i + 1))
  found_it a it = found ∙ ap (λ (b : LoggedAccess). b ∷ of_hart h (drop (i + 1) log)) it

  pub found_other : (a : LoggedAccess) → (get_or log i d ≡ a → ⊥) → IsBehind log h from a None
  found_other a other = λ xs e. other (heads (get_or log i d) a (of_hart h (drop (i + 1) log)) xs (sym found ∙ e))

-- ---- the log of a bank
pub log_here : (banks : List BankLog) (b : ℕ) (k : BankLog) (log : List LoggedAccess) → b < length banks → k ≡ get_or banks b k → log ≡ k.log → log_at (bank_logs banks) b ≡ log
log_here banks b k log low is its = map_here (λ (x : BankLog). x.log) banks b k [] low is ∙ sym its

-- ---- the log of the bank of an access
module _ (banks : List (List LoggedAccess)) (h : ℕ) (places : List ℕ) (a : LoggedAccess) (p : ℕ) (bank : bank_of a.word ≡ p) where
  own : (rest : List LoggedAccess) → share_of bank_of p (a ∷ rest) ≡ a ∷ share_of bank_of p rest
  own rest = taken_first (λ (x : LoggedAccess). bank_of x.word == p) a rest (eq-eqb (bank_of a.word) p bank)

  of_other : (b : ℕ) → (b ≡ p → ⊥) → (rest : List LoggedAccess) → share_of bank_of b (a ∷ rest) ≡ share_of bank_of b rest
  of_other b apart rest = left_out (λ (x : LoggedAccess). bank_of x.word == b) a rest (ne_eqb (bank_of a.word) b (λ e. apart (sym e ∙ bank)))

  pub stopped : p < most_banks → IsBehind (log_at banks p) h (get_or places p 0) a None → Passes banks h places places (a ∷ []) false
  stopped low none rest all = none (share_of bank_of p rest) (all p low ∙ own rest)

  module _ (place : ℕ) (inside : p < length places) (behind : IsBehind (log_at banks p) h (get_or places p 0) a (Some place)) where
    moved : get_or (set places p place) p 0 ≡ place
    moved = get_or-set_same places p place 0 inside

    kept : (b : ℕ) → (b ≡ p → ⊥) → get_or (set places p place) b 0 ≡ get_or places b 0
    kept b apart = get_or-set_other places p b place 0 apart

    there : (rest : List LoggedAccess) → AreLeft banks h places (a ∷ rest) → AreLeft banks h (set places p place) rest
    there rest all b low = ⊎_elim
        (λ (e : b ≡ p). subst (λ (x : ℕ). of_hart h (drop (get_or (set places p place) x 0) (log_at banks x)) ≡ share_of bank_of x rest) (sym e)
        (ap (λ (n : ℕ). of_hart h (drop n (log_at banks p))) moved
        ∙ tails a a (of_hart h (drop place (log_at banks p))) (share_of bank_of p rest) (sym behind ∙ all p (subst (λ (x : ℕ). x < most_banks) e low) ∙ own rest)))
        (λ (apart : b ≡ p → ⊥). ap (λ (n : ℕ). of_hart h (drop n (log_at banks b))) (kept b apart) ∙ all b low ∙ of_other b apart rest)
        (cases_eq b p)

    back : (rest : List LoggedAccess) → AreLeft banks h (set places p place) rest → AreLeft banks h places (a ∷ rest)
    back rest all b low = ⊎_elim
        (λ (e : b ≡ p). subst (λ (x : ℕ). of_hart h (drop (get_or places x 0) (log_at banks x)) ≡ share_of bank_of x (a ∷ rest)) (sym e)
        (behind
        ∙ ap (λ (xs : List LoggedAccess). a ∷ xs) (ap (λ (n : ℕ). of_hart h (drop n (log_at banks p))) (sym moved) ∙ all p (subst (λ (x : ℕ). x < most_banks) e low))
        ∙ sym (own rest)))
        (λ (apart : b ≡ p → ⊥). ap (λ (n : ℕ). of_hart h (drop n (log_at banks b))) (sym (kept b apart)) ∙ all b low ∙ sym (of_other b apart rest))
        (cases_eq b p)

    pub passed : Passes banks h places (set places p place) (a ∷ []) true
    passed rest = (there rest, back rest)

-- ---- accesses, one after another
module _ (banks : List (List LoggedAccess)) (h : ℕ) where
  pub nothing : (places : List ℕ) → Passes banks h places places [] true
  nothing places rest = (λ l. l, λ l. l)

  joined : (places : List ℕ) (xs ys rest : List LoggedAccess) → AreLeft banks h places ((xs ++ ys) ++ rest) → AreLeft banks h places (xs ++ (ys ++ rest))
  joined places xs ys rest l = subst (λ (zs : List LoggedAccess). AreLeft banks h places zs) (append_assoc xs ys rest) l

  parted : (places : List ℕ) (xs ys rest : List LoggedAccess) → AreLeft banks h places (xs ++ (ys ++ rest)) → AreLeft banks h places ((xs ++ ys) ++ rest)
  parted places xs ys rest l = subst (λ (zs : List LoggedAccess). AreLeft banks h places zs) (sym (append_assoc xs ys rest)) l

  pub both : (old mid new : List ℕ) (xs ys : List LoggedAccess) (r : Bool) → Passes banks h old mid xs true → Passes banks h mid new ys r → Passes banks h old new (xs ++ ys) r
  both old mid new xs ys true first second = λ rest. (
    λ l. (second rest).0 ((first (ys ++ rest)).0 (joined old xs ys rest l)),
    λ l. parted old xs ys rest ((first (ys ++ rest)).1 ((second rest).1 l)),
  )
  both old mid new xs ys false first second = λ rest l. second rest ((first (ys ++ rest)).0 (joined old xs ys rest l))

  pub not_first : (old new : List ℕ) (xs ys : List LoggedAccess) → Passes banks h old new xs false → Passes banks h old new (xs ++ ys) false
  not_first old new xs ys first rest l = first (ys ++ rest) (joined old xs ys rest l)

  -- from the first places all are the next exactly where from these those are that are left
  abbrev pub Goes : List ℕ → List ℕ → List LoggedAccess → List LoggedAccess → Type 0
  Goes old new all left = (rest : List LoggedAccess) → AreLeft banks h old (all ++ rest) ↔ AreLeft banks h new (left ++ rest)

  pub goes_first : (places : List ℕ) (all : List LoggedAccess) → Goes places places all all
  goes_first places all rest = (λ l. l, λ l. l)

  pub goes_next : (old mid new : List ℕ) (all front xs ys : List LoggedAccess) → front ≡ xs ++ ys → Goes old mid all front → Passes banks h mid new xs true
      → Goes old new all ys
  goes_next old mid new all front xs ys is goes first rest = (
    λ l. (first (ys ++ rest)).0 (joined mid xs ys rest (subst (λ (f : List LoggedAccess). AreLeft banks h mid (f ++ rest)) is ((goes rest).0 l))),
    λ l. (goes rest).1 (subst (λ (f : List LoggedAccess). AreLeft banks h mid (f ++ rest)) (sym is) (parted mid xs ys rest ((first (ys ++ rest)).1 l))),
  )

  pub goes_not : (old mid new : List ℕ) (all front xs ys : List LoggedAccess) → front ≡ xs ++ ys → Goes old mid all front → Passes banks h mid new xs false
      → Passes banks h old new all false
  goes_not old mid new all front xs ys is goes first rest l =
      first (ys ++ rest) (joined mid xs ys rest (subst (λ (f : List LoggedAccess). AreLeft banks h mid (f ++ rest)) is ((goes rest).0 l)))

  pub goes_last : (old new : List ℕ) (all left : List LoggedAccess) → left ≡ [] → Goes old new all left → Passes banks h old new all true
  goes_last old new all left none goes rest = (
    λ l. subst (λ (f : List LoggedAccess). AreLeft banks h new (f ++ rest)) none ((goes rest).0 l),
    λ l. (goes rest).1 (subst (λ (f : List LoggedAccess). AreLeft banks h new (f ++ rest)) (sym none) l),
  )

  -- ---- from the beginning to the end
  begun : (xs : List LoggedAccess) → IsOrdered banks h xs → AreLeft banks h (replicate 16 0) xs
  begun xs all b low = ap (λ (n : ℕ). of_hart h (drop n (log_at banks b))) (zeros 16 b) ∙ all b low

  ended : (xs : List LoggedAccess) → AreLeft banks h (replicate 16 0) xs → IsOrdered banks h xs
  ended xs all b low = ap (λ (n : ℕ). of_hart h (drop n (log_at banks b))) (sym (zeros 16 b)) ∙ all b low

  pub all_passed : (new : List ℕ) (xs : List LoggedAccess) (r : Bool) → Passes banks h (replicate 16 0) new xs true → (r ≡ true) ↔ AreLeft banks h new []
      → (r ≡ true) ↔ IsOrdered banks h xs
  all_passed new xs r passes test = (
    λ e. ended xs (subst (λ (zs : List LoggedAccess). AreLeft banks h (replicate 16 0) zs) (append-nil xs) ((passes []).1 (test.0 e))),
    λ all. test.1 ((passes []).0 (subst (λ (zs : List LoggedAccess). AreLeft banks h (replicate 16 0) zs) (sym (append-nil xs)) (begun xs all))),
  )

  pub not_passed : (new : List ℕ) (xs : List LoggedAccess) → Passes banks h (replicate 16 0) new xs false → (false ≡ true) ↔ IsOrdered banks h xs
  not_passed new xs passes = (
    λ e. cc e,
    λ all. absurd (passes [] (subst (λ (zs : List LoggedAccess). AreLeft banks h (replicate 16 0) zs) (sym (append-nil xs)) (begun xs all))),
  )
