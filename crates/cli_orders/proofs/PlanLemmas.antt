-- How the pairs of a text go on from its front.
use Rattle.std.proofs.Common.{append_assoc, ⊎_elim, ◌≡◌, ℕ, ◌+◌, ◌<◌, ◌≤◌, ◌==◌, ◌&&◌, ◌||◌, Bool, true, false, List, [], ◌∷◌, ◌++◌, length, take, drop, Option, Some, None, refl, arith, ap, sym, ◌∙◌}
use Rattle.std.proofs.lemmas.Bool.{cases_lt}
use Rattle.std.proofs.lemmas.Cmp.{ranked, by_ranked}
use Rattle.std.specs.Ordering.{match_ordering, nat_cmp, ordering_then}
use Rattle.std.specs.declared.cmp.Ordering.{Ordering}
use Rattle.std.specs.declared.cmp.Ordering.TheVariants.{Less, Equal, Greater}
use Rattle.std.specs.BTreeSet.{insert_key}
use Rattle.std.proofs.lemmas.List.Splits.{slice_split_first}
use Rattle.std.specs.List.{slice_split, position_or_len}
use Rattle.cli_args.specs.Inputs.{ends_part}
use Rattle.cli_orders.specs.Plan.{pair_of, pair_then, pairs_of, pairs_of_parts, pairs_then, has_pair}
use Rattle.cli_args.proofs.InputLemmas.{part_of_one}

pairs_then-more : (pairs : List (ℕ × ℕ)) (pair : ℕ × ℕ) (r : Option (List (ℕ × ℕ)))
    → pairs_then pairs (pairs_then (pair ∷ []) r) ≡ pairs_then (pairs ++ pair ∷ []) r
pairs_then-more pairs pair None = refl
pairs_then-more pairs pair (Some more) = ap Some (sym (append_assoc pairs (pair ∷ []) more))

or-assoc : (x y z : Bool) → ((x || y) || z) ≡ (x || (y || z))
or-assoc true y z = refl
or-assoc false y z = refl

or-none : (x : Bool) → (x || false) ≡ x
or-none true = refl
or-none false = refl

-- a pair more
pub has_pair-more : (pairs : List (ℕ × ℕ)) (pair : ℕ × ℕ) (h n : ℕ)
    → has_pair (pairs ++ pair ∷ []) h n ≡ (has_pair pairs h n || (pair.0 == h && pair.1 == n))
has_pair-more [] pair h n = or-none (pair.0 == h && pair.1 == n)
has_pair-more (p ∷ pairs) pair h n =
    ap (λ b. (p.0 == h && p.1 == n) || b) (has_pair-more pairs pair h n)
    ∙ sym (or-assoc (p.0 == h && p.1 == n) (has_pair pairs h n) (pair.0 == h && pair.1 == n))

-- ---- the pairs of a set
abbrev pair_cmp : ℕ × ℕ → ℕ × ℕ → Ordering
pair_cmp a b = ordering_then (nat_cmp a.0 b.0) (nat_cmp a.1 b.1)

then_tied : (o p : Ordering) → ordering_then o p ≡ Equal → (o ≡ Equal) × (p ≡ Equal)
then_tied Less p e = absurd (cc)
then_tied Equal p e = (refl, e)
then_tied Greater p e = absurd (cc)

tied : (x y : ℕ) → nat_cmp x y ≡ Equal → x ≡ y
tied x y e = by_ranked _ _ _ (nat_cmp x y) (ranked x y (nat_cmp x y) refl) (λ l p. absurd (cc)) (λ l p. p) (λ l p. absurd (cc))

or-swap : (x y : Bool) → (x || y) ≡ (y || x)
or-swap true true = refl
or-swap true false = refl
or-swap false true = refl
or-swap false false = refl

or-absorbs : (x y p : Bool) → p ≡ x → (x || y) ≡ ((x || y) || p)
or-absorbs true y p e = refl
or-absorbs false y p e = sym (or-none y) ∙ ap (λ b. y || b) (sym e)

-- a set with a pair more
pub inserted : (keys : List (ℕ × ℕ)) (pair : ℕ × ℕ) (h n : ℕ)
    → has_pair (insert_key pair_cmp keys pair) h n ≡ (has_pair keys h n || (pair.0 == h && pair.1 == n))
inserted [] pair h n = or-none (pair.0 == h && pair.1 == n)
inserted (key ∷ keys) pair h n = placed (inserted keys pair h n) (pair_cmp pair key) refl
  where
    placed : has_pair (insert_key pair_cmp keys pair) h n ≡ (has_pair keys h n || (pair.0 == h && pair.1 == n)) → (o : Ordering) → pair_cmp pair key ≡ o
        → has_pair (match_ordering o (pair ∷ key ∷ keys) (key ∷ keys) (key ∷ insert_key pair_cmp keys pair)) h n
        ≡ (has_pair (key ∷ keys) h n || (pair.0 == h && pair.1 == n))
    placed later Less e = or-swap (pair.0 == h && pair.1 == n) (has_pair (key ∷ keys) h n)
    placed later Equal e =
        let both = then_tied (nat_cmp pair.0 key.0) (nat_cmp pair.1 key.1) e in
        or-absorbs (key.0 == h && key.1 == n) (has_pair keys h n) (pair.0 == h && pair.1 == n)
        (ap (λ x. x == h && pair.1 == n) (tied pair.0 key.0 both.0) ∙ ap (λ x. key.0 == h && x == n) (tied pair.1 key.1 both.1))
    placed later Greater e =
        ap (λ b. (key.0 == h && key.1 == n) || b) later
        ∙ sym (or-assoc (key.0 == h && key.1 == n) (has_pair keys h n) (pair.0 == h && pair.1 == n))

-- reading has come so far in a text, with a part before the next comma or the end
module _ (text rest : List ℕ) (end : ℕ) (old : List (ℕ × ℕ)) (place : end ≡ position_or_len ends_part rest)
    (so_far : pairs_of text ≡ pairs_then old (pairs_of_parts (slice_split ends_part rest))) where
  next : (parts : List (List ℕ)) → slice_split ends_part rest ≡ take (position_or_len ends_part rest) rest ∷ parts
      → pairs_of text ≡ pairs_then old (pair_then (pair_of (take end rest)) (pairs_of_parts parts))
  next parts e =
      so_far ∙ ap (λ parts. pairs_then old (pairs_of_parts parts)) e
      ∙ ap (λ n. pairs_then old (pair_then (pair_of (take n rest)) (pairs_of_parts parts))) (sym place)

  read_next : (parts : List (List ℕ)) → slice_split ends_part rest ≡ take (position_or_len ends_part rest) rest ∷ parts
      → (pair : Option (ℕ × ℕ)) → pair_of (take end rest) ≡ pair
      → pairs_of text ≡ pairs_then old (pair_then pair (pairs_of_parts parts))
  read_next parts e pair read = next parts e ∙ ap (λ pair. pairs_then old (pair_then pair (pairs_of_parts parts))) read

  pub bad_pair : pair_of (take end rest) ≡ None → end ≤ length rest → pairs_of text ≡ None
  bad_pair read within = ⊎_elim
      (λ (lt : position_or_len ends_part rest < length rest). read_next _ (slice_split_first ends_part rest 0 lt) None read)
      (λ (ge : length rest ≤ position_or_len ends_part rest). read_next [] (part_of_one rest (omega arith)) None read)
      (cases_lt (position_or_len ends_part rest) (length rest))

  pub last_pair : (pair : ℕ × ℕ) → pair_of (take end rest) ≡ Some pair → end ≡ length rest → pairs_of text ≡ Some (old ++ pair ∷ [])
  last_pair pair read whole =
      read_next [] (part_of_one rest (sym place ∙ whole)) (Some pair) read

  pub goes_on : (pair : ℕ × ℕ) → pair_of (take end rest) ≡ Some pair → end < length rest
      → pairs_of text ≡ pairs_then (old ++ pair ∷ []) (pairs_of_parts (slice_split ends_part (drop (end + 1) rest)))
  goes_on pair read lt =
      let more : position_or_len ends_part rest < length rest = omega arith in
      read_next _ (slice_split_first ends_part rest 0 more) (Some pair) read
      ∙ ap (λ n. pairs_then old (pairs_then (pair ∷ []) (pairs_of_parts (slice_split ends_part (drop (n + 1) rest))))) (sym place)
      ∙ pairs_then-more old pair (pairs_of_parts (slice_split ends_part (drop (end + 1) rest)))
