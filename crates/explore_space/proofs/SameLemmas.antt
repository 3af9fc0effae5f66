-- Lists that are told apart, and lists in which no two elements are the same.
use Rattle.std.proofs.Common.{◌≡◌, ◌≢◌, ℕ, ◌+◌, ◌<◌, ◌≤◌, Bool, true, false, List, [], ◌∷◌, ◌++◌, length, get_or, nat_eq, if◌then◌else◌, MatchBool, Option, Some, None, refl, ap, sym, ◌∙◌, subst, arith, inl, inr}
use Rattle.std.specs.Bool.{Decides}
use Rattle.std.specs.List.{AllPairs, slice_get}
use Rattle.std.specs.Option.{option_eq}
use Rattle.std.proofs.lemmas.Bool.{both_ways}
use Rattle.std.proofs.lemmas.Bool.Decides.{Decides-eqb}
use Rattle.std.proofs.lemmas.List.{ext_get_or}
use Rattle.std.proofs.lemmas.List.Quantifiers.{all_pairs_push}
use Rattle.std.proofs.lemmas.Option.{same_Some, slice_get-get_or}
use Rattle.hart_reservations.specs.Marks.{Marks, mark_at}
use Rattle.hart_step.specs.Hart.{Registers, registers_of}
use Rattle.explore_search.proofs.SearchLemmas.{below_or}

-- ---- lists of one length
-- whether two are the same is whether their registers are
pub same_registers : (b : Bool) (xs ys : List ℕ) → length xs ≡ length ys → MatchBool b (xs ≡ ys) (xs ≡ ys → ⊥)
    → MatchBool b (registers_of xs ≡ registers_of ys) (registers_of xs ≡ registers_of ys → ⊥)
same_registers true xs ys long is = ap registers_of is
same_registers false xs ys long differs = λ same. differs (ext_get_or 0 xs ys long (λ k inside. ap (λ (r : Registers). r k) same))

-- the same of reservations
pub same_marks : (b : Bool) (xs ys : List (Option ℕ)) → length xs ≡ length ys → Decides b (xs ≡ ys)
    → (b ≡ true → mark_at xs ≡ mark_at ys) × (b ≡ false → mark_at xs ≢ mark_at ys)
same_marks b xs ys long decides = (
  λ yes_. ap mark_at (decides.0 yes_),
  λ no_ same. both_ways b no_ (decides.1 (ext_get_or None xs ys long (λ k inside. ap (λ (r : Marks). r k) same))),
)

pub mark_decides : (a b : Option ℕ) → Decides (option_eq nat_eq a b) (a ≡ b)
mark_decides None None = (λ e. refl, λ e. refl)
mark_decides None (Some y) = (λ e. absurd (cc), λ e. absurd (cc))
mark_decides (Some x) None = (λ e. absurd (cc), λ e. absurd (cc))
mark_decides (Some x) (Some y) = (λ e. ap Some ((Decides-eqb x y).0 e), λ e. (Decides-eqb x y).1 (same_Some x y e))

-- ---- what holds of the elements so far
pub record AllSoFar {X : Type 0} (P : X → Type 0) (xs : List X) (n : ℕ) : Type 0 where
  pub each : (k : ℕ) (y : X) → k < n → slice_get xs k ≡ Some y → P y

pub none_so_far : {X : Type 0} (P : X → Type 0) (xs : List X) → AllSoFar P xs 0
none_so_far P xs = record { each = λ k y low e. absurd (omega (arith, low)) }

pub all_so_far : {X : Type 0} (P : X → Type 0) (xs : List X) (n : ℕ) (x : X) → slice_get xs n ≡ Some x → P x
    → AllSoFar P xs n → AllSoFar P xs (n + 1)
all_so_far P xs n x there holds before = record {
  each = λ k y low e. elim (below_or k n low) [
    | inl below ↦ before.each k y below e
    | inr here ↦ subst P (same_Some x y (sym there ∙ ap (slice_get xs) (sym here) ∙ e)) holds
  ];
}

-- one element more, which is like none of the others
pub apart_more : {X : Type 0} (R : X → X → Type 0) (xs ys : List X) (x : X) (n : ℕ) → ys ≡ xs ++ x ∷ [] → length xs ≤ n
    → AllSoFar (λ y. R y x) xs n → AllPairs R xs → AllPairs R ys
apart_more R xs ys x n pushed all each apart =
    subst (AllPairs R) (sym pushed) (all_pairs_push R xs x apart
    (λ k d low. each.each k (get_or xs k d) (omega (arith, low, all)) (slice_get-get_or xs k d low)))

pub pushed_first : {X : Type 0} (xs ys : List X) (x : X) (pushed : Bool) → pushed ≡ true → xs ≡ []
    → ys ≡ (if pushed then xs ++ x ∷ [] else xs) → ys ≡ x ∷ []
pushed_first xs ys x true yes_ none items = items ∙ ap (λ zs. zs ++ x ∷ []) none
pushed_first xs ys x false no_ none items = absurd (cc)
