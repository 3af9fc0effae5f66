-- the rights that spans give
use Rattle.std.proofs.Common.{◌≡◌, ℕ, zero, suc, ◌+◌, ◌<◌, ◌≤◌, Bool, true, cond, List, [], ◌∷◌, length, get_or, arith, Some, rules, ◌∙◌, sym, ap, refl, inl, inr}
use Rattle.std.proofs.lemmas.Bool.{cases_Bool}
use Rattle.std.proofs.lemmas.Bool.Decides.{nat_tests}
use Rattle.std.proofs.lemmas.Option.{none-some}
use Rattle.std.specs.List.{slice_get}
use Rattle.mem_store.specs.Memory.{grants, all_below}
use Rattle.mem_flat.proofs.ReadLemmas.{all_below_fails}
use Rattle.mem_paged.specs.Pages.{has_offset, has_all, right_at, spans_of}
use Rattle.mem_paged.specs.declared.page_rights.Span.{Span}
use Rattle.mem_paged.specs.declared.page_rights.PageRights.{PageRights}
use Rattle.mem_paged.proofs.DirectoryLemmas.{some}
use Rattle.mem_paged.proofs.TableLemmas.{raw_read}

-- the spans that are read at a place
pub spans_read : {Z : Type 0} (rights : List (PageRights Z)) (n k : ℕ) (r : PageRights Z) → n ≡ length rights → k < n → r ≡ get_or rights k r → slice_get (spans_of rights) k ≡ Some r.spans.items
spans_read {Z} rights n k r len inside is = raw_read (λ (p : PageRights Z). p.spans.items) rights n k r len inside is

-- a test that each number passes
all_true : (n : ℕ) (p : ℕ → Bool) → ((k : ℕ) → k < n → p k ≡ true) → all_below n p ≡ true
all_true zero p h = refl
all_true (suc n) p h = rw (all_true n p (λ k low. h k (omega arith)), h n (omega arith)) refl

has_one : (s : Span) (o : ℕ) → s.from ≤ o → o < s.to → has_offset o s ≡ true
has_one s o from to = grind (arith, nat_tests)

-- what the first span has, it decides
first_has : (ss : List Span) (s : Span) (o : ℕ) → slice_get ss 0 ≡ Some s → has_offset o s ≡ true → right_at ss o ≡ Some s.rights.0
first_has [] s o is has = absurd (none-some s is)
first_has (x ∷ xs) s o is has =
    ap (λ (y : Span). cond (has_offset o y) (Some y.rights.0) (right_at xs o)) (some x s is) ∙ ap (λ (b : Bool). cond b (Some s.rights.0) (right_at xs o)) has

module _ (s : Span) (offset n : ℕ) (all : has_all offset n s ≡ true) where
  has_some : 0 < n
  has_some = search rules

  begins : s.from ≤ offset
  begins = search rules

  ends : offset + n ≤ s.to
  ends = search rules

-- so it grants all bytes of an access that it has
pub first_grants : (ss seen : List Span) (s : Span) (offset n wanted : ℕ) (h g : Bool) → seen ≡ ss → Some s ≡ slice_get seen 0 → h ≡ has_all offset n s → h ≡ true → g ≡ grants wanted (Some s.rights.0)
    → g ≡ all_below n (λ k. grants wanted (right_at ss (offset + k)))
first_grants ss seen s offset n wanted h g is first test hit value =
    let all : has_all offset n s ≡ true = sym test ∙ hit in
    let low : 0 < n = has_some s offset n all in
    let from : s.from ≤ offset = begins s offset n all in
    let to : offset + n ≤ s.to = ends s offset n all in
    let head : slice_get ss 0 ≡ Some s = ap (λ (l : List Span). slice_get l 0) (sym is) ∙ sym first in
    let each : (k : ℕ) → k < n → right_at ss (offset + k) ≡ Some s.rights.0 = λ k below. first_has ss s (offset + k) head (has_one s (offset + k) (omega arith) (omega arith)) in
    elim (cases_Bool g) [
      | inl yes_ ↦ yes_ ∙ sym (all_true n (λ k. grants wanted (right_at ss (offset + k))) (λ k below. ap (grants wanted) (each k below) ∙ sym value ∙ yes_))
      | inr no_ ↦ no_ ∙ sym (all_below_fails n 0 (λ k. grants wanted (right_at ss (offset + k))) low (ap (grants wanted) (each 0 low) ∙ sym value ∙ no_))
    ]
