-- what pages hold after a store into one of them
use Rattle.std.proofs.Common.{◌≡◌, ℕ, zero, suc, ◌+◌, ◌-◌, ◌/◌, ◌%◌, ◌<◌, ◌≤◌, Bool, ◌&&◌, leb, ltb, List, [], ◌∷◌, length, get_or, set, take, arith, Option, Some, None, rules, ◌∙◌, sym, ap, refl, inl, inr}
use Rattle.std.proofs.lemmas.Bool.{cases_Bool, cases_eq}
use Rattle.std.proofs.lemmas.Bool.Decides.{nat_tests}
use Rattle.std.proofs.lemmas.Option.{slice_get_within}
use Rattle.std.proofs.Math.Path.{fun_ext}
use Rattle.std.specs.List.{slice_get, slice_index}
use Rattle.mem_store.specs.Memory.{grants, all_below, granted}
use Rattle.mem_store.specs.Access.{written}
use Rattle.mem_flat.specs.Blocks.{spelled}
use Rattle.mem_flat.proofs.WriteLemmas.{spelled_in, spelled_out}
use Rattle.mem_paged.specs.Directory.{DirectoryValue, proposed, page_place}
use Rattle.mem_paged.specs.Pages.{right_at, byte_in_page, kept_at, spans_of, pages_memory}
use Rattle.mem_paged.specs.Number.{width_of, stored_value}
use Rattle.mem_paged.specs.Store.{memory_of}
use Rattle.mem_paged.specs.Table.{pages_of}
use Rattle.mem_paged.specs.Written.{IsWritten}
use Rattle.mem_paged.specs.declared.number.Number.{Number}
use Rattle.mem_paged.specs.declared.number.Number.TheVariants.{Byte, Half, Word}
use Rattle.mem_paged.specs.declared.page.Page.{Page}
use Rattle.mem_paged.specs.declared.page_rights.Span.{Span}
use Rattle.mem_paged.specs.declared.page_rights.PageRights.{PageRights}
use Rattle.mem_paged.specs.declared.layout.Layout.{Layout}
use Rattle.mem_paged.specs.declared.page_store.PageStore.{PageStore}
use Rattle.mem_paged.proofs.DirectoryLemmas.{get-set_same, kept-set_other, owner_of}
use Rattle.mem_paged.proofs.AccessLemmas.{at_place, granted_is}
use Rattle.mem_paged.proofs.SegmentLemmas.{same_memory}

-- the beginning of a list
get-take : {X : Type 0} (n : ℕ) (xs : List X) (k : ℕ) → k < n → slice_get (take n xs) k ≡ slice_get xs k
get-take zero xs k h = absurd (omega arith)
get-take (suc n) [] k h = refl
get-take (suc n) (x ∷ xs) zero h = refl
get-take (suc n) (x ∷ xs) (suc k) h = get-take n xs k (omega arith)

-- an aligned number is in one page
pub in_one_page : (number : Number) (a : ℕ) → a % width_of number ≡ 0 → a % 4096 + width_of number ≤ 4096
in_one_page (Byte v) a e = omega arith
in_one_page (Half v) a e = omega arith
in_one_page (Word v) a e = omega arith

module _ (d : DirectoryValue) (rights : List (List Span)) (pages : List Page) (n k a v : ℕ) (p q : Page) (at : page_place d (a / 4096) ≡ Some k)
    (is : slice_get pages k ≡ Some p) (inside : k < length pages) (long : length p.bytes ≡ 4096) (room : a % 4096 + n ≤ 4096) (new : q.bytes ≡ spelled n p.bytes (a % 4096) v) where
  same_page : (x : ℕ) → x / 4096 ≡ a / 4096 → byte_in_page (kept_at (set pages k q) (page_place d (x / 4096))) (x % 4096) ≡ slice_index q.bytes (x % 4096)
  same_page x e = rw (e, at, get-set_same pages k q inside)

  same_old : (x : ℕ) → x / 4096 ≡ a / 4096 → byte_in_page (kept_at pages (page_place d (x / 4096))) (x % 4096) ≡ slice_index p.bytes (x % 4096)
  same_old x e = rw (e, at, is)

  other_page : (x : ℕ) → (x / 4096 ≡ a / 4096 → ⊥) → byte_in_page (kept_at (set pages k q) (page_place d (x / 4096))) (x % 4096) ≡ byte_in_page (kept_at pages (page_place d (x / 4096))) (x % 4096)
  other_page x ne = ap (λ o. byte_in_page o (x % 4096)) (kept-set_other d (a / 4096) (x / 4096) k pages q ne at)

  pub page_stored : pages_memory d rights (set pages k q) ≡ written n a v (pages_memory d rights pages)
  page_stored = ap (λ b. record { rights = (pages_memory d rights pages).rights; bytes = b }) (fun_ext (λ x. elim (cases_Bool (leb a x && ltb x (a + n))) [
    | inl within ↦ (let low : a ≤ x = search rules in let high : x < a + n = search rules in
        let page : x / 4096 ≡ a / 4096 = omega arith in
        let place : x % 4096 ≡ a % 4096 + (x - a) = omega arith in
        rw within (same_page x page ∙ rw (place, new) (spelled_in n p.bytes (a % 4096) v (x - a) (omega arith) (omega arith))))
    | inr out ↦ (let off : a ≤ x → a + n ≤ x = λ h. grind (arith, nat_tests) in
        rw out (elim (cases_eq (x / 4096) (a / 4096)) [
          | inl page ↦ same_page x page ∙ rw new (spelled_out n p.bytes (a % 4096) v (x % 4096) (λ h. omega (arith, off, page))) ∙ sym (same_old x page)
          | inr ne ↦ other_page x ne
        ]))
  ]))

-- the same of a store, whose parts are read in order
module _ {Z : Type 0} (s : PageStore Z) (a k : ℕ) (l : Layout Z) (same : l ≡ s.layout.value) (place : Some k ≡ page_place l.directory (a / 4096)) (inside : k < length l.directory.owners) where
  pub may_store : (number : Number) (w : ℕ) (g : Bool) (m : Layout Z) (p : PageRights Z) → a % width_of number ≡ 0 → w ≡ width_of number → m ≡ s.layout.value → p ≡ get_or m.rights.items k p
      → g ≡ all_below w (λ j. grants 2 (right_at p.spans.items (a % 4096 + j))) → g ≡ granted 2 (memory_of s) (width_of number) a
  may_store number w g m p aligned width is is_p test =
      granted_is s a k l same place inside (width_of number) 2 g m p is is_p (in_one_page number a aligned) (test ∙ ap (λ n. all_below n (λ j. grants 2 (right_at p.spans.items (a % 4096 + j)))) width)

  pub after_store : (number : Number) (new : List Page) → a % width_of number ≡ 0 → IsWritten (width_of number) k (a % 4096) (stored_value number) (pages_of s.table.chunks.items) new
      → pages_memory s.layout.value.directory (spans_of s.layout.value.rights.items) new ≡ written (width_of number) a (stored_value number) (memory_of s)
  after_store number new aligned is =
      let there : k < length (pages_of s.table.chunks.items) = slice_get_within (pages_of s.table.chunks.items) k is.old_page is.there in
      ap (pages_memory s.layout.value.directory (spans_of s.layout.value.rights.items)) is.pages
      ∙ page_stored s.layout.value.directory (spans_of s.layout.value.rights.items) (pages_of s.table.chunks.items) (width_of number) k a (stored_value number) is.old_page is.new_page (at_place s a k l same place inside)
      is.there there is.long (in_one_page number a aligned) is.spells

  -- pages that are as they were
  pub after_refusal : (new : List Page) → new ≡ pages_of s.table.chunks.items → pages_memory s.layout.value.directory (spans_of s.layout.value.rights.items) new ≡ memory_of s
  after_refusal new kept = ap (pages_memory s.layout.value.directory (spans_of s.layout.value.rights.items)) kept

-- pages with others after them
module _ (d : DirectoryValue) (rights : List (List Span)) (pages new : List Page) (n : ℕ) (len : n ≡ length d.owners) (begins : take n new ≡ pages) where
  kept-begun : (m : ℕ) (place : Option ℕ) → page_place d m ≡ place → kept_at new place ≡ kept_at pages place
  kept-begun m None e = refl
  kept-begun m (Some k) e =
      let low : k < length d.owners = slice_get_within d.owners k m (owner_of d.owners m k (proposed d m) e) in
      sym (ap (λ (l : List Page). slice_get l k) (sym begins) ∙ get-take n new k (omega (arith, low, len)))

  pub begun_memory : pages_memory d rights new ≡ pages_memory d rights pages
  begun_memory = same_memory _ _ (λ x. refl) (λ x. ap (λ q. byte_in_page q (x % 4096)) (kept-begun (x / 4096) (page_place d (x / 4096)) refl))

-- the same of a table that begins with pages that were filled
pub filled_memory : {Z : Type 0} (l m : Layout Z) (pages seen new : List Page) (n : ℕ) → l ≡ m → n ≡ length m.directory.owners → n ≡ length pages → seen ≡ pages → take (length seen) new ≡ seen
    → pages_memory l.directory (spans_of l.rights.items) new ≡ pages_memory m.directory (spans_of m.rights.items) pages
filled_memory {Z} l m pages seen new n same owned len is begins =
    ap (λ (k : Layout Z). pages_memory k.directory (spans_of k.rights.items) new) same
    ∙ begun_memory m.directory (spans_of m.rights.items) seen new (length seen) (ap (λ (ps : List Page). length ps) is ∙ sym len ∙ owned) begins
    ∙ ap (pages_memory m.directory (spans_of m.rights.items)) is
