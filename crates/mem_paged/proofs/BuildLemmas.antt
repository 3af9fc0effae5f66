-- pages that are filled
use Rattle.std.proofs.Common.{◌≡◌, ℕ, zero, suc, ◌+◌, ◌-◌, ◌/◌, ◌%◌, ◌<◌, ◌≤◌, Bool, true, false, ◌&&◌, leb, ltb, cond, List, [], ◌∷◌, ◌++◌, length, get_or, set, replicate, arith, Option, Some, None, rules, ◌∙◌, sym, ap, refl, inl, inr}
use Rattle.std.proofs.lemmas.Bool.{cases_Bool, cases_eq}
use Rattle.std.proofs.lemmas.Bool.Decides.{nat_tests}
use Rattle.std.proofs.lemmas.List.{get_or-set_other, get_or-set_same, length-map, map-append, map-set}
use Rattle.std.specs.List.{slice_get, slice_index}
use Rattle.mem_paged.specs.Directory.{DirectoryValue, page_place, with_page}
use Rattle.mem_paged.specs.Pages.{has_offset, right_at, right_in, byte_in_page, kept_at, spans_of, pages_memory}
use Rattle.mem_paged.specs.Runs.{in_run, byte_of_run, with_run}
use Rattle.mem_paged.specs.declared.page.Page.{Page}
use Rattle.mem_paged.specs.declared.page_rights.Span.{Span}
use Rattle.mem_paged.specs.declared.page_rights.PageRights.{PageRights}
use Rattle.mem_paged.proofs.DirectoryLemmas.{get-pushed, get-set_same, place-added, place-others, kept-push, kept-set_other}
use Rattle.mem_paged.proofs.SegmentLemmas.{same_memory}

zeros_at : (m o : ℕ) → (let z : ℕ = 0 in get_or (replicate m z) o z ≡ z)
zeros_at zero o = refl
zeros_at (suc m) zero = refl
zeros_at (suc m) (suc o) = zeros_at m o

pub zero_page : (o : ℕ) → (let z : ℕ = 0 in get_or (replicate 4096 z) o z ≡ z)
zero_page o = zeros_at 4096 o

-- one page more, in which nothing is mapped
module _ (d : DirectoryValue) (rights : List (List Span)) (pages : List Page) (n : ℕ) (r : List Span) (b : Page) (new : page_place d n ≡ None) (from : d.first ≤ n) (to : n < d.first + length d.index)
    (even_rights : length rights ≡ length d.owners) (even_pages : length pages ≡ length d.owners)
    (none : (o : ℕ) → right_at r o ≡ None) (zeros : (o : ℕ) → slice_index b.bytes o ≡ 0) where
  same_right : (x : ℕ) → right_in (kept_at (rights ++ r ∷ []) (page_place (with_page d n) (x / 4096))) (x % 4096) ≡ right_in (kept_at rights (page_place d (x / 4096))) (x % 4096)
  same_right x = elim (cases_eq (x / 4096) n) [
    | inl e ↦ (let here : slice_get (rights ++ r ∷ []) (length d.owners) ≡ Some r = rw (← even_rights) (get-pushed rights r) in
        ap (λ m. right_in (kept_at (rights ++ r ∷ []) (page_place (with_page d n) m)) (x % 4096)) e
        ∙ ap (λ q. right_in (kept_at (rights ++ r ∷ []) q) (x % 4096)) (place-added d n from to) ∙ ap (λ q. right_in q (x % 4096)) here ∙ none (x % 4096)
        ∙ sym (ap (λ m. right_in (kept_at rights (page_place d m)) (x % 4096)) e ∙ ap (λ q. right_in (kept_at rights q) (x % 4096)) new))
    | inr ne ↦ ap (λ q. right_in (kept_at (rights ++ r ∷ []) q) (x % 4096)) (place-others d n from to (x / 4096) ne)
        ∙ ap (λ q. right_in q (x % 4096)) (kept-push d (x / 4096) rights r even_rights)
  ]

  same_byte : (x : ℕ) → byte_in_page (kept_at (pages ++ b ∷ []) (page_place (with_page d n) (x / 4096))) (x % 4096) ≡ byte_in_page (kept_at pages (page_place d (x / 4096))) (x % 4096)
  same_byte x = elim (cases_eq (x / 4096) n) [
    | inl e ↦ (let here : slice_get (pages ++ b ∷ []) (length d.owners) ≡ Some b = rw (← even_pages) (get-pushed pages b) in
        ap (λ m. byte_in_page (kept_at (pages ++ b ∷ []) (page_place (with_page d n) m)) (x % 4096)) e
        ∙ ap (λ q. byte_in_page (kept_at (pages ++ b ∷ []) q) (x % 4096)) (place-added d n from to) ∙ ap (λ q. byte_in_page q (x % 4096)) here ∙ zeros (x % 4096)
        ∙ sym (ap (λ m. byte_in_page (kept_at pages (page_place d m)) (x % 4096)) e ∙ ap (λ q. byte_in_page (kept_at pages q) (x % 4096)) new))
    | inr ne ↦ ap (λ q. byte_in_page (kept_at (pages ++ b ∷ []) q) (x % 4096)) (place-others d n from to (x / 4096) ne)
        ∙ ap (λ q. byte_in_page q (x % 4096)) (kept-push d (x / 4096) pages b even_pages)
  ]

  added : pages_memory (with_page d n) (rights ++ r ∷ []) (pages ++ b ∷ []) ≡ pages_memory d rights pages
  added = same_memory _ _ same_right same_byte

-- the same of a page whose spans are known to be none
pub page_added : {Z : Type 0} (d : DirectoryValue) (rights : List (PageRights Z)) (pages : List Page) (n : ℕ) (r : PageRights Z) (b : Page) → page_place d n ≡ None → d.first ≤ n → n < d.first + length d.index
    → length rights ≡ length d.owners → length pages ≡ length d.owners → r.spans.items ≡ [] → ((o : ℕ) → slice_index b.bytes o ≡ 0)
    → pages_memory (with_page d n) (spans_of (rights ++ r ∷ [])) (pages ++ b ∷ []) ≡ pages_memory d (spans_of rights) pages
page_added {Z} d rights pages n r b new from to even_rights even_pages empty zeros =
    let none : (o : ℕ) → right_at r.spans.items o ≡ None = λ o. ap (λ (ss : List Span). right_at ss o) empty in
    ap (λ (l : List (List Span)). pages_memory (with_page d n) l (pages ++ b ∷ [])) (map-append (λ (p : PageRights Z). p.spans.items) rights (r ∷ []))
    ∙ added d (spans_of rights) pages n r.spans.items b new from to (length-map rights (λ (p : PageRights Z). p.spans.items) ∙ even_rights) even_pages none zeros

-- a run in one page
module _ (d : DirectoryValue) (rights : List (List Span)) (pages : List Page) (k a n i v : ℕ) (bytes : List ℕ) (s : Span) (ss : List Span) (q q' : Page) (at : page_place d (a / 4096) ≡ Some k)
    (is_p : slice_get rights k ≡ Some ss) (is_q : slice_get pages k ≡ Some q) (in_p : k < length rights) (in_q : k < length pages) (room : a % 4096 + n ≤ 4096)
    (from : s.from ≡ a % 4096) (to : s.to ≡ a % 4096 + n) (right : s.rights.0 ≡ v)
    (new_q : (o : ℕ) → slice_index q'.bytes o ≡ byte_of_run (a % 4096) n bytes i (slice_index q.bytes o) o) where
  -- an address of the page is in the run if its offset is in the span
  same_test : (x : ℕ) → x / 4096 ≡ a / 4096 → in_run (a % 4096) n (x % 4096) ≡ in_run a n x
  same_test x e = elim (cases_Bool (in_run a n x)) [
    | inl here ↦ (let low : a ≤ x = search rules in let high : x < a + n = search rules in
        let low_ : a % 4096 ≤ x % 4096 = omega arith in let high_ : x % 4096 < a % 4096 + n = omega arith in
        let t : in_run (a % 4096) n (x % 4096) ≡ true = grind (arith, nat_tests) in t ∙ sym here)
    | inr off ↦ elim (cases_Bool (in_run (a % 4096) n (x % 4096))) [
      | inl near ↦ (let low : a % 4096 ≤ x % 4096 = search rules in let high : x % 4096 < a % 4096 + n = search rules in
          let low_ : a ≤ x = omega arith in let high_ : x < a + n = omega arith in
          let t : in_run a n x ≡ true = grind (arith, nat_tests) in near ∙ sym t)
      | inr far ↦ far ∙ sym off
    ]
  ]

  span_test : (o : ℕ) → has_offset o s ≡ in_run (a % 4096) n o
  span_test o = ap (λ (m : ℕ). leb m o && ltb o s.to) from ∙ ap (λ (m : ℕ). leb (a % 4096) o && ltb o m) to

  no_other : (x : ℕ) → (x / 4096 ≡ a / 4096 → ⊥) → in_run a n x ≡ false
  no_other x ne = elim (cases_Bool (in_run a n x)) [
    | inl here ↦ (let low : a ≤ x = search rules in let high : x < a + n = search rules in absurd (ne (omega arith)))
    | inr off ↦ off
  ]

  one_right : (x : ℕ) → right_in (kept_at (set rights k (s ∷ ss)) (page_place d (x / 4096))) (x % 4096) ≡ cond (in_run a n x) (Some v) (right_in (kept_at rights (page_place d (x / 4096))) (x % 4096))
  one_right x = elim (cases_eq (x / 4096) (a / 4096)) [
    | inl e ↦ (let new : right_in (kept_at (set rights k (s ∷ ss)) (page_place d (x / 4096))) (x % 4096) ≡ right_at (s ∷ ss) (x % 4096) =
        ap (λ m. right_in (kept_at (set rights k (s ∷ ss)) (page_place d m)) (x % 4096)) e ∙ ap (λ o. right_in (kept_at (set rights k (s ∷ ss)) o) (x % 4096)) at
        ∙ ap (λ o. right_in o (x % 4096)) (get-set_same rights k (s ∷ ss) in_p) in
        let old : right_in (kept_at rights (page_place d (x / 4096))) (x % 4096) ≡ right_at ss (x % 4096) =
        ap (λ m. right_in (kept_at rights (page_place d m)) (x % 4096)) e ∙ ap (λ o. right_in (kept_at rights o) (x % 4096)) at ∙ ap (λ o. right_in o (x % 4096)) is_p in
        new ∙ ap (λ (b : Bool). cond b (Some s.rights.0) (right_at ss (x % 4096))) (span_test (x % 4096) ∙ same_test x e)
        ∙ ap (λ (r : ℕ). cond (in_run a n x) (Some r) (right_at ss (x % 4096))) right
        ∙ ap (λ (r : Option ℕ). cond (in_run a n x) (Some v) r) (sym old))
    | inr ne ↦ ap (λ o. right_in o (x % 4096)) (kept-set_other d (a / 4096) (x / 4096) k rights (s ∷ ss) ne at)
        ∙ sym (ap (λ (b : Bool). cond b (Some v) (right_in (kept_at rights (page_place d (x / 4096))) (x % 4096))) (no_other x ne))
  ]

  -- the byte of the run at an address
  same_place : (x : ℕ) → x / 4096 ≡ a / 4096 → in_run a n x ≡ true → i + (x % 4096 - a % 4096) ≡ i + (x - a)
  same_place x e here = let low : a ≤ x = search rules in omega arith

  one_byte : (x : ℕ) → byte_in_page (kept_at (set pages k q') (page_place d (x / 4096))) (x % 4096) ≡ byte_of_run a n bytes i (byte_in_page (kept_at pages (page_place d (x / 4096))) (x % 4096)) x
  one_byte x = elim (cases_eq (x / 4096) (a / 4096)) [
    | inl e ↦ (let new : byte_in_page (kept_at (set pages k q') (page_place d (x / 4096))) (x % 4096) ≡ slice_index q'.bytes (x % 4096) =
        ap (λ m. byte_in_page (kept_at (set pages k q') (page_place d m)) (x % 4096)) e ∙ ap (λ o. byte_in_page (kept_at (set pages k q') o) (x % 4096)) at
        ∙ ap (λ o. byte_in_page o (x % 4096)) (get-set_same pages k q' in_q) in
        let old : byte_in_page (kept_at pages (page_place d (x / 4096))) (x % 4096) ≡ slice_index q.bytes (x % 4096) =
        ap (λ m. byte_in_page (kept_at pages (page_place d m)) (x % 4096)) e ∙ ap (λ o. byte_in_page (kept_at pages o) (x % 4096)) at ∙ ap (λ o. byte_in_page o (x % 4096)) is_q in
        elim (cases_Bool (in_run a n x)) [
          | inl here ↦ (let t : in_run (a % 4096) n (x % 4096) ≡ true = same_test x e ∙ here in
              let seen : slice_index q'.bytes (x % 4096) ≡ slice_index bytes (i + (x % 4096 - a % 4096)) =
              new_q (x % 4096) ∙ ap (λ (b : Bool). cond b (slice_index bytes (i + (x % 4096 - a % 4096))) (slice_index q.bytes (x % 4096))) t in
              new ∙ seen ∙ ap (slice_index bytes) (same_place x e here)
              ∙ sym (ap (λ (b : Bool). cond b (slice_index bytes (i + (x - a))) (byte_in_page (kept_at pages (page_place d (x / 4096))) (x % 4096))) here))
          | inr off ↦ (let t : in_run (a % 4096) n (x % 4096) ≡ false = same_test x e ∙ off in
              let seen : slice_index q'.bytes (x % 4096) ≡ slice_index q.bytes (x % 4096) =
              new_q (x % 4096) ∙ ap (λ (b : Bool). cond b (slice_index bytes (i + (x % 4096 - a % 4096))) (slice_index q.bytes (x % 4096))) t in
              new ∙ seen ∙ sym old
              ∙ sym (ap (λ (b : Bool). cond b (slice_index bytes (i + (x - a))) (byte_in_page (kept_at pages (page_place d (x / 4096))) (x % 4096))) off))
        ])
    | inr ne ↦ ap (λ o. byte_in_page o (x % 4096)) (kept-set_other d (a / 4096) (x / 4096) k pages q' ne at)
        ∙ sym (ap (λ (b : Bool). cond b (slice_index bytes (i + (x - a))) (byte_in_page (kept_at pages (page_place d (x / 4096))) (x % 4096))) (no_other x ne))
  ]

  put_over : pages_memory d (set rights k (s ∷ ss)) (set pages k q') ≡ with_run (pages_memory d rights pages) a n v bytes i
  put_over = same_memory _ _ one_right one_byte

-- the same of the rights and bytes as they are kept
pub run_mapped : {Z : Type 0} (d : DirectoryValue) (rights : List (PageRights Z)) (pages : List Page) (k a n i v : ℕ) (bytes : List ℕ) (s : Span) (p p' : PageRights Z) (q q' : Page)
    → page_place d (a / 4096) ≡ Some k → slice_get (spans_of rights) k ≡ Some p.spans.items → slice_get pages k ≡ Some q → k < length rights → k < length pages → a % 4096 + n ≤ 4096
    → p'.spans.items ≡ s ∷ p.spans.items → s.from ≡ a % 4096 → s.to ≡ a % 4096 + n → s.rights.0 ≡ v
    → ((o : ℕ) → slice_index q'.bytes o ≡ byte_of_run (a % 4096) n bytes i (slice_index q.bytes o) o)
    → pages_memory d (spans_of (set rights k p')) (set pages k q') ≡ with_run (pages_memory d (spans_of rights) pages) a n v bytes i
run_mapped {Z} d rights pages k a n i v bytes s p p' q q' place is_p is_q in_p in_q room new_p from to right new_q =
    let inside : k < length (spans_of rights) = omega (arith, in_p, length-map rights (λ (r : PageRights Z). r.spans.items)) in
    ap (λ (l : List (List Span)). pages_memory d l (set pages k q'))
    (map-set (λ (r : PageRights Z). r.spans.items) rights k p' ∙ ap (λ (ss : List Span). set (spans_of rights) k ss) new_p)
    ∙ put_over d (spans_of rights) pages k a n i v bytes s p.spans.items q q' place is_p is_q inside in_q room from to right new_q

-- ---- bytes that are put in order
pub none_put : (a i : ℕ) (bytes : List ℕ) (old o : ℕ) → old ≡ byte_of_run a 0 bytes i old o
none_put a i bytes old o =
    let t : in_run a 0 o ≡ false = grind (arith, nat_tests) in
    sym (ap (λ (b : Bool). cond b (slice_index bytes (i + (o - a))) old) t)

pub one_put : (xs ys : List ℕ) (a k i v : ℕ) (bytes : List ℕ) → length xs ≡ 4096 → a + k < 4096 → v ≡ slice_index bytes (i + k)
    → ((o : ℕ) → get_or xs o 0 ≡ byte_of_run a k bytes i (get_or ys o 0) o) → (o : ℕ) → get_or (set xs (a + k) v) o 0 ≡ byte_of_run a (k + 1) bytes i (get_or ys o 0) o
one_put xs ys a k i v bytes long inside is so_far o = elim (cases_eq o (a + k)) [
  | inl e ↦ (let t : in_run a (k + 1) o ≡ true = grind (arith, nat_tests) in
      let place : i + k ≡ i + (o - a) = omega arith in
      ap (λ (m : ℕ). get_or (set xs (a + k) v) m 0) e ∙ get_or-set_same xs (a + k) v 0 (omega (arith, long, inside)) ∙ is ∙ ap (slice_index bytes) place
      ∙ sym (ap (λ (b : Bool). cond b (slice_index bytes (i + (o - a))) (get_or ys o 0)) t))
  | inr ne ↦ (let t : in_run a k o ≡ in_run a (k + 1) o = grind (arith, nat_tests) in
      get_or-set_other xs (a + k) o v 0 ne ∙ so_far o ∙ ap (λ (b : Bool). cond b (slice_index bytes (i + (o - a))) (get_or ys o 0)) t)
]
