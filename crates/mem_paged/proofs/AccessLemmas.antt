-- the bytes of pages at an access within one of them
use Rattle.std.proofs.Common.{◌≡◌, ℕ, zero, suc, ◌+◌, ◌/◌, ◌%◌, ◌<◌, ◌≤◌, Bool, true, false, cond, List, length, get_or, arith, Some, None, ◌∙◌, sym, ap, refl}
use Rattle.std.specs.List.{slice_get, slice_index}
use Rattle.std.specs.declared.rc.Rc.{Rc}
use Rattle.mem_store.specs.Memory.{grants, all_below, granted, little_endian, number_at}
use Rattle.mem_flat.specs.Blocks.{number_if}
use Rattle.mem_flat.proofs.ReadLemmas.{all_below_fails, number_same}
use Rattle.mem_paged.specs.Directory.{DirectoryValue, page_place}
use Rattle.mem_paged.specs.Pages.{right_at, right_in, byte_in_page, kept_at, spans_of, pages_memory}
use Rattle.mem_paged.specs.declared.page.Page.{Page}
use Rattle.mem_paged.specs.declared.page_rights.Span.{Span}
use Rattle.mem_paged.specs.declared.page_rights.PageRights.{PageRights}
use Rattle.mem_paged.specs.Store.{memory_of}
use Rattle.mem_paged.specs.Table.{pages_of}
use Rattle.mem_paged.specs.declared.layout.Layout.{Layout}
use Rattle.mem_paged.specs.declared.page_store.PageStore.{PageStore}
use Rattle.mem_paged.proofs.RightLemmas.{spans_read}

module _ (d : DirectoryValue) (rights : List (List Span)) (pages : List Page) (a k : ℕ) (at : page_place d (a / 4096) ≡ Some k) where
  right_near : (p : List Span) (j : ℕ) → slice_get rights k ≡ Some p → a % 4096 + j < 4096 → (pages_memory d rights pages).rights (a + j) ≡ right_at p (a % 4096 + j)
  right_near p j is room =
      let page : (a + j) / 4096 ≡ a / 4096 = omega arith in
      let offset : (a + j) % 4096 ≡ a % 4096 + j = omega arith in
      ap (λ n. right_in (kept_at rights (page_place d n)) ((a + j) % 4096)) page ∙ ap (λ o. right_in (kept_at rights (page_place d (a / 4096))) o) offset
      ∙ ap (λ q. right_in (kept_at rights q) (a % 4096 + j)) at ∙ ap (λ q. right_in q (a % 4096 + j)) is

  byte_near : (q : Page) (j : ℕ) → slice_get pages k ≡ Some q → a % 4096 + j < 4096 → (pages_memory d rights pages).bytes (a + j) ≡ slice_index q.bytes (a % 4096 + j)
  byte_near q j is room =
      let page : (a + j) / 4096 ≡ a / 4096 = omega arith in
      let offset : (a + j) % 4096 ≡ a % 4096 + j = omega arith in
      ap (λ n. byte_in_page (kept_at pages (page_place d n)) ((a + j) % 4096)) page ∙ ap (λ o. byte_in_page (kept_at pages (page_place d (a / 4096))) o) offset
      ∙ ap (λ r. byte_in_page (kept_at pages r) (a % 4096 + j)) at ∙ ap (λ r. byte_in_page r (a % 4096 + j)) is

  -- whether such an access is granted
  pub granted_near : (p : List Span) (n wanted : ℕ) → slice_get rights k ≡ Some p → a % 4096 + n ≤ 4096
      → granted wanted (pages_memory d rights pages) n a ≡ all_below n (λ j. grants wanted (right_at p (a % 4096 + j)))
  granted_near p zero wanted is room = refl
  granted_near p (suc n) wanted is room = rw (granted_near p n wanted is (omega arith), right_near p n is (omega arith)) refl

  -- the number that it reads
  pub number_near : (q : Page) (n : ℕ) → slice_get pages k ≡ Some q → a % 4096 + n ≤ 4096
      → number_at (pages_memory d rights pages).bytes n a ≡ little_endian n (λ j. slice_index q.bytes (a % 4096 + j))
  number_near q n is room = number_same n (λ j. (pages_memory d rights pages).bytes (a + j)) (λ j. slice_index q.bytes (a % 4096 + j)) (λ j low. byte_near q j is (omega arith))

  pub given_number : (p : List Span) (q : Page) (n wanted v : ℕ) (g : Bool) → slice_get rights k ≡ Some p → slice_get pages k ≡ Some q → a % 4096 + n ≤ 4096
      → g ≡ all_below n (λ j. grants wanted (right_at p (a % 4096 + j))) → g ≡ true → v ≡ little_endian n (λ j. slice_index q.bytes (a % 4096 + j))
      → Some v ≡ number_if wanted (pages_memory d rights pages) n a
  given_number p q n wanted v g is_p is_q room test hit value =
      let granted_is : granted wanted (pages_memory d rights pages) n a ≡ true = granted_near p n wanted is_p room ∙ sym test ∙ hit in
      let number_is : number_at (pages_memory d rights pages).bytes n a ≡ v = number_near q n is_q room ∙ sym value in
      sym (ap (λ t. cond t (Some (number_at (pages_memory d rights pages).bytes n a)) None) granted_is ∙ ap Some number_is)

  pub refused_number : (p : List Span) (n wanted : ℕ) (g : Bool) → slice_get rights k ≡ Some p → a % 4096 + n ≤ 4096
      → g ≡ all_below n (λ j. grants wanted (right_at p (a % 4096 + j))) → g ≡ false → None ≡ number_if wanted (pages_memory d rights pages) n a
  refused_number p n wanted g is_p room test miss =
      let granted_is : granted wanted (pages_memory d rights pages) n a ≡ false = granted_near p n wanted is_p room ∙ sym test ∙ miss in
      sym (ap (λ t. cond t (Some (number_at (pages_memory d rights pages).bytes n a)) None) granted_is)

-- no access is granted if its first byte's page is absent
pub granted_nowhere : (d : DirectoryValue) (rights : List (List Span)) (pages : List Page) (a n wanted : ℕ) → page_place d (a / 4096) ≡ None
    → granted wanted (pages_memory d rights pages) (suc n) a ≡ false
granted_nowhere d rights pages a n wanted none =
    let e : a + 0 ≡ a = omega arith in
    let first : grants wanted ((pages_memory d rights pages).rights (a + 0)) ≡ false =
    ap (λ x. grants wanted ((pages_memory d rights pages).rights x)) e ∙ ap (λ q. grants wanted (right_in (kept_at rights q) (a % 4096))) none in
    all_below_fails (suc n) 0 (λ j. grants wanted ((pages_memory d rights pages).rights (a + j))) (omega arith) first

pub absent_number : (d : DirectoryValue) (rights : List (List Span)) (pages : List Page) (a n wanted : ℕ) → page_place d (a / 4096) ≡ None
    → None ≡ number_if wanted (pages_memory d rights pages) (suc n) a
absent_number d rights pages a n wanted none =
    sym (ap (λ t. cond t (Some (number_at (pages_memory d rights pages).bytes (suc n) a)) None) (granted_nowhere d rights pages a n wanted none))

-- the same of a store, whose parts are read in order
module _ {Z : Type 0} (s : PageStore Z) (a k : ℕ) (l : Layout Z) (same : l ≡ s.layout.value) (place : Some k ≡ page_place l.directory (a / 4096)) (inside : k < length l.directory.owners) where
  pub at_place : page_place s.layout.value.directory (a / 4096) ≡ Some k
  at_place = sym (place ∙ ap (λ (m : Layout Z). page_place m.directory (a / 4096)) same)

  pub owned_place : k < length s.layout.value.directory.owners
  owned_place = rw same at inside

  pub rights_read : (m : Layout Z) (p : PageRights Z) → m ≡ s.layout.value → p ≡ get_or m.rights.items k p → slice_get (spans_of s.layout.value.rights.items) k ≡ Some p.spans.items
  rights_read m p is read =
      spans_read s.layout.value.rights.items _ k p s.layout.value.rights.ok.0 (omega (arith, owned_place, s.layout.value.even)) (read ∙ ap (λ (h : Layout Z). get_or h.rights.items k p) is)

  pub given : (n wanted v : ℕ) (g : Bool) (m : Layout Z) (p : PageRights Z) (r : Rc Page Z) (q : Page) → m ≡ s.layout.value → p ≡ get_or m.rights.items k p
      → slice_get (pages_of s.table.chunks.items) k ≡ Some r.value → q ≡ r.value → a % 4096 + n ≤ 4096
      → g ≡ all_below n (λ j. grants wanted (right_at p.spans.items (a % 4096 + j))) → g ≡ true → v ≡ little_endian n (λ j. slice_index q.bytes (a % 4096 + j)) → Some v ≡ number_if wanted (memory_of s) n a
  given n wanted v g m p r q is is_p is_r is_q room test hit value =
      given_number s.layout.value.directory (spans_of s.layout.value.rights.items) (pages_of s.table.chunks.items) a k at_place p.spans.items r.value n wanted v g (rights_read m p is is_p) is_r room test hit
      (value ∙ ap (λ (t : Page). little_endian n (λ j. slice_index t.bytes (a % 4096 + j))) is_q)

  pub refused : (n wanted : ℕ) (g : Bool) (m : Layout Z) (p : PageRights Z) → m ≡ s.layout.value → p ≡ get_or m.rights.items k p → a % 4096 + n ≤ 4096
      → g ≡ all_below n (λ j. grants wanted (right_at p.spans.items (a % 4096 + j))) → g ≡ false → None ≡ number_if wanted (memory_of s) n a
  refused n wanted g m p is is_p room test miss =
      refused_number s.layout.value.directory (spans_of s.layout.value.rights.items) (pages_of s.table.chunks.items) a k at_place p.spans.items n wanted g (rights_read m p is is_p) room test miss

  pub granted_is : (n wanted : ℕ) (g : Bool) (m : Layout Z) (p : PageRights Z) → m ≡ s.layout.value → p ≡ get_or m.rights.items k p → a % 4096 + n ≤ 4096
      → g ≡ all_below n (λ j. grants wanted (right_at p.spans.items (a % 4096 + j))) → g ≡ granted wanted (memory_of s) n a
  granted_is n wanted g m p is is_p room test =
      test ∙ sym (granted_near s.layout.value.directory (spans_of s.layout.value.rights.items) (pages_of s.table.chunks.items) a k at_place p.spans.items n wanted (rights_read m p is is_p) room)
