-- pages by chunks: what is read, written and put together
use Rattle.std.proofs.Common.{◌≡◌, ℕ, zero, suc, ◌+◌, ◌-◌, ◌*◌, ◌/◌, ◌%◌, ◌<◌, ◌≤◌, List, [], ◌∷◌, ◌++◌, length, get_or, set, map, take, drop, arith, Some, ◌∙◌, sym, ap, refl, inl, inr}
use Rattle.std.proofs.lemmas.Bool.{cases_lt}
use Rattle.std.proofs.lemmas.List.{append-nil, length-map, map-append, map-set, set-append_left, set-append_right, take-append-le, take_all}
use Rattle.std.proofs.lemmas.List.Concat.{flat_map-append}
use Rattle.std.proofs.lemmas.Option.{none-some, slice_get-map, slice_get_read}
use Rattle.std.proofs.Math.Seq.{map-set_same, take-add}
use Rattle.std.specs.List.{flat_map, slice_get}
use Rattle.std.specs.Option.{option_map}
use Rattle.std.specs.declared.rc.Rc.{Rc}
use Rattle.mem_flat.specs.Blocks.{spelled}
use Rattle.mem_paged.specs.Table.{shared_values, pages_in, pages_of}
use Rattle.mem_paged.specs.Written.{IsWritten}
use Rattle.mem_paged.specs.declared.page.Page.{Page}
use Rattle.mem_paged.specs.declared.chunk.Chunk.{Chunk}
use Rattle.mem_paged.proofs.DirectoryLemmas.{some}

-- ---- lists that are joined
get-left : {X : Type 0} (xs ys : List X) (i : ℕ) → i < length xs → slice_get (xs ++ ys) i ≡ slice_get xs i
get-left [] ys i h = absurd (omega arith)
get-left (x ∷ xs) ys zero h = refl
get-left (x ∷ xs) ys (suc i) h = get-left xs ys i (omega arith)

get-right : {X : Type 0} (xs ys : List X) (n i : ℕ) → length xs ≡ n → n ≤ i → slice_get (xs ++ ys) i ≡ slice_get ys (i - n)
get-right [] ys n i len h = let same : i ≡ i - n = omega arith in ap (slice_get ys) same
get-right (x ∷ xs) ys n zero len h = absurd (omega arith)
get-right (x ∷ xs) ys n (suc i) len h =
    let same : i - (n - 1) ≡ suc i - n = omega arith in
    get-right xs ys (n - 1) i (omega arith) (omega arith) ∙ ap (slice_get ys) same

-- ---- pieces of 64 elements, in order
module _ {X A : Type 0} (f : X → List A) (whole : (x : X) → length (f x) ≡ 64) where
  -- element k is in piece (k / 64), at (k % 64)
  pub get-pieces : (xs : List X) (k : ℕ) (x : X) → slice_get xs (k / 64) ≡ Some x → slice_get (flat_map f xs) k ≡ slice_get (f x) (k % 64)
  get-pieces [] k x is_x = absurd (none-some x is_x)
  get-pieces (y ∷ ys) k x is_x = elim (cases_lt k 64) [
    | inl low ↦ (let first : k / 64 ≡ 0 = omega arith in
        let same : k ≡ k % 64 = omega arith in
        let is : y ≡ x = some y x (sym (ap (slice_get (y ∷ ys)) first) ∙ is_x) in
        get-left (f y) (flat_map f ys) k (omega (arith, whole y, low)) ∙ ap (λ (z : X). slice_get (f z) k) is ∙ ap (slice_get (f x)) same)
    | inr high ↦ (let next : k / 64 ≡ suc ((k - 64) / 64) = omega arith in
        let same : (k - 64) % 64 ≡ k % 64 = omega arith in
        let there : slice_get ys ((k - 64) / 64) ≡ Some x = sym (ap (slice_get (y ∷ ys)) next) ∙ is_x in
        get-right (f y) (flat_map f ys) 64 k (whole y) high ∙ get-pieces ys (k - 64) x there ∙ ap (slice_get (f x)) same)
  ]

  -- one element gives way to another
  pub set-pieces : (xs : List X) (k : ℕ) (x y : X) (b : A) → slice_get xs (k / 64) ≡ Some x → f y ≡ set (f x) (k % 64) b → flat_map f (set xs (k / 64) y) ≡ set (flat_map f xs) k b
  set-pieces [] k x y b is_x new = absurd (none-some x is_x)
  set-pieces (z ∷ zs) k x y b is_x new = elim (cases_lt k 64) [
    | inl low ↦ (let first : k / 64 ≡ 0 = omega arith in
        let same : k % 64 ≡ k = omega arith in
        let is : x ≡ z = sym (some z x (sym (ap (slice_get (z ∷ zs)) first) ∙ is_x)) in
        let piece : f y ≡ set (f z) k b = new ∙ ap (λ (n : ℕ). set (f x) n b) same ∙ ap (λ (v : X). set (f v) k b) is in
        ap (λ (n : ℕ). flat_map f (set (z ∷ zs) n y)) first ∙ ap (λ (l : List A). l ++ flat_map f zs) piece
        ∙ sym (set-append_left (f z) (flat_map f zs) k b (omega (arith, whole z, low))))
    | inr high ↦ (let next : k / 64 ≡ suc ((k - 64) / 64) = omega arith in
        let same : k % 64 ≡ (k - 64) % 64 = omega arith in
        let there : slice_get zs ((k - 64) / 64) ≡ Some x = sym (ap (slice_get (z ∷ zs)) next) ∙ is_x in
        ap (λ (n : ℕ). flat_map f (set (z ∷ zs) n y)) next
        ∙ ap (λ (l : List A). f z ++ l) (set-pieces zs (k - 64) x y b there (new ∙ ap (λ (n : ℕ). set (f x) n b) same))
        ∙ sym (set-append_right (f z) (flat_map f zs) 64 k b (whole z) high))
  ]

-- a piece gives way to an equal one
set-same : {X A : Type 0} (f : X → List A) (xs : List X) (i : ℕ) (x y : X) → slice_get xs i ≡ Some x → f y ≡ f x → flat_map f (set xs i y) ≡ flat_map f xs
set-same {X} {A} f [] i x y is_x same = refl
set-same {X} {A} f (z ∷ zs) zero x y is_x same = ap (λ (l : List A). l ++ flat_map f zs) (same ∙ ap f (sym (some z x is_x)))
set-same {X} {A} f (z ∷ zs) (suc i) x y is_x same = ap (λ (l : List A). f z ++ l) (set-same f zs i x y is_x same)

-- ---- values in a list
pub raw_read : {X A : Type 0} (f : X → A) (items : List X) (n k : ℕ) (x : X) → n ≡ length items → k < n → x ≡ get_or items k x → slice_get (map f items) k ≡ Some (f x)
raw_read f items n k x len inside is = slice_get-map f items k ∙ ap (option_map f) (slice_get_read items n k x len inside is)

-- ---- shared values
pub shared_read : {X Z : Type 0} (items : List (Rc X Z)) (n k : ℕ) (r : Rc X Z) → n ≡ length items → k < n → r ≡ get_or items k r → slice_get (shared_values items) k ≡ Some r.value
shared_read {X} {Z} items n k r len inside is = raw_read (λ (p : Rc X Z). p.value) items n k r len inside is

whole_chunk : {Z : Type 0} (c : Chunk Z) → length (pages_in c) ≡ 64
whole_chunk {Z} c = length-map c.pages.items (λ (p : Rc Page Z). p.value) ∙ sym c.pages.ok.0 ∙ c.whole

-- the page that is read at a place
pub page_read : {Z : Type 0} (chunks : List (Rc (Chunk Z) Z)) (n k : ℕ) (r : Rc (Chunk Z) Z) (c : Chunk Z) (p : Rc Page Z) → n ≡ length chunks → k < 64 * n
    → r ≡ get_or chunks (k / 64) r → c ≡ r.value → p ≡ get_or c.pages.items (k % 64) p → slice_get (pages_of chunks) k ≡ Some p.value
unfolding pages_of
page_read {Z} chunks n k r c p len inside is_r is_c is_p =
    let chunk : slice_get (shared_values chunks) (k / 64) ≡ Some r.value = shared_read chunks n (k / 64) r len (omega arith) is_r in
    let is : p ≡ get_or r.value.pages.items (k % 64) p = is_p ∙ ap (λ (t : Chunk Z). get_or t.pages.items (k % 64) p) is_c in
    get-pieces (λ (t : Chunk Z). pages_in t) (λ (t : Chunk Z). whole_chunk t) (shared_values chunks) k r.value chunk
    ∙ shared_read r.value.pages.items _ (k % 64) p r.value.pages.ok.0 (omega (arith, r.value.whole)) is

-- ---- one page that is written
pub page_written : {Z : Type 0} (items : List (Rc Page Z)) (m n k offset value : ℕ) (r q : Rc Page Z) → m ≡ length items → k < m → r ≡ get_or items k r → length r.value.bytes ≡ 4096
    → q.value.bytes ≡ spelled n r.value.bytes offset value → IsWritten n k offset value (shared_values items) (shared_values (set items k q))
page_written {Z} items m n k offset value r q len inside is long new = record {
  old_page = r.value;
  new_page = q.value;
  there = shared_read items m k r len inside is;
  long = long;
  spells = new;
  pages = map-set (λ (p : Rc Page Z). p.value) items k q;
}

-- one that is not
pub page_kept : {Z : Type 0} (items : List (Rc Page Z)) (k : ℕ) (r q : Rc Page Z) → r ≡ get_or items k r → q.value ≡ r.value → shared_values (set items k q) ≡ shared_values items
page_kept {Z} items k r q is same = map-set_same (λ (p : Rc Page Z). p.value) items k q r (same ∙ ap (λ (p : Rc Page Z). p.value) is)

-- one that is written in a copy of the pages
pub written_in_copy : (n k offset value : ℕ) (old copy after new : List Page) → copy ≡ old → new ≡ after → IsWritten n k offset value copy after → IsWritten n k offset value old new
written_in_copy n k offset value old copy after new same last is = record {
  old_page = is.old_page;
  new_page = is.new_page;
  there = ap (λ (l : List Page). slice_get l k) (sym same) ∙ is.there;
  long = is.long;
  spells = is.spells;
  pages = last ∙ is.pages ∙ ap (λ (l : List Page). set l k is.new_page) same;
}

-- a page that is written in its chunk
pub chunk_written : {Z : Type 0} (chunks : List (Rc (Chunk Z) Z)) (m n k offset value : ℕ) (r q : Rc (Chunk Z) Z) → m ≡ length chunks → k < 64 * m → r ≡ get_or chunks (k / 64) r
    → IsWritten n (k % 64) offset value (pages_in r.value) (pages_in q.value) → IsWritten n k offset value (pages_of chunks) (pages_of (set chunks (k / 64) q))
unfolding pages_of
chunk_written {Z} chunks m n k offset value r q len inside is new =
    let chunk : slice_get (shared_values chunks) (k / 64) ≡ Some r.value = shared_read chunks m (k / 64) r len (omega arith) is in
    record {
      old_page = new.old_page;
      new_page = new.new_page;
      there = get-pieces (λ (t : Chunk Z). pages_in t) (λ (t : Chunk Z). whole_chunk t) (shared_values chunks) k r.value chunk ∙ new.there;
      long = new.long;
      spells = new.spells;
      pages = ap (flat_map (λ (t : Chunk Z). pages_in t)) (map-set (λ (t : Rc (Chunk Z) Z). t.value) chunks (k / 64) q)
          ∙ set-pieces (λ (t : Chunk Z). pages_in t) (λ (t : Chunk Z). whole_chunk t) (shared_values chunks) k r.value q.value new.new_page chunk new.pages;
    }

-- a chunk that has the same pages
pub chunk_kept : {Z : Type 0} (chunks : List (Rc (Chunk Z) Z)) (m i : ℕ) (r q : Rc (Chunk Z) Z) → m ≡ length chunks → i < m → r ≡ get_or chunks i r → pages_in q.value ≡ pages_in r.value
    → pages_of (set chunks i q) ≡ pages_of chunks
unfolding pages_of
chunk_kept {Z} chunks m i r q len inside is same =
    ap (flat_map (λ (t : Chunk Z). pages_in t)) (map-set (λ (t : Rc (Chunk Z) Z). t.value) chunks i q)
    ∙ set-same (λ (t : Chunk Z). pages_in t) (shared_values chunks) i r.value q.value (shared_read chunks m i r len inside is) same

-- chunks that share their values have the same pages
pub same_chunks : {Z : Type 0} (cs ds : List (Rc (Chunk Z) Z)) (seen : List (Rc (Chunk Z) Z)) → shared_values cs ≡ shared_values seen → seen ≡ ds → pages_of cs ≡ pages_of ds
unfolding pages_of
same_chunks {Z} cs ds seen same is = ap (flat_map (λ (t : Chunk Z). pages_in t)) (same ∙ ap (λ (ts : List (Rc (Chunk Z) Z)). shared_values ts) is)

-- ---- pages that are put together
-- no chunk
pub no_chunks : {Z : Type 0} (chunks : List (Rc (Chunk Z) Z)) (pages : List (Rc Page Z)) → chunks ≡ [] → pages_of chunks ≡ shared_values (take (0 * 64) pages)
unfolding pages_of
no_chunks {Z} chunks pages none = ap (λ (cs : List (Rc (Chunk Z) Z)). flat_map (λ (t : Chunk Z). pages_in t) (shared_values cs)) none

-- one chunk more
pub chunk_more : {Z : Type 0} (chunks after : List (Rc (Chunk Z) Z)) (q : Rc (Chunk Z) Z) (c : Chunk Z) (pages rest part : List (Rc Page Z)) (i : ℕ) → pages_of chunks ≡ shared_values (take (i * 64) pages)
    → rest ≡ drop (i * 64) pages → part ≡ take 64 rest → pages_in c ≡ shared_values part → q.value ≡ c → after ≡ chunks ++ q ∷ [] → pages_of after ≡ shared_values (take ((i + 1) * 64) pages)
unfolding pages_of
chunk_more {Z} chunks after q c pages rest part i was is_rest is_part has is_q is =
    let piece : part ≡ take 64 (drop (i * 64) pages) = is_part ∙ ap (take 64) is_rest in
    let next : i * 64 + 64 ≡ (i + 1) * 64 = omega arith in
    let new : pages_in q.value ≡ shared_values (take 64 (drop (i * 64) pages)) =
    ap (λ (t : Chunk Z). pages_in t) is_q ∙ has ∙ ap (λ (ps : List (Rc Page Z)). shared_values ps) piece in
    ap (λ (cs : List (Rc (Chunk Z) Z)). flat_map (λ (t : Chunk Z). pages_in t) (shared_values cs)) is
    ∙ ap (flat_map (λ (t : Chunk Z). pages_in t)) (map-append (λ (t : Rc (Chunk Z) Z). t.value) chunks (q ∷ []))
    ∙ flat_map-append (λ (t : Chunk Z). pages_in t) (shared_values chunks) (q.value ∷ [])
    ∙ ap (λ (l : List Page). l ++ (pages_in q.value ++ [])) was
    ∙ ap (λ (l : List Page). shared_values (take (i * 64) pages) ++ l) (append-nil (pages_in q.value) ∙ new)
    ∙ sym (map-append (λ (t : Rc Page Z). t.value) (take (i * 64) pages) (take 64 (drop (i * 64) pages)))
    ∙ ap (λ (ps : List (Rc Page Z)). shared_values ps) (sym (take-add (i * 64) 64 pages) ∙ ap (λ (n : ℕ). take n pages) next)

-- all of them
pub all_chunks : {Z : Type 0} (chunks : List (Rc (Chunk Z) Z)) (pages : List (Rc Page Z)) (n : ℕ) → pages_of chunks ≡ shared_values (take n pages) → length pages ≤ n → pages_of chunks ≡ shared_values pages
all_chunks {Z} chunks pages n is long = is ∙ ap (λ (ps : List (Rc Page Z)). shared_values ps) (take_all n pages long)

-- pages, and others after them
pub begins_first : {Z : Type 0} (pages all : List (Rc Page Z)) → shared_values all ≡ shared_values pages → take (length pages) (shared_values all) ≡ shared_values pages
begins_first {Z} pages all same =
    ap (take (length pages)) same ∙ take_all (length pages) (shared_values pages) (omega (arith, length-map pages (λ (p : Rc Page Z). p.value)))

pub begins_more : {Z : Type 0} (pages all after : List (Rc Page Z)) (q : Rc Page Z) (n : ℕ) → n ≡ length all → length pages ≤ n → after ≡ all ++ q ∷ []
    → take (length pages) (shared_values all) ≡ shared_values pages → take (length pages) (shared_values after) ≡ shared_values pages
begins_more {Z} pages all after q n len long is begins =
    let room : length pages ≤ length (shared_values all) = omega (arith, len, long, length-map all (λ (p : Rc Page Z). p.value)) in
    ap (λ (ps : List (Rc Page Z)). take (length pages) (shared_values ps)) is
    ∙ ap (take (length pages)) (map-append (λ (p : Rc Page Z). p.value) all (q ∷ []))
    ∙ take-append-le (length pages) (shared_values all) (q.value ∷ []) room
    ∙ begins

-- a table of pages that were wrapped, with others after them
pub table_begins : {Z : Type 0} (pages : List Page) (shared seen all seen_all : List (Rc Page Z)) (chunks : List (Rc (Chunk Z) Z)) → shared_values shared ≡ pages → seen ≡ shared
    → take (length seen) (shared_values all) ≡ shared_values seen → seen_all ≡ all → pages_of chunks ≡ shared_values seen_all → take (length pages) (pages_of chunks) ≡ pages
table_begins {Z} pages shared seen all seen_all chunks wrapped is begins is_all has =
    let same : shared_values seen ≡ pages = ap (λ (ps : List (Rc Page Z)). shared_values ps) is ∙ wrapped in
    let long : length pages ≡ length seen = sym (ap (λ (ps : List Page). length ps) same) ∙ length-map seen (λ (p : Rc Page Z). p.value) in
    ap (λ (n : ℕ). take n (pages_of chunks)) long ∙ ap (take (length seen)) (has ∙ ap (λ (ps : List (Rc Page Z)). shared_values ps) is_all) ∙ begins ∙ same
