-- blocks that are made of segments, and sorted
use Rattle.std.proofs.Common.{◌≡◌, ℕ, zero, suc, ◌+◌, ◌-◌, ◌^◌, ◌<◌, ◌≤◌, true, false, not, List, [], ◌∷◌, ◌++◌, length, get_or, replicate, map, filter, arith, rules, ◌∙◌, sym, ap, refl, inl, inr, IsPermutation}
use Rattle.std.proofs.Math.ListN.{get_or-eq_default}
use Rattle.std.proofs.Math.Path.{fun_ext}
use Rattle.std.proofs.lemmas.Bool.{cases_Bool, cases_lt}
use Rattle.std.proofs.lemmas.Bool.Decides.{nat_tests}
use Rattle.std.proofs.lemmas.List.{get_or_append_left, get_or-append-add}
use Rattle.std.proofs.lemmas.List.Sorted.{IsPermutation-map, All-permutation}
use Rattle.std.proofs.lemmas.List.Elements.{All-head, All-tail, All-cons, All-nil}
use Rattle.std.specs.List.{slice_index, list_any, list_all, All}
use Rattle.std.specs.List.Sorted.{IsNonDecreasingBy}
use Rattle.image.specs.Segment.{SegmentValue}
use Rattle.image.specs.Image.{span_of, is_mapped, IsSound}
use Rattle.image.specs.Spans.{overlaps, any_overlap, is_filled, stands_in_row}
use Rattle.image.specs.declared.span.Span.{Span}
use Rattle.image.proofs.Overlap.{row_decides}
use Rattle.image.proofs.Sound.{space_from_sound, apart_from_sound, extent_from_sound}
use Rattle.mem_store.specs.Image.{segment_at, rights_in, byte_in, segments_memory}
use Rattle.mem_flat.specs.Blocks.{filled, IsInOrder}
use Rattle.mem_flat.proofs.OrderLemmas.{has, same_map}

zeros : (m i : ℕ) → (let z : ℕ = 0 in get_or (replicate m z) i z ≡ z)
zeros zero i = refl
zeros (suc m) zero = refl
zeros (suc m) (suc i) = zeros m i

-- zeros at the end change no byte that is read
padded : (xs : List ℕ) (m j : ℕ) → slice_index (xs ++ replicate m 0) j ≡ slice_index xs j
padded xs m j = elim (cases_lt j (length xs)) [
  | inl low ↦ get_or_append_left xs (replicate m 0) 0 j low
  | inr high ↦ (let place : length xs + (j - length xs) ≡ j = omega arith in
      ap (λ i. slice_index (xs ++ replicate m 0) i) (sym place) ∙ get_or-append-add xs (replicate m 0) (j - length xs) 0 ∙ zeros m (j - length xs) ∙ sym (get_or-eq_default xs 0 high))
]

filled_rights : (ss : List SegmentValue) (x : ℕ) → rights_in (segment_at (map filled ss) x) ≡ rights_in (segment_at ss x)
filled_rights [] x = refl
filled_rights (s ∷ ss) x = elim (cases_Bool (has s x)) [
  | inl here ↦ rw here refl
  | inr off ↦ rw off (filled_rights ss x)
]

filled_bytes : (ss : List SegmentValue) (x : ℕ) → byte_in (segment_at (map filled ss) x) x ≡ byte_in (segment_at ss x) x
filled_bytes [] x = refl
filled_bytes (s ∷ ss) x = elim (cases_Bool (has s x)) [
  | inl here ↦ rw here (padded s.bytes (s.size - length s.bytes) (x - s.base))
  | inr off ↦ rw off (filled_bytes ss x)
]

-- two lists of segments that agree at each address
same_memory : (xs ys : List SegmentValue) → ((x : ℕ) → rights_in (segment_at xs x) ≡ rights_in (segment_at ys x)) → ((x : ℕ) → byte_in (segment_at xs x) x ≡ byte_in (segment_at ys x) x)
    → segments_memory xs ≡ segments_memory ys
unfolding segments_memory
same_memory xs ys rights bytes =
    ap (λ f. record { rights = f; bytes = λ x. byte_in (segment_at xs x) x }) (fun_ext rights)
    ∙ ap (λ f. record { rights = λ x. rights_in (segment_at ys x); bytes = f }) (fun_ext bytes)

filled_memory : (ss : List SegmentValue) → segments_memory (map filled ss) ≡ segments_memory ss
filled_memory ss = same_memory (map filled ss) ss (filled_rights ss) (filled_bytes ss)

-- sorted blocks have the segments' memory
pub sorted_memory : (ss bs ys : List SegmentValue) → bs ≡ map filled ss → IsPermutation bs ys → IsInOrder ys → segments_memory ys ≡ segments_memory ss
sorted_memory ss bs ys made moved order =
    let same = same_map bs ys moved order in
    same_memory ys bs (λ x. ap rights_in (same x)) (λ x. ap (λ s. byte_in s x) (same x)) ∙ ap segments_memory made ∙ filled_memory ss

-- zeros at the end change no overlap
same_overlaps : (s : SegmentValue) (ss : List SegmentValue) → list_any (overlaps (span_of (filled s))) (map span_of (map filled ss)) ≡ list_any (overlaps (span_of s)) (map span_of ss)
same_overlaps s [] = refl
same_overlaps s (t ∷ ss) = rw (same_overlaps s ss) refl

same_overlap : (ss : List SegmentValue) → any_overlap (map span_of (map filled ss)) ≡ any_overlap (map span_of ss)
same_overlap [] = refl
same_overlap (s ∷ ss) = rw (same_overlaps s ss, same_overlap ss) refl

none_empty : (ss : List SegmentValue) → list_all is_mapped ss ≡ true → filter is_filled (map span_of (map filled ss)) ≡ map span_of (map filled ss)
none_empty [] e = refl
none_empty (s ∷ ss) e = elim (cases_Bool (is_mapped s)) [
  | inl full ↦ rw full (ap (λ t. span_of (filled s) ∷ t) (none_empty ss (rw full at e)))
  | inr empty ↦ absurd (let bad : false ≡ true = rw empty at e in search rules)
]

span_at : (ys : List SegmentValue) (i : ℕ) (d : Span) (e : SegmentValue) → i < length ys → get_or (map span_of ys) i d ≡ span_of (get_or ys i e)
span_at [] i d e inside = absurd (omega arith)
span_at (y ∷ ys) zero d e inside = refl
span_at (y ∷ ys) (suc i) d e inside = span_at ys i d e (omega arith)

length-spans : (ys : List SegmentValue) → length (map span_of ys) ≡ length ys
length-spans [] = refl
length-spans (y ∷ ys) = ap suc (length-spans ys)

spans_sorted : (ys : List SegmentValue) → IsNonDecreasingBy (λ (b : SegmentValue). b.base) ys → IsNonDecreasingBy (λ (t : Span). t.base) (map span_of ys)
spans_sorted [] up = λ i j d le lt. absurd (omega arith)
spans_sorted (y ∷ ys) up = λ i j d le lt.
    let inside : j < length (y ∷ ys) = omega (arith, length-spans (y ∷ ys), lt) in
    let first = span_at (y ∷ ys) i d y (omega (arith, le, inside)) in
    let second = span_at (y ∷ ys) j d y inside in
    rw (first, second) (up i j y le inside)

-- blocks in a row begin at or after the end before them
row_above : (end : ℕ) (ys : List SegmentValue) → stands_in_row end (map span_of ys) ≡ true → (j : ℕ) (d : SegmentValue) → j < length ys → end ≤ (get_or ys j d).base
row_above end [] e j d inside = absurd (omega arith)
row_above end (y ∷ ys) e zero d inside = grind (arith, nat_tests)
row_above end (y ∷ ys) e (suc j) d inside =
    let starts : end ≤ y.base = grind (arith, nat_tests) in
    let rest : stands_in_row (y.base + y.size) (map span_of ys) ≡ true = grind (arith, nat_tests) in
    omega (arith, starts, row_above (y.base + y.size) ys rest j d (omega arith))

row_apart : (end : ℕ) (ys : List SegmentValue) → stands_in_row end (map span_of ys) ≡ true → (i j : ℕ) (d : SegmentValue) → i < j → j < length ys
    → (get_or ys i d).base + (get_or ys i d).size ≤ (get_or ys j d).base
row_apart end [] e i j d low inside = absurd (omega arith)
row_apart end (y ∷ ys) e i zero d low inside = absurd (omega arith)
row_apart end (y ∷ ys) e zero (suc j) d low inside = row_above (y.base + y.size) ys (grind (arith, nat_tests)) j d (omega arith)
row_apart end (y ∷ ys) e (suc i) (suc j) d low inside = row_apart (y.base + y.size) ys (grind (arith, nat_tests)) i j d (omega arith) (omega arith)

abbrev InRange : SegmentValue → Type 0
InRange s = s.base + s.size ≤ 2 ^ 32

range_each : (bs : List SegmentValue) (i : ℕ) (d : SegmentValue) → All InRange bs → i < length bs → (get_or bs i d).base + (get_or bs i d).size ≤ 2 ^ 32
range_each [] i d all inside = absurd (omega arith)
range_each (b ∷ bs) zero d all inside = All-head InRange b bs all
range_each (b ∷ bs) (suc i) d all inside = range_each bs i d (All-tail InRange b bs all) (omega arith)

-- segments that end by the last address do so when their bytes are written out
filled_in_range : (ss : List SegmentValue) → ((k : ℕ) (s : SegmentValue) → k < length ss → s ≡ get_or ss k s → s.base + s.size ≤ 2 ^ 32) → All InRange (map filled ss)
filled_in_range [] h = All-nil InRange
filled_in_range (s ∷ ss) h = All-cons InRange (filled s) (map filled ss) (h 0 s (omega arith) refl) (filled_in_range ss (λ k t low is. h (suc k) t (omega arith) is))

-- sorted blocks of a sound image are in order
pub sorted_order : (entry : ℕ) (ss bs ys : List SegmentValue) → IsSound entry ss → bs ≡ map filled ss → IsPermutation bs ys → IsNonDecreasingBy (λ (b : SegmentValue). b.base) ys → IsInOrder ys
sorted_order entry ss bs ys is_sound made moved up =
    let spans : List Span = map span_of (map filled ss) in
    let full : filter is_filled spans ≡ spans = none_empty ss (space_from_sound entry ss is_sound).0 in
    let moves : IsPermutation spans (map span_of ys) = IsPermutation-map span_of (map filled ss) ys (rw (← made) moved) in
    let apart : any_overlap spans ≡ false = same_overlap ss ∙ apart_from_sound entry ss is_sound in
    let decides : not (stands_in_row 0 (map span_of ys)) ≡ false = row_decides spans (map span_of ys) (rw full moves) (spans_sorted ys up) ∙ apart in
    let in_row : stands_in_row 0 (map span_of ys) ≡ true = elim (cases_Bool (stands_in_row 0 (map span_of ys))) [ inl yes_ ↦ yes_ | inr no_ ↦ absurd (let bad : true ≡ false = rw no_ at decides in search rules) ] in
    let ranges : All InRange ys = All-permutation InRange (map filled ss) ys (rw (← made) moved) (filled_in_range ss (λ k s low is. (extent_from_sound entry ss k s is_sound low is).0)) in
    record { apart = row_apart 0 ys in_row; in_range = λ i d inside. range_each ys i d ranges inside }
