-- the executable segments of an image, as references that are sorted
use Rattle.std.proofs.Common.{◌≡◌, ℕ, ◌+◌, ◌^◌, ◌<◌, ◌≤◌, List, [], ◌∷◌, length, ap, get_or, map, filter, arith, ◌∙◌, sym, IsPermutation}
use Rattle.std.proofs.lemmas.List.{get_or_default, get_or-map, length-map}
use Rattle.std.proofs.lemmas.List.Sorted.{IsPermutation-map, All-permutation}
use Rattle.std.proofs.lemmas.List.Elements.{All-filter}
use Rattle.std.specs.List.{All, flat_map}
use Rattle.std.specs.List.Sorted.{IsNonDecreasingBy}
use Rattle.std.specs.Borrow.{Bor}
use Rattle.image.specs.Segment.{SegmentValue}
use Rattle.image.specs.Image.{IsSound}
use Rattle.image.proofs.Sound.{extent_from_sound}
use Rattle.isa_disasm.specs.Segments.{is_executable, segment_text, HasRoom, ListsSegments, now_of}

-- each segment of an image has room
each_has_room : (entry : ℕ) (ss : List SegmentValue) → IsSound entry ss → All HasRoom ss
each_has_room entry ss sound = λ k d low.
    let s = get_or ss k d in
    let same : s ≡ get_or ss k s = get_or_default ss k d s low in
    let h : (s.base + s.size ≤ 2 ^ 32) × (length s.bytes ≤ s.size) = extent_from_sound entry ss k s sound low same in
    record { end = h.0; held = h.1 }

-- so have those that are executable, in any order
pub all_have_room : (entry : ℕ) (ss : List SegmentValue) (rs sorted : List (Bor SegmentValue)) → IsSound entry ss
    → map now_of rs ≡ filter is_executable ss → IsPermutation rs sorted → All HasRoom (map now_of sorted)
all_have_room entry ss rs sorted sound made moved =
    All-permutation HasRoom (map now_of rs) (map now_of sorted) (IsPermutation-map now_of rs sorted moved)
    (rw made (All-filter is_executable HasRoom ss (each_has_room entry ss sound)))

-- a reference's segment has room
pub room_at : (rs : List (Bor SegmentValue)) (i : ℕ) (r : Bor SegmentValue) → All HasRoom (map now_of rs) → i < length rs → r ≡ get_or rs i r → HasRoom r.now
room_at rs i r all low is =
    let e : get_or (map now_of rs) i r.now ≡ r.now = get_or-map now_of rs i r r.now low ∙ ap (λ (s : Bor SegmentValue). s.now) (sym is) in
    let h : HasRoom (get_or (map now_of rs) i r.now) = all i r.now (rw (length-map rs now_of) low) in
    rw e at h

-- what is sorted by base as references is sorted by base
rising_values : (rs : List (Bor SegmentValue)) → IsNonDecreasingBy (λ (r : Bor SegmentValue). r.now.base) rs → IsNonDecreasingBy (λ (s : SegmentValue). s.base) (map now_of rs)
rising_values (r ∷ rs) up = λ i j d le low.
    let inside : j < length (r ∷ rs) = rw (length-map (r ∷ rs) now_of) at low in
    let first : get_or (map now_of (r ∷ rs)) i d ≡ (get_or (r ∷ rs) i r).now = get_or-map now_of (r ∷ rs) i r d (omega arith) in
    let later : get_or (map now_of (r ∷ rs)) j d ≡ (get_or (r ∷ rs) j r).now = get_or-map now_of (r ∷ rs) j r d inside in
    let h : (get_or (r ∷ rs) i r).now.base ≤ (get_or (r ∷ rs) j r).now.base = up i j r le inside in
    rw first (rw later h)
rising_values [] up = λ i j d le low. absurd (omega arith)

-- the texts of the sorted segments are the listing
pub lists_segments : (ss : List SegmentValue) (rs sorted : List (Bor SegmentValue)) (text : List ℕ)
    → map now_of rs ≡ filter is_executable ss → IsPermutation rs sorted → IsNonDecreasingBy (λ (r : Bor SegmentValue). r.now.base) sorted
    → text ≡ flat_map segment_text (map now_of sorted) → ListsSegments ss text
lists_segments ss rs sorted text made moved up lines = record {
  order = map now_of sorted;
  all = rw (← made) (IsPermutation-map now_of rs sorted moved);
  rising = rising_values sorted up;
  lines = lines;
}
