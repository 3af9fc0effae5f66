-- Segments with the low three bits of their rights.
use Rattle.std.proofs.Common.{◌≡◌, ℕ, zero, suc, ◌%◌, ◌<◌, ◌&&◌, true, false, ltb, List, [], ◌∷◌, ◌++◌, ◌+◌, length, get_or, set, take, drop, ◌∙◌, arith, refl, ap, inl, inr, filter, map}
use Rattle.std.proofs.lemmas.Bool.{cases_Bool}
use Rattle.std.proofs.lemmas.Bool.Decides.{nat_tests}
use Rattle.std.specs.List.{list_all}
use Rattle.image.specs.Image.{with_low_rights, has_low_rights, HaveLowRights, is_mapped, span_of}
use Rattle.image.specs.Segment.{SegmentValue}

-- the first n segments with the low bits, the others as they are
abbrev pub lowered : ℕ → List SegmentValue → List SegmentValue
lowered zero ss = ss
lowered (suc n) [] = []
lowered (suc n) (s ∷ ss) = with_low_rights s ∷ lowered n ss

length-lowered : (n : ℕ) (ss : List SegmentValue) → length (lowered n ss) ≡ length ss
length-lowered zero ss = refl
length-lowered (suc n) [] = refl
length-lowered (suc n) (s ∷ ss) = ap suc (length-lowered n ss)

one_more : (n : ℕ) (ss : List SegmentValue) (d : SegmentValue) → n < length ss
    → set (lowered n ss) n (with_low_rights (get_or (lowered n ss) n d)) ≡ lowered (suc n) ss
one_more n [] d lt = absurd (omega arith)
one_more zero (s ∷ ss) d lt = refl
one_more (suc n) (s ∷ ss) d lt = ap (λ t. with_low_rights s ∷ t) (one_more n ss d (omega arith))

-- one segment more has been written
pub lowered_more : (ss items : List SegmentValue) (n : ℕ) (old new : SegmentValue) → items ≡ lowered n ss → n < length items
    → old ≡ get_or items n old → new ≡ with_low_rights old → set items n new ≡ lowered (n + 1) ss
lowered_more ss items n old new is inside there made =
    let next : n + 1 ≡ suc n = omega arith in
    let room : n < length ss = omega (arith, ap length is, length-lowered n ss) in
    let low : new ≡ with_low_rights (get_or (lowered n ss) n old) = made ∙ ap with_low_rights (there ∙ ap (λ t. get_or t n old) is) in
    rw next (ap (λ t. set t n new) is ∙ ap (λ x. set (lowered n ss) n x) low ∙ one_more n ss old room)

lowered_all : (ss : List SegmentValue) → lowered (length ss) ss ≡ map with_low_rights ss
lowered_all [] = refl
lowered_all (s ∷ ss) = ap (λ t. with_low_rights s ∷ t) (lowered_all ss)

none_behind : (ss : List SegmentValue) → take (length ss) (map with_low_rights ss ++ drop (length ss) ss) ≡ map with_low_rights ss
none_behind [] = refl
none_behind (s ∷ ss) = ap (λ t. with_low_rights s ∷ t) (none_behind ss)

-- all have been written
pub lowered_to_the_end : (ss items : List SegmentValue) (n len : ℕ) → items ≡ lowered n ss → n ≡ length items → len ≡ length ss
    → take len (items ++ drop (length items) ss) ≡ map with_low_rights ss
lowered_to_the_end ss items n len is at_end whole =
    let same : length items ≡ length ss = ap length is ∙ length-lowered n ss in
    let all : items ≡ map with_low_rights ss = is ∙ ap (λ k. lowered k ss) (at_end ∙ same) ∙ lowered_all ss in
    rw (whole, same) (ap (λ t. take (length ss) (t ++ drop (length ss) ss)) all ∙ none_behind ss)

-- the low three bits are a number below 8
pub low : (n : ℕ) → ltb (n % 8) 8 ≡ true
low n = grind (arith, nat_tests)

pub low_have_low : (ss : List SegmentValue) → HaveLowRights (map with_low_rights ss)
low_have_low [] = refl
low_have_low (s ∷ ss) = rw (low s.rights, low_have_low ss) refl

-- the spans do not depend on the rights
pub same_spans : (ss : List SegmentValue) → map span_of (map with_low_rights ss) ≡ map span_of ss
same_spans [] = refl
same_spans (s ∷ ss) = ap (λ t. span_of s ∷ t) (same_spans ss)

pub same_mapped : (ss : List SegmentValue) → list_all is_mapped (map with_low_rights ss) ≡ list_all is_mapped ss
same_mapped [] = refl
same_mapped (s ∷ ss) = ap (λ b. is_mapped s && b) (same_mapped ss)
