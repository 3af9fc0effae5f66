-- segments that pass the checks also pass them without the empty ones
use Rattle.std.proofs.Common.{◌≡◌, ℕ, zero, suc, ◌+◌, ◌%◌, ◌^◌, ◌<◌, ◌≤◌, Bool, true, false, not, ◌&&◌, ltb, List, [], ◌∷◌, length, get_or, arith, rules, refl, inl, inr, sum_by, filter, map, Option, Some, None, IsTrue, ◌∙◌}
use Rattle.std.proofs.lemmas.Bool.{cases_Bool}
use Rattle.std.proofs.lemmas.Bool.Decides.{nat_tests}
use Rattle.std.proofs.lemmas.List.Filters.{sum_by-filter_both}
use Rattle.std.specs.List.{list_any, list_all}
use Rattle.std.specs.Prelude.{◌==◌}
use Rattle.std.specs.Option.{is_none}
use Rattle.image.specs.declared.fault.ElfFault.{ElfFault}
use Rattle.image.specs.Spans.{image_limit}
use Rattle.image.specs.declared.span.Span.{Span}
use Rattle.image.specs.Fault.{fault_if}
use Rattle.image.specs.Segment.{SegmentValue}
use Rattle.image.specs.Spans.{has_address, Shares, is_filled, is_over_mem, is_past_end, any_overlap, space_fault}
use Rattle.image.specs.Image.{span_of, is_mapped, with_low_rights, is_sound, IsSound}
use Rattle.image.proofs.RightsLemmas.{same_spans, same_mapped}
use Rattle.image.proofs.Overlap.{shared_decides, filled_counts}

pub passed : (b : Bool) (fault : ElfFault) (later : Option ElfFault) → fault_if b fault later ≡ None → (b ≡ false) × (later ≡ None)
passed true fault later e = cc
passed false fault later e = (refl, e)

none_left : (p q : Span → Bool) (ss : List Span) → list_any p ss ≡ false → list_any p (filter q ss) ≡ false
none_left p q [] e = refl
none_left p q (s ∷ ss) e = elim (cases_Bool (q s)) [
  | inl keep ↦ rw keep (elim (cases_Bool (p s)) [
    | inl hit ↦ (let no : list_any p (s ∷ ss) ≡ true = rw hit refl in cc)
    | inr miss ↦ (let rest : list_any p ss ≡ false = rw miss at e in rw (miss, none_left p q ss rest) refl)
  ])
  | inr drop ↦ rw drop (none_left p q ss (elim (cases_Bool (p s)) [
    | inl hit ↦ (let no : list_any p (s ∷ ss) ≡ true = rw hit refl in cc)
    | inr miss ↦ rw miss at e
  ]))
]

shared_left : (ss : List Span) → any_overlap ss ≡ false → any_overlap (filter is_filled ss) ≡ false
shared_left ss e = elim (cases_Bool (any_overlap (filter is_filled ss))) [
  | inl hit ↦ (let h : Shares (filter is_filled ss) = (shared_decides (filter is_filled ss)).0 hit in
      let two : 2 ≤ length (filter (has_address h.0) ss) = rw (← filled_counts h.0 ss) h.1 in
      let back : any_overlap ss ≡ true = (shared_decides ss).1 (h.0, two) in cc)
  | inr miss ↦ miss
]

small_left : (ss : List Span) → ltb (image_limit) (sum_by (λ (s : Span). s.size) ss) ≡ false → ltb (image_limit) (sum_by (λ (s : Span). s.size) (filter is_filled ss)) ≡ false
small_left ss e =
    let parts = sum_by-filter_both is_filled (λ s. not (is_filled s)) (λ s. refl) (λ (s : Span). s.size) ss in
    grind (arith, nat_tests, parts)

pub space_left : (ss : List Span) → space_fault ss ≡ None → space_fault (filter is_filled ss) ≡ None
unfolding space_fault
space_left ss e =
    let a = passed (list_any is_over_mem ss) _ _ e in
    let b = passed (list_any is_past_end ss) _ _ a.1 in
    let c = passed (any_overlap ss) _ _ b.1 in
    let d = passed (ltb (image_limit) (sum_by (λ (s : Span). s.size) ss)) _ _ c.1 in
    rw (none_left is_over_mem is_filled ss a.0, none_left is_past_end is_filled ss b.0, shared_left ss c.0, small_left ss d.0) refl

mapped_spans : (ps : List SegmentValue) → map span_of (filter is_mapped ps) ≡ filter is_filled (map span_of ps)
mapped_spans [] = refl
mapped_spans (p ∷ ps) = elim (cases_Bool (is_mapped p)) [
  | inl full ↦ rw (full, mapped_spans ps) refl
  | inr empty ↦ rw (empty, mapped_spans ps) refl
]

all_mapped : (ps : List SegmentValue) → list_all is_mapped (filter is_mapped ps) ≡ true
all_mapped [] = refl
all_mapped (p ∷ ps) = elim (cases_Bool (is_mapped p)) [
  | inl full ↦ rw full (rw (full, all_mapped ps) refl)
  | inr empty ↦ rw empty (all_mapped ps)
]

-- segments that are not empty, whose spans are the filled ones of spans that pass
pub sound_from : (entry : ℕ) (ps : List SegmentValue) (ss : List Span) → list_all is_mapped ps ≡ true → map span_of ps ≡ filter is_filled ss → space_fault ss ≡ None → entry % 4 ≡ 0 → IsSound entry ps
unfolding is_sound
sound_from entry ps ss full same pass aligned =
    let left : space_fault (map span_of ps) ≡ None = rw same (space_left ss pass) in
    rw (aligned, full, left) refl

pub new_is_sound : (entry : ℕ) (ps : List SegmentValue) → space_fault (map span_of ps) ≡ None → entry % 4 ≡ 0 → IsSound entry (map with_low_rights (filter is_mapped ps))
new_is_sound entry ps pass aligned = sound_from entry (map with_low_rights (filter is_mapped ps)) (map span_of ps)
    (same_mapped (filter is_mapped ps) ∙ all_mapped ps) (same_spans (filter is_mapped ps) ∙ mapped_spans ps) pass aligned

-- the checks that a sound image's segments pass
pub space_from_sound : (entry : ℕ) (ss : List SegmentValue) → IsSound entry ss → (list_all is_mapped ss ≡ true) × (space_fault (map span_of ss) ≡ None)
unfolding is_sound
space_from_sound entry ss h = elim (cases_Bool (list_all is_mapped ss)) [
  | inl full ↦ (full, none_from (space_fault (map span_of ss)) (second h))
  | inr some ↦ (let no : list_all is_mapped ss ≡ true = first h in absurd (search rules))
]
  where
    first : IsTrue (entry % 4 == 0 && list_all is_mapped ss && is_none (space_fault (map span_of ss))) → list_all is_mapped ss ≡ true
    first t = grind (arith, nat_tests)

    second : IsTrue (entry % 4 == 0 && list_all is_mapped ss && is_none (space_fault (map span_of ss))) → is_none (space_fault (map span_of ss)) ≡ true
    second t = grind (arith, nat_tests)

    none_from : (o : Option ElfFault) → is_none o ≡ true → o ≡ None
    none_from None e = refl
    none_from (Some fault) e = absurd (search rules)

-- no two segments of a sound image share an address
pub apart_from_sound : (entry : ℕ) (ss : List SegmentValue) → IsSound entry ss → any_overlap (map span_of ss) ≡ false
unfolding space_fault
apart_from_sound entry ss h =
    let a = passed (list_any is_over_mem (map span_of ss)) _ _ (space_from_sound entry ss h).1 in
    let b = passed (list_any is_past_end (map span_of ss)) _ _ a.1 in
    (passed (any_overlap (map span_of ss)) _ _ b.1).0

extent_of : (ss : List SegmentValue) (i : ℕ) (s : SegmentValue) → list_any is_over_mem (map span_of ss) ≡ false → list_any is_past_end (map span_of ss) ≡ false → i < length ss → s ≡ get_or ss i s
    → (s.base + s.size ≤ 2 ^ 32) × (length s.bytes ≤ s.size)
extent_of [] i s over past inside is = absurd (omega arith)
extent_of (t ∷ ss) zero s over past inside is =
    let h : (t.base + t.size ≤ 2 ^ 32) × (length t.bytes ≤ t.size) = (grind (arith, nat_tests), grind (arith, nat_tests)) in rw is h
extent_of (t ∷ ss) (suc i) s over past inside is = extent_of ss i s (grind (arith, nat_tests)) (grind (arith, nat_tests)) (omega arith) is

-- each ends within the address space and has no more file bytes than its size
pub extent_from_sound : (entry : ℕ) (ss : List SegmentValue) (i : ℕ) (s : SegmentValue) → IsSound entry ss → i < length ss → s ≡ get_or ss i s → (s.base + s.size ≤ 2 ^ 32) × (length s.bytes ≤ s.size)
unfolding space_fault
extent_from_sound entry ss i s h inside is =
    let a = passed (list_any is_over_mem (map span_of ss)) _ _ (space_from_sound entry ss h).1 in
    let b = passed (list_any is_past_end (map span_of ss)) _ _ a.1 in
    extent_of ss i s a.0 b.0 inside is
