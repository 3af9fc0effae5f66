-- the memory of segments, in order, and the pages that they need
use Rattle.std.proofs.Common.{◌≡◌, ℕ, min, max, ◌+◌, ◌-◌, ◌*◌, ◌/◌, ◌^◌, ◌<◌, ◌≤◌, Bool, true, false, ◌&&◌, leb, ltb, List, [], ◌∷◌, take, drop, length, get_or, arith, rules, Option, ◌∙◌, sym, ap, ap₂, refl, inl, inr}
use Rattle.std.proofs.lemmas.Bool.{cases_Bool}
use Rattle.std.proofs.lemmas.Bool.Decides.{nat_tests}
use Rattle.std.proofs.lemmas.List.{drop_more, get_or_default}
use Rattle.std.proofs.lemmas.List.Elements.{All-weaker, All-more}
use Rattle.std.proofs.Math.Path.{fun_ext}
use Rattle.std.specs.List.{All}
use Rattle.std.specs.Int.{div_ceil}
use Rattle.image.specs.Segment.{SegmentValue}
use Rattle.image.specs.Image.{IsSound, span_of}
use Rattle.image.specs.Spans.{has_address}
use Rattle.image.proofs.Sound.{extent_from_sound}
use Rattle.mem_store.specs.Memory.{Memory}
use Rattle.mem_store.specs.Image.{segments_memory}
use Rattle.mem_paged.specs.Building.{unmapped, over, IsCovered}
use Rattle.mem_paged.specs.Runs.{in_run, with_run}

pub same_memory : (m n : Memory) → ((x : ℕ) → m.rights x ≡ n.rights x) → ((x : ℕ) → m.bytes x ≡ n.bytes x) → m ≡ n
same_memory m n e f = ap₂ (λ (r : ℕ → Option ℕ) (b : ℕ → ℕ). record { rights = r; bytes = b }) (fun_ext e) (fun_ext f)

-- no segment, and one before the others
pub no_segments : segments_memory [] ≡ unmapped
unfolding segments_memory
no_segments = refl

pub segments-cons : (s : SegmentValue) (ss : List SegmentValue) → segments_memory (s ∷ ss) ≡ over s (segments_memory ss)
unfolding segments_memory
segments-cons s ss = same_memory _ _
    (λ x. elim (cases_Bool (has_address x (span_of s))) [ inl here ↦ rw here refl | inr off ↦ rw off refl ])
    (λ x. elim (cases_Bool (has_address x (span_of s))) [ inl here ↦ rw here refl | inr off ↦ rw off refl ])

-- the memory of the last segments, with one more
pub segments-more : (ss : List SegmentValue) (i : ℕ) (s : SegmentValue) (m n : Memory) → i < length ss → s ≡ get_or ss (length ss - 1 - i) s → m ≡ segments_memory (drop (length ss - i) ss)
    → n ≡ over s m → n ≡ segments_memory (drop (length ss - (i + 1)) ss)
segments-more ss i s m n inside is was new =
    let one : length ss - 1 - i ≡ length ss - (i + 1) = omega arith in
    let next : length ss - (i + 1) + 1 ≡ length ss - i = omega arith in
    let read : get_or ss (length ss - (i + 1)) s ≡ s = sym (is ∙ ap (λ j. get_or ss j s) one) in
    new ∙ ap (over s) was ∙ sym (ap segments_memory (drop_more ss (length ss - (i + 1)) s (omega arith)) ∙ rw (read, next) (segments-cons s (drop (length ss - i) ss)))

-- the first bytes of a segment
abbrev pub beginning : SegmentValue → ℕ → SegmentValue
beginning s i = record { base = s.base; size = i; rights = s.rights; bytes = s.bytes }

abbrev has_in : SegmentValue → ℕ → ℕ → Bool
has_in s i x = leb s.base x && ltb x (s.base + i)

pub over_none : (s : SegmentValue) (m : Memory) → over (beginning s 0) m ≡ m
over_none s m = same_memory _ _
    (λ x. (let off : has_in s 0 x ≡ false = grind (arith, nat_tests) in rw off refl))
    (λ x. (let off : has_in s 0 x ≡ false = grind (arith, nat_tests) in rw off refl))

-- one run more of it
run_over : (s : SegmentValue) (m : Memory) (i c : ℕ) → with_run (over (beginning s i) m) (s.base + i) c s.rights s.bytes i ≡ over (beginning s (i + c)) m
run_over s m i c = same_memory _ _
    (λ x. elim (cases_Bool (in_run (s.base + i) c x)) [
      | inl here ↦ (let h : has_in s (i + c) x ≡ true = grind (arith, nat_tests) in rw (here, h) refl)
      | inr off ↦ (let h : has_in s (i + c) x ≡ has_in s i x = grind (arith, nat_tests) in rw (off, h) refl)
    ])
    (λ x. elim (cases_Bool (in_run (s.base + i) c x)) [
      | inl here ↦ (let low : s.base + i ≤ x = search rules in let h : has_in s (i + c) x ≡ true = grind (arith, nat_tests) in
          let k : i + (x - (s.base + i)) ≡ x - s.base = omega arith in rw (here, h, k) refl)
      | inr off ↦ (let h : has_in s (i + c) x ≡ has_in s i x = grind (arith, nat_tests) in rw (off, h) refl)
    ])

-- the same for a segment given by its fields
pub run_over_seen : (s t : SegmentValue) (m n : Memory) (i c : ℕ) (bytes : List ℕ) → t ≡ s → bytes ≡ t.bytes → n ≡ over (beginning s i) m
    → with_run n (t.base + i) c t.rights bytes i ≡ over (beginning s (i + c)) m
run_over_seen s t m n i c bytes seen is was =
    ap (λ (bs : List ℕ). with_run n (t.base + i) c t.rights bs i) is ∙ ap (λ (u : SegmentValue). with_run n (u.base + i) c u.rights u.bytes i) seen
    ∙ ap (λ (k : Memory). with_run k (s.base + i) c s.rights s.bytes i) was ∙ run_over s m i c

-- all of it
pub over_whole : (s : SegmentValue) (i : ℕ) (m : Memory) → i ≡ s.size → over (beginning s i) m ≡ over s m
over_whole s i m e = ap (λ (n : ℕ). over (beginning s n) m) e

-- the pages from `first` on and below `end` have all addresses of a segment
abbrev pub IsBetween : ℕ → ℕ → SegmentValue → Type 0
IsBetween first end s = (first * 4096 ≤ s.base) × (s.base + s.size ≤ end * 4096)

pub between_more : (ss : List SegmentValue) (i first end first' end' : ℕ) (s : SegmentValue) → i < length ss → s ≡ get_or ss i s → All (IsBetween first end) (take i ss)
    → first' ≤ first → end ≤ end' → first' * 4096 ≤ s.base → s.base + s.size ≤ end' * 4096 → All (IsBetween first' end') (take (i + 1) ss)
between_more ss i first end first' end' s inside is all lower higher from to =
    All-more (IsBetween first' end') ss i s inside
    (All-weaker (IsBetween first end) (IsBetween first' end') (λ t h. (omega (arith, h, lower), omega (arith, h, higher))) (take i ss) all)
    (rw (← is) (from, to))

-- one segment more
pub between_next : (ss : List SegmentValue) (i first end first' end' : ℕ) (s : SegmentValue) → i < length ss → s ≡ get_or ss i s → s.base + s.size ≤ 2 ^ 32
    → (first ≤ 2 ^ 20) → (end ≤ 2 ^ 20) → All (IsBetween first end) (take i ss) → first' ≡ min first (s.base / 4096) → end' ≡ max end (div_ceil (s.base + s.size) 4096)
    → record { lowest : first' ≤ 2 ^ 20; highest : end' ≤ 2 ^ 20; between : All (IsBetween first' end') (take (i + 1) ss) }
between_next ss i first end first' end' s inside is fits low high all new_first new_end = record {
  lowest = omega arith;
  highest = omega arith;
  between = between_more ss i first end first' end' s inside is all (omega arith) (omega arith) (omega arith) (omega arith);
}

pub covered_from : (ss : List SegmentValue) (first end : ℕ) → All (IsBetween first end) ss → All (IsCovered first (end - first)) ss
covered_from ss first end all = All-weaker (IsBetween first end) (IsCovered first (end - first)) (λ t h. (h.0, omega (arith, h))) ss all

-- each segment of an image ends by the last address
pub sound_ends : (entry : ℕ) (ss : List SegmentValue) → IsSound entry ss → All (λ s. s.base + s.size ≤ 2 ^ 32) ss
sound_ends entry ss is_sound = λ k d inside. (extent_from_sound entry ss k (get_or ss k d) is_sound inside (get_or_default ss k d (get_or ss k d) inside)).0
