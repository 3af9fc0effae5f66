-- the block of an address among blocks in order
use Rattle.std.proofs.Common.{◌≡◌, ℕ, zero, suc, ◌+◌, ◌-◌, ◌^◌, ◌<◌, ◌≤◌, Bool, true, false, List, [], ◌∷◌, length, get_or, arith, rules, ◌∙◌, sym, ap, refl, subst, inl, inr, ◌⊎◌, Some, None}
use Rattle.std.proofs.lemmas.Bool.{cases_Bool, cases_lt}
use Rattle.std.proofs.lemmas.Bool.Decides.{nat_tests}
use Rattle.std.proofs.lemmas.List.{get_or_default}
use Rattle.std.specs.List.{slice_get, All, Contains}
use Rattle.std.specs.List.Sorted.{IsPermutation}
use Rattle.std.proofs.lemmas.List.Sorted.{All-permutation, Contains-permutation}
use Rattle.std.proofs.lemmas.List.Elements.{All-head, All-tail, All-cons, All-nil}
use Rattle.image.specs.Segment.{SegmentValue}
use Rattle.image.specs.Image.{span_of}
use Rattle.image.specs.Spans.{has_address}
use Rattle.mem_store.specs.Image.{segment_at}
use Rattle.mem_flat.specs.Blocks.{IsInOrder, IsInside, StandsAt}

-- whether a block has an address
abbrev pub has : SegmentValue → ℕ → Bool
has b x = has_address x (span_of b)

-- no block before low or from high on has an address
pub record NoneOutside (bs : List SegmentValue) (x low high : ℕ) : Type 0 where
  pub below : (k : ℕ) (d : SegmentValue) → k < low → k < length bs → has (get_or bs k d) x ≡ false
  pub above : (k : ℕ) (d : SegmentValue) → high ≤ k → k < length bs → has (get_or bs k d) x ≡ false

pub starts : (bs : List SegmentValue) (x : ℕ) → NoneOutside bs x 0 (length bs)
starts bs x = record { below = λ k d low inside. absurd (omega arith); above = λ k d high inside. absurd (omega arith) }

-- a read with a default of one's own
pub here_is : (bs : List SegmentValue) (m : ℕ) (b d : SegmentValue) → m < length bs → b ≡ get_or bs m b → get_or bs m d ≡ b
here_is bs m b d inside is = get_or_default bs m d b inside ∙ sym is

missed_low : (b : SegmentValue) (x : ℕ) → x < b.base → has b x ≡ false
missed_low b x under = grind (arith, nat_tests)

missed_high : (b : SegmentValue) (x : ℕ) → b.base + b.size ≤ x → has b x ≡ false
missed_high b x over = grind (arith, nat_tests)

-- an address before a block's base is in no later block
pub goes_down : (bs : List SegmentValue) (x low high m : ℕ) (b : SegmentValue) → IsInOrder bs → NoneOutside bs x low high → m < length bs → b ≡ get_or bs m b → x < b.base → NoneOutside bs x low m
goes_down bs x low high m b order h inside is under = record {
  below = h.below;
  above = λ k d from lt.
      let at_m : x < (get_or bs m d).base = subst (λ (c : SegmentValue). x < c.base) (sym (here_is bs m b d inside is)) under in
      elim (cases_lt m k) [
        | inl later ↦ missed_low (get_or bs k d) x (omega (arith, order.apart m k d later lt))
        | inr here ↦ (let e : k ≡ m = omega arith in missed_low (get_or bs k d) x (rw e at_m))
      ];
}

-- an address from a block's end on is in no earlier block
pub goes_up : (bs : List SegmentValue) (x low high m : ℕ) (b : SegmentValue) → IsInOrder bs → NoneOutside bs x low high → m < length bs → b ≡ get_or bs m b → b.base + b.size ≤ x → NoneOutside bs x (m + 1) high
goes_up bs x low high m b order h inside is over = record {
  below = λ k d to lt.
      let at_m : (get_or bs m d).base + (get_or bs m d).size ≤ x = subst (λ (c : SegmentValue). c.base + c.size ≤ x) (sym (here_is bs m b d inside is)) over in
      elim (cases_lt k m) [
        | inl earlier ↦ missed_high (get_or bs k d) x (omega (arith, order.apart k m d earlier inside))
        | inr here ↦ (let e : k ≡ m = omega arith in missed_high (get_or bs k d) x (rw e at_m))
      ];
  above = h.above;
}

pub rest : (c : SegmentValue) (bs : List SegmentValue) → IsInOrder (c ∷ bs) → IsInOrder bs
rest c bs order = record {
  apart = λ i j d before lt. order.apart (suc i) (suc j) d (omega arith) (omega arith);
  in_range = λ i d lt. order.in_range (suc i) d (omega arith);
}

pub found : (bs : List SegmentValue) (x m : ℕ) (b : SegmentValue) → IsInOrder bs → m < length bs → b ≡ get_or bs m b → has b x ≡ true → segment_at bs x ≡ Some b
found [] x m b order inside is here = absurd (omega arith)
found (c ∷ bs) x zero b order inside is here =
    let h : has c x ≡ true = subst (λ (e : SegmentValue). has e x ≡ true) is here in
    rw h (ap Some (sym is))
found (c ∷ bs) x (suc m) b order inside is here =
    let o = order.apart 0 (suc m) b (omega arith) inside in
    let base : b.base ≤ x = grind (arith, nat_tests) in
    let same : (get_or bs m b).base ≡ b.base = ap (λ (e : SegmentValue). e.base) (sym is) in
    let off : has c x ≡ false = missed_high c x (omega (arith, o, same)) in
    rw off (found bs x m b (rest c bs order) (omega arith) is here)

pub nowhere : (bs : List SegmentValue) (x low high : ℕ) → high ≤ low → NoneOutside bs x low high → segment_at bs x ≡ None
nowhere [] x low high end h = refl
nowhere (b ∷ bs) x low high end h =
    let off : has b x ≡ false = (elim (cases_lt 0 low) [ inl some ↦ h.below 0 b some (omega arith) | inr none ↦ h.above 0 b (omega arith) (omega arith) ]) in
    rw off (nowhere bs x (low - 1) (high - 1) (omega arith) (record {
      below = λ k d to lt. h.below (suc k) d (omega arith) (omega arith);
      above = λ k d from lt. elim (cases_lt (suc k) high) [
        | inl lower ↦ h.below (suc k) d (omega arith) (omega arith)
        | inr upper ↦ h.above (suc k) d upper (omega arith)
      ];
    }))

pub slice_there : (bs : List SegmentValue) (m : ℕ) (b : SegmentValue) → m < length bs → b ≡ get_or bs m b → slice_get bs m ≡ Some b
slice_there [] m b inside is = absurd (omega arith)
slice_there (c ∷ bs) zero b inside is = ap Some (sym is)
slice_there (c ∷ bs) (suc m) b inside is = slice_there bs m b (omega arith) is

-- the result of the search if a block contains the address
pub stands_there : (bs : List SegmentValue) (x m base size : ℕ) (b : SegmentValue) → m < length bs → b ≡ get_or bs m b → base ≡ b.base → size ≡ b.size → base ≤ x → x - base < size
    → StandsAt bs x 1 m (x - base)
stands_there bs x m base size b inside is base_is size_is above low =
    (inside, λ c e. (let same : Some b ≡ Some c = sym (slice_there bs m b inside is) ∙ e in let s : b ≡ c = search rules in rw (← s) (omega arith, omega arith)))

-- the place of an access in a block that was read
pub inside_block : (bs : List SegmentValue) (a n i o : ℕ) (b : SegmentValue) → StandsAt bs a n i o → b ≡ get_or bs i b → IsInside b a n o
inside_block bs a n i o b stands is = stands.1 b (slice_there bs i b stands.0 is)

-- such an access ends within the address space
pub ends_below : (bs : List SegmentValue) (a n i o : ℕ) (b : SegmentValue) → IsInOrder bs → StandsAt bs a n i o → b ≡ get_or bs i b → a + n ≤ 2 ^ 32
ends_below bs a n i o b order stands is =
    let inside = inside_block bs a n i o b stands is in
    let ends : b.base + b.size ≤ 2 ^ 32 = subst (λ (c : SegmentValue). c.base + c.size ≤ 2 ^ 32) (sym is) (order.in_range i b stands.0) in
    omega (arith, inside, ends)

-- more of a block
pub stands_more : (bs : List SegmentValue) (a n m i o size : ℕ) (b : SegmentValue) → StandsAt bs a n i o → b ≡ get_or bs i b → size ≡ b.size → o ≤ size → m ≤ size - o → StandsAt bs a m i o
stands_more bs a n m i o size b stands is size_is low room = (
  stands.0,
  λ c e. (let same : Some b ≡ Some c = sym (slice_there bs i b stands.0 is) ∙ e in let s : b ≡ c = search rules in
      rw (← s) ((inside_block bs a n i o b stands is).0, omega arith)),
)

hit : (xs : List SegmentValue) (x : ℕ) → (segment_at xs x ≡ None) ⊎ ((b : SegmentValue) × Contains xs b × (has b x ≡ true) × (segment_at xs x ≡ Some b))
hit [] x = inl refl
hit (c ∷ xs) x = elim (cases_Bool (has c x)) [
  | inl here ↦ inr (c, (0, omega arith, refl), here, rw here refl)
  | inr off ↦ (elim (hit xs x) [
    | inl none ↦ inl (rw off none)
    | inr r ↦ inr (r.0, (suc r.1.0, omega (arith, r.1.1), r.1.2), r.2, rw off r.3)
  ])
]

none_has : (xs : List SegmentValue) (x : ℕ) → segment_at xs x ≡ None → All (λ b. has b x ≡ false) xs
none_has [] x e = All-nil (λ b. has b x ≡ false)
none_has (c ∷ xs) x e = elim (cases_Bool (has c x)) [
  | inl here ↦ (let no : segment_at (c ∷ xs) x ≡ Some c = rw here refl in absurd (cc))
  | inr off ↦ All-cons (λ b. has b x ≡ false) c xs off (none_has xs x (rw off at e))
]

none_of : (xs : List SegmentValue) (x : ℕ) → All (λ b. has b x ≡ false) xs → segment_at xs x ≡ None
none_of [] x h = refl
none_of (c ∷ xs) x h = rw (All-head (λ b. has b x ≡ false) c xs h) (none_of xs x (All-tail (λ b. has b x ≡ false) c xs h))

-- sorting blocks that share no address changes no address
pub same_map : (xs ys : List SegmentValue) → IsPermutation xs ys → IsInOrder ys → (x : ℕ) → segment_at ys x ≡ segment_at xs x
same_map xs ys moved order x = elim (hit xs x) [
  | inl none ↦ none_of ys x (All-permutation (λ b. has b x ≡ false) xs ys moved (none_has xs x none)) ∙ sym none
  | inr r ↦ (let there : Contains ys r.0 = Contains-permutation xs ys r.0 moved r.1 in
      found ys x there.0 r.0 order there.1 (sym there.2) r.2 ∙ sym r.3)
]
