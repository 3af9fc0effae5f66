-- what blocks in order hold after a store
use Rattle.std.proofs.Common.{◌≡◌, ℕ, zero, suc, ◌+◌, ◌-◌, ◌/◌, ◌%◌, ◌^◌, ◌<◌, ◌≤◌, Bool, true, false, ◌&&◌, eqb, leb, ltb, List, [], ◌∷◌, length, get_or, set, arith, Some, None, rules, ◌∙◌, sym, ap, refl, inl, inr}
use Rattle.std.proofs.lemmas.Bool.{cases_Bool, cases_eq, cases_order}
use Rattle.std.proofs.lemmas.Bool.Decides.{nat_tests}
use Rattle.std.proofs.lemmas.List.{length-set, get_or-set_other, get_or-set_same}
use Rattle.std.proofs.Math.Path.{fun_ext}
use Rattle.std.specs.List.{slice_index}
use Rattle.image.specs.Segment.{SegmentValue}
use Rattle.mem_store.specs.Memory.{Memory, grants, granted, stored}
use Rattle.mem_store.specs.Access.{written}
use Rattle.mem_store.specs.Image.{segment_at, rights_in, byte_in, segments_memory}
use Rattle.mem_flat.specs.Blocks.{IsInOrder, StandsAt, spelled, block_after, Puts}
use Rattle.mem_flat.proofs.OrderLemmas.{has, found, here_is, inside_block}
use Rattle.mem_flat.proofs.ReadLemmas.{granted_here, all_below_each, refused_none}

pub length-spelled : (n : ℕ) (xs : List ℕ) (o v : ℕ) → length (spelled n xs o v) ≡ length xs
length-spelled zero xs o v = refl
length-spelled (suc n) xs o v = length-set (spelled n xs o v) (o + n) (v / 256 ^ n % 256) ∙ length-spelled n xs o v

-- a read of written bytes
pub spelled_in : (n : ℕ) (xs : List ℕ) (o v k : ℕ) → o + n ≤ length xs → k < n → get_or (spelled n xs o v) (o + k) 0 ≡ v / 256 ^ k % 256
spelled_in zero xs o v k room low = absurd (omega arith)
spelled_in (suc n) xs o v k room low = elim (cases_Bool (eqb k n)) [
  | inl at ↦ (let e : k ≡ n = search rules in
      let long : o + n < length (spelled n xs o v) = omega (arith, length-spelled n xs o v) in
      rw e (get_or-set_same (spelled n xs o v) (o + n) (v / 256 ^ n % 256) 0 long))
  | inr off ↦ (let ne : k ≡ n → ⊥ = search rules in
      get_or-set_other (spelled n xs o v) (o + n) (o + k) (v / 256 ^ n % 256) 0 (λ e. ne (omega arith)) ∙ spelled_in n xs o v k (omega arith) (omega arith))
]

-- a read of other bytes
pub spelled_out : (n : ℕ) (xs : List ℕ) (o v j : ℕ) → (o ≤ j → o + n ≤ j) → get_or (spelled n xs o v) j 0 ≡ get_or xs j 0
spelled_out zero xs o v j out = refl
spelled_out (suc n) xs o v j out =
    get_or-set_other (spelled n xs o v) (o + n) j (v / 256 ^ n % 256) 0 (λ e. omega arith) ∙ spelled_out n xs o v j (λ h. omega arith)

-- a block replaced by one that has the same addresses and rights
module _ (b d : SegmentValue) (base : d.base ≡ b.base) (size : d.size ≡ b.size) (rights : d.rights ≡ b.rights) where
  same_has : (x : ℕ) → has d x ≡ has b x
  same_has x = rw (base, size) refl

  pub rights_kept : (bs : List SegmentValue) (i x : ℕ) → i < length bs → b ≡ get_or bs i b → rights_in (segment_at (set bs i d) x) ≡ rights_in (segment_at bs x)
  rights_kept [] i x inside is = absurd (omega arith)
  rights_kept (c ∷ bs) zero x inside is = elim (cases_Bool (has b x)) [
    | inl here ↦ (let new : has d x ≡ true = same_has x ∙ here in let old : has c x ≡ true = ap (λ s. has s x) (sym is) ∙ here in rw (new, old) (ap Some (rights ∙ ap (λ s. s.rights) is)))
    | inr off ↦ (let new : has d x ≡ false = same_has x ∙ off in let old : has c x ≡ false = ap (λ s. has s x) (sym is) ∙ off in rw (new, old) refl)
  ]
  rights_kept (c ∷ bs) (suc i) x inside is = elim (cases_Bool (has c x)) [
    | inl here ↦ rw here refl
    | inr off ↦ rw off (rights_kept bs i x (omega arith) is)
  ]

  pub bytes_kept : (bs : List SegmentValue) (i x : ℕ) → i < length bs → b ≡ get_or bs i b → (has b x ≡ true → slice_index d.bytes (x - b.base) ≡ slice_index b.bytes (x - b.base))
      → byte_in (segment_at (set bs i d) x) x ≡ byte_in (segment_at bs x) x
  bytes_kept [] i x inside is same = absurd (omega arith)
  bytes_kept (c ∷ bs) zero x inside is same = elim (cases_Bool (has b x)) [
    | inl here ↦ (let new : has d x ≡ true = same_has x ∙ here in let old : has c x ≡ true = ap (λ s. has s x) (sym is) ∙ here in
        rw (new, old) (ap (λ t. slice_index d.bytes (x - t)) base ∙ same here ∙ ap (λ s. slice_index s.bytes (x - s.base)) is))
    | inr off ↦ (let new : has d x ≡ false = same_has x ∙ off in let old : has c x ≡ false = ap (λ s. has s x) (sym is) ∙ off in rw (new, old) refl)
  ]
  bytes_kept (c ∷ bs) (suc i) x inside is same = elim (cases_Bool (has c x)) [
    | inl here ↦ rw here refl
    | inr off ↦ rw off (bytes_kept bs i x (omega arith) is same)
  ]

  same_extent : (bs : List SegmentValue) (i j : ℕ) (e : SegmentValue) → i < length bs → b ≡ get_or bs i b
      → ((get_or (set bs i d) j e).base ≡ (get_or bs j e).base) × ((get_or (set bs i d) j e).size ≡ (get_or bs j e).size)
  same_extent bs i j e inside is = elim (cases_eq j i) [
    | inl at ↦ (let new : get_or (set bs i d) i e ≡ d = get_or-set_same bs i d e inside in
        let old : get_or bs i e ≡ b = here_is bs i b e inside is in
        rw (at, new, old) (base, size))
    | inr ne ↦ (let kept : get_or (set bs i d) j e ≡ get_or bs j e = get_or-set_other bs i j d e ne in rw kept (refl, refl))
  ]

  pub order_kept : (bs : List SegmentValue) (i : ℕ) → i < length bs → b ≡ get_or bs i b → IsInOrder bs → IsInOrder (set bs i d)
  order_kept bs i inside is order = record {
    apart = λ j k e low long.
        let first = same_extent bs i j e inside is in
        let second = same_extent bs i k e inside is in
        let all = length-set bs i d in
        omega (arith, first, second, order.apart j k e low (omega (arith, all, long)));
    in_range = λ j e long.
        let first = same_extent bs i j e inside is in
        let all = length-set bs i d in
        omega (arith, first, order.in_range j e (omega (arith, all, long)));
  }

-- a number stored in a block
module _ (bs : List SegmentValue) (a n i o v : ℕ) (b d : SegmentValue) (order : IsInOrder bs) (stands : StandsAt bs a n i o) (is : b ≡ get_or bs i b)
    (long : length b.bytes ≡ b.size) (new : d ≡ block_after n b o v) where
  new_base : d.base ≡ b.base
  new_base = ap (λ s. s.base) new

  new_size : d.size ≡ b.size
  new_size = ap (λ s. s.size) new

  new_rights : d.rights ≡ b.rights
  new_rights = ap (λ s. s.rights) new

  new_bytes : d.bytes ≡ spelled n b.bytes o v
  new_bytes = ap (λ s. s.bytes) new

  pub order_after : IsInOrder (set bs i d)
  order_after = order_kept b d new_base new_size new_rights bs i stands.0 is order

  byte_inside : (x : ℕ) → a ≤ x → x < a + n → byte_in (segment_at (set bs i d) x) x ≡ v / 256 ^ (x - a) % 256
  byte_inside x low high =
      let inside = inside_block bs a n i o b stands is in
      let here : has d x ≡ true = grind (arith, nat_tests, inside, new_base, new_size) in
      let there : i < length (set bs i d) = omega (arith, stands.0, length-set bs i d) in
      let at : segment_at (set bs i d) x ≡ Some d = found (set bs i d) x i d order_after there (sym (get_or-set_same bs i d d stands.0)) here in
      let place : x - d.base ≡ o + (x - a) = omega (arith, inside, new_base) in
      ap (λ s. byte_in s x) at ∙ rw (place, new_bytes) (spelled_in n b.bytes o v (x - a) (omega (arith, inside, long)) (omega arith))

  byte_outside : (x : ℕ) → (a ≤ x → a + n ≤ x) → byte_in (segment_at (set bs i d) x) x ≡ byte_in (segment_at bs x) x
  byte_outside x out =
      let inside = inside_block bs a n i o b stands is in
      bytes_kept b d new_base new_size new_rights bs i x stands.0 is (λ here.
      let above : b.base ≤ x = grind (arith, nat_tests) in
      ap (λ xs. slice_index xs (x - b.base)) new_bytes ∙ spelled_out n b.bytes o v (x - b.base) (λ h. omega (arith, inside, out, above)))

  pub memory_after : segments_memory (set bs i d) ≡ written n a v (segments_memory bs)
  unfolding segments_memory
  memory_after =
      let rights : (λ x. rights_in (segment_at (set bs i d) x)) ≡ (λ x. rights_in (segment_at bs x)) = fun_ext (λ x. rights_kept b d new_base new_size new_rights bs i x stands.0 is) in
      let bytes : (λ x. byte_in (segment_at (set bs i d) x) x) ≡ stored n a v (λ x. byte_in (segment_at bs x) x) = fun_ext (λ x. elim (cases_Bool (leb a x && ltb x (a + n))) [
        | inl within ↦ (let low : a ≤ x = search rules in let high : x < a + n = search rules in rw within (byte_inside x low high))
        | inr out ↦ rw out (byte_outside x (λ h. grind (arith, nat_tests)))
      ]) in
      ap (λ f. record { rights = f; bytes = λ x. byte_in (segment_at (set bs i d) x) x }) rights
      ∙ ap (λ f. record { rights = λ x. rights_in (segment_at bs x); bytes = f }) bytes

-- a number that was stored into a writable block
pub puts_here : (bs : List SegmentValue) (a n i o v : ℕ) (b d : SegmentValue) (g : Bool) → IsInOrder bs → StandsAt bs a (suc n) i o → b ≡ get_or bs i b → length b.bytes ≡ b.size → d ≡ block_after (suc n) b o v
    → g ≡ grants 2 (Some b.rights) → g ≡ true → Puts (suc n) a v (segments_memory bs) (segments_memory (set bs i d)) true
puts_here bs a n i o v b d g order stands is long new test hit = (granted_here bs a n i o 2 b order stands is ∙ sym test ∙ hit, memory_after bs a (suc n) i o v b d order stands is long new)

-- one that was not
pub stays_here : (bs cs : List SegmentValue) (a n i o v : ℕ) (b : SegmentValue) (g : Bool) → IsInOrder bs → StandsAt bs a (suc n) i o → b ≡ get_or bs i b → g ≡ grants 2 (Some b.rights) → g ≡ false → cs ≡ bs
    → Puts (suc n) a v (segments_memory bs) (segments_memory cs) false
stays_here bs cs a n i o v b g order stands is test miss same = (granted_here bs a n i o 2 b order stands is ∙ sym test ∙ miss, ap segments_memory same)

-- a store of no bytes
written_none : (m : Memory) (a v : ℕ) → written 0 a v m ≡ m
written_none m a v = ap (λ f. record { rights = m.rights; bytes = f }) (fun_ext (λ x. (let t : (leb a x && ltb x (a + 0)) ≡ false = grind (arith, nat_tests) in rw t refl)))

-- one byte more
written_more : (m : Memory) (n a v w : ℕ) → w ≡ v / 256 ^ n % 256 → written 1 (a + n) w (written n a v m) ≡ written (suc n) a v m
written_more m n a v w is = ap (λ f. record { rights = m.rights; bytes = f }) (fun_ext (λ x. elim (cases_order x (a + n)) [
  | inl at ↦ (let t1 : (leb (a + n) x && ltb x (a + n + 1)) ≡ true = grind (arith, nat_tests) in
      let t3 : (leb a x && ltb x (a + suc n)) ≡ true = grind (arith, nat_tests) in
      let none : x - (a + n) ≡ 0 = omega arith in
      let k : x - a ≡ n = omega arith in
      let small : w < 256 = rw is (omega arith) in
      let same : w / 1 % 256 ≡ v / 256 ^ n % 256 = omega (arith, is, small) in
      rw (t1, t3, none, k, same) refl)
  | inr (inl low) ↦ (let t1 : (leb (a + n) x && ltb x (a + n + 1)) ≡ false = grind (arith, nat_tests) in
      let t2 : (leb a x && ltb x (a + n)) ≡ (leb a x && ltb x (a + suc n)) = grind (arith, nat_tests) in
      rw (t1, t2) refl)
  | inr (inr high) ↦ (let t1 : (leb (a + n) x && ltb x (a + n + 1)) ≡ false = grind (arith, nat_tests) in
      let t2 : (leb a x && ltb x (a + n)) ≡ false = grind (arith, nat_tests) in
      let t3 : (leb a x && ltb x (a + suc n)) ≡ false = grind (arith, nat_tests) in
      rw (t1, t2, t3) refl)
]))

-- one byte more that was put
next_put : (old m new : Memory) (n a v w : ℕ) (r : Bool) → m ≡ written n a v old → grants 2 (old.rights (a + n)) ≡ true → w ≡ v / 256 ^ n % 256 → Puts 1 (a + n) w m new r → new ≡ written (suc n) a v old
next_put old m new n a v w true so_far may is put = put.1 ∙ ap (written 1 (a + n) w) so_far ∙ written_more old n a v w is
next_put old m new n a v w false so_far may is put =
    let same : m.rights ≡ old.rights = ap (λ (k : Memory). k.rights) so_far in
    let e : a + n + 0 ≡ a + n = omega arith in
    let bad : grants 2 (old.rights (a + n)) ≡ false = rw (same, e) at put.0 in
    absurd (search rules)

-- the first byte that was put
first_put : (old new : Memory) (a v w : ℕ) (r : Bool) → grants 2 (old.rights (a + 0)) ≡ true → w ≡ v % 256 → Puts 1 a w old new r → new ≡ written 1 a v old
first_put old new a v w r may is put =
    let one : w ≡ v / 256 ^ 0 % 256 = is ∙ (let e : v % 256 ≡ v / 1 % 256 = omega arith in e) in
    let e : a + 0 ≡ a = omega arith in
    next_put old old new 0 a v w r (sym (written_none old a v)) may one (rw e put)

-- a number that was put byte by byte
pub put_two : (m m1 m2 : Memory) (a v w0 w1 : ℕ) (r0 r1 g : Bool) → g ≡ granted 2 m 2 a → g ≡ true → w0 ≡ v % 256 → w1 ≡ v / 256 % 256
    → Puts 1 a w0 m m1 r0 → Puts 1 (a + 1) w1 m1 m2 r1 → Puts 2 a v m m2 true
put_two m m1 m2 a v w0 w1 r0 r1 g test hit b0 b1 p0 p1 =
    let all : granted 2 m 2 a ≡ true = sym test ∙ hit in
    let may : (k : ℕ) → k < 2 → grants 2 (m.rights (a + k)) ≡ true = λ k low. all_below_each 2 k (λ k. grants 2 (m.rights (a + k))) all low in
    let s1 = first_put m m1 a v w0 r0 (may 0 (omega arith)) b0 p0 in
    (all, next_put m m1 m2 1 a v w1 r1 s1 (may 1 (omega arith)) b1 p1)

pub put_four : (m m1 m2 m3 m4 : Memory) (a v w0 w1 w2 w3 : ℕ) (r0 r1 r2 r3 g : Bool) → g ≡ granted 2 m 4 a → g ≡ true → w0 ≡ v % 256 → w1 ≡ v / 256 % 256 → w2 ≡ v / 65536 % 256 → w3 ≡ v / 16777216 % 256
    → Puts 1 a w0 m m1 r0 → Puts 1 (a + 1) w1 m1 m2 r1 → Puts 1 (a + 2) w2 m2 m3 r2 → Puts 1 (a + 3) w3 m3 m4 r3 → Puts 4 a v m m4 true
put_four m m1 m2 m3 m4 a v w0 w1 w2 w3 r0 r1 r2 r3 g test hit b0 b1 b2 b3 p0 p1 p2 p3 =
    let all : granted 2 m 4 a ≡ true = sym test ∙ hit in
    let may : (k : ℕ) → k < 4 → grants 2 (m.rights (a + k)) ≡ true = λ k low. all_below_each 4 k (λ k. grants 2 (m.rights (a + k))) all low in
    let s1 = first_put m m1 a v w0 r0 (may 0 (omega arith)) b0 p0 in
    let s2 = next_put m m1 m2 1 a v w1 r1 s1 (may 1 (omega arith)) b1 p1 in
    let s3 = next_put m m2 m3 2 a v w2 r2 s2 (may 2 (omega arith)) b2 p2 in
    (all, next_put m m3 m4 3 a v w3 r3 s3 (may 3 (omega arith)) b3 p3)

-- a byte that no block has
pub stays_nowhere : (bs : List SegmentValue) (a v : ℕ) → segment_at bs a ≡ None → Puts 1 a v (segments_memory bs) (segments_memory bs) false
stays_nowhere bs a v none =
    let e : a + 0 ≡ a = omega arith in
    let no_ : grants 2 ((segments_memory bs).rights (a + 0)) ≡ false = rw e (refused_none bs a 2 none) in
    (rw no_ refl, refl)

-- a block that is put back leaves the blocks in order
pub order_stays : (bs cs : List SegmentValue) → cs ≡ bs → IsInOrder bs → IsInOrder cs
order_stays bs cs same order = rw same order
