-- what blocks in order hold at an access
use Rattle.std.proofs.Common.{◌≡◌, ℕ, zero, suc, ◌+◌, ◌-◌, ◌<◌, Bool, true, false, cond, List, get_or, arith, Option, Some, None, rules, ◌∙◌, sym, ap, refl, inl, inr}
use Rattle.std.proofs.lemmas.Bool.{cases_Bool, cases_eq}
use Rattle.std.proofs.lemmas.Bool.Decides.{nat_tests}
use Rattle.std.specs.Option.{MatchOption, is_some}
use Rattle.std.specs.List.{slice_index}
use Rattle.image.specs.Segment.{SegmentValue}
use Rattle.mem_store.specs.Memory.{grants, all_below, granted, little_endian, number_at, around}
use Rattle.mem_store.specs.Access.{peeked}
use Rattle.mem_store.specs.Image.{segment_at, rights_in, byte_in, segments_memory}
use Rattle.mem_store.proofs.AroundLemmas.{word_around}
use Rattle.mem_flat.specs.Blocks.{IsInOrder, StandsAt, number_if}
use Rattle.mem_flat.proofs.OrderLemmas.{has, found, inside_block, ends_below}

-- a test that each number passes, and one that the first fails
all_below_true : (n : ℕ) (p : ℕ → Bool) → ((k : ℕ) → k < n → p k ≡ true) → all_below n p ≡ true
all_below_true zero p h = refl
all_below_true (suc n) p h = rw (all_below_true n p (λ k low. h k (omega arith)), h n (omega arith)) refl

all_below_false : (n : ℕ) (p : ℕ → Bool) → p 0 ≡ false → all_below (suc n) p ≡ false
all_below_false zero p h = rw h refl
all_below_false (suc n) p h = rw (all_below_false n p h) refl

pub number_same : (n : ℕ) (f h : ℕ → ℕ) → ((k : ℕ) → k < n → f k ≡ h k) → little_endian n f ≡ little_endian n h
number_same zero f h same = refl
number_same (suc n) f h same = rw (number_same n f h (λ k low. same k (omega arith)), same n (omega arith)) refl

module _ (bs : List SegmentValue) (a n i o : ℕ) (b : SegmentValue) (order : IsInOrder bs) (stands : StandsAt bs a n i o) (is : b ≡ get_or bs i b) where
  -- each byte of the access is the block's
  pub block_here : (k : ℕ) → k < n → segment_at bs (a + k) ≡ Some b
  block_here k low =
      let inside = inside_block bs a n i o b stands is in
      let here : has b (a + k) ≡ true = grind (arith, nat_tests, inside) in
      found bs (a + k) i b order stands.0 is here

  pub rights_here : (k : ℕ) → k < n → (segments_memory bs).rights (a + k) ≡ Some b.rights
  unfolding segments_memory
  rights_here k low = ap rights_in (block_here k low)

  pub byte_here : (k : ℕ) → k < n → (segments_memory bs).bytes (a + k) ≡ slice_index b.bytes (o + k)
  unfolding segments_memory
  byte_here k low =
      let inside = inside_block bs a n i o b stands is in
      let offset : a + k - b.base ≡ o + k = omega (arith, inside) in
      ap (λ s. byte_in s (a + k)) (block_here k low) ∙ ap (slice_index b.bytes) offset

-- an access in a block is granted if the block's rights grant it
pub granted_here : (bs : List SegmentValue) (a n i o wanted : ℕ) (b : SegmentValue) → IsInOrder bs → StandsAt bs a (suc n) i o → b ≡ get_or bs i b
    → granted wanted (segments_memory bs) (suc n) a ≡ grants wanted (Some b.rights)
granted_here bs a n i o wanted b order stands is =
    let rights = rights_here bs a (suc n) i o b order stands is in
    elim (cases_Bool (grants wanted (Some b.rights))) [
      | inl yes_ ↦ rw yes_ (all_below_true (suc n) (λ k. grants wanted ((segments_memory bs).rights (a + k))) (λ k low. rw (rights k low, yes_) refl))
      | inr no_ ↦ rw no_ (all_below_false n (λ k. grants wanted ((segments_memory bs).rights (a + k))) (rw (rights 0 (omega arith), no_) refl))
    ]

-- the number that such an access reads
pub number_here : (bs : List SegmentValue) (a n i o : ℕ) (b : SegmentValue) → IsInOrder bs → StandsAt bs a n i o → b ≡ get_or bs i b
    → number_at (segments_memory bs).bytes n a ≡ little_endian n (λ k. slice_index b.bytes (o + k))
number_here bs a n i o b order stands is = number_same n (λ k. (segments_memory bs).bytes (a + k)) (λ k. slice_index b.bytes (o + k)) (byte_here bs a n i o b order stands is)

-- one byte in a block
pub rights_one : (bs : List SegmentValue) (a i o : ℕ) (b : SegmentValue) → IsInOrder bs → StandsAt bs a 1 i o → b ≡ get_or bs i b → (segments_memory bs).rights a ≡ Some b.rights
rights_one bs a i o b order stands is = let e : a + 0 ≡ a = omega arith in rw e at (rights_here bs a 1 i o b order stands is 0 (omega arith))

pub byte_one : (bs : List SegmentValue) (a i o : ℕ) (b : SegmentValue) → IsInOrder bs → StandsAt bs a 1 i o → b ≡ get_or bs i b → (segments_memory bs).bytes a ≡ slice_index b.bytes o
byte_one bs a i o b order stands is =
    let e : a + 0 ≡ a = omega arith in let f : o + 0 ≡ o = omega arith in
    rw (e, f) at (byte_here bs a 1 i o b order stands is 0 (omega arith))

pub rights_none : (bs : List SegmentValue) (a : ℕ) → segment_at bs a ≡ None → (segments_memory bs).rights a ≡ None
unfolding segments_memory
rights_none bs a e = ap rights_in e

pub peeked_one : (bs : List SegmentValue) (a i o v : ℕ) (b : SegmentValue) → IsInOrder bs → StandsAt bs a 1 i o → b ≡ get_or bs i b → v ≡ slice_index b.bytes o → Some v ≡ peeked (segments_memory bs) a
peeked_one bs a i o v b order stands is value = rw (rights_one bs a i o b order stands is, byte_one bs a i o b order stands is, value) refl

pub peeked_none : (bs : List SegmentValue) (a : ℕ) → segment_at bs a ≡ None → None ≡ peeked (segments_memory bs) a
peeked_none bs a e = rw (rights_none bs a e) refl

-- a byte that is granted, or not
pub given_one : (bs : List SegmentValue) (a i o v wanted : ℕ) (b : SegmentValue) (g : Bool) → IsInOrder bs → StandsAt bs a 1 i o → b ≡ get_or bs i b → g ≡ grants wanted (Some b.rights) → g ≡ true → v ≡ slice_index b.bytes o
    → (grants wanted ((segments_memory bs).rights a) ≡ true) × ((segments_memory bs).bytes a ≡ v)
given_one bs a i o v wanted b g order stands is test hit value = (ap (grants wanted) (rights_one bs a i o b order stands is) ∙ sym test ∙ hit, byte_one bs a i o b order stands is ∙ sym value)

pub refused_one : (bs : List SegmentValue) (a i o wanted : ℕ) (b : SegmentValue) (g : Bool) → IsInOrder bs → StandsAt bs a 1 i o → b ≡ get_or bs i b → g ≡ grants wanted (Some b.rights) → g ≡ false
    → grants wanted ((segments_memory bs).rights a) ≡ false
refused_one bs a i o wanted b g order stands is test miss = ap (grants wanted) (rights_one bs a i o b order stands is) ∙ sym test ∙ miss

pub refused_none : (bs : List SegmentValue) (a wanted : ℕ) → segment_at bs a ≡ None → grants wanted ((segments_memory bs).rights a) ≡ false
refused_none bs a wanted e = ap (grants wanted) (rights_none bs a e)

-- a number that is granted, or not
pub given_number : (bs : List SegmentValue) (a n i o v wanted : ℕ) (b : SegmentValue) (g : Bool) → IsInOrder bs → StandsAt bs a (suc n) i o → b ≡ get_or bs i b → g ≡ grants wanted (Some b.rights) → g ≡ true
    → v ≡ little_endian (suc n) (λ k. slice_index b.bytes (o + k)) → Some v ≡ number_if wanted (segments_memory bs) (suc n) a
given_number bs a n i o v wanted b g order stands is test hit value =
    let granted_is : granted wanted (segments_memory bs) (suc n) a ≡ true = granted_here bs a n i o wanted b order stands is ∙ sym test ∙ hit in
    let number_is : number_at (segments_memory bs).bytes (suc n) a ≡ v = number_here bs a (suc n) i o b order stands is ∙ sym value in
    sym (ap (λ t. cond t (Some (number_at (segments_memory bs).bytes (suc n) a)) None) granted_is ∙ ap Some number_is)

pub refused_number : (bs : List SegmentValue) (a n i o wanted : ℕ) (b : SegmentValue) (g : Bool) → IsInOrder bs → StandsAt bs a (suc n) i o → b ≡ get_or bs i b → g ≡ grants wanted (Some b.rights) → g ≡ false
    → None ≡ number_if wanted (segments_memory bs) (suc n) a
refused_number bs a n i o wanted b g order stands is test miss =
    let granted_is : granted wanted (segments_memory bs) (suc n) a ≡ false = granted_here bs a n i o wanted b order stands is ∙ sym test ∙ miss in
    sym (ap (λ t. cond t (Some (number_at (segments_memory bs).bytes (suc n) a)) None) granted_is)

-- the same with addresses modulo 2^32
pub given_around : (bs : List SegmentValue) (a n i o v wanted : ℕ) (b : SegmentValue) (g : Bool) → IsInOrder bs → StandsAt bs a (suc n) i o → b ≡ get_or bs i b → g ≡ grants wanted (Some b.rights) → g ≡ true
    → v ≡ little_endian (suc n) (λ k. slice_index b.bytes (o + k)) → Some v ≡ number_if wanted (around (segments_memory bs)) (suc n) a
given_around bs a n i o v wanted b g order stands is test hit value =
    given_number bs a n i o v wanted b g order stands is test hit value
    ∙ sym (word_around (segments_memory bs) (suc n) wanted a (ends_below bs a (suc n) i o b order stands is))

-- a test that one number fails
pub all_below_fails : (n k : ℕ) (p : ℕ → Bool) → k < n → p k ≡ false → all_below n p ≡ false
all_below_fails zero k p low h = absurd (omega arith)
all_below_fails (suc n) k p low h = elim (cases_eq k n) [
  | inl e ↦ (let last : p n ≡ false = rw e at h in elim (cases_Bool (all_below n p)) [ inl yes_ ↦ rw (yes_, last) refl | inr no_ ↦ rw no_ refl ])
  | inr ne ↦ rw (all_below_fails n k p (omega arith) h) refl
]

-- a byte without a result is not granted
pub missing_one : {P : Type 0} (Q : ℕ → Type 0) (r : Option ℕ) → MatchOption r P Q → is_some r ≡ false → P
missing_one Q None h e = h
missing_one Q (Some v) h e = absurd (search rules)

-- a test of each number
pub all_below_each : (n k : ℕ) (p : ℕ → Bool) → all_below n p ≡ true → k < n → p k ≡ true
all_below_each n k p h low = elim (cases_Bool (p k)) [
  | inl yes_ ↦ yes_
  | inr no_ ↦ (let bad : all_below n p ≡ false = all_below_fails n k p low no_ in absurd (search rules))
]
