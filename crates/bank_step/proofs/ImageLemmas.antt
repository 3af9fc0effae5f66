-- Bytes that one segment has.
use Rattle.std.proofs.Common.{◌≡◌, ℕ, zero, suc, ◌+◌, ◌-◌, ◌%◌, ◌^◌, ◌<◌, ◌≤◌, Bool, true, false, not, ◌&&◌, List, [], ◌∷◌, Option, Some, refl, ap, ap₂, sym, ◌∙◌, arith}
use Rattle.std.specs.Prelude.{slice_index, slice_index_or}
use Rattle.image.specs.Segment.{SegmentValue}
use Rattle.mem_store.specs.Memory.{grants, granted, all_below, to_write}
use Rattle.mem_store.specs.Image.{segments_memory, segment_at, byte_in, rights_in}
use Rattle.bank_laws.specs.Table.{is_unwritable}
use Rattle.bank_laws.specs.Words.{bytes_at}

abbrev pub AllIn : List SegmentValue → ℕ → ℕ → SegmentValue → Type 0
AllIn ss address n s = (k : ℕ) → k < n → segment_at ss (address + k) ≡ Some s

one_right : (n : ℕ) (f : ℕ → Bool) (g : Bool) → ((k : ℕ) → k < suc n → f k ≡ g) → all_below (suc n) f ≡ g
one_right zero f g e = e 0 (omega arith)
one_right (suc n) f g e = ap₂ (λ (a b : Bool). a && b) (one_right n f g (λ k low. e k (omega (arith, low)))) (e (suc n) (omega arith)) ∙ twice g
  where
    twice : (g : Bool) → (g && g) ≡ g
    twice true = refl
    twice false = refl

pub granted_in_one : (ss : List SegmentValue) (wanted address n : ℕ) (s : SegmentValue) → (n ≡ 0 → ⊥) → AllIn ss address n s
    → granted wanted (segments_memory ss) n address ≡ grants wanted (Some s.rights)
unfolding segments_memory
granted_in_one ss wanted address zero s some e = absurd (some refl)
granted_in_one ss wanted address (suc n) s some e =
    one_right n (λ k. grants wanted (rights_in (segment_at ss (address + k)))) (grants wanted (Some s.rights)) (λ k low. ap (λ (o : Option SegmentValue). grants wanted (rights_in o)) (e k low))

pub unwritable_in_one : (ss : List SegmentValue) (address : ℕ) (s : SegmentValue) → address + 4 ≤ 2 ^ 32 → AllIn ss address 4 s
    → is_unwritable (segments_memory ss) address ≡ not (grants to_write (Some s.rights))
unfolding segments_memory
unwritable_in_one ss address s fits e =
    one_right 3 (λ k. not (grants to_write (rights_in (segment_at ss ((address + k) % 2 ^ 32))))) (not (grants to_write (Some s.rights)))
    (λ k low. let place : (address + k) % 2 ^ 32 ≡ address + k = omega (arith, fits, low) in
    ap (λ (x : ℕ). not (grants to_write (rights_in (segment_at ss x)))) place
    ∙ ap (λ (o : Option SegmentValue). not (grants to_write (rights_in o))) (e k low))

byte_in_one : (ss : List SegmentValue) (address : ℕ) (s : SegmentValue) (k : ℕ) → AllIn ss address 4 s → k < 4 → byte_in (segment_at ss (address + k)) (address + k) ≡ slice_index s.bytes (address + k - s.base)
byte_in_one ss address s k e low = ap (λ (o : Option SegmentValue). byte_in o (address + k)) (e k low)

pub bytes_in_one : (ss : List SegmentValue) (address : ℕ) (s : SegmentValue) → AllIn ss address 4 s → s.base ≤ address
    → slice_index s.bytes (address - s.base) ∷ slice_index s.bytes (address - s.base + 1) ∷ slice_index s.bytes (address - s.base + 2) ∷ slice_index s.bytes (address - s.base + 3) ∷ []
    ≡ bytes_at (segments_memory ss).bytes address
unfolding segments_memory
bytes_in_one ss address s e low =
    let at : (k : ℕ) → k < 4 → slice_index s.bytes (address - s.base + k) ≡ byte_in (segment_at ss (address + k)) (address + k) =
    λ k below. (let same : address - s.base + k ≡ address + k - s.base = omega (arith, low) in ap (slice_index s.bytes) same ∙ sym (byte_in_one ss address s k e below)) in
    let first : slice_index s.bytes (address - s.base) ≡ byte_in (segment_at ss address) address =
    (let here : address - s.base + 0 ≡ address - s.base = omega arith in
    let there : address + 0 ≡ address = omega arith in
    ap (slice_index s.bytes) (sym here) ∙ at 0 (omega arith) ∙ ap (λ (x : ℕ). byte_in (segment_at ss x) x) there) in
    λ i. first i ∷ at 1 (omega arith) i ∷ at 2 (omega arith) i ∷ at 3 (omega arith) i ∷ []

-- the same for the segment as the code sees it
pub bytes_seen : (ss : List SegmentValue) (address : ℕ) (s : SegmentValue) (bytes : List ℕ) (offset : ℕ) → AllIn ss address 4 s → s.base ≤ address → bytes ≡ s.bytes → offset ≡ address - s.base
    → slice_index_or bytes offset 0 ∷ slice_index_or bytes (offset + 1) 0 ∷ slice_index_or bytes (offset + 2) 0 ∷ slice_index_or bytes (offset + 3) 0 ∷ [] ≡ bytes_at (segments_memory ss).bytes address
bytes_seen ss address s bytes offset e low is at =
    ap₂ (λ (xs : List ℕ) (i : ℕ). slice_index_or xs i 0 ∷ slice_index_or xs (i + 1) 0 ∷ slice_index_or xs (i + 2) 0 ∷ slice_index_or xs (i + 3) 0 ∷ []) is at
    ∙ bytes_in_one ss address s e low
