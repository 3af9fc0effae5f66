-- A world of an object, by its data words: no proof above these speaks of a byte.
use Rattle.std.proofs.Math.Nat.{zero-div}
use Rattle.std.proofs.Common.{◌≡◌, ◌≢◌, ℕ, ◌+◌, ◌-◌, ◌*◌, ◌/◌, ◌%◌, ◌^◌, ◌<◌, ◌≤◌, true, false, if◌then◌else◌, ◌==◌, ◌&&◌, nat_lt, nat_le, List, length, set, Option, Some, None, ap, ◌∙◌, ◌⊎◌, inl, inr, arith, le-leb, lt-ltb, eq-eqb, ne_eqb}
use Rattle.mem_store.specs.Memory.{Memory, stored, number_at}
use Rattle.mem_store.specs.Image.{segment_at, rights_in, byte_in, segments_memory, image_memory}
use Rattle.hart_reservations.specs.Marks.{Marks, ended, word_of}
use Rattle.hart_step.specs.Hart.{HartValue, Registers}
use Rattle.hart_step.specs.Fault.{load_fault, store_fault}
use Rattle.hart_step.specs.Effect.{Site, site, goes_on, stores}
use Rattle.hart_step.specs.Step.{unless}
use Rattle.hart_step.specs.declared.hart.HartState.TheVariants.{Running}
use Rattle.hart_step.specs.declared.hart.Cause.{Cause}
use Rattle.machine.specs.World.{World, placed}
use Rattle.object_library.specs.Images.{object_image}

-- one word of the data changes
abbrev pub with_word : (words : ℕ → ℕ) (k v : ℕ) → ℕ → ℕ
with_word words k v q = if q == k then v else words q

-- byte j of the data
abbrev pub data_byte : (words : ℕ → ℕ) (j : ℕ) → ℕ
data_byte words j = (words (j / 4) / 256 ^ (j % 4)) % 256

-- the rights that an object's image gives
abbrev pub shaped_rights : (text : List ℕ) (zeros : ℕ) → ℕ → Option ℕ
shaped_rights text zeros a = rights_in (segment_at (object_image text zeros).segments a)

-- its text, and the data that these words spell
abbrev pub shaped_bytes : (text : List ℕ) (zeros : ℕ) (words : ℕ → ℕ) → ℕ → ℕ
shaped_bytes text zeros words a =
    if nat_le 0x11000 a && nat_lt a (0x11000 + zeros) then data_byte words (a - 0x11000)
    else byte_in (segment_at (object_image text zeros).segments a) a

abbrev pub shaped_memory : (text : List ℕ) (zeros : ℕ) (words : ℕ → ℕ) → Memory
shaped_memory text zeros words = record {
  rights = shaped_rights text zeros;
  bytes = shaped_bytes text zeros words;
}

-- the word at an address
abbrev pub word : (ℕ → ℕ) → ℕ → ℕ
word bytes a = number_at bytes 4 a

-- the reservations after hart h has stored at an address
abbrev pub stored_by : (h a : ℕ) → Marks → Marks
stored_by h a reserved = ended reserved h (word_of a)

pub in_true : (a n b : ℕ) → a ≤ b → b < a + n → (nat_le a b && nat_lt b (a + n)) ≡ true
in_true a n b h k = rw (le-leb a b h, lt-ltb b (a + n) k)

pub in_below : (a n b : ℕ) → b < a → (nat_le a b && nat_lt b (a + n)) ≡ false
in_below a n b h = grind arith

pub in_above : (a n b : ℕ) → a + n ≤ b → (nat_le a b && nat_lt b (a + n)) ≡ false
in_above a n b h = grind arith

pub in_cases : (a n b : ℕ) → (a ≤ b × b < a + n) ⊎ ((b < a) ⊎ (a + n ≤ b))
in_cases a n b = grind arith

pub out : (a n b : ℕ) → (b < a) ⊎ (a + n ≤ b) → (nat_le a b && nat_lt b (a + n)) ≡ false
out a n b (inl h) = in_below a n b h
out a n b (inr h) = in_above a n b h

-- the byte at j of the data
pub byte_at : (text : List ℕ) (zeros : ℕ) (words : ℕ → ℕ) (k j a : ℕ) → j < 4 → 4 * k + 4 ≤ zeros → a ≡ 0x11000 + 4 * k + j →
    shaped_bytes text zeros words a ≡ (words k / 256 ^ j) % 256
byte_at text zeros words k j a small within e =
    let place : (a - 0x11000) / 4 ≡ k = omega arith in
    let part : (a - 0x11000) % 4 ≡ j = omega arith in
    rw (in_true 0x11000 zeros a (omega arith) (omega arith), place, part)

-- a load of a data word
pub word_at : (text : List ℕ) (zeros : ℕ) (words : ℕ → ℕ) (k a : ℕ) → 4 * k + 4 ≤ zeros → a ≡ 0x11000 + 4 * k →
    word (shaped_bytes text zeros words) a ≡ words k % 2 ^ 32
word_at text zeros words k a within e =
    rw (
      byte_at text zeros words k 0 (a + 0) (omega arith) within (omega arith),
      byte_at text zeros words k 1 (a + 1) (omega arith) within (omega arith),
      byte_at text zeros words k 2 (a + 2) (omega arith) within (omega arith),
      byte_at text zeros words k 3 (a + 3) (omega arith) within (omega arith),
    )
    (sum_of (words k))
  where
    sum_of : (x : ℕ) → 0 + (x / 256 ^ 0) % 256 * 256 ^ 0 + (x / 256 ^ 1) % 256 * 256 ^ 1 + (x / 256 ^ 2) % 256 * 256 ^ 2 + (x / 256 ^ 3) % 256 * 256 ^ 3 ≡ x % 2 ^ 32
    sum_of x = omega arith

-- a store of a data word
pub stored_at : (text : List ℕ) (zeros : ℕ) (words : ℕ → ℕ) (k a v : ℕ) → 4 * k + 4 ≤ zeros → a ≡ 0x11000 + 4 * k →
    stored 4 a v (shaped_bytes text zeros words) ≡ shaped_bytes text zeros (with_word words k v)
stored_at text zeros words k a v within e = λ i b. each b (in_cases a 4 b) i
  where
    each : (b : ℕ) → (a ≤ b × b < a + 4) ⊎ ((b < a) ⊎ (a + 4 ≤ b)) →
        stored 4 a v (shaped_bytes text zeros words) b ≡ shaped_bytes text zeros (with_word words k v) b
    each b (inl h) =
        let part : (b - 0x11000) % 4 ≡ b - a = omega arith in
        rw (in_true a 4 b h.0 h.1, in_true 0x11000 zeros b (omega arith) (omega arith), eq-eqb ((b - 0x11000) / 4) k (omega arith), part)
    each b (inr h) = rw (out a 4 b h) (other b h (in_cases 0x11000 zeros b))
      where
        other : (b : ℕ) → ((b < a) ⊎ (a + 4 ≤ b)) → (0x11000 ≤ b × b < 0x11000 + zeros) ⊎ ((b < 0x11000) ⊎ (0x11000 + zeros ≤ b)) →
            shaped_bytes text zeros words b ≡ shaped_bytes text zeros (with_word words k v) b
        other b h (inl g) =
            let apart : (b - 0x11000) / 4 ≢ k = apart_of b h g in
            rw (in_true 0x11000 zeros b g.0 g.1, ne_eqb ((b - 0x11000) / 4) k apart)
          where
            apart_of : (b : ℕ) → ((b < a) ⊎ (a + 4 ≤ b)) → (0x11000 ≤ b × b < 0x11000 + zeros) → (b - 0x11000) / 4 ≢ k
            apart_of b (inl h) g = omega arith
            apart_of b (inr h) g = omega arith
        other b h (inr g) = rw (out 0x11000 zeros b g)

-- the rights to load and store a data word
pub writable : (text : List ℕ) (zeros : ℕ) (a : ℕ) → 4 * length text ≤ 4096 → 0x11000 ≤ a → a < 0x11000 + zeros →
    shaped_rights text zeros a ≡ Some 6
writable text zeros a short low high = rw (in_above 0x10000 (4 * length text) a (omega arith), in_true 0x11000 zeros a low high)

pub may_store : (text : List ℕ) (zeros : ℕ) (words : ℕ → ℕ) (k a : ℕ) → 4 * length text ≤ 4096 → 4 * k + 4 ≤ zeros → a ≡ 0x11000 + 4 * k →
    store_fault (shaped_memory text zeros words) 4 a ≡ None
may_store text zeros words k a short within e =
    rw (
      eq-eqb (a % 4) 0 (omega arith),
      writable text zeros (a + 3) short (omega arith) (omega arith),
      writable text zeros (a + 2) short (omega arith) (omega arith),
      writable text zeros (a + 1) short (omega arith) (omega arith),
      writable text zeros (a + 0) short (omega arith) (omega arith),
    )

pub may_load : (text : List ℕ) (zeros : ℕ) (words : ℕ → ℕ) (k a : ℕ) → 4 * length text ≤ 4096 → 4 * k + 4 ≤ zeros → a ≡ 0x11000 + 4 * k →
    load_fault (shaped_memory text zeros words) 4 a ≡ None
may_load text zeros words k a short within e =
    rw (
      eq-eqb (a % 4) 0 (omega arith),
      writable text zeros (a + 3) short (omega arith) (omega arith),
      writable text zeros (a + 2) short (omega arith) (omega arith),
      writable text zeros (a + 1) short (omega arith) (omega arith),
      writable text zeros (a + 0) short (omega arith) (omega arith),
    )

-- the image's memory has zeros for its data
pub first_memory : (text : List ℕ) (zeros : ℕ) → 4 * length text ≤ 4096 →
    image_memory (object_image text zeros) ≡ shaped_memory text zeros (λ k. 0)
unfolding segments_memory
first_memory text zeros short = λ i. record { rights = shaped_rights text zeros; bytes = λ a. each a (in_cases 0x11000 zeros a) i }
  where
    each : (a : ℕ) → (0x11000 ≤ a × a < 0x11000 + zeros) ⊎ ((a < 0x11000) ⊎ (0x11000 + zeros ≤ a)) →
        byte_in (segment_at (object_image text zeros).segments a) a ≡ shaped_bytes text zeros (λ k. 0) a
    each a (inl g) = rw (in_above 0x10000 (4 * length text) a (omega arith), in_true 0x11000 zeros a g.0 g.1) (nothing ((a - 0x11000) % 4))
      where
        nothing : (j : ℕ) → 0 ≡ (0 / 256 ^ j) % 256
        nothing j = rw zero-div
    each a (inr g) = rw (out 0x11000 zeros a g)

-- a running hart
abbrev pub on : Registers → ℕ → HartValue
on x pc = record { registers = x; pc = pc; state = Running }

-- a world of an object
abbrev pub shaped : (text : List ℕ) (zeros : ℕ) → List HartValue → (words : ℕ → ℕ) → Marks → World
shaped text zeros harts words reserved = record { harts = harts; memory = shaped_memory text zeros words; reserved = reserved }

-- what a hart of it sees
abbrev pub sight : (text : List ℕ) (zeros : ℕ) → HartValue → (words : ℕ → ℕ) → Marks → Site
sight text zeros hart words reserved = site hart (shaped_memory text zeros words) reserved

-- what a store of hart h to a data word comes to
pub stores_word : (text : List ℕ) (zeros : ℕ) (harts : List HartValue) (words : ℕ → ℕ) (reserved : Marks) (h k a v : ℕ) (x y : Registers) (pc to : ℕ) →
    4 * length text ≤ 4096 → 4 * k + 4 ≤ zeros → a ≡ 0x11000 + 4 * k →
    placed (shaped text zeros harts words reserved) h
    (unless (store_fault (shaped_memory text zeros words) 4 a) (sight text zeros (on x pc) words reserved) (goes_on (stores (sight text zeros (on x pc) words reserved) h 4 a v) y to))
    ≡ shaped text zeros (set harts h (on y to)) (with_word words k v) (stored_by h a reserved)
stores_word text zeros harts words reserved h k a v x y pc to short within e =
    ap (λ (c : Option Cause). placed (shaped text zeros harts words reserved) h
    (unless c (sight text zeros (on x pc) words reserved) (goes_on (stores (sight text zeros (on x pc) words reserved) h 4 a v) y to)))
    (may_store text zeros words k a short within e)
    ∙ ap (λ (b : ℕ → ℕ). record {
      harts = set harts h (on y to);
      memory = record { rights = shaped_rights text zeros; bytes = b };
      reserved = stored_by h a reserved;
    })
    (stored_at text zeros words k a v within e)
