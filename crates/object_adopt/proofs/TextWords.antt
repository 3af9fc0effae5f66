-- The instructions of an object that a text has from some number on, as a hart fetches them.
use Rattle.std.proofs.Common.{◌≡◌, ℕ, ◌+◌, ◌-◌, ◌*◌, ◌/◌, ◌%◌, ◌^◌, ◌<◌, ◌≤◌, List, length, get_or, Some, refl, sym, ap, ◌∙◌, arith, subst}
use Rattle.mem_store.specs.Access.{fetched}
use Rattle.mem_store.proofs.AroundLemmas.{fetched_below}
use Rattle.object_library.proofs.Shape.{shaped_rights, shaped_bytes, shaped_memory, in_true, in_below}
use Rattle.object_library.proofs.CellLemmas.{byte_at}
use Rattle.object_adopt.specs.Passage.{object_words}
use Rattle.object_adopt.proofs.Instructions.{Point, At1, At2, At3, At4, At5, At6, At7, At8, At9, At10, At11, At12, At13, At14, At15, At16, At17, At18, At19, At20, At21, At22, At23, At24, At25, At26, At27, At28, At29, At30, place, code}

-- ---- one word of a text
executable : (text : List ℕ) (zeros a : ℕ) → 0x10000 ≤ a → a < 0x10000 + 4 * length text → shaped_rights text zeros a ≡ Some 5
executable text zeros a low high = rw (in_true 0x10000 (4 * length text) a low high)

text_byte : (text : List ℕ) (zeros : ℕ) (words : ℕ → ℕ) (k j a : ℕ) → j < 4 → length text ≤ 1024 → k < length text → a ≡ 0x10000 + 4 * k + j →
    shaped_bytes text zeros words a ≡ (get_or text k 0 / 256 ^ j) % 256
text_byte text zeros words k j a small short there e =
    let word : (a - 0x10000) / 4 ≡ k = omega arith in
    let part : (a - 0x10000) % 4 ≡ j = omega arith in
    rw (in_below 0x11000 zeros a (omega arith), in_true 0x10000 (4 * length text) a (omega arith) (omega arith))
    (byte_at text (a - 0x10000) ∙ rw (word, part))

sum_of : (x : ℕ) → x < 2 ^ 32 → 0 + (x / 256 ^ 0) % 256 * 256 ^ 0 + (x / 256 ^ 1) % 256 * 256 ^ 1 + (x / 256 ^ 2) % 256 * 256 ^ 2 + (x / 256 ^ 3) % 256 * 256 ^ 3 ≡ x
sum_of x small = omega arith

text_fetched : (text : List ℕ) (zeros : ℕ) (words : ℕ → ℕ) (k a : ℕ) → length text ≤ 1024 → k < length text → get_or text k 0 < 2 ^ 32 → a ≡ 0x10000 + 4 * k →
    fetched (shaped_memory text zeros words) a ≡ Some (get_or text k 0)
text_fetched text zeros words k a short there small e =
    fetched_below (shaped_memory text zeros words) a (omega arith)
    ∙ rw (
      executable text zeros (a + 3) (omega arith) (omega arith),
      executable text zeros (a + 2) (omega arith) (omega arith),
      executable text zeros (a + 1) (omega arith) (omega arith),
      executable text zeros (a + 0) (omega arith) (omega arith),
      text_byte text zeros words k 0 (a + 0) (omega arith) short there (omega arith),
      text_byte text zeros words k 1 (a + 1) (omega arith) short there (omega arith),
      text_byte text zeros words k 2 (a + 2) (omega arith) short there (omega arith),
      text_byte text zeros words k 3 (a + 3) (omega arith) short there (omega arith),
    )
    (ap (λ (w : ℕ). Some w) (sum_of (get_or text k 0) small))

-- ---- the object's words
same_code : (p : Point) → place p < 116 → get_or object_words (place p / 4) 0 ≡ code p
same_code At1 small = refl
same_code At2 small = refl
same_code At3 small = refl
same_code At4 small = refl
same_code At5 small = refl
same_code At6 small = refl
same_code At7 small = refl
same_code At8 small = refl
same_code At9 small = refl
same_code At10 small = refl
same_code At11 small = refl
same_code At12 small = refl
same_code At13 small = refl
same_code At14 small = refl
same_code At15 small = refl
same_code At16 small = refl
same_code At17 small = refl
same_code At18 small = refl
same_code At19 small = refl
same_code At20 small = refl
same_code At21 small = refl
same_code At22 small = refl
same_code At23 small = refl
same_code At24 small = refl
same_code At25 small = refl
same_code At26 small = refl
same_code At27 small = refl
same_code At28 small = refl
same_code At29 small = refl
same_code At30 small = absurd (omega arith)

small_code : (p : Point) → code p < 2 ^ 32
small_code At1 = omega arith
small_code p = omega arith

whole_place : (p : Point) → place p % 4 ≡ 0
whole_place At1 = refl
whole_place p = refl

-- the object's instructions are fetched
pub object_fetched : (text : List ℕ) (zeros index : ℕ) → length text ≤ 1024 → index + 29 ≤ length text
    → ((j : ℕ) → j < 29 → get_or text (index + j) 0 ≡ get_or object_words j 0)
    → (words : ℕ → ℕ) (p : Point) → place p < 116 → fetched (shaped_memory text zeros words) (0x10000 + 4 * index + place p) ≡ Some (code p)
object_fetched text zeros index short whole same words p under =
    let even = whole_place p in
    let is : get_or text (index + place p / 4) 0 ≡ code p = same (place p / 4) (omega arith) ∙ same_code p under in
    text_fetched text zeros words (index + place p / 4) (0x10000 + 4 * index + place p) short (omega arith)
    (subst (λ (w : ℕ). w < 2 ^ 32) (sym is) (small_code p)) (omega (arith, even))
    ∙ ap (λ (w : ℕ). Some w) is
