use Rattle.std.proofs.Common.{◌≡◌, ℕ, zero, suc, ◌+◌, ◌*◌, ◌<◌, List, [], ◌∷◌, ◌++◌, length, take, drop, min, slice_index, refl, ap, sym, ◌∙◌, arith, rules}
use Rattle.std.proofs.lemmas.Grind.{common_steps}
use Rattle.std.proofs.lemmas.List.{take_min, drop_min}
use Rattle.isa_disasm.specs.Listing.{byte_lines, byte_entry, listing, word_entry, word_of_bytes}

-- the last bytes have a line each
pub tail_is_bytes : (at : ℕ) (bytes : List ℕ) → length bytes < 4 → listing at bytes ≡ byte_lines at bytes []
unfolding byte_lines listing
tail_is_bytes at [] few = refl
tail_is_bytes at (a ∷ []) few = refl
tail_is_bytes at (a ∷ b ∷ []) few = refl
tail_is_bytes at (a ∷ b ∷ c ∷ []) few = refl
tail_is_bytes at (a ∷ b ∷ c ∷ d ∷ bytes) few = absurd (omega arith)

-- a place below the end
drop_one : (place : ℕ) (bytes : List ℕ) → place < length bytes → drop place bytes ≡ slice_index bytes place ∷ drop (place + 1) bytes
drop_one place [] room = absurd (omega arith)
drop_one zero (b ∷ bytes) room = refl
drop_one (suc k) (b ∷ bytes) room =
    let e : suc k + 1 ≡ suc (k + 1) = omega arith in
    rw e (drop_one k bytes (omega arith))

-- the same a few places on
later : (k place : ℕ) (bytes : List ℕ) → place + k < length bytes
    → drop (place + k) bytes ≡ slice_index bytes (place + k) ∷ drop (place + suc k) bytes
later k place bytes room =
    let e : place + suc k ≡ (place + k) + 1 = omega arith in
    rw e (drop_one (place + k) bytes room)

-- the next four bytes are a word's line
pub next_word : (at place : ℕ) (bytes : List ℕ) → place + 3 < length bytes
    → listing at (drop place bytes)
    ≡ word_entry at (word_of_bytes (slice_index bytes place) (slice_index bytes (place + 1)) (slice_index bytes (place + 2)) (slice_index bytes (place + 3))) (listing (at + 4) (drop (place + 4) bytes))
unfolding listing
next_word at place bytes room =
    let one : drop (place + 1) bytes ≡ slice_index bytes (place + 1) ∷ drop (place + 2) bytes = later 1 place bytes (omega arith) in
    let two : drop (place + 2) bytes ≡ slice_index bytes (place + 2) ∷ drop (place + 3) bytes = later 2 place bytes (omega arith) in
    let three : drop (place + 3) bytes ≡ slice_index bytes (place + 3) ∷ drop (place + 4) bytes = later 3 place bytes (omega arith) in
    rw (drop_one place bytes (omega arith)) (rw one (rw two (rw three refl)))

-- an entry and the text after it
entry_joins : (text : List ℕ) (at word : ℕ) (rest : List ℕ) → (text ++ word_entry at word []) ++ rest ≡ text ++ word_entry at word rest
entry_joins text at word rest = search (rules, common_steps)

-- one word's line more
pub one_word : (text longer all bytes : List ℕ) (base index word : ℕ) → 4 * index + 3 < length bytes
    → word ≡ word_of_bytes (slice_index bytes (4 * index)) (slice_index bytes (4 * index + 1)) (slice_index bytes (4 * index + 2)) (slice_index bytes (4 * index + 3))
    → longer ≡ text ++ word_entry (base + 4 * index) word []
    → text ++ listing (base + 4 * index) (drop (4 * index) bytes) ≡ all
    → longer ++ listing (base + 4 * (index + 1)) (drop (4 * (index + 1)) bytes) ≡ all
one_word text longer all bytes base index word room is_word is_longer so_far =
    let at : base + 4 * (index + 1) ≡ (base + 4 * index) + 4 = omega arith in
    let place : 4 * (index + 1) ≡ 4 * index + 4 = omega arith in
    let rest = listing ((base + 4 * index) + 4) (drop (4 * index + 4) bytes) in
    rw at (rw place (
    ap (λ l. l ++ rest) is_longer
    ∙ entry_joins text (base + 4 * index) word rest
    ∙ ap (λ w. text ++ word_entry (base + 4 * index) w rest) is_word
    ∙ ap (λ l. text ++ l) (sym (next_word (base + 4 * index) (4 * index) bytes room))
    ∙ so_far))

-- a byte's line and the text after it
byte_joins : (at byte : ℕ) (more rest : List ℕ) → byte_entry at byte more ++ rest ≡ byte_entry at byte (more ++ rest)
byte_joins at byte more rest = search (rules, common_steps)

-- the lines of bytes and then a text
lines_then : (at : ℕ) (bytes rest : List ℕ) → byte_lines at bytes [] ++ rest ≡ byte_lines at bytes rest
unfolding byte_lines
lines_then at [] rest = refl
lines_then at (b ∷ bytes) rest = byte_joins at b (byte_lines (at + 1) bytes []) rest ∙ ap (λ l. byte_entry at b l) (lines_then (at + 1) bytes rest)

-- a text, the lines of bytes, and the text after them
pub lines_join : (text rest : List ℕ) (at : ℕ) (bytes : List ℕ) → (text ++ byte_lines at bytes []) ++ rest ≡ text ++ byte_lines at bytes rest
lines_join text rest at bytes =
    let e : (text ++ byte_lines at bytes []) ++ rest ≡ text ++ (byte_lines at bytes [] ++ rest) = search (rules, common_steps) in
    e ∙ ap (λ l. text ++ l) (lines_then at bytes rest)

-- the bytes before the first aligned word, as many as there are, and then the others
pub parts_join : (text : List ℕ) (at before : ℕ) (bytes : List ℕ)
    → (text ++ byte_lines at (take (min before (length bytes)) bytes) []) ++ listing (at + before) (drop (min before (length bytes)) bytes)
    ≡ text ++ byte_lines at (take before bytes) (listing (at + before) (drop before bytes))
parts_join text at before bytes =
    rw (take_min before bytes) (rw (drop_min before bytes)
    (lines_join text (listing (at + before) (drop before bytes)) at (take before bytes)))
