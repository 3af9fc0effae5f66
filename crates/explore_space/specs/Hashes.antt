-- Hashes of parts: a number that equal parts have in common.
use Rattle.std.specs.Prelude.{◌≡◌, ◌≢◌, ℕ, zero, suc, ◌+◌, ◌*◌, ◌/◌, ◌%◌, ◌^◌, List, [], ◌∷◌, Option, Some, None, length, slice_get, slice_index}
use Rattle.std.specs.List.{Contains}
use Rattle.hart_reservations.specs.Marks.{Marks, mark_at}
use Rattle.hart_step.specs.Hart.{HartValue, hart_of}
use Rattle.hart_step.specs.declared.hart.Hart.{Hart}
use Rattle.hart_step.specs.declared.hart.HartState.{HartState}
use Rattle.hart_step.specs.declared.hart.HartState.TheVariants.{Running, Exited, Faulted}
use Rattle.bank_laws.specs.Banks.{WordBytes}
use Rattle.explore_table.specs.Buckets.{mixed}
use Rattle.explore_sites.specs.Cells.{cell_words}
use Rattle.explore_space.specs.declared.shared.Shared.{Shared}

-- a hash as two words
abbrev pub hash_words : ℕ → List ℕ
hash_words hash = hash / 2 ^ 32 ∷ hash % 2 ^ 32 ∷ []

-- the hash of the first n words of a row, behind another hash
unfoldable pub hash_row : ℕ → (ℕ → ℕ) → ℕ → ℕ
hash_row hash row zero = hash
hash_row hash row (suc n) = mixed (hash_row hash row n) (row n)

-- a state as a word, but for its cause
abbrev pub state_word : HartState → ℕ
state_word Running = 0
state_word (Exited status) = (2 * status + 1) % 2 ^ 32
state_word (Faulted cause) = 2

-- the hash of a hart
abbrev pub hash_of_hart : HartValue → ℕ
hash_of_hart v = mixed (mixed (hash_row 0 v.registers 32) v.pc) (state_word v.state)

-- the hash of the words that these cells say, behind another hash
unfoldable pub hash_of_cells : ℕ → List (ℕ × WordBytes) → ℕ
hash_of_cells hash [] = hash
hash_of_cells hash (cell ∷ cells) = hash_of_cells (hash_row (mixed hash cell.0) (slice_index cell.1) (length cell.1)) cells

-- the same of hart k's reservation, if it has one
abbrev pub hash_of_mark : ℕ → ℕ → Option ℕ → ℕ
hash_of_mark hash k None = hash
hash_of_mark hash k (Some word) = mixed (mixed hash k) word

-- the same of the reservations of the first n harts
unfoldable pub hash_of_marks : ℕ → Marks → ℕ → ℕ
hash_of_marks hash marks zero = hash
hash_of_marks hash marks (suc n) = hash_of_mark (hash_of_marks hash marks n) n (marks n)

-- the hash of what harts share
abbrev pub hash_of_shared : {Z : Type 0} → Shared Z → ℕ
hash_of_shared s = hash_of_marks (hash_of_cells 0 (cell_words s.cells.items)) (mark_at s.marks) 32

-- no part has a hash that isn't one of these
pub record AreHashed {X : Type 0} (hash : X → ℕ) (parts : List X) (hashes : List (List ℕ)) : Type 0 where
  pub none : (row : List ℕ) → (Contains hashes row → ⊥) → (k : ℕ) (x : X) → slice_get parts k ≡ Some x → hash_words (hash x) ≢ row

-- so it is with harts
abbrev pub HartsHashed : List Hart → List (List ℕ) → Type 0
HartsHashed = AreHashed (λ h. hash_of_hart (hart_of h))

-- so it is with what they share
abbrev pub SharedsHashed : {Z : Type 0} → List (Shared Z) → List (List ℕ) → Type 0
SharedsHashed {Z} = AreHashed {X = Shared Z} hash_of_shared
