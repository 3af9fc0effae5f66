-- Reservations as a map from a hart to the address of its reserved word.
use Rattle.std.specs.Prelude.{ℕ, ◌-◌, ◌%◌, Bool, false, ◌==◌, if◌then◌else◌, Option, Some, None, List, slice_index_or}

-- the word that each hart has reserved
abbrev pub Marks : Type 0
Marks = ℕ → Option ℕ

-- the aligned word of an address
abbrev pub word_of : ℕ → ℕ
word_of address = address - address % 4

-- whether a reservation is of this word
abbrev pub names : Option ℕ → ℕ → Bool
names None word = false
names (Some reserved) word = reserved == word

-- hart h has reserved a word; its earlier reservation has ended
abbrev pub with_mark : Marks → ℕ → ℕ → Marks
with_mark r h word = λ k. if k == h then Some word else r k

-- hart h has no reservation
abbrev pub without_mark : Marks → ℕ → Marks
without_mark r h = λ k. if k == h then None else r k

-- hart k's reservation after hart h has stored into a word
abbrev pub mark_after : Marks → ℕ → ℕ → ℕ → Option ℕ
mark_after r h word k = if k == h then r k else (if names (r k) word then None else r k)

-- hart h has stored into a word: no other hart has it reserved
abbrev pub ended : Marks → ℕ → ℕ → Marks
ended r h word = λ k. mark_after r h word k

-- an array's entry for a hart; none past its end
abbrev pub mark_at : List (Option ℕ) → Marks
mark_at words k = slice_index_or words k None
