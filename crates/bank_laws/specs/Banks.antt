-- Words in banks, reservations as marks on words, and the log of a bank's accesses.
use Rattle.std.specs.Prelude.{◌≡◌, ℕ, Bool, true, false, ◌==◌, if◌then◌else◌, List, [], ◌∷◌, Option, Some, None}
use Rattle.std.specs.List.{filter}
use Rattle.hart_reservations.specs.Marks.{Marks, names, with_mark, without_mark, ended}
use Rattle.bank_laws.specs.declared.access.LoggedAccess.{LoggedAccess}
use Rattle.bank_laws.specs.declared.access.LoggedKind.{LoggedKind}
use Rattle.bank_laws.specs.declared.access.LoggedKind.TheVariants.{CodeRead, Load, Store, LoadReserved, ConditionalStored, ConditionalFailed}

-- the four bytes of a word, lowest address first
abbrev pub WordBytes : Type 0
WordBytes = List ℕ

-- words and marks of one bank, or of all banks together as the harts see them
pub record BankState : Type 0 where
  pub values : ℕ → WordBytes
  pub marks : Marks

-- a word has new bytes
abbrev pub with_word_bytes : (ℕ → WordBytes) → ℕ → WordBytes → ℕ → WordBytes
with_word_bytes values x v = λ y. if y == x then v else values y

-- whether an access of this kind stores
abbrev pub is_store : LoggedKind → Bool
is_store CodeRead = false
is_store Load = false
is_store Store = true
is_store LoadReserved = false
is_store ConditionalStored = true
is_store ConditionalFailed = false

-- the marks after hart h accesses word x: its LR sets its mark there, its store clears the marks of
-- others, and its SC clears its own, whether it stores or not
abbrev pub marks_after : LoggedKind → Marks → ℕ → ℕ → Marks
marks_after CodeRead m h x = m
marks_after Load m h x = m
marks_after Store m h x = ended m h x
marks_after LoadReserved m h x = with_mark m h x
marks_after ConditionalStored m h x = without_mark (ended m h x) h
marks_after ConditionalFailed m h x = without_mark m h

-- after an access of hart h to word x, whose bytes are then v
abbrev pub after_touch : BankState → LoggedKind → ℕ → ℕ → WordBytes → BankState
after_touch b kind h x v = record {
  values = if is_store kind then with_word_bytes b.values x v else b.values;
  marks = marks_after kind b.marks h x;
}

-- after a logged access
abbrev pub after_access : BankState → LoggedAccess → BankState
after_access b a = after_touch b a.kind a.hart a.word a.after

-- after one access and the next
abbrev pub after_log : BankState → List LoggedAccess → BankState
after_log b [] = b
after_log b (a ∷ log) = after_log (after_access b a) log

-- an access logs what it finds: the word's bytes, and whether its hart's mark is on it
abbrev pub Finds : BankState → LoggedAccess → Type 0
Finds b a = (a.before ≡ b.values a.word) × (a.mark ≡ names (b.marks a.hart) a.word)

-- each access logs what it finds after those before it
abbrev pub IsLogged : BankState → List LoggedAccess → Type 0
IsLogged b [] = Unit {0}
IsLogged b (a ∷ log) = Finds b a × IsLogged (after_access b a) log

-- the accesses to words of one bank
abbrev pub share_of : (ℕ → ℕ) → ℕ → List LoggedAccess → List LoggedAccess
share_of bank_of b log = filter (λ a. bank_of a.word == b) log

-- the reservation of a hart whose last LR names a word: held while that word's bank has its mark
abbrev pub joined_mark : (ℕ → ℕ) → (ℕ → BankState) → ℕ → Option ℕ → Option ℕ
joined_mark bank_of banks h None = None
joined_mark bank_of banks h (Some x) = if names ((banks (bank_of x)).marks h) x then Some x else None

-- shared state is each bank's state at its own words, and the words that the last LRs name
pub record BanksTell (bank_of : ℕ → ℕ) (shared : BankState) (banks : ℕ → BankState) (named : ℕ → Option ℕ) : Type 0 where
  pub values : (x : ℕ) → shared.values x ≡ (banks (bank_of x)).values x
  pub marks : (h : ℕ) → shared.marks h ≡ joined_mark bank_of banks h (named h)

-- the word that a hart's last LR names, after an access to word x
abbrev pub named_by_kind : LoggedKind → ℕ → Option ℕ → Option ℕ
named_by_kind CodeRead x n = n
named_by_kind Load x n = n
named_by_kind Store x n = n
named_by_kind LoadReserved x n = Some x
named_by_kind ConditionalStored x n = None
named_by_kind ConditionalFailed x n = None

-- the words that the harts' last LRs name, after an access
abbrev pub named_after : (ℕ → Option ℕ) → LoggedAccess → ℕ → Option ℕ
named_after named a = λ k. if k == a.hart then named_by_kind a.kind a.word (named k) else named k

-- the banks after an access, which changes only the bank of its word
abbrev pub banks_after : (ℕ → ℕ) → (ℕ → BankState) → LoggedAccess → ℕ → BankState
banks_after bank_of banks a = λ b. if bank_of a.word == b then after_access (banks b) a else banks b
