-- Harts whose steps access at most a code word and a data word, and their runs.
use Rattle.std.specs.Prelude.{ℕ, Bool, false, not, ◌&&◌, ◌==◌, if◌then◌else◌, List, [], ◌∷◌, Option, Some, None}
use Rattle.hart_reservations.specs.Marks.{names}
use Rattle.bank_laws.specs.declared.access.LoggedKind.{LoggedKind}
use Rattle.bank_laws.specs.declared.access.LoggedKind.TheVariants.{Load, Store, LoadReserved, ConditionalStored, ConditionalFailed}
use Rattle.bank_laws.specs.Banks.{WordBytes, BankState, is_store, after_touch}

-- what an instruction does with its word: it loads, stores, reserves (LR), or tries to store (SC)
pub data Act : Type 0 where
  Reads : Act
  Writes : Act
  Reserves : Act
  Tries : Act

-- the word that an instruction touches, and how
pub record Touch : Type 0 where
  pub act : Act
  pub word : ℕ

-- harts of a type H: the word needed to know the instruction; given its bytes, the word touched;
-- given both words' bytes and the SC's success, the hart after the step; the bytes that it stores
pub record StepTable (H : Type 0) : Type 0 where
  pub need : H → Option ℕ
  pub plan : H → WordBytes → Option Touch
  pub after : H → WordBytes → WordBytes → Bool → H
  pub stored : H → WordBytes → WordBytes → WordBytes

-- the harts and the state that they share
pub record TableWorld (H : Type 0) : Type 0 where
  pub harts : ℕ → H
  pub shared : BankState

-- whose turn it is, and whether a store-conditional is refused
pub record Turn : Type 0 where
  pub hart : ℕ
  pub refuse : Bool

-- a family with the value at h replaced
abbrev pub put_at : {A : Type 0} → (ℕ → A) → ℕ → A → ℕ → A
put_at f h v = λ k. if k == h then v else f k

-- whether an SC stores: it isn't refused and the hart holds a reservation of the word
abbrev pub succeeds : Act → Bool → Bool → Bool
succeeds Reads refuse holds = false
succeeds Writes refuse holds = false
succeeds Reserves refuse holds = false
succeeds Tries refuse holds = not refuse && holds

-- how a touch is logged
abbrev pub kind_of : Act → Bool → LoggedKind
kind_of Reads ok = Load
kind_of Writes ok = Store
kind_of Reserves ok = LoadReserved
kind_of Tries ok = if ok then ConditionalStored else ConditionalFailed

-- the touched word's bytes after the step, by the bytes of the code and its own
abbrev pub word_after : {H : Type 0} → StepTable H → H → WordBytes → WordBytes → LoggedKind → WordBytes
word_after T s c v kind = if is_store kind then T.stored s c v else v

-- the bytes of the needed word, or none
abbrev pub word_found : Option ℕ → (ℕ → WordBytes) → WordBytes
word_found None values = []
word_found (Some x) values = values x

-- hart h has touched a word
abbrev pub touching : {H : Type 0} → StepTable H → TableWorld H → ℕ → H → WordBytes → Touch → Bool → TableWorld H
touching T w h s c t ok = record {
  harts = put_at w.harts h (T.after s c (w.shared.values t.word) ok);
  shared = after_touch w.shared (kind_of t.act ok) h t.word
      (word_after T s c (w.shared.values t.word) (kind_of t.act ok));
}

-- hart h after its planned touch
abbrev pub done : {H : Type 0} → StepTable H → TableWorld H → ℕ → Bool → H → WordBytes → Option Touch → TableWorld H
done T w h refuse s c None = record { harts = put_at w.harts h (T.after s c [] false); shared = w.shared }
done T w h refuse s c (Some t) =
    touching T w h s c t (succeeds t.act refuse (names (w.shared.marks h) t.word))

-- the step of hart h in state s, with these bytes as code
abbrev pub step_from : {H : Type 0} → StepTable H → TableWorld H → ℕ → Bool → H → WordBytes → TableWorld H
step_from T w h refuse s c = done T w h refuse s c (T.plan s c)

-- the step of hart h
abbrev pub table_step : {H : Type 0} → StepTable H → TableWorld H → ℕ → Bool → TableWorld H
table_step T w h refuse =
    step_from T w h refuse (w.harts h) (word_found (T.need (w.harts h)) w.shared.values)

-- one turn after another
abbrev pub table_run : {H : Type 0} → StepTable H → TableWorld H → List Turn → TableWorld H
table_run T w [] = w
table_run T w (c ∷ more) = table_run T (table_step T w c.hart c.refuse) more
