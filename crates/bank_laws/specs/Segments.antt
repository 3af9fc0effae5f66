-- The segments of harts' logs, and the run that they give.
use Rattle.std.specs.Prelude.{◌≡◌, ℕ, zero, suc, Bool, false, ◌&&◌, ◌==◌, if◌then◌else◌, List, [], ◌∷◌, ◌++◌, Option, Some, None, replicate}
use Rattle.hart_reservations.specs.Marks.{names}
use Rattle.bank_laws.specs.declared.access.LoggedAccess.{LoggedAccess}
use Rattle.bank_laws.specs.declared.access.LoggedKind.TheVariants.{CodeRead}
use Rattle.bank_laws.specs.Banks.{WordBytes, BankState, named_by_kind, BanksTell}
use Rattle.bank_laws.specs.Runs.{Touch, StepTable, TableWorld, Turn, succeeds, kind_of, word_after}

-- a segment of a hart's log: local steps, then one step with its stamp, refusal and accesses
pub record LoggedSegment : Type 0 where
  pub stamp : ℕ
  pub hart : ℕ
  pub local : ℕ
  pub refuse : Bool
  pub accesses : List LoggedAccess

-- a turn of hart h
abbrev pub turn : ℕ → Bool → Turn
turn h refuse = record { hart = h; refuse = refuse }

-- the turns of a segment
abbrev pub turns_of : LoggedSegment → List Turn
turns_of e = replicate e.local (turn e.hart false) ++ turn e.hart e.refuse ∷ []

-- the turns of one segment after another
abbrev pub segment_turns : List LoggedSegment → List Turn
segment_turns [] = []
segment_turns (e ∷ es) = turns_of e ++ segment_turns es

-- the accesses of one segment after another
abbrev pub accesses : List LoggedSegment → List LoggedAccess
accesses [] = []
accesses (e ∷ es) = e.accesses ++ accesses es

-- the segments of hart h
abbrev pub segments_of_hart : ℕ → List LoggedSegment → List LoggedSegment
segments_of_hart h [] = []
segments_of_hart h (e ∷ es) = if e.hart == h then e ∷ segments_of_hart h es else segments_of_hart h es

-- a hart, and the word named by its last LR without a fault, if no SC without a fault followed
pub record HartSlot (H : Type 0) : Type 0 where
  pub hart : H
  pub named : Option ℕ

-- the code read that a segment's last step logs, given these bytes and this mark
abbrev pub code_reads : LoggedSegment → Option ℕ → WordBytes → Bool → List LoggedAccess
code_reads e None c m = []
code_reads e (Some x) c m = record { stamp = e.stamp; hart = e.hart; kind = CodeRead; word = x; before = c; after = c; mark = m } ∷ []

-- the bytes for a needed word, or none
abbrev pub given_bytes : Option ℕ → WordBytes → WordBytes
given_bytes None c = []
given_bytes (Some x) c = c

-- what is logged of a touch, given these bytes and this mark
abbrev pub logged_access : {H : Type 0} → StepTable H → LoggedSegment → H → WordBytes → Touch → WordBytes → Bool → Bool → LoggedAccess
logged_access T e s c t v m ok = record {
  stamp = e.stamp;
  hart = e.hart;
  kind = kind_of t.act ok;
  word = t.word;
  before = v;
  after = word_after T s c v (kind_of t.act ok);
  mark = m;
}

-- the data accesses of a segment's last step; an SC needs the mark, and the last LR's word
abbrev pub data_accesses : {H : Type 0} → StepTable H → LoggedSegment → HartSlot H → WordBytes → Option Touch → WordBytes → Bool → List LoggedAccess
data_accesses T e s c None v m = []
data_accesses T e s c (Some t) v m =
    logged_access T e s.hart c t v m (succeeds t.act e.refuse (m && names s.named t.word)) ∷ []

-- the slot after a touch
abbrev pub slot_did : {H : Type 0} → StepTable H → HartSlot H → WordBytes → Touch → WordBytes → Bool → HartSlot H
slot_did T s c t v ok =
    record { hart = T.after s.hart c v ok; named = named_by_kind (kind_of t.act ok) t.word s.named }

-- the slot after the planned touch
abbrev pub slot_after : {H : Type 0} → StepTable H → Bool → HartSlot H → WordBytes → Option Touch → WordBytes → Bool → HartSlot H
slot_after T refuse s c None v m = record { hart = T.after s.hart c [] false; named = s.named }
slot_after T refuse s c (Some t) v m =
    slot_did T s c t v (succeeds t.act refuse (m && names s.named t.word))

-- the bytes of the code that the hart needs
abbrev pub answered : {H : Type 0} → StepTable H → HartSlot H → WordBytes → WordBytes
answered T s c = given_bytes (T.need s.hart) c

-- a segment's last step leads from slot s to s', given some bytes and marks, and logs them
pub record IsLastStep {H : Type 0} (T : StepTable H) (e : LoggedSegment) (s s' : HartSlot H) : Type 0 where
  pub code : WordBytes
  pub code_mark : Bool
  pub value : WordBytes
  pub mark : Bool
  pub logs : e.accesses ≡ code_reads e (T.need s.hart) code code_mark
      ++ data_accesses T e s (answered T s code) (T.plan s.hart (answered T s code)) value mark
  pub slot : s' ≡ slot_after T e.refuse s (answered T s code) (T.plan s.hart (answered T s code)) value mark

-- n steps touch nothing, and lead from hart s to t
abbrev pub TouchNothing : {H : Type 0} → StepTable H → ℕ → H → H → Type 0
TouchNothing T zero s t = t ≡ s
TouchNothing T (suc n) s t =
    (T.need s ≡ None) × (T.plan s [] ≡ None) × TouchNothing T n (T.after s [] [] false) t

-- a segment leads from slot s to s'
pub record IsSegment {H : Type 0} (T : StepTable H) (e : LoggedSegment) (s s' : HartSlot H) : Type 0 where
  pub reached : H
  pub locals : TouchNothing T e.local s.hart reached
  pub steps : IsLastStep T e (record { hart = reached; named = s.named }) s'

-- segments lead from slot s to s'
abbrev pub Walks : {H : Type 0} → StepTable H → HartSlot H → List LoggedSegment → HartSlot H → Type 0
Walks T s [] s' = s' ≡ s
Walks {H} T s (e ∷ es) s' = (mid : HartSlot H) × IsSegment T e s mid × Walks T mid es s'

-- harts, words and reservations are those of the slots and the banks
pub record TellsWorld {H : Type 0} (bank_of : ℕ → ℕ) (w : TableWorld H) (slots : ℕ → HartSlot H) (banks : ℕ → BankState) : Type 0 where
  pub harts : (k : ℕ) → w.harts k ≡ (slots k).hart
  pub rest : BanksTell bank_of w.shared banks (λ k. (slots k).named)
