-- The grammar of an input: GDB's manual, "Remote Serial Protocol", "Overview". `Items` computes the
-- same; `proofs/GrammarLemmas.antt` proves that the two agree.
use Rattle.std.specs.Prelude.{◌≡◌, ◌≢◌, ℕ, ◌+◌, ◌*◌, List, [], ◌∷◌, ◌++◌, Some}
use Rattle.std.specs.List.{All}
use Rattle.gdb_frames.specs.Digits.{hex_value}
use Rattle.gdb_frames.specs.Frames.{checksum}
use Rattle.gdb_frames.specs.Items.{FrameItem}

-- the data of a packet has no `$` and no `#`
abbrev pub IsData : List ℕ → Type 0
IsData body = All (λ b. (b ≢ 36) × (b ≢ 35)) body

-- two digits, the higher one first, are the checksum of the data
pub record IsChecksum (first second : ℕ) (body : List ℕ) : Type 0 where
  pub high : ℕ
  pub low : ℕ
  pub first_digit : hex_value first ≡ Some high
  pub second_digit : hex_value second ≡ Some low
  pub sum : 16 * high + low ≡ checksum body

-- the packets and acknowledgments of an input
pub data ReadsFrames : List ℕ → List FrameItem → Type 0 where
  nothing : ReadsFrames [] []
  ack : (bytes : List ℕ) (items : List FrameItem)
      → ReadsFrames bytes items → ReadsFrames (43 ∷ bytes) (FrameItem.ack ∷ items)
  again : (bytes : List ℕ) (items : List FrameItem)
      → ReadsFrames bytes items → ReadsFrames (45 ∷ bytes) (FrameItem.again ∷ items)
  -- other bytes between packets are passed over
  passed_over : (b : ℕ) (bytes : List ℕ) (items : List FrameItem) → b ≢ 36 → b ≢ 43 → b ≢ 45
      → ReadsFrames bytes items → ReadsFrames (b ∷ bytes) items
  -- a packet is `$`, its data, `#` and two bytes
  packet : (body : List ℕ) (c d : ℕ) (bytes : List ℕ) (items : List FrameItem) → IsData body
      → IsChecksum c d body
      → ReadsFrames bytes items
      → ReadsFrames (36 ∷ (body ++ 35 ∷ (c ∷ (d ∷ bytes)))) (FrameItem.whole body ∷ items)
  bad_packet : (body : List ℕ) (c d : ℕ) (bytes : List ℕ) (items : List FrameItem) → IsData body
      → (IsChecksum c d body → ⊥)
      → ReadsFrames bytes items
      → ReadsFrames (36 ∷ (body ++ 35 ∷ (c ∷ (d ∷ bytes)))) (FrameItem.spoiled ∷ items)
  -- `$` inside a packet begins it anew
  anew : (body bytes : List ℕ) (items : List FrameItem) → IsData body
      → ReadsFrames (36 ∷ bytes) items → ReadsFrames (36 ∷ (body ++ 36 ∷ bytes)) items
  -- a packet that the end of the input cuts is dropped
  cut_data : (body : List ℕ) → IsData body → ReadsFrames (36 ∷ body) []
  cut_checksum : (body : List ℕ) → IsData body → ReadsFrames (36 ∷ (body ++ 35 ∷ [])) []
  cut_digit : (body : List ℕ) (c : ℕ) → IsData body → ReadsFrames (36 ∷ (body ++ 35 ∷ (c ∷ []))) []
