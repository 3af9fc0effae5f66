-- The packets and acknowledgments of an input, as a reader finds them.
use Rattle.std.specs.Prelude.{◌≡◌, ℕ, ◌≤◌, List, [], ◌∷◌, ◌++◌, length, drop, Option, Some, None}
use Rattle.gdb_frames.specs.declared.found.Found.{Found}
use Rattle.gdb_frames.specs.declared.found.Found.TheVariants.{Packet, BadPacket, Ack, Again}
use Rattle.gdb_frames.specs.declared.found.Place.TheVariants.{Outside}
use Rattle.gdb_frames.specs.Reading.{ReaderState, reader_state, found_at, state_after}

-- a packet with its data, a packet whose checksum is wrong, `+` or `-`
pub data FrameItem : Type 0 where
  whole : List ℕ → FrameItem
  spoiled : FrameItem
  ack : FrameItem
  again : FrameItem

-- what was found, with the data that was read
abbrev pub item_of : Found → List ℕ → FrameItem
item_of Packet body = FrameItem.whole body
item_of BadPacket body = FrameItem.spoiled
item_of Ack body = FrameItem.ack
item_of Again body = FrameItem.again

-- what was found, if anything, and then these
abbrev pub onto : Option Found → List ℕ → List FrameItem → List FrameItem
onto None body items = items
onto (Some found) body items = item_of found body ∷ items

-- what is found in some bytes, from a state on; a packet that is not complete is dropped
unfoldable pub frames_from : ReaderState → List ℕ → List FrameItem
frames_from s [] = []
frames_from s (b ∷ bytes) =
    onto (found_at s b) (state_after s b).body (frames_from (state_after s b) bytes)

-- what is found in an input
abbrev pub frames_of : List ℕ → List FrameItem
frames_of bytes = frames_from (reader_state Outside []) bytes

-- from one state to another so many bytes were read, and this was found at the last of them,
-- whatever comes behind
pub record Advances (s t : ReaderState) (bytes : List ℕ) (used : ℕ) (found : Option Found)
    : Type 0 where
  pub within : used ≤ length bytes
  pub items : (rest : List ℕ)
      → frames_from s (bytes ++ rest) ≡ onto found t.body (frames_from t (drop used bytes ++ rest))
