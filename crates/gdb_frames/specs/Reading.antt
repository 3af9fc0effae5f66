-- How bytes are read: where a reader stands after each, and what each completes.
use Rattle.std.specs.Prelude.{ℕ, ◌+◌, ◌*◌, ◌==◌, List, [], ◌∷◌, ◌++◌, Option, Some, None, if◌then◌else◌}
use Rattle.gdb_frames.specs.declared.found.Found.{Found}
use Rattle.gdb_frames.specs.declared.found.Found.TheVariants.{Packet, BadPacket, Ack, Again}
use Rattle.gdb_frames.specs.declared.found.Place.{Place}
use Rattle.gdb_frames.specs.declared.found.Place.TheVariants.{Outside, Inside, Mark, Digit}
use Rattle.gdb_frames.specs.Digits.{hex_value}
use Rattle.gdb_frames.specs.Frames.{checksum}

-- where a reader stands, and the data of the packet that is being read or was read last
pub record ReaderState : Type 0 where
  pub place : Place
  pub body : List ℕ

abbrev pub reader_state : Place → List ℕ → ReaderState
reader_state place body = record { place = place; body = body }

-- a packet is whole if two digits give the checksum of its data
abbrev pub judged_by_digits : List ℕ → Option ℕ → Option ℕ → Found
judged_by_digits body None low = BadPacket
judged_by_digits body (Some high) None = BadPacket
judged_by_digits body (Some high) (Some low) =
    if 16 * high + low == checksum body then Packet else BadPacket

abbrev pub judged_packet : List ℕ → ℕ → ℕ → Found
judged_packet body first second = judged_by_digits body (hex_value first) (hex_value second)

-- what a byte completes at a place
abbrev pub found_by : Place → List ℕ → ℕ → Option Found
found_by Outside body b = if b == 43 then Some Ack else (if b == 45 then Some Again else None)
found_by Inside body b = None
found_by Mark body b = None
found_by (Digit first) body b = Some (judged_packet body first b)

abbrev pub found_at : ReaderState → ℕ → Option Found
found_at s b = found_by s.place s.body b

-- the place and the data after a byte
abbrev pub after_by : Place → List ℕ → ℕ → ReaderState
after_by Outside body b = if b == 36 then reader_state Inside [] else reader_state Outside body
after_by Inside body b =
    if b == 36 then reader_state Inside []
    else (if b == 35 then reader_state Mark body else reader_state Inside (body ++ b ∷ []))
after_by Mark body b = reader_state (Digit b) body
after_by (Digit first) body b = reader_state Outside body

abbrev pub state_after : ReaderState → ℕ → ReaderState
state_after s b = after_by s.place s.body b
