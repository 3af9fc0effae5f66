-- What a reply and the output behind it tell of a command's answer.
use Rattle.std.specs.Prelude.{◌≡◌, ℕ, ◌<◌, ◌≤◌, List, [], drop, length, take}
use Rattle.std.specs.declared.result.Result.{Result}
use Rattle.std.specs.declared.result.Result.TheVariants.{Ok, Err}
use Rattle.byte_io.specs.declared.status.Status.{Status}
use Rattle.byte_io.specs.declared.status.Status.TheVariants.{Done}
use Rattle.page_calls.specs.declared.reply.Reply.{Reply}
use Rattle.page_calls.specs.declared.reply.Reply.TheVariants.{Answered, Refused, NoRoom, NoMemory}

-- a command prints a text and ends with a status: the text stands in front of the output, or is
-- longer than it
abbrev pub TellsText : List ℕ → Status → List ℕ → Reply → Type 0
TellsText text status out (Answered told) =
    (told.length ≤ length out) × (take told.length out ≡ text) × (told.status ≡ status)
TellsText text status out (Refused told) = ⊥
TellsText text status out NoRoom = length out < length text
TellsText text status out NoMemory = Unit {0}

-- a command gives no answer, and ends with a status
abbrev pub TellsFault : Status → List ℕ → Reply → Type 0
TellsFault status out (Answered told) = ⊥
TellsFault status out (Refused told) = (told.length ≤ length out) × (told.status ≡ status)
TellsFault status out NoRoom = Unit {0}
TellsFault status out NoMemory = Unit {0}

-- behind what a reply tells the output is as it was: all of it, where nothing is told
abbrev pub KeepsRest : List ℕ → List ℕ → Reply → Type 0
KeepsRest old new (Answered told) = drop told.length new ≡ drop told.length old
KeepsRest old new (Refused told) = drop told.length new ≡ drop told.length old
KeepsRest old new NoRoom = new ≡ old
KeepsRest old new NoMemory = new ≡ old

-- a reply tells a command's answer: what it prints, or the fault
abbrev pub TellsAnswer : {F : Type 0} → (F → Status) → Result (List ℕ × Status) F → List ℕ → Reply → Type 0
TellsAnswer status_of (Ok answer) out reply = TellsText answer.0 answer.1 out reply
TellsAnswer status_of (Err why) out reply = TellsFault (status_of why) out reply

-- the bytes of a command that ends well
abbrev pub ends_well : {F : Type 0} → Result (List ℕ) F → Result (List ℕ × Status) F
ends_well (Ok bytes) = Ok (bytes, Done)
ends_well (Err why) = Err why

-- a command that prints nothing where it ends well
abbrev pub prints_nothing : {T F : Type 0} → Result T F → Result (List ℕ × Status) F
prints_nothing (Ok value) = Ok ([], Done)
prints_nothing (Err why) = Err why
