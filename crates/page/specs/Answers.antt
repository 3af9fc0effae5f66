-- The numbers of an answer, and what they tell of a call's reply.
use Rattle.std.specs.Prelude.{◌≡◌, ℕ, Option, Some, None}
use Rattle.byte_io.specs.Status.{code_of}
use Rattle.byte_io.specs.declared.status.Status.TheVariants as status
use Rattle.page.specs.declared.answer.Answer.{Answer}
use Rattle.page_calls.specs.declared.reply.Reply.{Reply}
use Rattle.page_calls.specs.declared.reply.Reply.TheVariants.{Answered, Refused, NoRoom, NoMemory}

-- an answer has these numbers: the length of its text, its status, and its kind
abbrev pub HasNumbers : ℕ → ℕ → ℕ → Answer → Type 0
HasNumbers length status kind answer =
    (answer.length ≡ length) × (answer.status ≡ status) × (answer.kind ≡ kind)

-- an answer tells a reply in numbers
abbrev pub IsReply : Reply → Answer → Type 0
IsReply (Answered told) answer = HasNumbers told.length (code_of told.status) 0 answer
IsReply (Refused told) answer = HasNumbers told.length (code_of told.status) 1 answer
IsReply NoRoom answer = HasNumbers 0 (code_of status.Refused) 2 answer
IsReply NoMemory answer = HasNumbers 0 (code_of status.NoMemory) 3 answer

-- an answer tells a reply of which this holds
abbrev pub Says : (Reply → Type 0) → Answer → Type 0
Says holds answer = (reply : Reply) × IsReply reply answer × holds reply

-- an answer to what the numbers of a call ask for; where they ask for nothing, it says so
abbrev pub SaysOf : {Q : Type 0} → Option Q → (Q → Reply → Type 0) → Answer → Type 0
SaysOf (Some asked) holds answer = Says (holds asked) answer
SaysOf None holds answer = HasNumbers 0 (code_of status.BadLine) 4 answer

-- the same where the numbers ask for what fits them
abbrev pub SaysWhat : {Q : Type 0} → (Option Q → Type 0) → (Q → Reply → Type 0) → Answer → Type 0
SaysWhat {Q} Asks holds answer = (asked : Option Q) × Asks asked × SaysOf asked holds answer
