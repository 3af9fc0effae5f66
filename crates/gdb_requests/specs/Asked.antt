-- What a packet asks for: GDB's manual, "Remote Serial Protocol".
use Rattle.std.specs.Prelude.{ℕ, List, drop, codes, Option, Some, None, Result, Ok, Err, if◌then◌else◌}
use Rattle.gdb_requests.specs.declared.fault.RequestFault.{RequestFault}
use Rattle.gdb_requests.specs.declared.fault.RequestFault.TheVariants.{BadOperand}
use Rattle.gdb_requests.specs.declared.request.Plain.{Plain}
use Rattle.gdb_requests.specs.declared.request.Request.{Request}
use Rattle.gdb_requests.specs.declared.request.Request.TheVariants as request
use Rattle.gdb_requests.specs.declared.request.ThreadAction.{ThreadAction}
use Rattle.gdb_requests.specs.Words.{begins_with}
use Rattle.gdb_requests.specs.Actions.{actions_of}
use Rattle.gdb_requests.specs.Bytes.{paired_bytes}
use Rattle.gdb_requests.specs.Requests.{plain_of}

-- a request without a list, actions, or a command to the server
pub data Asked : Type 0 where
  plain : Plain → Asked
  resume : List ThreadAction → Asked
  monitor : List ℕ → Asked

abbrev pub asked : {Z : Type 0} → Request Z → Asked
asked (request.Plain simple) = Asked.plain simple
asked (request.Resume actions) = Asked.resume actions.items
asked (request.Monitor bytes) = Asked.monitor bytes.items

abbrev pub asks_plain : Result Plain RequestFault → Result Asked RequestFault
asks_plain (Ok simple) = Ok (Asked.plain simple)
asks_plain (Err fault) = Err fault

abbrev pub asks_resume : Option (List ThreadAction) → Result Asked RequestFault
asks_resume None = Err BadOperand
asks_resume (Some actions) = Ok (Asked.resume actions)

abbrev pub asks_monitor : Option (List ℕ) → Result Asked RequestFault
asks_monitor None = Err BadOperand
asks_monitor (Some bytes) = Ok (Asked.monitor bytes)

-- what a packet with this data asks for, or why it is refused
abbrev pub request_of : List ℕ → Result Asked RequestFault
request_of text =
    if begins_with (codes "vCont;") text then asks_resume (actions_of (drop 6 text))
    else (if begins_with (codes "qRcmd,") text then asks_monitor (paired_bytes (drop 6 text))
    else asks_plain (plain_of text))
