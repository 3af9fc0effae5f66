-- Answers without a value: GDB's manual, "Remote Serial Protocol", "Packets" and "General Query
-- Packets".
use Rattle.std.specs.Prelude.{ℕ, List, ◌++◌, codes}
use Rattle.gdb_replies.specs.declared.fixed.FixedReply.{FixedReply}
use Rattle.gdb_replies.specs.declared.fixed.FixedReply.TheVariants.{Done, Unsupported, BadOperand, BadChecksum, Unmapped, ReadOnly, FirstStop, Attached, EndOfThreads, Actions, Features}

-- the text of an answer
unfoldable pub fixed_text : FixedReply → List ℕ
fixed_text Done = codes "OK"
fixed_text Unsupported = codes ""
fixed_text BadOperand = codes "E01"
fixed_text BadChecksum = codes "E02"
fixed_text Unmapped = codes "E14"
fixed_text ReadOnly = codes "E30"
fixed_text FirstStop = codes "T05thread:1;"
fixed_text Attached = codes "1"
fixed_text EndOfThreads = codes "l"
fixed_text Actions = codes "vCont;c;C;s;S;r"
fixed_text Features =
    codes "PacketSize=4000;QStartNoAckMode+;qXfer:features:read+;qXfer:threads:read+;"
    ++ codes "ReverseStep+;ReverseContinue+;vContSupported+;swbreak+;hwbreak+"
