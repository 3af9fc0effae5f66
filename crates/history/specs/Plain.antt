-- The entry of one choice.
use Rattle.machine.specs.declared.choice.Choice.{Choice}
use Rattle.history.specs.declared.entry.Entry.{Entry}
use Rattle.history.specs.History.{entry}

-- an entry of its hart without local steps, and with its mark
abbrev pub plain_entry : Choice → Entry
plain_entry c = entry c.hart 0 c.refuse
