-- History texts as they are read: item by item, up to the first bad one.
use Rattle.std.specs.Prelude.{ℕ, ◌^◌, nat_lt, Bool, List, drop, Option, Some, None, if◌then◌else◌}
use Rattle.std.specs.declared.result.Result.{Result}
use Rattle.std.specs.declared.result.Result.TheVariants.{Ok, Err}
use Rattle.text_items.specs.Numbers.{number_of, has_mark, unmarked, before_byte, from_byte}
use Rattle.text_items.specs.Reading.{values_of}
use Rattle.history.specs.declared.entry.Entry.{Entry}
use Rattle.history.specs.declared.history_text.HistoryFault.{HistoryFault}
use Rattle.history.specs.declared.history_text.HistoryFault.TheVariants.{BadEntry, NoHart}

-- the bytes before the first `+`, and those after it
abbrev pub before_plus : List ℕ → List ℕ
before_plus front = before_byte 43 front

abbrev pub after_plus : List ℕ → List ℕ
after_plus front = drop 1 (from_byte 43 front)

-- the entry of a hart, if both numbers are valid, the second fits 32 bits, and the hart exists
abbrev pub entry_by : Option ℕ → Option ℕ → ℕ → ℕ → Bool → Result Entry HistoryFault
entry_by None local harts at refuse = Err (BadEntry at)
entry_by (Some hart) None harts at refuse = Err (BadEntry at)
entry_by (Some hart) (Some local) harts at refuse =
    if nat_lt local (2 ^ 32) then
    if nat_lt hart harts then Ok (record { hart = hart; local = local; refuse = refuse }) else Err (NoHart at)
    else Err (BadEntry at)

-- the entry that an item denotes, for this number of harts
abbrev pub entry_of : ℕ → ℕ → List ℕ → Result Entry HistoryFault
entry_of harts at item =
    entry_by (number_of (before_plus (unmarked item))) (number_of (after_plus (unmarked item))) harts at (has_mark item)

-- the entries of a text for this number of harts
abbrev pub entries_of : ℕ → List ℕ → Result (List Entry) HistoryFault
entries_of harts text = values_of (entry_of harts) text
