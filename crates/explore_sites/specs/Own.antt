-- Words that belong to one hart, and steps that no other hart sees.
use Rattle.std.specs.Prelude.{ℕ, Bool, true, false, not, ◌&&◌, ◌||◌, ◌==◌, Option, Some, None, slice_get}
use Rattle.std.specs.Option.{is_none}
use Rattle.mem_store.specs.Memory.{Memory}
use Rattle.hart_step.specs.Hart.{HartValue}
use Rattle.machine.specs.World.{World}
use Rattle.machine.specs.declared.choice.Choice.{Choice}
use Rattle.bank_laws.specs.Banks.{WordBytes}
use Rattle.bank_laws.specs.Runs.{Act, Reads, Writes, Reserves, Tries, Touch, word_found}
use Rattle.bank_laws.specs.Words.{bytes_at}
use Rattle.bank_laws.specs.Table.{is_unwritable, needed_code, planned}

-- the hart that a word, by its address, belongs to, if it belongs to one
abbrev pub Owners : Type 0
Owners = ℕ → Option ℕ

-- whether there is an owner, and it is hart h
abbrev pub is_hart : Option ℕ → ℕ → Bool
is_hart None h = false
is_hart (Some k) h = k == h

-- whether there is an owner, and it is a hart other than h
abbrev pub is_other : Option ℕ → ℕ → Bool
is_other None h = false
is_other (Some k) h = not (k == h)

-- whether word x belongs to a hart other than h
abbrev pub is_anothers : Owners → ℕ → ℕ → Bool
is_anothers owners h x = is_other (owners x) h

-- hart h is chosen, and nothing is refused
abbrev pub unrefused : ℕ → Choice
unrefused h = record { hart = h; refuse = false }

-- the word that a hart must read to know its next instruction: none if it has stopped, if it may
-- not execute the word, or if no store can change the word
abbrev pub code_ahead : Memory → HartValue → Option ℕ
code_ahead m v = needed_code v.state m v.pc

-- the word that its next step touches, if any, where these words stand over a memory
abbrev pub touch_over : Memory → HartValue → (ℕ → WordBytes) → Option Touch
touch_over m v values = planned m v (word_found (code_ahead m v) values)

-- the same, where the memory's own words stand
abbrev pub touch_ahead : Memory → HartValue → Option Touch
touch_ahead m v = touch_over m v (λ x. bytes_at m.bytes x)

-- whether an act only loads
abbrev pub only_loads : Act → Bool
only_loads Reads = true
only_loads Writes = false
only_loads Reserves = false
only_loads Tries = false

-- whether it is a store-conditional's
abbrev pub is_store_conditional : Act → Bool
is_store_conditional Reads = false
is_store_conditional Writes = false
is_store_conditional Reserves = false
is_store_conditional Tries = true

-- whether it may store
abbrev pub may_store : Act → Bool
may_store Reads = false
may_store Writes = true
may_store Reserves = false
may_store Tries = true

-- whether a touch of hart h is of no other hart's word, and no store into a word that can't be
-- written
abbrev pub is_clear_touch : Owners → Memory → ℕ → Touch → Bool
is_clear_touch owners m h t =
    not (is_anothers owners h t.word) && not (may_store t.act && is_unwritable m t.word)

-- whether such a touch is no store-conditional's, and of a word that belongs to hart h, or a load
-- of a word that can't be written
abbrev pub is_own_touch : Owners → Memory → ℕ → Touch → Bool
is_own_touch owners m h t = is_clear_touch owners m h t && not (is_store_conditional t.act)
    && (is_hart (owners t.word) h || (only_loads t.act && is_unwritable m t.word))

-- whether no word must be read, or the one that must isn't another hart's
abbrev pub is_clear_code : Owners → ℕ → Option ℕ → Bool
is_clear_code owners h None = true
is_clear_code owners h (Some x) = not (is_anothers owners h x)

-- whether nothing is touched, or the touch is clear
abbrev pub is_clear_if : Owners → Memory → ℕ → Option Touch → Bool
is_clear_if owners m h None = true
is_clear_if owners m h (Some t) = is_clear_touch owners m h t

-- whether nothing is touched, or the touch is hart h's own
abbrev pub is_own_if : Owners → Memory → ℕ → Option Touch → Bool
is_own_if owners m h None = true
is_own_if owners m h (Some t) = is_own_touch owners m h t

-- whether hart h's next step stays clear of other harts' words, where these stand over a memory
abbrev pub clear_over : Owners → Memory → ℕ → HartValue → (ℕ → WordBytes) → Bool
clear_over owners m h v values =
    is_clear_code owners h (code_ahead m v) && is_clear_if owners m h (touch_over m v values)

-- the same, where the memory's own words stand
abbrev pub is_clear : Owners → Memory → ℕ → HartValue → Bool
is_clear owners m h v =
    is_clear_code owners h (code_ahead m v) && is_clear_if owners m h (touch_ahead m v)

-- whether no other hart sees hart h's next step: its instruction stands in no word that may be
-- written, and the step touches nothing but a word of its own
abbrev pub is_alone : Owners → Memory → ℕ → HartValue → Bool
is_alone owners m h v = is_none (code_ahead m v) && is_own_if owners m h (touch_ahead m v)

-- the same of the hart with a number, if it is there: one that isn't there isn't alone
abbrev pub alone_by : Owners → World → ℕ → Option HartValue → Bool
alone_by owners w h None = false
alone_by owners w h (Some v) = is_alone owners w.memory h v

abbrev pub alone_in : Owners → World → ℕ → Bool
alone_in owners w h = alone_by owners w h (slice_get w.harts h)

-- whether the step of the hart with a number is clear: one that isn't there does nothing
abbrev pub clear_by : Owners → World → ℕ → Option HartValue → Bool
clear_by owners w h None = true
clear_by owners w h (Some v) = is_clear owners w.memory h v

abbrev pub clear_in : Owners → World → ℕ → Bool
clear_in owners w h = clear_by owners w h (slice_get w.harts h)
