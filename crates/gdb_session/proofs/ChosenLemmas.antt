-- Chosen harts are there.
use Rattle.std.proofs.Common.{◌≡◌, ℕ, zero, suc, ◌<◌, nat_lt, Bool, true, false, if◌then◌else◌, Option, Some, None, option_map, refl, ltb-true}
use Rattle.std.specs.Prelude.{⊤}
use Rattle.gdb_requests.specs.declared.request.Plain.{Plain}
use Rattle.gdb_requests.specs.declared.request.Plain.TheVariants.{Supported, NoAcks, Reason, Target, ThreadList, FirstThreads, MoreThreads, ThreadState, CurrentThread, Attached, Symbols, ReadThread, MoveThreads, IsThere, Registers, Register, Memory, Insert, Remove, Actions, Continue, Step, BackContinue, BackStep, Write, Detach, Kill}
use Rattle.gdb_requests.specs.declared.request.Threads.{Threads}
use Rattle.gdb_requests.specs.declared.request.Threads.TheVariants as threads
use Rattle.gdb_session.specs.declared.selected.Selected.{Selected}
use Rattle.gdb_session.specs.declared.selected.Selected.TheVariants.{All, Any, One}
use Rattle.gdb_session.specs.Answers.{after_answer, moving_harts, reading_harts}
use Rattle.gdb_session.specs.Harts.{AreAmong, ChosenAreThere, hart_read, selected_harts, selected_or, stopped_hart}
use Rattle.gdb_session.specs.Talk.{TalkValue, hart_count}

-- harts that are chosen, if any are, are there
abbrev ChosenIf : ℕ → Option Selected → Type 0
ChosenIf harts None = ⊤
ChosenIf harts (Some chosen) = AreAmong harts chosen

hart_among : (t : Bool) (harts hart : ℕ) → nat_lt hart harts ≡ t
    → ChosenIf harts (option_map One (if t then Some hart else None))
hart_among true harts hart e = ltb-true hart harts e
hart_among false harts hart e = tt

selected_among : (harts : ℕ) (named : Threads) → ChosenIf harts (selected_harts harts named)
selected_among harts threads.All = tt
selected_among harts threads.Any = tt
selected_among harts (threads.One zero) = tt
selected_among harts (threads.One (suc hart)) = hart_among (nat_lt hart harts) harts hart refl

reading_there : (t : TalkValue) (chosen : Option Selected) → ChosenIf (hart_count t) chosen
    → ChosenAreThere t → ChosenAreThere (reading_harts t chosen)
reading_there t None among there = there
reading_there t (Some chosen) among there = (among, there.1, there.2)

moving_there : (t : TalkValue) (chosen : Option Selected) → ChosenIf (hart_count t) chosen
    → ChosenAreThere t → ChosenAreThere (moving_harts t chosen)
moving_there t None among there = there
moving_there t (Some chosen) among there = (there.0, among, there.2)

-- so they are after an answer
pub still_there : (t : TalkValue) (plain : Plain) → ChosenAreThere t
    → ChosenAreThere (after_answer t plain)
unfolding after_answer
still_there t (ReadThread named) there =
    reading_there t _ (selected_among (hart_count t) named) there
still_there t (MoveThreads named) there =
    moving_there t _ (selected_among (hart_count t) named) there
still_there t Reason there = there
still_there t (Target from n) there = there
still_there t (ThreadList from n) there = there
still_there t FirstThreads there = there
still_there t MoreThreads there = there
still_there t (ThreadState thread) there = there
still_there t CurrentThread there = there
still_there t Attached there = there
still_there t Symbols there = there
still_there t (IsThere thread) there = there
still_there t Registers there = there
still_there t (Register r) there = there
still_there t (Memory a n) there = there
still_there t Actions there = there
still_there t Continue there = there
still_there t Step there = there
still_there t BackContinue there = there
still_there t BackStep there = there
still_there t Write there = there
still_there t Detach there = there
still_there t Kill there = there
still_there t (Supported knows) there = there
still_there t NoAcks there = there
still_there t (Insert p) there = there
still_there t (Remove p) there = there

read_by : (harts stopped : ℕ) (chosen : Selected) → AreAmong harts chosen → stopped < harts
    → selected_or stopped chosen < harts
read_by harts stopped (One hart) among there = among
read_by harts stopped Any among there = there
read_by harts stopped All among there = there

-- so is the hart that is read
pub read_there : (t : TalkValue) → ChosenAreThere t → hart_read t < hart_count t
read_there t there = read_by (hart_count t) (stopped_hart t.stop) t.reads there.0 there.2
