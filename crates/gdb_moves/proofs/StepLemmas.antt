-- Where steps of threads end.
use Rattle.std.proofs.Common.{◌≡◌, ℕ, ◌<◌, true, List, Option, Some, None, IfSome, Result, Ok, Err, IfOk, ap, ap₂, ◌∙◌, option_map}
use Rattle.debug_session.specs.Searches.{IsLeastStop}
use Rattle.debug_session.specs.Session.{Session, Found, length_of, next_of, reason_at}
use Rattle.gdb_moves.specs.After.{reason_unless}
use Rattle.gdb_moves.specs.Points.{Marked}
use Rattle.gdb_moves.specs.Reasons.{wanted_stop}
use Rattle.gdb_moves.specs.Steps.{is_ready, or_done, first_unless, then_next, alone_stop, step_found, step_alone_found}
use Rattle.gdb_moves.proofs.FoundLemmas.{found_least}
use Rattle.gdb_moves.specs.declared.goal.Goal.TheVariants.{Step, Next}
use Rattle.gdb_moves.specs.declared.stop.AddressRange.{AddressRange}
use Rattle.gdb_moves.specs.declared.stop.ThreadStop.{ThreadStop}
use Rattle.gdb_moves.specs.declared.stop.Whose.TheVariants.{All, One}

-- a step, from the end of its own choice on
step_from : (m : Marked) (hart : ℕ) (range : AddressRange) (passed : List ℕ) (from : ℕ)
    (s : Session) (k q : ℕ) (own stop : Option ThreadStop)
    → IsLeastStop (reason_unless passed (reason_at (wanted_stop m All (Step hart range)) s)) from
    (length_of s) k own
    → (q, stop) ≡ then_next m hart passed s k own
    → ◌≡◌ {A = Found ThreadStop} (q, stop) (step_found m hart range passed from s)
unfolding step_found first_unless
step_from m hart range passed from s k q own stop least next =
    next
    ∙ ap (λ (f : Found ThreadStop). then_next m hart passed s f.0 f.1)
    (found_least (reason_unless passed (reason_at (wanted_stop m All (Step hart range)) s)) from
    (length_of s) k own least)

-- the same of what is found, if anything is
pub step_is : {T E : Type 0} (position : T → ℕ) (stop : T → Option ThreadStop) (m : Marked)
    (hart : ℕ) (range : AddressRange) (passed : List ℕ) (from : ℕ) (s : Session) (k : ℕ)
    (own : Option ThreadStop) (found : Result T E)
    → IsLeastStop (reason_unless passed (reason_at (wanted_stop m All (Step hart range)) s)) from
    (length_of s) k own
    → IfOk found (λ t. (position t, stop t) ≡ then_next m hart passed s k own)
    → IfOk found (λ t. (position t, stop t) ≡ step_found m hart range passed from s)
step_is position stop m hart range passed from s k own (Err e) least next = tt
step_is position stop m hart range passed from s k own (Ok t) least next =
    step_from m hart range passed from s k (position t) own (stop t) least next

-- what comes behind a step that is done
pub next_is : (m : Marked) (hart : ℕ) (passed : List ℕ) (s : Session) (k q : ℕ)
    (first next stop : Option ThreadStop) (own : ThreadStop) → first ≡ Some own
    → is_ready own.reason ≡ true
    → IsLeastStop (reason_unless passed (reason_at (wanted_stop m All (Next hart)) s)) k
    (length_of s) q next → stop ≡ or_done hart next
    → ◌≡◌ {A = Found ThreadStop} (q, stop) (then_next m hart passed s k first)
unfolding first_unless
next_is m hart passed s k q first next stop own is ready least done =
    rw is (rw ready
    (ap (λ (o : Option ThreadStop). (q, o)) done
    ∙ ap (λ (f : Found ThreadStop). (f.0, or_done hart f.1))
    (found_least (reason_unless passed (reason_at (wanted_stop m All (Next hart)) s)) k
    (length_of s) q next least)))

-- a step alone
pub step_alone_is : (m : Marked) (hart : ℕ) (range : AddressRange) (s : Session) (k p : ℕ)
    (own seen stop : Option ThreadStop)
    → (k, own) ≡ next_of (wanted_stop m (One hart) (Step hart range)) s → seen ≡ own
    → stop ≡ option_map alone_stop seen → p ≡ k
    → ◌≡◌ {A = Found ThreadStop} (p, stop) (step_alone_found m hart range s)
unfolding step_alone_found
step_alone_is m hart range s k p own seen stop found same is here =
    ap₂ (λ (n : ℕ) (o : Option ThreadStop). (n, o)) here (is ∙ ap (option_map alone_stop) same)
    ∙ ap (λ (f : Found ThreadStop). (f.0, option_map alone_stop f.1)) found

-- a stop of a thread alone is behind a choice, as the stop that was found
pub alone_above : (k : ℕ) (own stop : Option ThreadStop) → stop ≡ option_map alone_stop own
    → IfSome own (λ _. 0 < k) → IfSome stop (λ _. 0 < k)
alone_above k None stop is above = rw is tt
alone_above k (Some own) stop is above = rw is above
