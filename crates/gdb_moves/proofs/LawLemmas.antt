-- GDB's own step over a hit is one choice.
use Rattle.std.proofs.Common.{◌≡◌, ℕ, ◌+◌, ◌≤◌, ◌<◌, ◌&&◌, true, false, eqb, leb, ltb, Option, Some, None, inl, inr, ap, sym, refl, ◌∙◌, arith, rules}
use Rattle.std.proofs.lemmas.Bool.{cases_Bool}
use Rattle.std.proofs.lemmas.Bool.Decides.{nat_tests}
use Rattle.std.proofs.lemmas.Option.{slice_get_within}
use Rattle.std.specs.List.{slice_get}
use Rattle.std.specs.Option.{is_some}
use Rattle.machine.specs.declared.choice.Choice.{Choice}
use Rattle.debug_session.specs.Wishes.{Wish, reason_on}
use Rattle.debug_session.specs.Session.{Session, Found, world_at, length_of, reason_at, next_of, last_of}
use Rattle.debug_session.proofs.FoundLemmas.{first_here, last_here}
use Rattle.gdb_moves.specs.Points.{Marked}
use Rattle.gdb_moves.specs.Sights.{seen_at}
use Rattle.gdb_moves.specs.Reasons.{ahead, behind, range_has, step_reason, counted_stop, reason_for, wanted_stop}
use Rattle.gdb_moves.specs.Steps.{step_alone_found}
use Rattle.gdb_moves.specs.declared.goal.Goal.TheVariants.{Step, StepBack}
use Rattle.gdb_moves.specs.declared.seen.Seen.{Seen}
use Rattle.gdb_moves.specs.declared.stop.AddressRange.{AddressRange}
use Rattle.gdb_moves.specs.declared.stop.StopReason.TheVariants.{Ready}
use Rattle.gdb_moves.specs.declared.stop.ThreadStop.{ThreadStop}
use Rattle.gdb_moves.specs.declared.stop.Whose.TheVariants.{One}

same_number : (n : ℕ) → eqb n n ≡ true
same_number n = search rules

-- the reason at a choice that was made
reason_there : {R : Type 0} (wish : Wish R) (s : Session) (i : ℕ) (c : Choice)
    → slice_get s.choices i ≡ Some c → wish (world_at s i) c ≡ reason_at wish s i
unfolding reason_at
reason_there wish s i c is = ap (reason_on wish (world_at s i)) (sym is)

empty_has : (range : AddressRange) (pc : ℕ) → range.to ≤ range.from → range_has range pc ≡ false
empty_has range pc empty = elim (cases_Bool (leb range.from pc && ltb pc range.to)) [
  | inl there ↦ absurd (let low : range.from ≤ pc = grind (arith, nat_tests) in
      let high : pc < range.to = grind (arith, nat_tests) in omega (arith, low, high, empty))
  | inr not_there ↦ not_there
]

step_counts : (h : ℕ) (range : AddressRange) (next : Option ℕ) → range.to ≤ range.from
    → is_some (counted_stop (One h) h (step_reason range next)) ≡ true
step_counts h range None empty = rw (same_number h) refl
step_counts h range (Some pc) empty = rw (empty_has range pc empty, same_number h) refl

own_step : (h : ℕ) (range : AddressRange) (seen : Seen)
    → seen.ran ≡ true → ahead seen ≡ None → range.to ≤ range.from
    → is_some (counted_stop (One h) h (reason_for (Step h range) h seen)) ≡ true
own_step h range seen ran none empty =
    rw (none, same_number h, ran) (step_counts h range seen.next empty)

own_step_back : (h : ℕ) (seen : Seen) → seen.ran ≡ true → behind seen ≡ None
    → counted_stop (One h) h (reason_for (StepBack h) h seen)
    ≡ Some (record { hart = h; reason = Ready })
own_step_back h seen ran none = rw (none, same_number h, ran) (rw (same_number h) refl)

-- forwards
pub one_choice : (m : Marked) (s : Session) (c : Choice) (range : AddressRange)
    → slice_get s.choices s.position ≡ Some c
    → (seen_at m (world_at s s.position) c).ran ≡ true
    → ahead (seen_at m (world_at s s.position) c) ≡ None → range.to ≤ range.from
    → (step_alone_found m c.hart range s).0 ≡ s.position + 1
unfolding step_alone_found
one_choice m s c range is ran none empty =
    let wish = wanted_stop m (One c.hart) (Step c.hart range) in
    ap (λ (f : Found ThreadStop). f.0)
    (sym (first_here (reason_at wish s) s.position (length_of s)
    (wish (world_at s s.position) c) (next_of wish s)
    (slice_get_within s.choices s.position c is) (reason_there wish s s.position c is)
    (own_step c.hart range (seen_at m (world_at s s.position) c) ran none empty) refl))

-- backwards
pub one_choice_back : (m : Marked) (s : Session) (c : Choice) (i : ℕ)
    → slice_get s.choices i ≡ Some c → (seen_at m (world_at s i) c).ran ≡ true
    → behind (seen_at m (world_at s i) c) ≡ None
    → last_of (wanted_stop m (One c.hart) (StepBack c.hart)) s (i + 1)
    ≡ (i + 1, Some (record { hart = c.hart; reason = Ready }))
one_choice_back m s c i is ran none =
    let wish = wanted_stop m (One c.hart) (StepBack c.hart) in
    let stop : wish (world_at s i) c ≡ Some (record { hart = c.hart; reason = Ready }) =
    own_step_back c.hart (seen_at m (world_at s i) c) ran none in
    sym (last_here (reason_at wish s) i (Some (record { hart = c.hart; reason = Ready }))
    (sym stop ∙ reason_there wish s i c is) refl)
