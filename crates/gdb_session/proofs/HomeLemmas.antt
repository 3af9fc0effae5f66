-- A position as the result of a search.
use Rattle.std.proofs.Common.{◌≡◌, ℕ, zero, suc, ◌+◌, ◌≤◌, false, get_or, Option, Some, Result, Ok, Err, IfOk, refl, ap, ◌∙◌, arith}
use Rattle.std.specs.List.{slice_get}
use Rattle.std.proofs.lemmas.Option.{slice_get-get_or}
use Rattle.machine.specs.declared.choice.Choice.{Choice}
use Rattle.debug_session.specs.Session.{Session, Found, found_or, last_of, last_found, length_of, reason_at, world_at}
use Rattle.debug_session.specs.Wishes.{Wish, reason_on}

-- the wish for each choice
abbrev each : Wish Choice
each w c = Some c

-- it is met at each choice
met_at : (s : Session) (i : ℕ) (c : Choice) → slice_get s.choices i ≡ Some c
    → reason_at each s i ≡ Some c
unfolding reason_at
met_at s i c is = ap (reason_on each (world_at s i)) is

-- so a search for it ends at the position where it begins
ends_here : (s : Session) (p : ℕ) → p ≤ length_of s → (last_of each s p).0 ≡ p
unfolding last_found
ends_here s zero inside = refl
ends_here s (suc i) inside =
    let c = get_or s.choices i (record { hart = 0; refuse = false }) in
    let is : slice_get s.choices i ≡ Some c =
    slice_get-get_or s.choices i (record { hart = 0; refuse = false }) (omega (arith, inside)) in
    let e : i + 1 ≡ suc i = omega arith in
    ap (λ (why : Option Choice). (found_or (i + 1) why (last_found (reason_at each s) i)).0)
    (met_at s i c is) ∙ e

-- the position that a search for it finds
pub home_is_here : {T E : Type 0} (position : T → ℕ) (reason : T → Option Choice) (s : Session)
    (from : ℕ) (found : Result T E) → from ≤ length_of s → from ≡ s.position
    → IfOk found (λ t. (position t, reason t) ≡ last_of each s from)
    → IfOk found (λ t. position t ≡ s.position)
home_is_here position reason s from (Ok t) inside same is =
    ap (λ (f : Found Choice). f.0) is ∙ ends_here s from inside ∙ same
home_is_here position reason s from (Err e) inside same is = tt
