-- A run that is followed, on one list after another.
use Rattle.std.proofs.Common.{◌≡◌, ℕ, zero, suc, ◌+◌, Option, List, [], ◌∷◌, ◌++◌, length, map, refl, ap, ap₂, sym, ◌∙◌, arith}
use Rattle.machine.specs.World.{World, step, run}
use Rattle.machine.specs.declared.choice.Choice.{Choice}
use Rattle.trace_steps.specs.Tells.{tells}
use Rattle.trace_steps.specs.Told.{told_choice}
use Rattle.trace_steps.specs.Explains.{Followed, explained, follow, followed_run, explains}
use Rattle.trace_steps.specs.Failures.{told_failure}
use Rattle.trace_steps.specs.declared.ending.Ending.{Ending}
use Rattle.trace_steps.specs.declared.explaining.Explained.{Explained}
use Rattle.trace_steps.specs.declared.failure.Failure.{Failure}
use Rattle.trace_steps.specs.declared.told.Told.{Told}

pub follows_none : (f : Followed) (k : ℕ) → followed_run f k [] ≡ f
unfolding followed_run
follows_none f k = refl

pub follows_one : (f : Followed) (k : ℕ) (c : Choice) → followed_run f k (c ∷ []) ≡ follow f k c
unfolding followed_run
follows_one f k c = refl

pub follows_append : (f : Followed) (k : ℕ) (choices more : List Choice)
    → followed_run f k (choices ++ more) ≡ followed_run (followed_run f k choices) (k + length choices) more
unfolding followed_run
follows_append f k [] more = let e : k ≡ k + 0 = omega arith in ap (λ n. followed_run f n more) e
follows_append f k (c ∷ choices) more =
    let e : k + 1 + length choices ≡ k + suc (length choices) = omega arith in
    follows_append (follow f k c) (k + 1) choices more ∙ ap (λ n. followed_run (followed_run (follow f k c) (k + 1) choices) n more) e

-- the world is that of the run
pub follows_world : (f : Followed) (k : ℕ) (choices : List Choice) → (followed_run f k choices).world ≡ run f.world choices
unfolding followed_run run
follows_world f k [] = refl
follows_world f k (c ∷ choices) = follows_world (follow f k c) (k + 1) choices

-- and what is told is what the choices did
pub explains_tells : (f : Followed) (k : ℕ) (choices : List Choice) → map (λ (e : Explained). e.told) (explains f k choices) ≡ tells f.world choices
unfolding explains tells
explains_tells f k [] = refl
explains_tells f k (c ∷ choices) = ap (λ (l : List Told). told_choice f.world c ∷ l) (explains_tells (follow f k c) (k + 1) choices)

abbrev explained_of : Told → Option Failure → Explained
explained_of t why = record { told = t; failure = why }

-- what is explained of parts is what a choice does
pub explained_by_parts : (f : Followed) (c : Choice) (t : Told) (held : Option ℕ) (last : Option Ending) (why : Option Failure)
    → t ≡ told_choice f.world c → held ≡ f.world.reserved c.hart → last ≡ f.ends c.hart → why ≡ told_failure t held last
    → ◌≡◌ {A = Explained} (record { told = t; failure = why }) (explained f c)
explained_by_parts f c t held last why told is_held is_last fails =
    let failing : why ≡ told_failure (told_choice f.world c) (f.world.reserved c.hart) (f.ends c.hart) =
    fails ∙ ap (λ (u : Told). told_failure u held last) told
    ∙ ap₂ (λ (h : Option ℕ) (l : Option Ending). told_failure (told_choice f.world c) h l) is_held is_last in
    ap₂ (λ (u : Told) (v : Option Failure). explained_of u v) told failing
