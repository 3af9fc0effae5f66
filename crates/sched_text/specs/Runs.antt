-- Runs of equal choices.
use Rattle.std.specs.Prelude.{◌≡◌, ◌≢◌, ◌⊎◌, ℕ, ◌+◌, ◌≤◌, ◌==◌, ◌&&◌, nat_lt, Bool, true, false, not, List, [], ◌∷◌, ◌++◌, replicate, if◌then◌else◌}
use Rattle.std.specs.List.{All}
use Rattle.machine.specs.declared.choice.Choice.{Choice}
use Rattle.sched_text.specs.declared.run.Run.{Run}

-- n times a choice
abbrev pub choice_run : Choice → ℕ → Run
choice_run choice count = record { choice = choice; count = count }

-- the choices of a run
abbrev pub equal_choices : Run → List Choice
equal_choices r = replicate r.count r.choice

-- the choices of one run after another
unfoldable pub expanded_runs : List Run → List Choice
expanded_runs [] = []
expanded_runs (r ∷ runs) = equal_choices r ++ expanded_runs runs

-- whether two choices are equal
abbrev pub same_mark : Bool → Bool → Bool
same_mark true b = b
same_mark false b = not b

abbrev pub same_choice : Choice → Choice → Bool
same_choice c d = c.hart == d.hart && same_mark c.refuse d.refuse

-- n of a choice, then the longest runs of a list, of at most 16777216 choices each
unfoldable pub runs_from : Choice → ℕ → List Choice → List Run
runs_from c n [] = choice_run c n ∷ []
runs_from c n (d ∷ choices) =
    if same_choice c d && nat_lt n 16777216 then runs_from c (n + 1) choices else choice_run c n ∷ runs_from d 1 choices

-- from the front, the longest runs of a list, of at most 16777216 choices each
abbrev pub longest_runs : List Choice → List Run
longest_runs [] = []
longest_runs (c ∷ choices) = runs_from c 1 choices

-- a run is full, or the next one is of another choice
abbrev pub EndsBefore : Run → List Run → Type 0
EndsBefore r [] = Unit {0}
EndsBefore r (s ∷ runs) = (r.count ≡ 16777216) ⊎ (r.choice ≢ s.choice)

-- no run could take in the first choice of the next one
abbrev pub AreMaximal : List Run → Type 0
AreMaximal [] = Unit {0}
AreMaximal (r ∷ runs) = EndsBefore r runs × AreMaximal runs

-- runs stand for a list, have 1 to 16777216 choices each, and are maximal
pub record AreLongest (choices : List Choice) (runs : List Run) : Type 0 where
  pub stand : expanded_runs runs ≡ choices
  pub counts : All (λ r. (1 ≤ r.count) × (r.count ≤ 16777216)) runs
  pub maximal : AreMaximal runs
