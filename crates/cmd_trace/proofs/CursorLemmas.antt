-- The choices of a text, taken one after the other.
use Rattle.std.proofs.Common.{◌≡◌, ℕ, zero, suc, ◌-◌, ◌<◌, List, [], ◌∷◌, ◌++◌, Some, None, refl, ap, ◌∙◌, arith}
use Rattle.std.specs.Prelude.{replicate}
use Rattle.machine.specs.declared.choice.Choice.{Choice}
use Rattle.sched_text.specs.declared.run.Run.{Run}
use Rattle.sched_text.specs.Runs.{equal_choices, expanded_runs}
use Rattle.cmd_trace.specs.Left.{NamesFrom, Follows, Leaves}

-- the first of equal choices, and the others
first_equal : (n : ℕ) (c : Choice) (rest : List Choice) → 0 < n → replicate n c ++ rest ≡ c ∷ (replicate (n - 1) c ++ rest)
first_equal zero c rest some = absurd (omega (arith, some))
first_equal (suc n) c rest some = let e : suc n - 1 ≡ n = omega arith in rw e refl

expanded_none : expanded_runs [] ≡ []
unfolding expanded_runs
expanded_none = refl

expanded_more : (r : Run) (runs : List Run) → expanded_runs (r ∷ runs) ≡ equal_choices r ++ expanded_runs runs
unfolding expanded_runs
expanded_more r runs = refl

-- one of some equal choices is taken
pub taken_equal : (harts : ℕ) (text : List ℕ) (at : ℕ) (named : Run) (left : List Choice) → 0 < named.count → Leaves harts text at named left
    → (more : List Choice) × (left ≡ named.choice ∷ more)
    × Leaves harts text at (record { choice = named.choice; count = named.count - 1 }) more
taken_equal harts text at named left some l = (
  replicate (named.count - 1) named.choice ++ expanded_runs l.runs,
  l.in_order ∙ first_equal named.count named.choice (expanded_runs l.runs) some,
  record { runs = l.runs; read = l.read; in_order = refl },
)

none_equal : (named : Run) (rest : List Choice) → named.count ≡ 0 → equal_choices named ++ rest ≡ rest
none_equal named rest none = ap (λ n. replicate n named.choice ++ rest) none

-- the first of the choices of the next item is taken
pub taken_item : (harts : ℕ) (text : List ℕ) (at : ℕ) (old : Run) (named : Run) (end : ℕ) (left : List Choice) → old.count ≡ 0 → 0 < named.count
    → ((runs : List Run) → NamesFrom harts text at runs → Follows harts text runs (Some (named, end))) → Leaves harts text at old left
    → (more : List Choice) × (left ≡ named.choice ∷ more)
    × Leaves harts text end (record { choice = named.choice; count = named.count - 1 }) more
taken_item harts text at old named end left none some follows l =
    let f = follows l.runs l.read in (
      replicate (named.count - 1) named.choice ++ expanded_runs f.0,
      l.in_order ∙ none_equal old (expanded_runs l.runs) none ∙ ap expanded_runs f.1 ∙ expanded_more named f.0 ∙ first_equal named.count named.choice (expanded_runs f.0) some,
      record { runs = f.0; read = f.2; in_order = refl },
    )

-- no choice is left
pub taken_none : (harts : ℕ) (text : List ℕ) (at : ℕ) (old : Run) (left : List Choice) → old.count ≡ 0
    → ((runs : List Run) → NamesFrom harts text at runs → Follows harts text runs None) → Leaves harts text at old left → left ≡ []
taken_none harts text at old left none follows l =
    l.in_order ∙ none_equal old (expanded_runs l.runs) none ∙ ap expanded_runs (follows l.runs l.read) ∙ expanded_none
