-- The harts that are chosen, and how often.
use Rattle.std.specs.Prelude.{◌≡◌, ℕ, ◌+◌, ◌==◌, ◌&&◌, Bool, List, [], ◌∷◌, map, if◌then◌else◌}
use Rattle.std.specs.List.{list_any}
use Rattle.machine.specs.declared.choice.Choice.{Choice}

-- the harts that are chosen, in order
abbrev pub chosen : List Choice → List ℕ
chosen choices = map (λ c. c.hart) choices

-- whether hart k is chosen
abbrev pub is_chosen : List Choice → ℕ → Bool
is_chosen choices k = list_any (λ c. c.hart == k) choices

-- two lists of choices choose the same harts
abbrev pub ChooseAlike : List Choice → List Choice → Type 0
ChooseAlike a b = (k : ℕ) → is_chosen a k ≡ is_chosen b k

-- the number of choices of hart h
abbrev pub own : List Choice → ℕ → ℕ
own [] h = 0
own (c ∷ choices) h = (if c.hart == h then 1 else 0) + own choices h

-- the number of refused choices of hart h
abbrev pub refusals : List Choice → ℕ → ℕ
refusals [] h = 0
refusals (c ∷ choices) h = (if c.hart == h && c.refuse then 1 else 0) + refusals choices h
