-- Which harts were chosen.
use Rattle.std.specs.Prelude.{ℕ, ◌==◌, Bool, true, false, if◌then◌else◌, List, slice_index_or}

-- for each hart whether it was chosen
abbrev pub Harts : Type 0
Harts = ℕ → Bool

-- hart h was chosen too
abbrev pub with_hart : Harts → ℕ → Harts
with_hart harts h = λ k. if k == h then true else harts k

-- an array's entry for a hart; false past its end
abbrev pub marked_at : List Bool → Harts
marked_at marks k = slice_index_or marks k false
