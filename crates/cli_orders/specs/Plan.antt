-- Plans of refusals, as `0:12,1:3`.
use Rattle.std.specs.Prelude.{◌≡◌, ℕ, ◌==◌, ◌&&◌, Bool, drop, List, [], ◌∷◌, ◌++◌, Option, Some, None}
use Rattle.std.specs.List.{list_any, slice_split}
use Rattle.text_items.specs.Numbers.{before_byte, from_byte}
use Rattle.cli_args.specs.Inputs.{input_of, ends_part}
use Rattle.cli_args.specs.declared.line.LineFault.{LineFault}
use Rattle.cli_args.specs.declared.line.LineFault.TheVariants as faults

-- the pair of two numbers, if both are valid
abbrev pub pair_by : Option ℕ → Option ℕ → Option (ℕ × ℕ)
pair_by None number = None
pair_by (Some hart) None = None
pair_by (Some hart) (Some number) = Some (hart, number)

-- the pair of two numbers below 2 ^ 32, with the first colon between them
abbrev pub pair_of : List ℕ → Option (ℕ × ℕ)
pair_of part = pair_by (input_of (before_byte 58 part)) (input_of (drop 1 (from_byte 58 part)))

-- these pairs, and then those that follow, if there are any
abbrev pub pairs_then : List (ℕ × ℕ) → Option (List (ℕ × ℕ)) → Option (List (ℕ × ℕ))
pairs_then pairs None = None
pairs_then pairs (Some more) = Some (pairs ++ more)

-- a pair, and those that follow
abbrev pub pair_then : Option (ℕ × ℕ) → Option (List (ℕ × ℕ)) → Option (List (ℕ × ℕ))
pair_then None rest = None
pair_then (Some pair) rest = pairs_then (pair ∷ []) rest

-- the pairs of the parts between commas
abbrev pub pairs_of_parts : List (List ℕ) → Option (List (ℕ × ℕ))
pairs_of_parts [] = Some []
pairs_of_parts (part ∷ parts) = pair_then (pair_of part) (pairs_of_parts parts)

-- the pairs of a text: one between each two commas
abbrev pub pairs_of : List ℕ → Option (List (ℕ × ℕ))
pairs_of text = pairs_of_parts (slice_split ends_part text)

-- whether a list has a pair
abbrev pub has_pair : List (ℕ × ℕ) → ℕ → ℕ → Bool
has_pair pairs h n = list_any (λ p. p.0 == h && p.1 == n) pairs

-- the keys are those pairs, in any order
abbrev pub HoldsPairs : List (ℕ × ℕ) → List (ℕ × ℕ) → Type 0
HoldsPairs keys pairs = (h n : ℕ) → has_pair keys h n ≡ has_pair pairs h n

-- a text that isn't a plan is reported as such
abbrev pub RefusesPlan : List ℕ → LineFault → Type 0
RefusesPlan text (faults.Told error) = ⊥
RefusesPlan text faults.NoCommand = ⊥
RefusesPlan text faults.BadInputs = ⊥
RefusesPlan text faults.BadPlan = pairs_of text ≡ None
RefusesPlan text faults.BadExplain = ⊥
RefusesPlan text faults.BadNumber = ⊥
RefusesPlan text faults.BadObject = ⊥
RefusesPlan text faults.Memory = Unit {0}
