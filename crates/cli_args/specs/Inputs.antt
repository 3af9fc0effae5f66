-- Lists of inputs, as `7,9`.
use Rattle.std.specs.Prelude.{◌≡◌, ℕ, ◌^◌, ◌==◌, Bool, List, [], ◌∷◌, ◌++◌, Option, Some, None}
use Rattle.std.specs.List.{slice_split}
use Rattle.cli_args.specs.Numbers.{number_below}
use Rattle.cli_args.specs.declared.line.LineFault.{LineFault}
use Rattle.cli_args.specs.declared.line.LineFault.TheVariants as faults

-- the comma
abbrev pub ends_part : ℕ → Bool
ends_part b = b == 44

-- the input of one or more decimal digits, below 2 ^ 32; leading zeros are allowed
abbrev pub input_of : List ℕ → Option ℕ
input_of digits = number_below (2 ^ 32) digits

-- these inputs, and then those that follow, if there are any
abbrev pub inputs_then : List ℕ → Option (List ℕ) → Option (List ℕ)
inputs_then inputs None = None
inputs_then inputs (Some more) = Some (inputs ++ more)

-- an input, and those that follow
abbrev pub input_then : Option ℕ → Option (List ℕ) → Option (List ℕ)
input_then None rest = None
input_then (Some input) rest = inputs_then (input ∷ []) rest

-- the inputs of the parts between commas
abbrev pub inputs_of_parts : List (List ℕ) → Option (List ℕ)
inputs_of_parts [] = Some []
inputs_of_parts (part ∷ parts) = input_then (input_of part) (inputs_of_parts parts)

-- the inputs of a text: one between each two commas
abbrev pub inputs_of : List ℕ → Option (List ℕ)
inputs_of text = inputs_of_parts (slice_split ends_part text)

-- a text that isn't a list of inputs is reported as such
abbrev pub RefusesInputs : List ℕ → LineFault → Type 0
RefusesInputs text (faults.Told error) = ⊥
RefusesInputs text faults.NoCommand = ⊥
RefusesInputs text faults.BadInputs = inputs_of text ≡ None
RefusesInputs text faults.BadPlan = ⊥
RefusesInputs text faults.BadExplain = ⊥
RefusesInputs text faults.BadNumber = ⊥
RefusesInputs text faults.BadObject = ⊥
RefusesInputs text faults.Memory = Unit {0}
