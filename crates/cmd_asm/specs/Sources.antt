-- Sources that are read one after another.
use Rattle.std.specs.Prelude.{ℕ, ◌+◌, ◌<◌, List, [], ◌∷◌, Option, Some, None, option_map, length, if◌then◌else◌}
use Rattle.std.specs.List.{slice_index}
use Rattle.std.specs.Str.{is_utf8}
use Rattle.cmd_asm.specs.declared.fault.AssemblyFault.{AssemblyFault}
use Rattle.cmd_asm.specs.declared.fault.AssemblyFault.TheVariants as faults

-- a value and those that follow, if they are known
abbrev pub known_onto : {X : Type 0} → Option X → Option (List X) → Option (List X)
known_onto None xs = None
known_onto (Some x) xs = option_map (λ xs. x ∷ xs) xs

-- all values, if each is known
abbrev pub all_known : {X : Type 0} → List (Option X) → Option (List X)
all_known [] = Some []
all_known (x ∷ xs) = known_onto x (all_known xs)

-- the index of the first source that isn't UTF-8
abbrev pub first_other : ℕ → List (List ℕ) → Option ℕ
first_other place [] = None
first_other place (bytes ∷ more) = if is_utf8 bytes then first_other (place + 1) more else Some place

-- the number at this index rose
abbrev pub RisesAt : List ℕ → List ℕ → ℕ → Type 0
RisesAt old new place = (place < length old) × (slice_index old place < slice_index new place)

-- the fact for the source that is reported as unreadable
abbrev pub IfRead : AssemblyFault → (ℕ → Type 0) → Type 0
IfRead (faults.Read place) fact = fact place
IfRead fault fact = Unit {0}

-- the fact for the source that is reported as not UTF-8
abbrev pub IfNotText : AssemblyFault → (ℕ → Type 0) → Type 0
IfNotText (faults.NotText place) fact = fact place
IfNotText fault fact = Unit {0}

-- a fault of reading, not of a statement nor of the sink
abbrev pub IsOfReading : AssemblyFault → Type 0
IsOfReading (faults.Wrong why) = ⊥
IsOfReading (faults.Read place) = Unit {0}
IsOfReading (faults.NotText place) = Unit {0}
IsOfReading faults.Write = ⊥
IsOfReading faults.Memory = Unit {0}
