-- What is known of reservations by the word that each hart reserved last.
use Rattle.std.specs.Prelude.{◌≡◌, ℕ, Option, Some, None, ◌⊎◌}
use Rattle.hart_reservations.specs.Marks.{Marks}
use Rattle.hart_step.specs.declared.data_access.Access.{Access}

-- each reservation that there is, is of its hart's word
abbrev pub Knows : (ℕ → ℕ) → Marks → Type 0
Knows words r = (k word : ℕ) → r k ≡ Some word → words k ≡ word

-- an access is at this address
abbrev pub IsAt : Option Access → ℕ → Type 0
IsAt None word = ⊥
IsAt (Some a) word = a.address ≡ word

-- each reservation that there is, is of its hart's word, or hart h has just made it by this access
abbrev pub KnowsBut : (ℕ → ℕ) → Option Access → ℕ → Marks → Type 0
KnowsBut words access h r =
    (k word : ℕ) → r k ≡ Some word → (words k ≡ word) ⊎ ((k ≡ h) × IsAt access word)
