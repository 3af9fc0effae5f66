-- The names of registers, and of the sets of a fence.
use Rattle.std.specs.Prelude.{ℕ, ◌/◌, ◌%◌, ◌==◌, ◌++◌, List, [], ◌∷◌, codes, get_or, if◌then◌else◌}

-- the names of the registers in order
abbrev pub abi_names : List (List ℕ)
abi_names =
    codes "zero" ∷ codes "ra" ∷ codes "sp" ∷ codes "gp" ∷ codes "tp" ∷ codes "t0" ∷ codes "t1" ∷ codes "t2" ∷
    codes "s0" ∷ codes "s1" ∷ codes "a0" ∷ codes "a1" ∷ codes "a2" ∷ codes "a3" ∷ codes "a4" ∷ codes "a5" ∷
    codes "a6" ∷ codes "a7" ∷ codes "s2" ∷ codes "s3" ∷ codes "s4" ∷ codes "s5" ∷ codes "s6" ∷ codes "s7" ∷
    codes "s8" ∷ codes "s9" ∷ codes "s10" ∷ codes "s11" ∷ codes "t3" ∷ codes "t4" ∷ codes "t5" ∷ codes "t6" ∷ []

-- the name of a register
unfoldable pub abi : ℕ → List ℕ
abi register = get_or abi_names register []

-- a letter, if the set has the bit of this weight
abbrev pub letter : ℕ → ℕ → ℕ → List ℕ
letter byte set worth = if set / worth % 2 == 1 then byte ∷ [] else []

-- the letters of a fence's set: `i`, `o`, `r` and `w` from the high bit on
unfoldable pub set_name : ℕ → List ℕ
set_name set = letter 105 set 8 ++ (letter 111 set 4 ++ (letter 114 set 2 ++ letter 119 set 1))
