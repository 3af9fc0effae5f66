-- Look-ups in tables of names.
use Rattle.std.specs.Prelude.{ℕ, ◌+◌, List, [], ◌∷◌, ◌++◌, map, Option, Some, None, if◌then◌else◌, nat_lt, codes}
use Rattle.std.specs.Borrow.{Bor}
use Rattle.std.specs.Str.{bytes_eq}
use Rattle.isa_names.specs.Names.{abi_names, set_name}

-- the value of the first row with a name
unfoldable pub first_named : {V : Type 0} → List (List ℕ × V) → List ℕ → Option V
first_named [] name = None
first_named (row ∷ rows) name = if bytes_eq row.0 name then Some row.1 else first_named rows name

-- rows without the addresses of their texts
abbrev pub named_rows : {V : Type 0} → List (Bor (List ℕ) × V) → List (List ℕ × V)
named_rows rows = map (λ row. (row.0.now, row.1)) rows

-- a number below a bound
abbrev pub below : ℕ → Option ℕ → Option ℕ
below bound None = None
below bound (Some n) = if nat_lt n bound then Some n else None

-- texts with their numbers, from this number on
abbrev pub numbered : ℕ → List (List ℕ) → List (List ℕ × ℕ)
numbered n [] = []
numbered n (text ∷ texts) = (text, n) ∷ numbered (n + 1) texts

-- the registers by number
abbrev pub x_names : List (List ℕ)
x_names =
    codes "x0" ∷ codes "x1" ∷ codes "x2" ∷ codes "x3" ∷ codes "x4" ∷ codes "x5" ∷ codes "x6" ∷ codes "x7" ∷
    codes "x8" ∷ codes "x9" ∷ codes "x10" ∷ codes "x11" ∷ codes "x12" ∷ codes "x13" ∷ codes "x14" ∷ codes "x15" ∷
    codes "x16" ∷ codes "x17" ∷ codes "x18" ∷ codes "x19" ∷ codes "x20" ∷ codes "x21" ∷ codes "x22" ∷ codes "x23" ∷
    codes "x24" ∷ codes "x25" ∷ codes "x26" ∷ codes "x27" ∷ codes "x28" ∷ codes "x29" ∷ codes "x30" ∷ codes "x31" ∷ []

-- the ABI names, then x0 to x31, then the frame pointer's
abbrev pub register_names : List (List ℕ × ℕ)
register_names = numbered 0 abi_names ++ (numbered 0 x_names ++ (codes "fp", 8) ∷ [])

-- the sets of accesses that are not empty, by their letters
abbrev pub fence_names : List (List ℕ × ℕ)
fence_names =
    map (λ set. (set_name set, set))
    (1 ∷ 2 ∷ 3 ∷ 4 ∷ 5 ∷ 6 ∷ 7 ∷ 8 ∷ 9 ∷ 10 ∷ 11 ∷ 12 ∷ 13 ∷ 14 ∷ 15 ∷ [])

unfoldable pub register_number : List ℕ → Option ℕ
register_number name = first_named register_names name

unfoldable pub fence_bits : List ℕ → Option ℕ
fence_bits name = first_named fence_names name

-- the number of a register
unfoldable pub register_of : List ℕ → Option ℕ
register_of name = below 32 (register_number name)

-- the bits of a set of accesses: input 8, output 4, read 2, write 1
unfoldable pub fence_set_of : List ℕ → Option ℕ
fence_set_of name = below 16 (fence_bits name)
