-- Escapes are undone.
use Rattle.std.specs.Prelude.{ℕ, ◌==◌, bit_xor, Bool, true, false, List, [], ◌∷◌, if◌then◌else◌}

-- the text of some data, whose first byte is escaped or not; `}` at the end stands for nothing
unfoldable pub text_after : Bool → List ℕ → List ℕ
text_after is_escaped [] = []
text_after true (b ∷ body) = bit_xor b 32 ∷ text_after false body
text_after false (b ∷ body) = if b == 125 then text_after true body else b ∷ text_after false body

-- the text of some data: a byte behind `}` stands for itself with bit 5 changed
abbrev pub unescaped : List ℕ → List ℕ
unescaped body = text_after false body
