-- Names in a string table.
use Rattle.std.specs.Prelude.{ℕ, ◌==◌, if◌then◌else◌, List, take, position, Option, Some, None}
use Rattle.std.specs.Str.{is_utf8}

-- the first n bytes, if they are text
abbrev pub text_before : List ℕ → Option ℕ → Option (List ℕ)
text_before bytes None = None
text_before bytes (Some n) = if is_utf8 (take n bytes) then Some (take n bytes) else None

-- the name at the front of some bytes: those before the first zero byte, if they are text
unfoldable pub name_in : List ℕ → Option (List ℕ)
name_in bytes = text_before bytes (position (λ b. b == 0) bytes)
