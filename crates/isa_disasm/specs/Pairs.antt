-- The digits of bytes one after another.
use Rattle.std.specs.Prelude.{ℕ, zero, suc, ◌++◌, List, []}
use Rattle.isa_names.specs.Digits.{byte_text}

-- the two digits of each of so many numbers, the first of them given
unfoldable pub pairs_from : ℕ → ℕ → List ℕ
pairs_from first zero = []
pairs_from first (suc count) = byte_text first ++ pairs_from (suc first) count
