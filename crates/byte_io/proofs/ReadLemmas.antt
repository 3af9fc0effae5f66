-- What is known of bytes that were read to the end.
use Rattle.std.proofs.Common.{◌≡◌, ℕ, List, Option, Some, None, rules, subst}
use Rattle.std.specs.Option.{IfSome}
use Rattle.std.specs.Io.KnownBytes.{Consumes, IsAtEnd}

-- what holds of the bytes that were read to the end holds of those that a device had left
pub read_known : (P : List ℕ → Type 0) (old new : Option (List ℕ)) (bytes : List ℕ) → Consumes old new bytes → IsAtEnd new → P bytes → IfSome old P
read_known P None new bytes taken ended h = tt
read_known P (Some left) new bytes taken ended h =
    let same : bytes ≡ left = search (rules, taken, ended) in
    subst P same h
