-- the table of the bytes of names
use Rattle.std.proofs.Common.{◌≡◌, ℕ, zero, suc, ◌+◌, ◌<◌, false, List, Bool, get_or, ap, arith, ◌∙◌}
use Rattle.asm_lex.specs.Bytes.{is_name_byte, name_bytes}

mark_from : (j first count : ℕ) → j < count → get_or (name_bytes first count) j false ≡ is_name_byte (first + j)
unfolding name_bytes
mark_from j first zero low = absurd (omega arith)
mark_from zero first (suc count) low = let none : first ≡ first + 0 = omega arith in ap is_name_byte none
mark_from (suc j) first (suc count) low =
    let next : suc first + j ≡ first + suc j = omega arith in
    mark_from j (suc first) count (omega arith) ∙ ap is_name_byte next

pub mark_at : (marks : List Bool) (byte : ℕ) → marks ≡ name_bytes 0 256 → byte < 256 → get_or marks byte false ≡ is_name_byte byte
mark_at marks byte all low =
    let same : 0 + byte ≡ byte = omega arith in
    ap (λ l. get_or l byte false) all ∙ mark_from byte 0 256 low ∙ ap is_name_byte same
