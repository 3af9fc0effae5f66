-- reading program headers one by one
use Rattle.std.proofs.Common.{◌≡◌, ℕ, suc, ◌+◌, ◌-◌, ◌<◌, ◌≤◌, List, [], ◌∷◌, ◌++◌, arith, refl, ◌∙◌, sym, ap, append_assoc, append-nil}
use Rattle.elf_read.specs.declared.program_header.ProgramHeader.{ProgramHeader}
use Rattle.elf_read.specs.ProgramHeader.{program_header_at, program_headers_from}

headers_step : (bytes : List ℕ) (place count i : ℕ) → i < count → program_headers_from bytes place (count - i) ≡ program_header_at bytes place ∷ program_headers_from bytes (place + 32) (count - (i + 1))
unfolding program_headers_from
headers_step bytes place count i low = let e : count - i ≡ suc (count - (i + 1)) = omega arith in rw e refl

-- one more header is read
pub headers_more : (bytes : List ℕ) (xs out all : List ProgramHeader) (place count i : ℕ) → i < count → out ≡ xs ++ program_header_at bytes place ∷ []
    → xs ++ program_headers_from bytes place (count - i) ≡ all → out ++ program_headers_from bytes (place + 32) (count - (i + 1)) ≡ all
headers_more bytes xs out all place count i low is so_far =
    let tail : List ProgramHeader = program_headers_from bytes (place + 32) (count - (i + 1)) in
    ap (λ t. t ++ tail) is ∙ append_assoc xs (program_header_at bytes place ∷ []) tail ∙ ap (λ t. xs ++ t) (sym (headers_step bytes place count i low)) ∙ so_far

-- all headers are read
pub headers_done : (bytes : List ℕ) (xs all : List ProgramHeader) (place count i : ℕ) → count ≤ i → xs ++ program_headers_from bytes place (count - i) ≡ all → xs ≡ all
unfolding program_headers_from
headers_done bytes xs all place count i end so_far =
    let e : count - i ≡ 0 = omega arith in
    let left : xs ++ [] ≡ all = rw e at so_far in
    sym (append-nil xs) ∙ left
