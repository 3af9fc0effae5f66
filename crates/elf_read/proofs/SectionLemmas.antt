-- reading section headers one by one
use Rattle.std.proofs.Common.{◌≡◌, ℕ, suc, ◌+◌, ◌-◌, ◌<◌, ◌≤◌, List, [], ◌∷◌, ◌++◌, arith, refl, ◌∙◌, sym, ap, append_assoc, append-nil}
use Rattle.elf_read.specs.declared.section.SectionHeader.{SectionHeader}
use Rattle.elf_read.specs.Section.{section_at, sections_from}

sections_step : (bytes : List ℕ) (place count i : ℕ) → i < count → sections_from bytes place (count - i) ≡ section_at bytes place ∷ sections_from bytes (place + 40) (count - (i + 1))
unfolding sections_from
sections_step bytes place count i low = let e : count - i ≡ suc (count - (i + 1)) = omega arith in rw e refl

-- one more section is read
pub sections_more : (bytes : List ℕ) (xs out all : List SectionHeader) (place count i : ℕ) → i < count → out ≡ xs ++ section_at bytes place ∷ []
    → xs ++ sections_from bytes place (count - i) ≡ all → out ++ sections_from bytes (place + 40) (count - (i + 1)) ≡ all
sections_more bytes xs out all place count i low is so_far =
    let tail : List SectionHeader = sections_from bytes (place + 40) (count - (i + 1)) in
    ap (λ t. t ++ tail) is ∙ append_assoc xs (section_at bytes place ∷ []) tail ∙ ap (λ t. xs ++ t) (sym (sections_step bytes place count i low)) ∙ so_far

-- all sections are read
pub sections_done : (bytes : List ℕ) (xs all : List SectionHeader) (place count i : ℕ) → count ≤ i → xs ++ sections_from bytes place (count - i) ≡ all → xs ≡ all
unfolding sections_from
sections_done bytes xs all place count i end so_far =
    let e : count - i ≡ 0 = omega arith in
    let left : xs ++ [] ≡ all = rw e at so_far in
    sym (append-nil xs) ∙ left
