-- Lines, one more at a time.
use Rattle.std.proofs.Common.{◌≡◌, ℕ, zero, suc, ◌+◌, ◌-◌, ◌%◌, ◌^◌, ◌<◌, ◌≤◌, List, [], ◌∷◌, ◌++◌, ◌∙◌, sym, ap, refl, arith}
use Rattle.std.proofs.lemmas.List.{append_assoc, append-nil}
use Rattle.mem_store.specs.Memory.{Memory}
use Rattle.elf_read.specs.Symbol.{SymbolValue}
use Rattle.debug_text.specs.Texts.{register_entry, registers_from, cell_entry, cells_text}
use Rattle.debug_text.specs.Code.{code_line, code_from}

-- one register more
pub registers_more : (x : ℕ → ℕ) (r n : ℕ) → r < n → registers_from x r (n - r) ≡ register_entry x r ++ registers_from x (r + 1) (n - (r + 1))
unfolding registers_from
registers_more x r n h = let e : n - r ≡ suc (n - (r + 1)) = omega arith in rw e refl

-- no register is left
pub registers_end : (x : ℕ → ℕ) (r n : ℕ) → n ≤ r → registers_from x r (n - r) ≡ []
unfolding registers_from
registers_end x r n h = let e : n - r ≡ 0 = omega arith in rw e refl

-- one word more
pub cells_more : (m : Memory) (a r n : ℕ) → r < n → cells_text m a (n - r) ≡ cell_entry m a ++ cells_text m ((a + 4) % 2 ^ 32) (n - (r + 1))
unfolding cells_text
cells_more m a r n h = let e : n - r ≡ suc (n - (r + 1)) = omega arith in rw e refl

-- no word is left
pub cells_end : (m : Memory) (a r n : ℕ) → n ≤ r → cells_text m a (n - r) ≡ []
unfolding cells_text
cells_end m a r n h = let e : n - r ≡ 0 = omega arith in rw e refl

-- one line of code more
pub code_more : (symbols : List SymbolValue) (m : Memory) (pc a r n : ℕ) → r < n
    → code_from symbols m pc a (n - r) ≡ code_line symbols m pc a ++ code_from symbols m pc ((a + 4) % 2 ^ 32) (n - (r + 1))
unfolding code_from
code_more symbols m pc a r n h = let e : n - r ≡ suc (n - (r + 1)) = omega arith in rw e refl

-- no line of code is left
pub code_end : (symbols : List SymbolValue) (m : Memory) (pc a r n : ℕ) → n ≤ r → code_from symbols m pc a (n - r) ≡ []
unfolding code_from
code_end symbols m pc a r n h = let e : n - r ≡ 0 = omega arith in rw e refl

-- a line more in a text, and what is left after it
pub lines_more : (text new entry rest left all : List ℕ) → new ≡ text ++ entry → rest ≡ entry ++ left → text ++ rest ≡ all → new ++ left ≡ all
lines_more text new entry rest left all pushed split so_far =
    ap (λ (t : List ℕ). t ++ left) pushed ∙ append_assoc text entry left ∙ ap (λ (r : List ℕ). text ++ r) (sym split) ∙ so_far

-- nothing is left
pub lines_end : (text rest all : List ℕ) → rest ≡ [] → text ++ rest ≡ all → text ≡ all
lines_end text rest all none so_far = sym (append-nil text) ∙ ap (λ (r : List ℕ). text ++ r) (sym none) ∙ so_far
