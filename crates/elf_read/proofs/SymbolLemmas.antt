-- reading symbols one by one
use Rattle.std.proofs.Common.{◌≡◌, ℕ, suc, ◌+◌, ◌-◌, ◌<◌, ◌≤◌, List, [], ◌∷◌, ◌++◌, length, arith, refl, sym, drop, true, false, Some, None, Ok, Err}
use Rattle.std.specs.Prelude.{◌==◌}
use Rattle.std.proofs.lemmas.Bool.{false≢true}
use Rattle.std.proofs.lemmas.Bool.Decides.{nat_tests}
use Rattle.elf_read.specs.Symbol.{SymbolValue}
use Rattle.elf_read.specs.SymbolFields.{read_symbol}
use Rattle.elf_read.specs.Name.{name_in}
use Rattle.elf_read.specs.Number.{word_at}
use Rattle.elf_read.specs.SymbolTable.{Symbols, symbols_from, with_name, added}
use Rattle.elf_read.specs.declared.symbol.SymFault.TheVariants as faults

symbols_step : (names bytes : List ℕ) (done : List SymbolValue) (place count i : ℕ) → i < count
    → symbols_from names bytes done place (count - i) ≡ with_name (name_in (drop (word_at bytes (place + 0)) names)) (λ name. symbols_from names bytes (added done name (read_symbol bytes place)) (place + 16) (count - (i + 1)))
unfolding symbols_from
symbols_step names bytes done place count i low = let e : count - i ≡ suc (count - (i + 1)) = omega arith in rw e refl

pub symbols_end : (names bytes : List ℕ) (done : List SymbolValue) (place count i : ℕ) → count ≤ i → symbols_from names bytes done place (count - i) ≡ Ok done
unfolding symbols_from
symbols_end names bytes done place count i low = let e : count - i ≡ 0 = omega arith in rw e refl

no_zero : (n : ℕ) → true ≡ (suc n == 0) → ⊥
no_zero n e = grind (arith, nat_tests, e)

module _ (names bytes : List ℕ) (done : List SymbolValue) (place count i : ℕ) (total : Symbols) (low : i < count) (so_far : symbols_from names bytes done place (count - i) ≡ total) where
  here : with_name (name_in (drop (word_at bytes (place + 0)) names)) (λ name. symbols_from names bytes (added done name (read_symbol bytes place)) (place + 16) (count - (i + 1))) ≡ total
  here = rw (← symbols_step names bytes done place count i low) so_far

  -- a symbol whose name is not in the table ends the reading
  pub symbol_refused : name_in (drop (word_at bytes (place + 0)) names) ≡ None → total ≡ Err faults.BadTable
  symbol_refused is = sym (rw is at here)

  -- a symbol is read, and the others after it
  symbol_read : (name : List ℕ) → name_in (drop (word_at bytes (place + 0)) names) ≡ Some name → symbols_from names bytes (added done name (read_symbol bytes place)) (place + 16) (count - (i + 1)) ≡ total
  symbol_read name is = rw is at here

  -- a symbol without a name is left out
  pub symbol_unnamed : (name : List ℕ) → name_in (drop (word_at bytes (place + 0)) names) ≡ Some name → true ≡ (length name == 0) → symbols_from names bytes done (place + 16) (count - (i + 1)) ≡ total
  symbol_unnamed [] is e = symbol_read [] is
  symbol_unnamed (b ∷ bs) is e = absurd (no_zero (length bs) e)

  -- a symbol with a name is added
  pub symbol_named : (name : List ℕ) (after : List SymbolValue) → name_in (drop (word_at bytes (place + 0)) names) ≡ Some name → false ≡ (length name == 0)
      → after ≡ done ++ read_symbol bytes place name ∷ [] → symbols_from names bytes after (place + 16) (count - (i + 1)) ≡ total
  symbol_named [] after is e pushed = absurd (false≢true e)
  symbol_named (b ∷ bs) after is e pushed = rw pushed (symbol_read (b ∷ bs) is)
