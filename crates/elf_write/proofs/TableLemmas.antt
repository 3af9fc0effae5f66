-- adding symbols one by one
use Rattle.std.proofs.Common.{◌≡◌, ℕ, suc, zero, ◌+◌, ◌≤◌, List, [], ◌∷◌, Bool, true, false, Some, None, length, drop, refl, arith}
use Rattle.std.specs.Prelude.{String}
use Rattle.std.specs.String.{string_bytes}
use Rattle.std.specs.List.{slice_get}
use Rattle.asm_assemble.specs.Program.{symbol_list}
use Rattle.asm_assemble.specs.declared.program.Symbol.{Symbol}
use Rattle.elf_write.specs.Table.{TablesValue, with_symbol, with_symbols, is_bound, bound}

symbol_from : {A : Type 0} (es : List (String A × Symbol)) (i : ℕ) (e : String A × Symbol) → slice_get es i ≡ Some e
    → drop i (symbol_list es) ≡ (string_bytes e.0, e.1) ∷ drop (suc i) (symbol_list es)
unfolding symbol_list
symbol_from [] i e is = cc
symbol_from (x ∷ es) zero e is = cc
symbol_from (x ∷ es) (suc i) e is = symbol_from es i e is

-- the symbol at an index, and then those after it
symbol_at : {A : Type 0} (es : List (String A × Symbol)) (i : ℕ) (e : String A × Symbol) → slice_get es i ≡ Some e
    → drop i (symbol_list es) ≡ (string_bytes e.0, e.1) ∷ drop (i + 1) (symbol_list es)
symbol_at es i e is = let one : i + 1 ≡ suc i = omega arith in rw one (symbol_from es i e is)

past : {A : Type 0} (es : List (String A × Symbol)) (i : ℕ) → length es ≤ i → drop i (symbol_list es) ≡ []
unfolding symbol_list
past [] zero end = refl
past [] (suc i) end = refl
past (x ∷ es) zero end = absurd (omega arith)
past (x ∷ es) (suc i) end = past es i (omega arith)

-- the next one is added
pub added : {A : Type 0} (t : TablesValue) (global : Bool) (es : List (String A × Symbol)) (i : ℕ) (e : String A × Symbol) → slice_get es i ≡ Some e → is_bound global e.1 ≡ true
    → with_symbols (with_symbol t (string_bytes e.0, e.1)) (bound global (drop (i + 1) (symbol_list es))) ≡ with_symbols t (bound global (drop i (symbol_list es)))
added t global es i e is yes_bound = rw (symbol_at es i e is) (rw yes_bound refl)

-- the next one is left out
pub left_out : {A : Type 0} (t : TablesValue) (global : Bool) (es : List (String A × Symbol)) (i : ℕ) (e : String A × Symbol) → slice_get es i ≡ Some e → is_bound global e.1 ≡ false
    → with_symbols t (bound global (drop (i + 1) (symbol_list es))) ≡ with_symbols t (bound global (drop i (symbol_list es)))
left_out t global es i e is not_bound = rw (symbol_at es i e is) (rw not_bound refl)

none_from : {A : Type 0} (es : List (String A × Symbol)) (i : ℕ) → slice_get es i ≡ None → length es ≤ i
none_from [] i is = omega arith
none_from (x ∷ es) zero is = cc
none_from (x ∷ es) (suc i) is = let rest = none_from es i is in omega arith

-- there is no next one
pub none_here : {A : Type 0} (t : TablesValue) (global : Bool) (es : List (String A × Symbol)) (i : ℕ) → slice_get es i ≡ None
    → with_symbols t (bound global (drop (i + 1) (symbol_list es))) ≡ with_symbols t (bound global (drop i (symbol_list es)))
none_here t global es i is = let end = none_from es i is in rw (past es (i + 1) (omega (arith, end)), past es i end) refl

-- none is left
pub none_left : {A : Type 0} (t : TablesValue) (global : Bool) (es : List (String A × Symbol)) (i : ℕ) → length es ≤ i → with_symbols t (bound global (drop i (symbol_list es))) ≡ t
none_left t global es i end = rw (past es i end) refl
