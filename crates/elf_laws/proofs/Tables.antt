-- The symbol table and its names, symbol by symbol.
use Rattle.std.proofs.Common.{◌≡◌, ℕ, ◌+◌, ◌*◌, ◌%◌, ◌^◌, ◌<◌, Bool, true, false, cond, List, [], ◌∷◌, ◌++◌, length, refl, sym, ap, ◌∙◌, arith, append_assoc, append-nil, length-append}
use Rattle.std.specs.Prelude.{filter, not}
use Rattle.std.proofs.lemmas.List.Sums.{sum_by-cons}
use Rattle.asm_assemble.specs.Program.{SymbolList}
use Rattle.asm_assemble.specs.declared.program.Symbol.{Symbol}
use Rattle.elf_write.specs.Field.{bytes_of_all}
use Rattle.elf_write.specs.Table.{TablesValue, symbol_fields, no_symbols, with_symbol, with_symbols, symbol_tables}
use Rattle.elf_laws.specs.Fields.{listed_symbols, local_symbols, names_size}

abbrev Entry : Type 0
Entry = List ℕ × Symbol

with_both : (t : TablesValue) (xs ys : SymbolList) → with_symbols t (xs ++ ys) ≡ with_symbols (with_symbols t xs) ys
with_both t [] ys = refl
with_both t (x ∷ xs) ys = with_both (with_symbol t x) xs ys

-- the tables of a program's symbols are those of the listed symbols, one by one
pub tables_are : (ss : SymbolList) → symbol_tables ss ≡ with_symbols no_symbols (listed_symbols ss)
unfolding symbol_tables
tables_are ss = sym (with_both no_symbols (local_symbols ss) (filter (λ (s : Entry). s.1.global) ss))

pub record Grows (old new : TablesValue) : Type 0 where
  pub more_entries : List ℕ
  pub more_names : List ℕ
  pub entries : new.entries ≡ old.entries ++ more_entries
  pub names : new.names ≡ old.names ++ more_names

pub grows : (t : TablesValue) (ss : SymbolList) → Grows t (with_symbols t ss)
unfolding with_symbol
grows t [] = record { more_entries = []; more_names = []; entries = sym (append-nil t.entries); names = sym (append-nil t.names) }
grows t (s ∷ ss) =
    let g = grows (with_symbol t s) ss in
    record {
      more_entries = bytes_of_all (symbol_fields (length t.names) s.1) ++ g.more_entries;
      more_names = (s.0 ++ 0 ∷ []) ++ g.more_names;
      entries = g.entries ∙ append_assoc t.entries (bytes_of_all (symbol_fields (length t.names) s.1)) g.more_entries;
      names = g.names ∙ append_assoc t.names (s.0 ++ 0 ∷ []) g.more_names;
    }

entry_long : (t : TablesValue) (s : Entry) → length (with_symbol t s).entries ≡ length t.entries + 16
unfolding with_symbol
entry_long t s = length-append t.entries (bytes_of_all (symbol_fields (length t.names) s.1))

pub entries_long : (t : TablesValue) (ss : SymbolList) → length (with_symbols t ss).entries ≡ length t.entries + 16 * length ss
entries_long t [] = omega arith
entries_long t (s ∷ ss) = let e = entries_long (with_symbol t s) ss in let f = entry_long t s in omega (arith, e, f)

name_long : (t : TablesValue) (s : Entry) → length (with_symbol t s).names ≡ length t.names + (length s.0 + 1)
unfolding with_symbol
name_long t s = length-append t.names (s.0 ++ 0 ∷ []) ∙ ap (λ n. length t.names + n) (length-append s.0 (0 ∷ []))

names_more : (s : Entry) (ss : SymbolList) → names_size (s ∷ ss) ≡ (length s.0 + 1) + names_size ss
names_more s ss = sum_by-cons (λ (s : Entry). length s.0 + 1) s ss

pub names_long : (t : TablesValue) (ss : SymbolList) → length (with_symbols t ss).names ≡ length t.names + names_size ss
names_long t [] = omega arith
names_long t (s ∷ ss) = let e = names_long (with_symbol t s) ss in let f = name_long t s in let g = names_more s ss in omega (arith, e, f, g)

-- the symbol behind others
pub record HasAt (t : TablesValue) (before : SymbolList) (s : Entry) : Type 0 where
  pub entries_behind : List ℕ
  pub names_behind : List ℕ
  pub entries : t.entries ≡ (with_symbols no_symbols before).entries ++ (bytes_of_all (symbol_fields (length (with_symbols no_symbols before).names) s.1) ++ entries_behind)
  pub names : t.names ≡ (with_symbols no_symbols before).names ++ ((s.0 ++ 0 ∷ []) ++ names_behind)

pub symbol_there : (before : SymbolList) (s : Entry) (after : SymbolList) → HasAt (with_symbols no_symbols (before ++ s ∷ after)) before s
unfolding with_symbol
symbol_there before s after =
    let u = with_symbols no_symbols before in
    let g : Grows (with_symbol u s) (with_symbols (with_symbol u s) after) = grows (with_symbol u s) after in
    let same : with_symbols no_symbols (before ++ s ∷ after) ≡ with_symbols (with_symbol u s) after = with_both no_symbols before (s ∷ after) in
    record {
      entries_behind = g.more_entries;
      names_behind = g.more_names;
      entries = ap (λ (t : TablesValue). t.entries) same ∙ (g.entries ∙ append_assoc u.entries (bytes_of_all (symbol_fields (length u.names) s.1)) g.more_entries);
      names = ap (λ (t : TablesValue). t.names) same ∙ (g.names ∙ append_assoc u.names (s.0 ++ 0 ∷ []) g.more_names);
    }

-- ---- how many symbols other files do not see
one_more : (n k : ℕ) → ((n + 1) % 2 ^ 32 + k) % 2 ^ 32 ≡ (n + (1 + k)) % 2 ^ 32
one_more n k = omega arith

abbrev first_of : TablesValue → ℕ
first_of t = t.first_global

counted : (t : TablesValue) (s : Entry) → s.1.global ≡ false → (with_symbol t s).first_global ≡ (t.first_global + 1) % 2 ^ 32
unfolding with_symbol
counted t s e = rw e refl

uncounted : (t : TablesValue) (s : Entry) → s.1.global ≡ true → (with_symbol t s).first_global ≡ t.first_global
unfolding with_symbol
uncounted t s e = rw e refl

locals_counted : (t : TablesValue) (ss : SymbolList) → t.first_global < 2 ^ 32 → (with_symbols t (local_symbols ss)).first_global ≡ (t.first_global + length (local_symbols ss)) % 2 ^ 32
locals_counted t [] h = omega arith
locals_counted t (s ∷ ss) h = by s.1.global refl (locals_counted t ss h) (λ g. locals_counted (with_symbol t s) ss g)
  where
    by : (b : Bool) → s.1.global ≡ b → (with_symbols t (local_symbols ss)).first_global ≡ (t.first_global + length (local_symbols ss)) % 2 ^ 32
        → ((with_symbol t s).first_global < 2 ^ 32 → (with_symbols (with_symbol t s) (local_symbols ss)).first_global ≡ ((with_symbol t s).first_global + length (local_symbols ss)) % 2 ^ 32)
        → (with_symbols t (cond (not b) (s ∷ local_symbols ss) (local_symbols ss))).first_global ≡ (t.first_global + length (cond (not b) (s ∷ local_symbols ss) (local_symbols ss))) % 2 ^ 32
    by true e here next = here
    by false e here next =
        let c : (with_symbol t s).first_global ≡ (t.first_global + 1) % 2 ^ 32 = counted t s e in
        let more : (with_symbols (with_symbol t s) (local_symbols ss)).first_global ≡ ((with_symbol t s).first_global + length (local_symbols ss)) % 2 ^ 32 = next (omega (arith, c)) in
        let last : ((with_symbol t s).first_global + length (local_symbols ss)) % 2 ^ 32 ≡ (t.first_global + (1 + length (local_symbols ss))) % 2 ^ 32 =
        ap (λ n. (n + length (local_symbols ss)) % 2 ^ 32) c ∙ one_more t.first_global (length (local_symbols ss)) in
        let len : length (s ∷ local_symbols ss) ≡ 1 + length (local_symbols ss) = omega arith in
        more ∙ (last ∙ ap (λ n. (t.first_global + n) % 2 ^ 32) (sym len))

globals_left_out : (t : TablesValue) (ss : SymbolList) → (with_symbols t (filter (λ (s : Entry). s.1.global) ss)).first_global ≡ t.first_global
globals_left_out t [] = refl
globals_left_out t (s ∷ ss) = by s.1.global refl (globals_left_out t ss) (globals_left_out (with_symbol t s) ss)
  where
    by : (b : Bool) → s.1.global ≡ b → (with_symbols t (filter (λ (s : Entry). s.1.global) ss)).first_global ≡ t.first_global
        → (with_symbols (with_symbol t s) (filter (λ (s : Entry). s.1.global) ss)).first_global ≡ (with_symbol t s).first_global
        → (with_symbols t (cond b (s ∷ filter (λ (s : Entry). s.1.global) ss) (filter (λ (s : Entry). s.1.global) ss))).first_global ≡ t.first_global
    by true e here next = next ∙ uncounted t s e
    by false e here next = here

pub first_global : (ss : SymbolList) → (symbol_tables ss).first_global ≡ (1 + length (local_symbols ss)) % 2 ^ 32
unfolding symbol_tables no_symbols
first_global ss = globals_left_out (with_symbols no_symbols (local_symbols ss)) ss ∙ locals_counted no_symbols ss (omega arith)
