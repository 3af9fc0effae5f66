-- Statements that are placed without a fault.
use Rattle.std.proofs.Common.{◌≡◌, ℕ, ◌+◌, ◌%◌, ◌^◌, Bool, true, false, List, [], ◌∷◌, ◌++◌, Option, Some, None, Ok, refl, ap, ◌∙◌, subst, cond, eqb}
use Rattle.std.specs.Prelude.{is_some, nat_lt}
use Rattle.std.specs.Map.{lookup}
use Rattle.std.specs.Str.{bytes_eq}
use Rattle.std.proofs.lemmas.Bool.{eqb-true, ltb-false}
use Rattle.std.proofs.lemmas.List.{flat_map_more}
use Rattle.std.proofs.lemmas.Slice.Eq.{bytes_eq-Decides}
use Rattle.asm_statement.specs.Statement.{StatementValue, BodyValue}
use Rattle.asm_statement.specs.declared.fault.FaultKind.TheVariants as kinds
use Rattle.asm_statement.specs.declared.statement.Section.{Section}
use Rattle.asm_statement.specs.declared.statement.Body.TheVariants as body
use Rattle.asm_statement.specs.declared.statement.Directive.TheVariants as directive
use Rattle.asm_assemble.specs.declared.cursor.Cursor.{Cursor}
use Rattle.asm_assemble.specs.Program.{SymbolList}
use Rattle.asm_assemble.specs.Cursors.{cursor_address, stepped_cursor}
use Rattle.asm_assemble.specs.Operands.{found, operand_address}
use Rattle.asm_assemble.specs.Placing.{Globals, globals_from, placed_symbols_at, place_fault, own_fault, is_at, placing}
use Rattle.asm_assemble.specs.Placed.{Standing, symbol_at, placed_symbols_in, IsFit}
use Rattle.asm_assemble.proofs.PlacedCuts.{laid, stood, Each}
use Rattle.asm_assemble.proofs.PlacedSymbols.{same_symbol, no_fault, no_own, all_symbols, placed_symbols}

-- the symbols of statements that are laid
pub symbols_laid : (start : Cursor) (all : List StatementValue) (c : Cursor) (ss : List StatementValue)
    → all_symbols (globals_from [] all) c ss ≡ placed_symbols_in (laid start all) (laid c ss)
unfolding laid all_symbols placed_symbols_in
symbols_laid start all c [] = refl
symbols_laid start all c (s ∷ ss) =
    ap (λ new. new ++ all_symbols (globals_from [] all) (stepped_cursor c s.body) ss) (same_symbol start all c.section (cursor_address c) s.body)
    ∙ ap (λ rest. symbol_at (laid start all) c.section (cursor_address c) s.body ++ rest) (symbols_laid start all (stepped_cursor c s.body) ss)

-- the symbols of a statement more
pub symbols_more : (start : Cursor) (all : List StatementValue) (done : List Standing) (c : Cursor) (s : StatementValue)
    → placed_symbols_in (laid start all) done ++ placed_symbols_at (globals_from [] all) c.section (cursor_address c) s.body ≡ placed_symbols_in (laid start all) (done ++ stood c s ∷ [])
unfolding placed_symbols_in
symbols_more start all done c s =
    ap (λ new. placed_symbols_in (laid start all) done ++ new) (same_symbol start all c.section (cursor_address c) s.body)
    ∙ flat_map_more (λ (s : Standing). symbol_at (laid start all) s.section s.address s.statement.body) [] done (stood c s)

-- what is found under a name that is new
found_new : {V : Type 0} (seen : List (List ℕ × V)) (name : List ℕ) (v : V) (more : List (List ℕ × V)) → found seen name ≡ None
    → found (seen ++ (name, v) ∷ more) name ≡ Some v
unfolding found
found_new [] name v more e = let same : bytes_eq name name ≡ true = (bytes_eq-Decides name name).1 refl in rw same refl
found_new (x ∷ seen) name v more e = by (bytes_eq name x.0) e (found_new seen name v more)
  where
    by : (b : Bool) → cond b (Some x.1) (lookup (bytes_eq name) seen) ≡ None
        → (lookup (bytes_eq name) seen ≡ None → lookup (bytes_eq name) (seen ++ (name, v) ∷ more) ≡ Some v)
        → cond b (Some x.1) (lookup (bytes_eq name) (seen ++ (name, v) ∷ more)) ≡ Some v
    by true e h = absurd cc
    by false e h = h e

label_new : {X : Type 0} (o : Option X) → cond (is_some o) (Some kinds.Twice) None ≡ None → o ≡ None
label_new None e = refl
label_new (Some x) e = absurd cc

aligned : (b : Bool) → cond b None (Some kinds.Align) ≡ None → b ≡ true
aligned true e = refl
aligned false e = absurd cc

low : (b : Bool) → cond b (Some kinds.Align) None ≡ None → b ≡ false
low true e = absurd cc
low false e = refl

-- a statement without a fault is fit
fit : (globals : Globals) (section : Section) (seen symbols more : SymbolList) (at : ℕ) (b : BodyValue) → own_fault seen at b ≡ None
    → symbols ≡ seen ++ (placed_symbols_at globals section at b ++ more) → IsFit symbols seen at b
unfolding own_fault placed_symbols_at operand_address
fit globals section seen symbols more at (body.Label name) e is =
    let new : found seen name ≡ None = label_new (found seen name) e in
    (new, rw (is, found_new seen name (record { section = section; address = at % 2 ^ 32; global = is_some (found globals name) }) more new) refl)
fit globals section seen symbols more at (body.LocalLabel n) e is = tt
fit globals section seen symbols more at (body.Instruction n) e is = eqb-true (at % 4) 0 (aligned (eqb (at % 4) 0) e)
fit globals section seen symbols more at (body.Pseudo n) e is = eqb-true (at % 4) 0 (aligned (eqb (at % 4) 0) e)
fit globals section seen symbols more at (body.Directive (directive.Align n)) e is = ltb-false 12 n (low (nat_lt 12 n) e)
fit globals section seen symbols more at (body.Directive (directive.Section n)) e is = tt
fit globals section seen symbols more at (body.Directive (directive.Zero n)) e is = tt
fit globals section seen symbols more at (body.Directive (directive.Words n)) e is = tt
fit globals section seen symbols more at (body.Directive (directive.Halves n)) e is = tt
fit globals section seen symbols more at (body.Directive (directive.Bytes n)) e is = tt
fit globals section seen symbols more at (body.Directive (directive.Ascii n)) e is = tt
fit globals section seen symbols more at (body.Directive (directive.Global n)) e is = tt

-- placed statements are fit
pub all_fit : (start : Cursor) (all : List StatementValue) (symbols : SymbolList) (heavy : Option ℕ) (i : ℕ) (done : List Standing) (c : Cursor) (ss : List StatementValue)
    → placing (globals_from [] all) (placed_symbols_in (laid start all) done) heavy i c ss ≡ Ok symbols
    → Each (λ before s after. IsFit symbols (placed_symbols_in (laid start all) before) s.address s.statement.body) done (laid c ss)
unfolding laid Each placing all_symbols
all_fit start all symbols heavy i done c [] e = tt
all_fit start all symbols heavy i done c (s ∷ ss) e =
    let globals = globals_from [] all in
    let seen = placed_symbols_in (laid start all) done in
    let new = placed_symbols_at globals c.section (cursor_address c) s.body in
    let goes = no_fault (place_fault seen (is_at heavy i) (cursor_address c) s.body) s (placing globals (seen ++ new) heavy (i + 1) (stepped_cursor c s.body) ss) symbols e in (
      fit globals c.section seen symbols (all_symbols globals (stepped_cursor c s.body) ss) (cursor_address c) s.body (no_own seen (is_at heavy i) (cursor_address c) s.body goes.0)
          (placed_symbols globals seen heavy i c (s ∷ ss) symbols e),
      all_fit start all symbols heavy (i + 1) (done ++ stood c s ∷ []) (stepped_cursor c s.body) ss
          (subst (λ seen. placing globals seen heavy (i + 1) (stepped_cursor c s.body) ss ≡ Ok symbols) (symbols_more start all done c s) goes.1),
    )
