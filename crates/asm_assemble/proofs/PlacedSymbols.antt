-- The symbols of placed statements.
use Rattle.std.proofs.Common.{◌≡◌, ℕ, ◌+◌, ◌%◌, ◌^◌, Bool, true, false, List, [], ◌∷◌, ◌++◌, Option, Some, None, Result, Ok, refl, sym, ap, ◌∙◌, append_assoc, append-nil, cond, true≢false}
use Rattle.std.specs.Prelude.{is_some, ◌||◌}
use Rattle.std.specs.Map.{lookup}
use Rattle.std.specs.Str.{bytes_eq}
use Rattle.std.specs.List.{list_any}
use Rattle.std.proofs.lemmas.Slice.Eq.{bytes_eq-Decides}
use Rattle.asm_statement.specs.Statement.{StatementValue, BodyValue}
use Rattle.asm_statement.specs.declared.statement.Section.{Section}
use Rattle.asm_statement.specs.declared.statement.Body.TheVariants as body
use Rattle.asm_statement.specs.declared.statement.Directive.TheVariants as directive
use Rattle.asm_assemble.specs.declared.cursor.Cursor.{Cursor}
use Rattle.asm_assemble.specs.Program.{SymbolList}
use Rattle.asm_assemble.specs.Cursors.{cursor_address, stepped_cursor}
use Rattle.asm_assemble.specs.Operands.{found}
use Rattle.asm_assemble.specs.Placing.{Globals, with_names, with_globals, globals_from, placed_symbols_at, unless_faulted, place_fault, own_fault, is_at, placing}
use Rattle.std.specs.Option.{option_or}
use Rattle.asm_statement.specs.declared.fault.Fault.{Fault}
use Rattle.asm_statement.specs.declared.fault.FaultKind.{FaultKind}
use Rattle.asm_statement.specs.declared.fault.FaultKind.TheVariants as kinds
use Rattle.std.specs.Prelude.{if◌then◌else◌}
use Rattle.asm_assemble.specs.Placed.{makes_global, is_global, symbol_at}
use Rattle.asm_assemble.proofs.PlacedCuts.{laid}

or_false : (b : Bool) → b ≡ (b || false)
or_false true = refl
or_false false = refl

or_assoc : (a b c : Bool) → ((a || b) || c) ≡ (a || (b || c))
or_assoc true b c = refl
or_assoc false b c = refl

-- what is found with an entry more
pub found_push : {V : Type 0} (es : List (List ℕ × V)) (k q : List ℕ) (v : V) → is_some (found (es ++ (k, v) ∷ []) q) ≡ (is_some (found es q) || bytes_eq q k)
unfolding found
found_push [] k q v = by (bytes_eq q k)
  where
    by : (b : Bool) → is_some (cond b (Some v) None) ≡ b
    by true = refl
    by false = refl
found_push (e ∷ es) k q v = by (bytes_eq q e.0) (found_push es k q v)
  where
    by : (b : Bool) → is_some (lookup (bytes_eq q) (es ++ (k, v) ∷ [])) ≡ (is_some (lookup (bytes_eq q) es) || bytes_eq q k)
        → is_some (cond b (Some e.1) (lookup (bytes_eq q) (es ++ (k, v) ∷ []))) ≡ (is_some (cond b (Some e.1) (lookup (bytes_eq q) es)) || bytes_eq q k)
    by true h = refl
    by false h = h

-- a name that is found is found under an equal name
found_same : {V : Type 0} (es : List (List ℕ × V)) (k q : List ℕ) (found_k : is_some (found es k) ≡ true) → bytes_eq q k ≡ true → is_some (found es q) ≡ true
found_same es k q h e = let same : q ≡ k = (bytes_eq-Decides q k).0 e in rw same h

test_again : (b c d : Bool) → (c ≡ true → b ≡ true) → (b || d) ≡ (b || (c || d))
test_again true c d h = refl
test_again false true d h = absurd (true≢false (sym (h refl)))
test_again false false d h = refl

names_step : (seen : Globals) (name : List ℕ) (names : List (List ℕ)) (q : List ℕ) (b : Bool) → is_some (found seen name) ≡ b
    → is_some (found (with_names seen names) q) ≡ (is_some (found seen q) || list_any (bytes_eq q) names)
    → is_some (found (with_names (seen ++ (name, tt) ∷ []) names) q) ≡ (is_some (found (seen ++ (name, tt) ∷ []) q) || list_any (bytes_eq q) names)
    → is_some (found (cond b (with_names seen names) (with_names (seen ++ (name, tt) ∷ []) names)) q) ≡ (is_some (found seen q) || (bytes_eq q name || list_any (bytes_eq q) names))
names_step seen name names q true e there pushed = there ∙ test_again (is_some (found seen q)) (bytes_eq q name) (list_any (bytes_eq q) names) (found_same seen name q e)
names_step seen name names q false e there pushed = pushed ∙ (ap (λ b. b || list_any (bytes_eq q) names) (found_push seen name q tt)
    ∙ or_assoc (is_some (found seen q)) (bytes_eq q name) (list_any (bytes_eq q) names))

-- the names of one statement
names_found : (seen : Globals) (names : List (List ℕ)) (q : List ℕ) → is_some (found (with_names seen names) q) ≡ (is_some (found seen q) || list_any (bytes_eq q) names)
unfolding with_names
names_found seen [] q = or_false (is_some (found seen q))
names_found seen (name ∷ names) q =
    names_step seen name names q (is_some (found seen name)) refl (names_found seen names q) (names_found (seen ++ (name, tt) ∷ []) names q)

statement_found : (seen : Globals) (b : BodyValue) (q : List ℕ) → is_some (found (with_globals seen b) q) ≡ (is_some (found seen q) || makes_global q b)
unfolding with_globals
statement_found seen (body.Directive (directive.Global names)) q = names_found seen names q
statement_found seen (body.Directive (directive.Section n)) q = or_false (is_some (found seen q))
statement_found seen (body.Directive (directive.Align n)) q = or_false (is_some (found seen q))
statement_found seen (body.Directive (directive.Zero n)) q = or_false (is_some (found seen q))
statement_found seen (body.Directive (directive.Words n)) q = or_false (is_some (found seen q))
statement_found seen (body.Directive (directive.Halves n)) q = or_false (is_some (found seen q))
statement_found seen (body.Directive (directive.Bytes n)) q = or_false (is_some (found seen q))
statement_found seen (body.Directive (directive.Ascii n)) q = or_false (is_some (found seen q))
statement_found seen (body.Label n) q = or_false (is_some (found seen q))
statement_found seen (body.LocalLabel n) q = or_false (is_some (found seen q))
statement_found seen (body.Instruction n) q = or_false (is_some (found seen q))
statement_found seen (body.Pseudo n) q = or_false (is_some (found seen q))

-- the global names of statements
globals_found : (seen : Globals) (c : Cursor) (ss : List StatementValue) (q : List ℕ) → is_some (found (globals_from seen ss) q) ≡ (is_some (found seen q) || is_global (laid c ss) q)
unfolding globals_from laid
globals_found seen c [] q = or_false (is_some (found seen q))
globals_found seen c (s ∷ ss) q = globals_found (with_globals seen s.body) (stepped_cursor c s.body) ss q
    ∙ (ap (λ b. b || is_global (laid (stepped_cursor c s.body) ss) q) (statement_found seen s.body q)
    ∙ or_assoc (is_some (found seen q)) (makes_global q s.body) (is_global (laid (stepped_cursor c s.body) ss) q))

-- a statement's symbol
pub same_symbol : (c : Cursor) (ss : List StatementValue) (section : Section) (at : ℕ) (b : BodyValue)
    → placed_symbols_at (globals_from [] ss) section at b ≡ symbol_at (laid c ss) section at b
unfolding placed_symbols_at found
same_symbol c ss section at (body.Label name) = ap (λ global. (name, record { section = section; address = at % 2 ^ 32; global = global }) ∷ []) (globals_found [] c ss name)
same_symbol c ss section at (body.LocalLabel n) = refl
same_symbol c ss section at (body.Instruction n) = refl
same_symbol c ss section at (body.Pseudo n) = refl
same_symbol c ss section at (body.Directive n) = refl

-- ---- the phase in which statements are placed
abbrev goods : SymbolList → Result SymbolList Fault
goods symbols = Ok symbols

goods_are : (xs ys : SymbolList) → goods xs ≡ goods ys → xs ≡ ys
goods_are xs ys e = cc

-- if the phase goes on, the statement has no fault
pub no_fault : (o : Option FaultKind) (s : StatementValue) (rest : Result SymbolList Fault) (symbols : SymbolList) → unless_faulted o s rest ≡ Ok symbols → (o ≡ None) × (rest ≡ Ok symbols)
no_fault None s rest symbols e = (refl, e)
no_fault (Some kind) s rest symbols e = absurd cc

-- and none of its own
pub no_own : (seen : SymbolList) (heavy : Bool) (at : ℕ) (b : BodyValue) → place_fault seen heavy at b ≡ None → own_fault seen at b ≡ None
unfolding place_fault
no_own seen heavy at b e = by (own_fault seen at b) e
  where
    by : (o : Option FaultKind) → option_or o (if heavy then Some kinds.TooLarge else None) ≡ None → o ≡ None
    by None e = refl
    by (Some kind) e = absurd cc

-- all symbols, after those seen
unfoldable pub all_symbols : (globals : Globals) (c : Cursor) (ss : List StatementValue) → SymbolList
all_symbols globals c [] = []
all_symbols globals c (s ∷ ss) = placed_symbols_at globals c.section (cursor_address c) s.body ++ all_symbols globals (stepped_cursor c s.body) ss

pub placed_symbols : (globals : Globals) (seen : SymbolList) (heavy : Option ℕ) (i : ℕ) (c : Cursor) (ss : List StatementValue) (symbols : SymbolList)
    → placing globals seen heavy i c ss ≡ Ok symbols → symbols ≡ seen ++ all_symbols globals c ss
unfolding placing all_symbols
placed_symbols globals seen heavy i c [] symbols e = sym (goods_are seen symbols e) ∙ sym (append-nil seen)
placed_symbols globals seen heavy i c (s ∷ ss) symbols e =
    let new = placed_symbols_at globals c.section (cursor_address c) s.body in
    let goes = no_fault (place_fault seen (is_at heavy i) (cursor_address c) s.body) s (placing globals (seen ++ new) heavy (i + 1) (stepped_cursor c s.body) ss) symbols e in
    placed_symbols globals (seen ++ new) heavy (i + 1) (stepped_cursor c s.body) ss symbols goes.1
    ∙ append_assoc seen new (all_symbols globals (stepped_cursor c s.body) ss)
