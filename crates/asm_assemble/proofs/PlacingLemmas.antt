-- One statement of the placing.
use Rattle.std.proofs.Common.{◌≡◌, ℕ, ◌+◌, ◌<◌, ◌≤◌, List, [], ◌∷◌, ◌++◌, Option, Some, None, Result, Ok, Err, length, get_or, drop, refl, subst, sym, ◌∙◌}
use Rattle.std.proofs.lemmas.List.{at_drop_all, at_drop_more}
use Rattle.std.specs.Option.{option_or}
use Rattle.asm_statement.specs.Answer.{GivesStatements}
use Rattle.asm_statement.specs.declared.fault.AsmFault.{AsmFault}
use Rattle.asm_statement.specs.Statement.{StatementValue}
use Rattle.asm_statement.specs.declared.fault.Fault.{Fault}
use Rattle.asm_assemble.specs.declared.cursor.Cursor.{Cursor}
use Rattle.asm_assemble.specs.Program.{SymbolList}
use Rattle.asm_assemble.specs.Cursors.{cursor_address, stepped_cursor}
use Rattle.asm_statement.specs.declared.fault.FaultKind.{FaultKind}
use Rattle.asm_assemble.specs.Placing.{Globals, at_statement, if_sized, last_sized, place_fault, is_at, placed_symbols_at, placing}

-- a statement without a fault leads to the next one
pub goes_on : (globals : Globals) (seen : SymbolList) (heavy : Option ℕ) (i : ℕ) (c : Cursor) (s : StatementValue) (ss : List StatementValue)
    → place_fault seen (is_at heavy i) (cursor_address c) s.body ≡ None
    → placing globals seen heavy i c (s ∷ ss) ≡ placing globals (seen ++ placed_symbols_at globals c.section (cursor_address c) s.body) heavy (i + 1) (stepped_cursor c s.body) ss
unfolding placing
goes_on globals seen heavy i c s ss e = rw e

-- the same, among all statements
pub goes_on_at : (globals : Globals) (seen new : SymbolList) (heavy : Option ℕ) (i : ℕ) (c next : Cursor) (s : StatementValue) (ss : List StatementValue) (all : Result SymbolList Fault)
    → i < length ss → s ≡ get_or ss i s
    → place_fault seen (is_at heavy i) (cursor_address c) s.body ≡ None
    → new ≡ seen ++ placed_symbols_at globals c.section (cursor_address c) s.body
    → next ≡ stepped_cursor c s.body
    → placing globals seen heavy i c (drop i ss) ≡ all
    → placing globals new heavy (i + 1) next (drop (i + 1) ss) ≡ all
goes_on_at globals seen new heavy i c next s ss all below is none added stepped same =
    let d = at_drop_more (placing globals seen heavy i c) ss i s below in
    let e = goes_on globals seen heavy i c s (drop (i + 1) ss) none in
    cc

-- a fault of a statement is that of the phase
stops : (globals : Globals) (seen : SymbolList) (heavy : Option ℕ) (i : ℕ) (c : Cursor) (s : StatementValue) (ss : List StatementValue) (kind : FaultKind)
    → place_fault seen (is_at heavy i) (cursor_address c) s.body ≡ Some kind
    → placing globals seen heavy i c (s ∷ ss) ≡ Err (at_statement s kind)
unfolding placing
stops globals seen heavy i c s ss kind e = rw e refl

-- the same, among all statements
pub stops_at : (globals : Globals) (seen : SymbolList) (heavy : Option ℕ) (i : ℕ) (c : Cursor) (s : StatementValue) (ss : List StatementValue)
    (all : Result SymbolList Fault) (kind : FaultKind) (fault : Fault)
    → i < length ss → s ≡ get_or ss i s
    → place_fault seen (is_at heavy i) (cursor_address c) s.body ≡ Some kind → fault ≡ at_statement s kind
    → placing globals seen heavy i c (drop i ss) ≡ all → all ≡ Err fault
stops_at globals seen heavy i c s ss all kind fault below is found named same =
    let d = at_drop_more (placing globals seen heavy i c) ss i s below in
    let e = stops globals seen heavy i c s (drop (i + 1) ss) kind found in
    cc

-- all statements are placed
pub placed_all : (globals : Globals) (seen : SymbolList) (heavy : Option ℕ) (i : ℕ) (c : Cursor) (ss : List StatementValue) (all : Result SymbolList Fault)
    → length ss ≤ i → placing globals seen heavy i c (drop i ss) ≡ all → all ≡ Ok seen
unfolding placing
placed_all globals seen heavy i c ss all past same = sym same ∙ at_drop_all (placing globals seen heavy i c) ss i past

-- ---- the last statement of size above 0
or_or : (a b c : Option ℕ) → option_or (option_or a b) c ≡ option_or a (option_or b c)
or_or None b c = refl
or_or (Some x) b c = refl

-- no statement was visited
pub or_none : (a : Option ℕ) → option_or a None ≡ a
or_none None = refl
or_none (Some x) = refl

sized_first : (i : ℕ) (c : Cursor) (s : StatementValue) (ss : List StatementValue) (last : Option ℕ)
    → option_or (last_sized i c (s ∷ ss)) last ≡ option_or (last_sized (i + 1) (stepped_cursor c s.body) ss) (option_or (if_sized i (cursor_address c) s.body) last)
unfolding last_sized
sized_first i c s ss last = or_or (last_sized (i + 1) (stepped_cursor c s.body) ss) (if_sized i (cursor_address c) s.body) last

-- one more statement was visited
pub sized_on : (i : ℕ) (c next : Cursor) (s : StatementValue) (ss : List StatementValue) (last new all : Option ℕ)
    → i < length ss → s ≡ get_or ss i s → next ≡ stepped_cursor c s.body → new ≡ option_or (if_sized i (cursor_address c) s.body) last
    → option_or (last_sized i c (drop i ss)) last ≡ all
    → option_or (last_sized (i + 1) next (drop (i + 1) ss)) new ≡ all
sized_on i c next s ss last new all below is stepped found same =
    let d = at_drop_more (λ xs. option_or (last_sized i c xs) last) ss i s below in
    let e = sized_first i c s (drop (i + 1) ss) last in
    cc

-- all statements were visited
pub sized_all : (i : ℕ) (c : Cursor) (ss : List StatementValue) (last all : Option ℕ)
    → length ss ≤ i → option_or (last_sized i c (drop i ss)) last ≡ all → last ≡ all
unfolding last_sized
sized_all i c ss last all past same = sym (at_drop_all (λ xs. option_or (last_sized i c xs) last) ss i past) ∙ same

-- ---- the result of placing, for known arguments
pub gives_placed : {X : Type 0} (view : X → SymbolList) (r : Result X AsmFault) (globals named : Globals) (heavy where_heavy : Option ℕ)
    (start : Cursor) (ss : List StatementValue) → globals ≡ named → heavy ≡ where_heavy
    → GivesStatements view r (placing globals [] heavy 0 start ss) → GivesStatements view r (placing named [] where_heavy 0 start ss)
gives_placed view r globals named heavy where_heavy start ss e f given =
    subst (λ h. GivesStatements view r (placing named [] h 0 start ss)) f (subst (λ g. GivesStatements view r (placing g [] heavy 0 start ss)) e given)
