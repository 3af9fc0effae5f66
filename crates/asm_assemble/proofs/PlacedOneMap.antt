-- Fit statements are placed without a fault.
use Rattle.std.proofs.Common.{◌≡◌, ℕ, ◌+◌, ◌-◌, ◌%◌, false, List, [], ◌∷◌, ◌++◌, length, Option, None, Ok, refl, sym, ap, ◌∙◌, append_assoc, append-nil, arith, subst}
use Rattle.std.specs.Prelude.{nat_lt}
use Rattle.std.proofs.lemmas.Bool.{eq-eqb, le-ltb}
use Rattle.asm_statement.specs.Statement.{StatementValue, BodyValue}
use Rattle.asm_statement.specs.declared.fault.FaultKind.{FaultKind}
use Rattle.asm_statement.specs.declared.statement.Section.TheVariants as sections
use Rattle.asm_statement.specs.declared.statement.Body.TheVariants as body
use Rattle.asm_statement.specs.declared.statement.Directive.TheVariants as directive
use Rattle.asm_assemble.specs.declared.cursor.Cursor.{Cursor}
use Rattle.asm_assemble.specs.Program.{text_start, program_limit}
use Rattle.asm_assemble.specs.Program.{SymbolList, ProgramValue, IsWithinLimit, segment_size}
use Rattle.asm_assemble.specs.Cursors.{cursor_address, stepped_cursor, cursor_after}
use Rattle.asm_assemble.specs.Placing.{globals_from, placed_symbols_at, unless_faulted, place_fault, own_fault, placing}
use Rattle.asm_assemble.specs.Assembled.{start_at, first_cursor, is_too_large, heavy_of}
use Rattle.asm_assemble.specs.Placed.{Standing, taken, placed_symbols_in, IsFit}
use Rattle.asm_assemble.proofs.PlacedCuts.{laid, stood, Each}
use Rattle.asm_assemble.proofs.PlacedAddresses.{IsBehind}
use Rattle.asm_assemble.proofs.PlacedBases.{bases_of}
use Rattle.asm_assemble.proofs.PlacedSymbols.{all_symbols}
use Rattle.asm_assemble.proofs.PlacedFits.{symbols_more}

abbrev nothing : Option FaultKind
nothing = None

-- a fit statement has no fault
no_own : (symbols seen : SymbolList) (at : ℕ) (b : BodyValue) → IsFit symbols seen at b → own_fault seen at b ≡ nothing
unfolding own_fault
no_own symbols seen at (body.Label name) h = rw h.0 refl
no_own symbols seen at (body.LocalLabel n) h = refl
no_own symbols seen at (body.Instruction n) h = rw (eq-eqb (at % 4) 0 h) refl
no_own symbols seen at (body.Pseudo n) h = rw (eq-eqb (at % 4) 0 h) refl
no_own symbols seen at (body.Directive (directive.Align n)) h = rw (le-ltb 12 n h) refl
no_own symbols seen at (body.Directive (directive.Section n)) h = refl
no_own symbols seen at (body.Directive (directive.Zero n)) h = refl
no_own symbols seen at (body.Directive (directive.Words n)) h = refl
no_own symbols seen at (body.Directive (directive.Halves n)) h = refl
no_own symbols seen at (body.Directive (directive.Bytes n)) h = refl
no_own symbols seen at (body.Directive (directive.Ascii n)) h = refl
no_own symbols seen at (body.Directive (directive.Global n)) h = refl

none_heavy : (symbols seen : SymbolList) (at : ℕ) (b : BodyValue) → IsFit symbols seen at b → place_fault seen false at b ≡ nothing
unfolding place_fault
none_heavy symbols seen at b h = rw (no_own symbols seen at b h) refl

-- the phase goes well
pub placing_goes : (start : Cursor) (all : List StatementValue) (symbols : SymbolList) (i : ℕ) (done : List Standing) (c : Cursor) (ss : List StatementValue)
    → Each (λ before s after. IsFit symbols (placed_symbols_in (laid start all) before) s.address s.statement.body) done (laid c ss)
    → placing (globals_from [] all) (placed_symbols_in (laid start all) done) None i c ss ≡ Ok (placed_symbols_in (laid start all) done ++ all_symbols (globals_from [] all) c ss)
unfolding laid Each placing all_symbols
placing_goes start all symbols i done c [] h = ap Ok (sym (append-nil (placed_symbols_in (laid start all) done)))
placing_goes start all symbols i done c (s ∷ ss) h =
    let globals = globals_from [] all in
    let seen = placed_symbols_in (laid start all) done in
    let new = placed_symbols_at globals c.section (cursor_address c) s.body in
    let next = stepped_cursor c s.body in
    let rest = all_symbols globals next ss in
    let more : placed_symbols_in (laid start all) (done ++ stood c s ∷ []) ≡ seen ++ new = sym (symbols_more start all done c s) in
    ap (λ fault. unless_faulted fault s (placing globals (seen ++ new) None (i + 1) next ss)) (none_heavy symbols seen (cursor_address c) s.body h.0)
    ∙ (subst (λ before. placing globals before None (i + 1) next ss ≡ Ok (before ++ rest)) more (placing_goes start all symbols (i + 1) (done ++ stood c s ∷ []) next ss h.1)
    ∙ ap Ok (append_assoc seen new rest))

-- what is within the limit has no statement at which it is too large
pub none_large : (ss : List StatementValue) (p : ProgramValue) → IsWithinLimit p.text p.bytes p.zeros
    → IsBehind (bases_of ss) (laid (first_cursor ss) ss) (cursor_after (first_cursor ss) ss)
    → length p.text ≡ taken sections.Text (laid (first_cursor ss) ss) → length p.bytes ≡ taken sections.Data (laid (first_cursor ss) ss)
    → p.zeros ≡ taken sections.Zeros (laid (first_cursor ss) ss)
    → heavy_of (first_cursor ss) (cursor_after (first_cursor ss) ss) ss ≡ None
unfolding heavy_of is_too_large first_cursor start_at
none_large ss p within behind text bytes zeros =
    let start = first_cursor ss in
    let end = cursor_after start ss in
    let text_is : length p.text ≡ end.text_at - text_start = behind_base text_start end.text_at (length p.text) (behind.at_end sections.Text ∙ ap (λ n. text_start + n) (sym text)) in
    let bytes_is : length p.bytes ≡ end.data_at - start.data_at = behind_base start.data_at end.data_at (length p.bytes) (behind.at_end sections.Data ∙ ap (λ n. start.data_at + n) (sym bytes)) in
    let zeros_is : p.zeros ≡ end.zeros_at - start.zeros_at = behind_base start.zeros_at end.zeros_at p.zeros (behind.at_end sections.Zeros ∙ ap (λ n. start.zeros_at + n) (sym zeros)) in
    let small : nat_lt program_limit (length p.text + segment_size (length p.bytes) p.zeros) ≡ false = le-ltb program_limit (length p.text + segment_size (length p.bytes) p.zeros) within in
    let small_text : nat_lt program_limit ((end.text_at - text_start) + segment_size (length p.bytes) p.zeros) ≡ false = subst (λ n. nat_lt program_limit (n + segment_size (length p.bytes) p.zeros) ≡ false) text_is small in
    let small_data : nat_lt program_limit ((end.text_at - text_start) + segment_size (end.data_at - start.data_at) p.zeros) ≡ false = subst (λ n. nat_lt program_limit ((end.text_at - text_start) + segment_size n p.zeros) ≡ false) bytes_is small_text in
    let small_all : nat_lt program_limit ((end.text_at - text_start) + segment_size (end.data_at - start.data_at) (end.zeros_at - start.zeros_at)) ≡ false = subst (λ n. nat_lt program_limit ((end.text_at - text_start) + segment_size (end.data_at - start.data_at) n) ≡ false) zeros_is small_data in
    rw small_all refl
  where
    behind_base : (base n size : ℕ) → n ≡ base + size → size ≡ n - base
    behind_base base n size e = omega (arith, e)
