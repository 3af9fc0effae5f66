-- The numbers of statements' bytes; text and data segment are within the limit if all is placed.
use Rattle.std.proofs.Common.{◌≡◌, ℕ, zero, suc, ◌+◌, ◌-◌, ◌*◌, ◌/◌, ◌%◌, ◌≤◌, ◌<◌, Bool, true, false, List, [], ◌∷◌, ◌++◌, length, Option, Some, None, Result, Ok, Err, refl, sym, ap, ◌∙◌, arith, length-append}
use Rattle.std.specs.Prelude.{◌==◌, ◌^◌, nat_lt, if◌then◌else◌, ℤ, pos, replicate}
use Rattle.std.specs.Option.{option_or}
use Rattle.std.specs.Int.{w16, w32, to_le_bytes}
use Rattle.std.specs.List.{list_all}
use Rattle.std.proofs.lemmas.List.{length-replicate}
use Rattle.std.proofs.lemmas.Bool.{ltb-false, eqb-true, eqb-false}
use Rattle.asm_statement.specs.Answer.{◌>>=◌}
use Rattle.asm_statement.specs.Statement.{StatementValue, BodyValue, DirectiveValue}
use Rattle.asm_statement.specs.declared.fault.Fault.{Fault}
use Rattle.asm_statement.specs.declared.fault.FaultKind.{FaultKind}
use Rattle.asm_statement.specs.declared.fault.FaultKind.TheVariants as kinds
use Rattle.asm_statement.specs.declared.operand.Value.{Value}
use Rattle.asm_statement.specs.declared.statement.Section.{Section}
use Rattle.asm_statement.specs.declared.statement.Section.TheVariants as sections
use Rattle.asm_statement.specs.declared.statement.Body.TheVariants as body
use Rattle.asm_statement.specs.declared.statement.Directive.TheVariants as directive
use Rattle.asm_statement.specs.declared.statement.Pseudo.{Pseudo}
use Rattle.asm_statement.specs.declared.statement.Pseudo.TheVariants as pseudo
use Rattle.isa_table.specs.declared.instr.Instr.{Instr}
use Rattle.isa_table.specs.declared.instr.Instr.TheVariants as instr
use Rattle.asm_assemble.specs.declared.cursor.Cursor.{Cursor}
use Rattle.asm_assemble.specs.declared.instruction.Pair.{Pair}
use Rattle.asm_assemble.specs.Program.{text_start, program_limit}
use Rattle.asm_assemble.specs.Program.{SymbolList, IsWithinLimit, segment_size, round_up}
use Rattle.asm_assemble.specs.Numbers.{as_word, lo, hi, is_signed_word, is_in_range, distance}
use Rattle.asm_assemble.specs.Operands.{valued_operand, symbol_value}
use Rattle.asm_assemble.specs.Instructions.{addi, placed_instr, instr_pair, li_pair, la_pair, jump_pair, is_short, pseudo_size}
use Rattle.asm_assemble.specs.Cursors.{align_size, directive_size, size, cursor_address, address_in, advanced, section_of, stepped_cursor, cursor_after}
use Rattle.asm_assemble.specs.Locals.{Local, local_label_at, local_label_of}
use Rattle.asm_assemble.specs.Placing.{Globals, own_fault, place_fault, placed_symbols_at, unless_faulted, last_sized, placing}
use Rattle.asm_assemble.specs.Valuing.{instr_bytes, pair_bytes, fits_word, word_list, half_list, byte_list, where_fits, nops, padding, directive_bytes, valued_bytes, bytes_in, Images, put_bytes, said_at, valuing, no_bytes}
use Rattle.asm_assemble.specs.Assembled.{is_too_large, heavy_of, first_cursor, start_at}

-- ---- the bytes of one statement
length_words : (symbols : SymbolList) (vs : List Value) (bytes : List ℕ) → word_list symbols vs ≡ Ok bytes → length bytes ≡ 4 * length vs
unfolding word_list
length_words symbols [] bytes e = let same : bytes ≡ [] = cc in ap length same
length_words symbols (v ∷ vs) bytes e = by (valued_operand symbols v) (word_list symbols vs) (λ more same. length_words symbols vs more same) e
  where
    by : (r : Result ℕ FaultKind) (rest : Result (List ℕ) FaultKind) → ((more : List ℕ) → rest ≡ Ok more → length more ≡ 4 * length vs)
        → (r >>= λ word. rest >>= λ more. Ok (to_le_bytes w32 word ++ more)) ≡ Ok bytes → length bytes ≡ 4 * length (v ∷ vs)
    by (Ok word) (Ok more) ih e =
        let same : bytes ≡ to_le_bytes w32 word ++ more = cc in
        omega (arith, ap length same, length-append (to_le_bytes w32 word) more, ih more refl)
    by (Ok word) (Err kind) ih e = absurd cc
    by (Err kind) rest ih e = absurd cc

length_halves : (ns : List ℤ) → length (half_list ns) ≡ 2 * length ns
unfolding half_list
length_halves [] = refl
length_halves (n ∷ ns) = omega (arith, length-append (to_le_bytes w16 (as_word n % 2 ^ 16)) (half_list ns), length_halves ns)

length_numbers : (ns : List ℤ) → length (byte_list ns) ≡ length ns
unfolding byte_list
length_numbers [] = refl
length_numbers (n ∷ ns) = omega (arith, length_numbers ns)

length_nops : (n : ℕ) → length (nops n) ≡ 4 * n
unfolding nops
length_nops zero = refl
length_nops (suc n) = omega (arith, length_nops n)

length_padding : (section : Section) (count : ℕ) → length (padding section count) ≡ count
unfolding padding
length_padding sections.Text count =
    omega (arith, length-append (replicate (count % 4) 0) (nops (count / 4)), length-replicate {A = ℕ} (count % 4) 0, length_nops (count / 4))
length_padding sections.Data count = length-replicate {A = ℕ} count 0
length_padding sections.Zeros count = length-replicate {A = ℕ} count 0

abbrev li_choice : ℕ → ℕ → Bool → Bool → Pair
li_choice rd word short low = if short then record { first = addi rd 0 word; second = None }
    else record { first = instr.Lui rd (hi word); second = if low then None else Some (addi rd rd (lo word)) }

length_li : (rd word : ℕ) → length (pair_bytes (li_pair rd word).first (li_pair rd word).second) ≡ (if is_short word then 4 else 8)
unfolding li_pair is_short pair_bytes instr_bytes
length_li rd word = by (is_signed_word 12 word) (lo word == 0)
  where
    by : (short low : Bool) → length (pair_bytes (li_choice rd word short low).first (li_choice rd word short low).second) ≡ (if (if short then true else low) then 4 else 8)
    by true low = refl
    by false true = refl
    by false false = refl

length_pseudo : (symbols : SymbolList) (at : ℕ) (p : Pseudo) (bytes : List ℕ) → (instr_pair symbols at p >>= λ pair. Ok (pair_bytes pair.first pair.second)) ≡ Ok bytes → length bytes ≡ pseudo_size p
unfolding instr_pair pseudo_size pair_bytes instr_bytes la_pair jump_pair
length_pseudo symbols at (pseudo.Li rd number) bytes e = by (is_in_range (2 ^ 31) (2 ^ 64) number) e
  where
    by : (fits : Bool) → ((if fits then Ok (li_pair rd (as_word number)) else Err kinds.Range) >>= λ pair. Ok (pair_bytes pair.first pair.second)) ≡ Ok bytes
        → length bytes ≡ (if is_short (as_word number) then 4 else 8)
    by true e = let same : bytes ≡ pair_bytes (li_pair rd (as_word number)).first (li_pair rd (as_word number)).second = cc in ap length same ∙ length_li rd (as_word number)
    by false e = absurd cc
length_pseudo symbols at (pseudo.La rd name offset) bytes e = by (symbol_value symbols name offset) e
  where
    by : (r : Result ℕ FaultKind) → ((r >>= λ to. Ok (la_pair rd (distance at to))) >>= λ pair. Ok (pair_bytes pair.first pair.second)) ≡ Ok bytes → length bytes ≡ 8
    by (Ok to) e = let same : bytes ≡ pair_bytes (la_pair rd (distance at to)).first (la_pair rd (distance at to)).second = cc in ap length same
    by (Err kind) e = absurd cc
length_pseudo symbols at (pseudo.Call name) bytes e = by (symbol_value symbols name (pos 0)) e
  where
    by : (r : Result ℕ FaultKind) → ((r >>= λ to. Ok (jump_pair 1 1 (distance at to))) >>= λ pair. Ok (pair_bytes pair.first pair.second)) ≡ Ok bytes → length bytes ≡ 8
    by (Ok to) e = let same : bytes ≡ pair_bytes (jump_pair 1 1 (distance at to)).first (jump_pair 1 1 (distance at to)).second = cc in ap length same
    by (Err kind) e = absurd cc
length_pseudo symbols at (pseudo.Tail name) bytes e = by (symbol_value symbols name (pos 0)) e
  where
    by : (r : Result ℕ FaultKind) → ((r >>= λ to. Ok (jump_pair 6 0 (distance at to))) >>= λ pair. Ok (pair_bytes pair.first pair.second)) ≡ Ok bytes → length bytes ≡ 8
    by (Ok to) e = let same : bytes ≡ pair_bytes (jump_pair 6 0 (distance at to)).first (jump_pair 6 0 (distance at to)).second = cc in ap length same
    by (Err kind) e = absurd cc

length_fitting : (fits : Bool) (r : Result (List ℕ) FaultKind) (bytes : List ℕ) (n : ℕ) → ((made : List ℕ) → r ≡ Ok made → length made ≡ n) → where_fits fits r ≡ Ok bytes → length bytes ≡ n
unfolding where_fits
length_fitting true r bytes n h e = h bytes e
length_fitting false r bytes n h e = absurd cc

abbrev good : List ℕ → Result (List ℕ) FaultKind
good xs = Ok xs

length_ok : (xs bytes : List ℕ) (n : ℕ) → length xs ≡ n → good xs ≡ good bytes → length bytes ≡ n
length_ok xs bytes n h e = let same : bytes ≡ xs = cc in ap length same ∙ h

length_directive : (symbols : SymbolList) (section : Section) (at : ℕ) (d : DirectiveValue) (bytes : List ℕ) → directive_bytes symbols section at d ≡ Ok bytes → length bytes ≡ directive_size at d
unfolding directive_bytes directive_size
length_directive symbols section at (directive.Section to) bytes e = length_ok [] bytes 0 refl e
length_directive symbols section at (directive.Align n) bytes e = length_ok (padding section (align_size at n)) bytes (align_size at n) (length_padding section (align_size at n)) e
length_directive symbols section at (directive.Zero count) bytes e = length_ok (replicate count 0) bytes count (length-replicate {A = ℕ} count 0) e
length_directive symbols section at (directive.Words vs) bytes e = length_fitting (list_all fits_word vs) (word_list symbols vs) bytes (4 * length vs) (length_words symbols vs) e
length_directive symbols section at (directive.Halves ns) bytes e =
    length_fitting (list_all (is_in_range (2 ^ 15) (2 ^ 16)) ns) (Ok (half_list ns)) bytes (2 * length ns) (λ made. length_ok (half_list ns) made (2 * length ns) (length_halves ns)) e
length_directive symbols section at (directive.Bytes ns) bytes e =
    length_fitting (list_all (is_in_range (2 ^ 7) (2 ^ 8)) ns) (Ok (byte_list ns)) bytes (length ns) (λ made. length_ok (byte_list ns) made (length ns) (length_numbers ns)) e
length_directive symbols section at (directive.Ascii text) bytes e = length_ok text bytes (length text) refl e
length_directive symbols section at (directive.Global names) bytes e = length_ok [] bytes 0 refl e

-- a statement has as many bytes as its size
pub size_is : (symbols : SymbolList) (local : Option ℕ) (section : Section) (at : ℕ) (b : BodyValue) (bytes : List ℕ) → valued_bytes symbols local section at b ≡ Ok bytes → length bytes ≡ size at b
unfolding valued_bytes size instr_bytes
size_is symbols local section at (body.Label name) bytes e = length_ok [] bytes 0 refl e
size_is symbols local section at (body.LocalLabel digits) bytes e = length_ok [] bytes 0 refl e
size_is symbols local section at (body.Instruction i) bytes e = by (placed_instr symbols local at i) e
  where
    by : (r : Result Instr FaultKind) → (r >>= λ i. Ok (instr_bytes i)) ≡ Ok bytes → length bytes ≡ 4
    by (Ok i) e = length_ok (instr_bytes i) bytes 4 refl e
    by (Err kind) e = absurd cc
size_is symbols local section at (body.Pseudo p) bytes e = length_pseudo symbols at p bytes e
size_is symbols local section at (body.Directive d) bytes e = length_directive symbols section at d bytes e

-- ---- the sections after statements
-- what is put in a section moves its cursor
put_moves : (symbols : SymbolList) (local : Option ℕ) (section : Section) (c : Cursor) (done : Images) (b : BodyValue) (bytes : List ℕ) → bytes_in symbols local section (address_in section c) b ≡ Ok bytes
    → (length (put_bytes section done bytes).text_bytes + c.text_at ≡ length done.text_bytes + (advanced section c (size (address_in section c) b)).text_at)
    × (length (put_bytes section done bytes).data_bytes + c.data_at ≡ length done.data_bytes + (advanced section c (size (address_in section c) b)).data_at)
unfolding bytes_in put_bytes
put_moves symbols local sections.Text c done b bytes e =
    (omega (arith, length-append done.text_bytes bytes, size_is symbols local sections.Text c.text_at b bytes e), refl)
put_moves symbols local sections.Data c done b bytes e =
    (refl, omega (arith, length-append done.data_bytes bytes, size_is symbols local sections.Data c.data_at b bytes e))
put_moves symbols local sections.Zeros c done b bytes e = (refl, refl)

-- a change of the section is of size 0
switch_moves : (section : Section) (c : Cursor) → ((advanced section c 0).text_at ≡ c.text_at) × ((advanced section c 0).data_at ≡ c.data_at) × ((advanced section c 0).zeros_at ≡ c.zeros_at)
switch_moves sections.Text c = (omega arith, refl, refl)
switch_moves sections.Data c = (refl, omega arith, refl)
switch_moves sections.Zeros c = (refl, refl, omega arith)

step_moves : (c : Cursor) (b : BodyValue)
    → ((stepped_cursor c b).text_at ≡ (advanced c.section c (size (cursor_address c) b)).text_at) × ((stepped_cursor c b).data_at ≡ (advanced c.section c (size (cursor_address c) b)).data_at)
    × ((stepped_cursor c b).zeros_at ≡ (advanced c.section c (size (cursor_address c) b)).zeros_at)
unfolding stepped_cursor section_of size directive_size
step_moves c (body.Label name) = (refl, refl, refl)
step_moves c (body.LocalLabel digits) = (refl, refl, refl)
step_moves c (body.Instruction i) = (refl, refl, refl)
step_moves c (body.Pseudo p) = (refl, refl, refl)
step_moves c (body.Directive (directive.Section to)) =
    let m = switch_moves c.section c in (sym m.0, sym m.1, sym m.2)
step_moves c (body.Directive (directive.Align n)) = (refl, refl, refl)
step_moves c (body.Directive (directive.Zero count)) = (refl, refl, refl)
step_moves c (body.Directive (directive.Words vs)) = (refl, refl, refl)
step_moves c (body.Directive (directive.Halves ns)) = (refl, refl, refl)
step_moves c (body.Directive (directive.Bytes ns)) = (refl, refl, refl)
step_moves c (body.Directive (directive.Ascii text)) = (refl, refl, refl)
step_moves c (body.Directive (directive.Global names)) = (refl, refl, refl)

-- the sections have as many bytes as the cursor has gone on
pub valuing_sizes : (symbols : SymbolList) (before : List Local) (done : Images) (c : Cursor) (ss : List StatementValue) (images : Images) → valuing symbols before done c ss ≡ Ok images
    → (length images.text_bytes + c.text_at ≡ length done.text_bytes + (cursor_after c ss).text_at) × (length images.data_bytes + c.data_at ≡ length done.data_bytes + (cursor_after c ss).data_at)
unfolding valuing cursor_after cursor_address said_at
valuing_sizes symbols before done c [] images e = let same : images ≡ done = cc in (ap (λ i. length i.text_bytes + c.text_at) same, ap (λ i. length i.data_bytes + c.data_at) same)
valuing_sizes symbols before done c (s ∷ ss) images e =
    by (bytes_in symbols (local_label_of before (stepped_cursor c s.body) ss s.source s.body) c.section (cursor_address c) s.body) refl
    (λ bytes. valuing_sizes symbols (local_label_at s.source (cursor_address c) s.body ++ before) (put_bytes c.section done bytes) (stepped_cursor c s.body) ss images) e
  where
    by : (r : Result (List ℕ) FaultKind) → bytes_in symbols (local_label_of before (stepped_cursor c s.body) ss s.source s.body) c.section (cursor_address c) s.body ≡ r
        → ((bytes : List ℕ) → valuing symbols (local_label_at s.source (cursor_address c) s.body ++ before) (put_bytes c.section done bytes) (stepped_cursor c s.body) ss ≡ Ok images
        → (length images.text_bytes + (stepped_cursor c s.body).text_at ≡ length (put_bytes c.section done bytes).text_bytes + (cursor_after (stepped_cursor c s.body) ss).text_at)
        × (length images.data_bytes + (stepped_cursor c s.body).data_at ≡ length (put_bytes c.section done bytes).data_bytes + (cursor_after (stepped_cursor c s.body) ss).data_at))
        → (said_at s r >>= λ bytes. valuing symbols (local_label_at s.source (cursor_address c) s.body ++ before) (put_bytes c.section done bytes) (stepped_cursor c s.body) ss) ≡ Ok images
        → (length images.text_bytes + c.text_at ≡ length done.text_bytes + (cursor_after (stepped_cursor c s.body) ss).text_at) × (length images.data_bytes + c.data_at ≡ length done.data_bytes + (cursor_after (stepped_cursor c s.body) ss).data_at)
    by (Ok bytes) q ih e =
        let h = ih bytes e in
        let m = put_moves symbols (local_label_of before (stepped_cursor c s.body) ss s.source s.body) c.section c done s.body bytes q in
        let n = step_moves c s.body in
        (omega (arith, h.0, m.0, n.0), omega (arith, h.1, m.1, n.1))
    by (Err kind) q ih e = absurd cc

-- ---- the statement that gets TooLarge
-- if a statement gets TooLarge, not all is placed
heavy_decides : (globals : Globals) (seen : SymbolList) (j i : ℕ) (c : Cursor) (ss : List StatementValue) (symbols : SymbolList) → placing globals seen (Some j) i c ss ≡ Ok symbols → i ≤ j → j < i + length ss → ⊥
unfolding placing place_fault
heavy_decides globals seen j i c [] symbols e low high = omega (arith, low, high)
heavy_decides globals seen j i c (s ∷ ss) symbols e low high =
    by (i == j) refl (heavy_decides globals (seen ++ placed_symbols_at globals c.section (cursor_address c) s.body) j (i + 1) (stepped_cursor c s.body) ss symbols) e
  where
    rest : Result SymbolList Fault
    rest = placing globals (seen ++ placed_symbols_at globals c.section (cursor_address c) s.body) (Some j) (i + 1) (stepped_cursor c s.body) ss

    here : (own : Option FaultKind) → unless_faulted (option_or own (Some kinds.TooLarge)) s rest ≡ Ok symbols → ⊥
    here None e = cc
    here (Some kind) e = cc

    later : (own : Option FaultKind) → unless_faulted (option_or own None) s rest ≡ Ok symbols → rest ≡ Ok symbols
    later None e = e
    later (Some kind) e = absurd cc

    by : (h : Bool) → (i == j) ≡ h → (rest ≡ Ok symbols → i + 1 ≤ j → j < i + 1 + length ss → ⊥)
        → unless_faulted (option_or (own_fault seen (cursor_address c) s.body) (if h then Some kinds.TooLarge else None)) s rest ≡ Ok symbols → ⊥
    by true p ih e = here (own_fault seen (cursor_address c) s.body) e
    by false p ih e = let other = eqb-false i j p in ih (later (own_fault seen (cursor_address c) s.body) e) (omega (arith, low, other)) (omega (arith, high))

-- the last statement of size above 0 is one of them
sized_below : (i : ℕ) (c : Cursor) (ss : List StatementValue) (j : ℕ) → last_sized i c ss ≡ Some j → (i ≤ j) × (j < i + length ss)
unfolding last_sized
sized_below i c [] j e = absurd cc
sized_below i c (s ∷ ss) j e = by (last_sized (i + 1) (stepped_cursor c s.body) ss) (sized_below (i + 1) (stepped_cursor c s.body) ss j) e
  where
    at : (b : Bool) → (if b then Some i else None) ≡ Some j → (i ≤ j) × (j < i + length (s ∷ ss))
    at true e = let same : i ≡ j = cc in (omega arith, omega arith)
    at false e = absurd cc

    by : (o : Option ℕ) → (o ≡ Some j → (i + 1 ≤ j) × (j < i + 1 + length ss)) → option_or o (if nat_lt 0 (size (cursor_address c) s.body) then Some i else None) ≡ Some j → (i ≤ j) × (j < i + length (s ∷ ss))
    by (Some k) ih e = let h = ih e in (omega (arith, h.0), omega (arith, h.1))
    by None ih e = at (nat_lt 0 (size (cursor_address c) s.body)) e

abbrev none : Option ℕ
none = None

-- if no statement has a size, the cursor stays
none_sized : (i : ℕ) (c : Cursor) (ss : List StatementValue) → last_sized i c ss ≡ None
    → ((cursor_after c ss).text_at ≡ c.text_at) × ((cursor_after c ss).data_at ≡ c.data_at) × ((cursor_after c ss).zeros_at ≡ c.zeros_at)
unfolding last_sized cursor_after
none_sized i c [] e = (refl, refl, refl)
none_sized i c (s ∷ ss) e = by (last_sized (i + 1) (stepped_cursor c s.body) ss) (none_sized (i + 1) (stepped_cursor c s.body) ss) e
  where
    at : (b : Bool) → nat_lt 0 (size (cursor_address c) s.body) ≡ b → (if b then Some i else none) ≡ none → size (cursor_address c) s.body ≡ 0
    at true p e = absurd cc
    at false p e = omega (arith, ltb-false 0 (size (cursor_address c) s.body) p)

    by : (o : Option ℕ) → (o ≡ None → ((cursor_after (stepped_cursor c s.body) ss).text_at ≡ (stepped_cursor c s.body).text_at) × ((cursor_after (stepped_cursor c s.body) ss).data_at ≡ (stepped_cursor c s.body).data_at) × ((cursor_after (stepped_cursor c s.body) ss).zeros_at ≡ (stepped_cursor c s.body).zeros_at))
        → option_or o (if nat_lt 0 (size (cursor_address c) s.body) then Some i else None) ≡ None
        → ((cursor_after (stepped_cursor c s.body) ss).text_at ≡ c.text_at) × ((cursor_after (stepped_cursor c s.body) ss).data_at ≡ c.data_at) × ((cursor_after (stepped_cursor c s.body) ss).zeros_at ≡ c.zeros_at)
    by (Some k) ih e = absurd cc
    by None ih e =
        let h = ih refl in
        let zero_size = at (nat_lt 0 (size (cursor_address c) s.body)) refl e in
        let m = rw zero_size at (step_moves c s.body) in
        let n = switch_moves c.section c in
        (h.0 ∙ m.0 ∙ n.0, h.1 ∙ m.1 ∙ n.1, h.2 ∙ m.2 ∙ n.2)

-- nothing is not over the limit
small : (start end : Cursor) → start.text_at ≡ text_start → (end.text_at ≡ start.text_at) × (end.data_at ≡ start.data_at) × (end.zeros_at ≡ start.zeros_at) → is_too_large start end ≡ false
unfolding is_too_large segment_size
small start end base same =
    let t : end.text_at - text_start ≡ 0 = omega (arith, base, same.0) in
    let d : end.data_at - start.data_at ≡ 0 = omega (arith, same.1) in
    let z : end.zeros_at - start.zeros_at ≡ 0 = omega (arith, same.2) in
    rw (t, d, z) refl

-- if all is placed, text and data segment are not over the limit
light : (globals : Globals) (start : Cursor) (ss : List StatementValue) (symbols : SymbolList) → start.text_at ≡ text_start
    → placing globals [] (heavy_of start (cursor_after start ss) ss) 0 start ss ≡ Ok symbols → is_too_large start (cursor_after start ss) ≡ false
unfolding heavy_of
light globals start ss symbols base e = by (is_too_large start (cursor_after start ss)) refl e
  where
    nothing : last_sized 0 start ss ≡ None → is_too_large start (cursor_after start ss) ≡ false
    nothing none = small start (cursor_after start ss) base (none_sized 0 start ss none)

    sized : (o : Option ℕ) → last_sized 0 start ss ≡ o → placing globals [] o 0 start ss ≡ Ok symbols → is_too_large start (cursor_after start ss) ≡ false
    sized None p e = nothing p
    sized (Some j) p e = let h = sized_below 0 start ss j p in absurd (heavy_decides globals [] j 0 start ss symbols e h.0 h.1)

    by : (b : Bool) → is_too_large start (cursor_after start ss) ≡ b → placing globals [] (if b then last_sized 0 start ss else None) 0 start ss ≡ Ok symbols
        → is_too_large start (cursor_after start ss) ≡ false
    by true p e = sized (last_sized 0 start ss) refl e
    by false p e = p

-- the program of what is placed and valued is within the limit
pub fits : (globals : Globals) (start : Cursor) (ss : List StatementValue) (symbols : SymbolList) (images : Images) → start.text_at ≡ text_start
    → placing globals [] (heavy_of start (cursor_after start ss) ss) 0 start ss ≡ Ok symbols → valuing symbols [] no_bytes start ss ≡ Ok images
    → IsWithinLimit images.text_bytes images.data_bytes ((cursor_after start ss).zeros_at - start.zeros_at)
unfolding is_too_large
fits globals start ss symbols images base placed valued =
    let end = cursor_after start ss in
    let h = valuing_sizes symbols [] no_bytes start ss images valued in
    let t : length images.text_bytes ≡ end.text_at - text_start = omega (arith, h.0, base) in
    let d : length images.data_bytes ≡ end.data_at - start.data_at = omega (arith, h.1) in
    let below = ltb-false program_limit ((end.text_at - text_start) + segment_size (end.data_at - start.data_at) (end.zeros_at - start.zeros_at)) (light globals start ss symbols base placed) in
    rw (t, d) below

-- the same of the values that the code has
pub fits_here : (globals : Globals) (start end : Cursor) (heavy : Option ℕ) (ss : List StatementValue) (symbols : SymbolList) (images : Images) (zeros : ℕ)
    → start ≡ first_cursor ss → end ≡ cursor_after start ss → heavy ≡ heavy_of start end ss
    → placing globals [] heavy 0 start ss ≡ Ok symbols → valuing symbols [] no_bytes start ss ≡ Ok images
    → zeros ≡ end.zeros_at - start.zeros_at → IsWithinLimit images.text_bytes images.data_bytes zeros
unfolding first_cursor start_at
fits_here globals start end heavy ss symbols images zeros first last where_heavy placed valued z =
    let base : start.text_at ≡ text_start = ap (λ (c : Cursor). c.text_at) first in
    let p : placing globals [] (heavy_of start (cursor_after start ss) ss) 0 start ss ≡ Ok symbols = cc in
    let e : zeros ≡ (cursor_after start ss).zeros_at - start.zeros_at = cc in
    rw e (fits globals start ss symbols images base p valued)

-- zeros within the limit
pub zeros_small : (text bytes : List ℕ) (zeros : ℕ) → IsWithinLimit text bytes zeros → zeros ≤ program_limit
unfolding segment_size
zeros_small text bytes zeros h = by (zeros == 0) refl h
  where
    by : (b : Bool) → (zeros == 0) ≡ b → length text + (if b then length bytes else round_up (length bytes) 4 + zeros) ≤ program_limit → zeros ≤ program_limit
    by true p h = omega (arith, eqb-true zeros 0 p)
    by false p h = omega (arith, h)
