-- The first fault of placing.
use Rattle.std.proofs.Common.{◌≡◌, ℕ, ◌+◌, ◌-◌, ◌%◌, ◌^◌, ◌<◌, ◌≤◌, Bool, true, false, cond, eqb, List, [], ◌∷◌, ◌++◌, length, Option, Some, None, IfSome, Result, refl, sym, ap, ◌∙◌, subst, arith, append_assoc, true≢false, ◌⊎◌, inl, inr}
use Rattle.std.specs.Prelude.{is_some, nat_lt, ◌||◌}
use Rattle.std.specs.List.{list_any}
use Rattle.std.specs.Option.{option_or}
use Rattle.std.specs.Str.{bytes_eq}
use Rattle.std.proofs.lemmas.Bool.{eqb-true, eqb-false, eq-eqb, ne_eqb, ltb-true, ltb-false, lt-ltb}
use Rattle.asm_statement.specs.Fault.{source_fault_number}
use Rattle.asm_statement.specs.Statement.{StatementValue, BodyValue}
use Rattle.asm_statement.specs.declared.fault.Fault.{Fault}
use Rattle.asm_statement.specs.declared.fault.FaultKind.{FaultKind}
use Rattle.asm_statement.specs.declared.fault.FaultKind.TheVariants as kinds
use Rattle.asm_statement.specs.declared.statement.Section.TheVariants as sections
use Rattle.asm_statement.specs.declared.statement.Body.TheVariants as body
use Rattle.asm_statement.specs.declared.statement.Directive.TheVariants as directive
use Rattle.asm_assemble.specs.declared.cursor.Cursor.{Cursor}
use Rattle.asm_assemble.specs.declared.program.Symbol.{Symbol}
use Rattle.asm_assemble.specs.Program.{SymbolList, text_start, program_limit, segment_size}
use Rattle.asm_assemble.specs.Cursors.{size, cursor_address, stepped_cursor, cursor_after}
use Rattle.asm_assemble.specs.Operands.{found}
use Rattle.asm_assemble.specs.Placing.{globals_from, placed_symbols_at, unless_faulted, if_sized, last_sized, own_fault, place_fault, is_at, placing}
use Rattle.asm_assemble.specs.Assembled.{start_at, first_cursor, is_too_large, heavy_of}
use Rattle.asm_assemble.specs.Placed.{Standing, taken, is_global, symbol_at, placed_symbols_in}
use Rattle.asm_assemble.proofs.PlacedCuts.{laid, stood}
use Rattle.asm_assemble.proofs.PlacedAddresses.{IsBehind, behind_all}
use Rattle.asm_assemble.proofs.PlacedBases.{bases_of, behind_none}
use Rattle.asm_assemble.proofs.PlacedFits.{symbols_more}
use Rattle.asm_assemble.proofs.PlacingLemmas.{or_none}
use Rattle.asm_laws.specs.Faults.{is_label_of, IsSecond, IsMisaligned, takes_bytes, IsOverLimit, IsMisplaced}
use Rattle.asm_laws.proofs.Phases.{Tells, IsClear, Phase, from, clear_more, all_clear, is_first}

-- ---- a label that was defined before
or_found : (b c : Bool) (v : Symbol) (o : Option Symbol) → is_some o ≡ c → is_some (cond b (Some v) o) ≡ (b || c)
or_found true c v o h = refl
or_found false c v o h = h

found_label : (all done : List Standing) (name : List ℕ) → is_some (found (placed_symbols_in all done) name) ≡ list_any (λ (s : Standing). is_label_of name s.statement.body) done
unfolding found placed_symbols_in
found_label all [] name = refl
found_label all (s ∷ done) name = by s.statement.body (found_label all done name)
  where
    by : (b : BodyValue) → is_some (found (placed_symbols_in all done) name) ≡ list_any (λ (t : Standing). is_label_of name t.statement.body) done
        → is_some (found (symbol_at all s.section s.address b ++ placed_symbols_in all done) name) ≡ (is_label_of name b || list_any (λ (t : Standing). is_label_of name t.statement.body) done)
    by (body.Label other) h =
        or_found (bytes_eq name other) (list_any (λ (t : Standing). is_label_of name t.statement.body) done)
        (record { section = s.section; address = s.address % 2 ^ 32; global = is_global all other }) (found (placed_symbols_in all done) name) h
    by (body.LocalLabel digits) h = h
    by (body.Instruction i) h = h
    by (body.Pseudo p) h = h
    by (body.Directive d) h = h

-- ---- a statement's own fault
-- no own fault, or the label is the second one, or the statement is misaligned
abbrev OwnTells : Option FaultKind → Type 0 → Type 0 → Type 0
OwnTells None S M = (S → ⊥) × (M → ⊥)
OwnTells (Some kinds.Twice) S M = S
OwnTells (Some kinds.Align) S M = (S → ⊥) × M
OwnTells (Some kind) S M = ⊥

second_tells : (b c : Bool) → b ≡ c → OwnTells (cond b (Some kinds.Twice) None) (c ≡ true) ⊥
second_tells true c e = sym e
second_tells false c e = (λ s. true≢false (sym s ∙ sym e), λ m. m)

aligned_tells : (at : ℕ) → OwnTells (cond (eqb (at % 4) 0) None (Some kinds.Align)) ⊥ (0 < at % 4)
aligned_tells at = by (eqb (at % 4) 0) refl
  where
    by : (b : Bool) → eqb (at % 4) 0 ≡ b → OwnTells (cond b None (Some kinds.Align)) ⊥ (0 < at % 4)
    by true e = (λ s. s, λ m. let same : at % 4 ≡ 0 = eqb-true (at % 4) 0 e in omega (arith, same, m))
    by false e = (λ s. s, let other = eqb-false (at % 4) 0 e in omega (arith, other))

low_tells : (n : ℕ) → OwnTells (cond (nat_lt 12 n) (Some kinds.Align) None) ⊥ (12 < n)
low_tells n = by (nat_lt 12 n) refl
  where
    by : (b : Bool) → nat_lt 12 n ≡ b → OwnTells (cond b (Some kinds.Align) None) ⊥ (12 < n)
    by true e = (λ s. s, ltb-true 12 n e)
    by false e = (λ s. s, λ m. let low : n ≤ 12 = ltb-false 12 n e in omega (arith, low, m))

own_tells : (all done : List Standing) (at : ℕ) (b : BodyValue) → OwnTells (own_fault (placed_symbols_in all done) at b) (IsSecond done b) (IsMisaligned at b)
unfolding own_fault
own_tells all done at (body.Label name) =
    second_tells (is_some (found (placed_symbols_in all done) name)) (list_any (λ (s : Standing). is_label_of name s.statement.body) done) (found_label all done name)
own_tells all done at (body.LocalLabel digits) = (λ s. s, λ m. m)
own_tells all done at (body.Instruction i) = aligned_tells at
own_tells all done at (body.Pseudo p) = aligned_tells at
own_tells all done at (body.Directive (directive.Align n)) = low_tells n
own_tells all done at (body.Directive (directive.Section to)) = (λ s. s, λ m. m)
own_tells all done at (body.Directive (directive.Zero count)) = (λ s. s, λ m. m)
own_tells all done at (body.Directive (directive.Words vs)) = (λ s. s, λ m. m)
own_tells all done at (body.Directive (directive.Halves ns)) = (λ s. s, λ m. m)
own_tells all done at (body.Directive (directive.Bytes ns)) = (λ s. s, λ m. m)
own_tells all done at (body.Directive (directive.Ascii text)) = (λ s. s, λ m. m)
own_tells all done at (body.Directive (directive.Global names)) = (λ s. s, λ m. m)

-- ---- the last statement with bytes
-- no statement from the i-th on has bytes, or the j-th does
abbrev IsLastIn : ℕ → Option ℕ → Bool → Type 0
IsLastIn i None any = any ≡ false
IsLastIn i (Some j) any = (i ≤ j) × (any ≡ true)

last_step : (i : ℕ) (o : Option ℕ) (here later : Bool) → IsLastIn (i + 1) o later → IsLastIn i (option_or o (cond here (Some i) None)) (here || later)
last_step i (Some j) true later h = (omega (arith, h.0), refl)
last_step i (Some j) false later h = (omega (arith, h.0), h.1)
last_step i None true later h = (omega arith, refl)
last_step i None false later h = h

last_is : (i : ℕ) (c : Cursor) (ss : List StatementValue) → IsLastIn i (last_sized i c ss) (list_any takes_bytes (laid c ss))
unfolding last_sized laid
last_is i c [] = refl
last_is i c (s ∷ ss) =
    last_step i (last_sized (i + 1) (stepped_cursor c s.body) ss) (nat_lt 0 (size (cursor_address c) s.body)) (list_any takes_bytes (laid (stepped_cursor c s.body) ss))
    (last_is (i + 1) (stepped_cursor c s.body) ss)

-- the index of the statement that gets TooLarge, where the i-th comes next
record IsHeavy (over : Bool) (heavy : Option ℕ) (i : ℕ) (c : Cursor) (ss : List StatementValue) : Type 0 where
  earlier : Option ℕ
  below : IfSome earlier (λ j. j < i)
  is : heavy ≡ cond over (option_or (last_sized i c ss) earlier) None

or_or : (a b c : Option ℕ) → option_or (option_or a b) c ≡ option_or a (option_or b c)
or_or None b c = refl
or_or (Some x) b c = refl

below_more : (here : Bool) (i : ℕ) (o : Option ℕ) → IfSome o (λ j. j < i) → IfSome (option_or (cond here (Some i) None) o) (λ j. j < i + 1)
below_more true i o h = omega arith
below_more false i None h = tt
below_more false i (Some j) h = omega (arith, h)

heavy_more : (over : Bool) (heavy : Option ℕ) (i : ℕ) (c : Cursor) (s : StatementValue) (ss : List StatementValue) → IsHeavy over heavy i c (s ∷ ss) → IsHeavy over heavy (i + 1) (stepped_cursor c s.body) ss
unfolding last_sized
heavy_more over heavy i c s ss h = record {
  earlier = option_or (if_sized i (cursor_address c) s.body) h.earlier;
  below = below_more (nat_lt 0 (size (cursor_address c) s.body)) i h.earlier h.below;
  is = h.is ∙ ap (λ o. cond over o None) (or_or (last_sized (i + 1) (stepped_cursor c s.body) ss) (if_sized i (cursor_address c) s.body) h.earlier);
}

-- the i-th statement gets it exactly if the program is too large and this is the last with bytes
abbrev HeavyTells : Bool → Bool → Bool → Bool → Type 0
HeavyTells true over here later = (over ≡ true) × (here ≡ true) × (later ≡ false)
HeavyTells false over here later = over ≡ true → here ≡ true → later ≡ false → ⊥

heavy_by : (over : Bool) (o : Option ℕ) (here later : Bool) (earlier : Option ℕ) (i : ℕ) → IsLastIn (i + 1) o later → IfSome earlier (λ j. j < i)
    → HeavyTells (is_at (cond over (option_or (option_or o (cond here (Some i) None)) earlier) None) i) over here later
heavy_by false o here later earlier i l b = λ x y z. true≢false (sym x)
heavy_by true (Some j) here later earlier i l b =
    let other : eqb i j ≡ false = ne_eqb i j (λ e. omega (arith, e, l.0)) in
    subst (λ f. HeavyTells f true here later) (sym other) (λ x y z. true≢false (sym l.1 ∙ z))
heavy_by true None true later earlier i l b =
    let same : eqb i i ≡ true = eq-eqb i i refl in
    subst (λ f. HeavyTells f true true later) (sym same) (refl, refl, l)
heavy_by true None false later None i l b = λ x y z. true≢false (sym y)
heavy_by true None false later (Some j) i l b =
    let other : eqb i j ≡ false = ne_eqb i j (λ e. omega (arith, e, b)) in
    subst (λ f. HeavyTells f true false later) (sym other) (λ x y z. true≢false (sym y))

heavy_tells : (over : Bool) (heavy : Option ℕ) (i : ℕ) (c : Cursor) (s : StatementValue) (ss : List StatementValue) → IsHeavy over heavy i c (s ∷ ss)
    → HeavyTells (is_at heavy i) over (takes_bytes (stood c s)) (list_any takes_bytes (laid (stepped_cursor c s.body) ss))
unfolding last_sized
heavy_tells over heavy i c s ss h =
    subst (λ o. HeavyTells (is_at o i) over (takes_bytes (stood c s)) (list_any takes_bytes (laid (stepped_cursor c s.body) ss))) (sym h.is)
    (heavy_by over (last_sized (i + 1) (stepped_cursor c s.body) ss) (nat_lt 0 (size (cursor_address c) s.body)) (list_any takes_bytes (laid (stepped_cursor c s.body) ss)) h.earlier i
    (last_is (i + 1) (stepped_cursor c s.body) ss) h.below)

-- ---- a statement's lowest fault
-- whether the program is too large
abbrev pub is_over : List Standing → Bool
is_over all = nat_lt (2 ^ 24) (taken sections.Text all + segment_size (taken sections.Data all) (taken sections.Zeros all))

module _ (all done : List Standing) (s : Standing) (rest : List Standing) where
  misplaced_by : (kind : FaultKind) → IsMisplaced all kind done s rest
      → ((kind ≡ kinds.Twice) × IsSecond done s.statement.body)
      ⊎ (((kind ≡ kinds.Align) × IsMisaligned s.address s.statement.body) ⊎ ((kind ≡ kinds.TooLarge) × IsOverLimit all s rest))
  misplaced_by kinds.Twice h = inl (refl, h)
  misplaced_by kinds.Align h = inr (inl (refl, h))
  misplaced_by kinds.TooLarge h = inr (inr (refl, h))
  misplaced_by _ h = absurd h

  too_large : HeavyTells true (is_over all) (takes_bytes s) (list_any takes_bytes rest) → IsOverLimit all s rest
  too_large h = record { over = ltb-true (2 ^ 24) (taken sections.Text all + segment_size (taken sections.Data all) (taken sections.Zeros all)) h.0; has_bytes = h.1; last = h.2 }

  not_large : HeavyTells false (is_over all) (takes_bytes s) (list_any takes_bytes rest) → IsOverLimit all s rest → ⊥
  not_large h t = h (lt-ltb (2 ^ 24) (taken sections.Text all + segment_size (taken sections.Data all) (taken sections.Zeros all)) t.over) t.has_bytes t.last

  place_tells : (o : Option FaultKind) (heavy : Bool) → OwnTells o (IsSecond done s.statement.body) (IsMisaligned s.address s.statement.body)
      → HeavyTells heavy (is_over all) (takes_bytes s) (list_any takes_bytes rest) → Tells (option_or o (cond heavy (Some kinds.TooLarge) None)) (λ kind. IsMisplaced all kind done s rest)
  place_tells None false own large = λ kind h. by kind (misplaced_by kind h)
    where
      by : (kind : FaultKind) → ((kind ≡ kinds.Twice) × IsSecond done s.statement.body)
          ⊎ (((kind ≡ kinds.Align) × IsMisaligned s.address s.statement.body) ⊎ ((kind ≡ kinds.TooLarge) × IsOverLimit all s rest)) → ⊥
      by kind (inl h) = own.0 h.1
      by kind (inr (inl h)) = own.1 h.1
      by kind (inr (inr h)) = not_large large h.1
  place_tells None true own large = (too_large large, λ kind h. by kind (misplaced_by kind h))
    where
      by : (kind : FaultKind) → ((kind ≡ kinds.Twice) × IsSecond done s.statement.body)
          ⊎ (((kind ≡ kinds.Align) × IsMisaligned s.address s.statement.body) ⊎ ((kind ≡ kinds.TooLarge) × IsOverLimit all s rest)) → 11 ≤ source_fault_number kind
      by kind (inl h) = absurd (own.0 h.1)
      by kind (inr (inl h)) = absurd (own.1 h.1)
      by kind (inr (inr h)) = let le : 11 ≤ 11 = omega arith in from kind kinds.TooLarge h.0 11 le
  place_tells (Some kinds.Twice) heavy own large = (own, λ kind h. by kind (misplaced_by kind h))
    where
      by : (kind : FaultKind) → ((kind ≡ kinds.Twice) × IsSecond done s.statement.body)
          ⊎ (((kind ≡ kinds.Align) × IsMisaligned s.address s.statement.body) ⊎ ((kind ≡ kinds.TooLarge) × IsOverLimit all s rest)) → 7 ≤ source_fault_number kind
      by kind (inl h) = let le : 7 ≤ 7 = omega arith in from kind kinds.Twice h.0 7 le
      by kind (inr (inl h)) = let le : 7 ≤ 10 = omega arith in from kind kinds.Align h.0 7 le
      by kind (inr (inr h)) = let le : 7 ≤ 11 = omega arith in from kind kinds.TooLarge h.0 7 le
  place_tells (Some kinds.Align) heavy own large = (own.1, λ kind h. by kind (misplaced_by kind h))
    where
      by : (kind : FaultKind) → ((kind ≡ kinds.Twice) × IsSecond done s.statement.body)
          ⊎ (((kind ≡ kinds.Align) × IsMisaligned s.address s.statement.body) ⊎ ((kind ≡ kinds.TooLarge) × IsOverLimit all s rest)) → 10 ≤ source_fault_number kind
      by kind (inl h) = absurd (own.0 h.1)
      by kind (inr (inl h)) = let le : 10 ≤ 10 = omega arith in from kind kinds.Align h.0 10 le
      by kind (inr (inr h)) = let le : 10 ≤ 11 = omega arith in from kind kinds.TooLarge h.0 10 le
  place_tells (Some kind) heavy own large = absurd own

-- ---- the phase
goes : (all done : List Standing) (s : Standing) (rest : List Standing) (more : Result SymbolList Fault) (o : Option FaultKind) → all ≡ done ++ s ∷ rest → IsClear (IsMisplaced all) all (length done)
    → Tells o (λ kind. IsMisplaced all kind done s rest) → (((kind : FaultKind) → IsMisplaced all kind done s rest → ⊥) → Phase (IsMisplaced all) all more)
    → Phase (IsMisplaced all) all (unless_faulted o s.statement more)
goes all done s rest more None is clear told next = next told
goes all done s rest more (Some kind) is clear told next = is_first (IsMisplaced all) all done s rest kind is clear told

placing_from : (start : Cursor) (ss : List StatementValue) (heavy : Option ℕ) (i : ℕ) (done : List Standing) (c : Cursor) (rest : List StatementValue)
    → laid start ss ≡ done ++ laid c rest → IsHeavy (is_over (laid start ss)) heavy i c rest → IsClear (IsMisplaced (laid start ss)) (laid start ss) (length done)
    → Phase (IsMisplaced (laid start ss)) (laid start ss) (placing (globals_from [] ss) (placed_symbols_in (laid start ss) done) heavy i c rest)
unfolding laid placing place_fault
placing_from start ss heavy i done c [] is large clear = all_clear (IsMisplaced (laid start ss)) (laid start ss) done is clear
placing_from start ss heavy i done c (s ∷ rest) is large clear =
    let all = laid start ss in
    let globals = globals_from [] ss in
    let seen = placed_symbols_in all done in
    let next = stepped_cursor c s.body in
    let here = stood c s in
    let after = laid next rest in
    let told : Tells (place_fault seen (is_at heavy i) (cursor_address c) s.body) (λ kind. IsMisplaced all kind done here after) =
    place_tells all done here after (own_fault seen (cursor_address c) s.body) (is_at heavy i) (own_tells all done (cursor_address c) s.body) (heavy_tells (is_over all) heavy i c s rest large) in
    goes all done here after (placing globals (seen ++ placed_symbols_at globals c.section (cursor_address c) s.body) heavy (i + 1) next rest)
    (place_fault seen (is_at heavy i) (cursor_address c) s.body) is clear told
    (λ none. subst (λ symbols. Phase (IsMisplaced all) all (placing globals symbols heavy (i + 1) next rest)) (sym (symbols_more start ss done c s))
    (placing_from start ss heavy (i + 1) (done ++ here ∷ []) next rest (is ∙ sym (append_assoc done (here ∷ []) after)) (heavy_more (is_over all) heavy i c s rest large)
    (clear_more (IsMisplaced all) all done here after is clear none)))

-- ---- at the beginning
minus_base : (base n size : ℕ) → n ≡ base + size → n - base ≡ size
minus_base base n size e = omega (arith, e)

over_is : (ss : List StatementValue) → is_too_large (first_cursor ss) (cursor_after (first_cursor ss) ss) ≡ is_over (laid (first_cursor ss) ss)
unfolding is_too_large first_cursor start_at
over_is ss =
    let start = first_cursor ss in
    let end = cursor_after start ss in
    let all = laid start ss in
    let behind : IsBehind (bases_of ss) all end = behind_all (bases_of ss) [] start ss (behind_none ss) in
    let text : end.text_at - text_start ≡ taken sections.Text all = minus_base text_start end.text_at (taken sections.Text all) (behind.at_end sections.Text) in
    let data_is : end.data_at - start.data_at ≡ taken sections.Data all = minus_base start.data_at end.data_at (taken sections.Data all) (behind.at_end sections.Data) in
    let zeros : end.zeros_at - start.zeros_at ≡ taken sections.Zeros all = minus_base start.zeros_at end.zeros_at (taken sections.Zeros all) (behind.at_end sections.Zeros) in
    ap (λ n. nat_lt program_limit (n + segment_size (end.data_at - start.data_at) (end.zeros_at - start.zeros_at))) text
    ∙ (ap (λ n. nat_lt program_limit (taken sections.Text all + segment_size n (end.zeros_at - start.zeros_at))) data_is
    ∙ ap (λ n. nat_lt program_limit (taken sections.Text all + segment_size (taken sections.Data all) n)) zeros)

heavy_first : (ss : List StatementValue) → IsHeavy (is_over (laid (first_cursor ss) ss)) (heavy_of (first_cursor ss) (cursor_after (first_cursor ss) ss) ss) 0 (first_cursor ss) ss
unfolding heavy_of
heavy_first ss =
    let start = first_cursor ss in
    record {
      earlier = None;
      below = tt;
      is = ap (λ b. cond b (last_sized 0 start ss) None) (over_is ss) ∙ ap (λ o. cond (is_over (laid start ss)) o None) (sym (or_none (last_sized 0 start ss)));
    }

-- the phase of placing finds its first fault
pub placing_finds : (ss : List StatementValue)
    → Phase (IsMisplaced (laid (first_cursor ss) ss)) (laid (first_cursor ss) ss)
    (placing (globals_from [] ss) [] (heavy_of (first_cursor ss) (cursor_after (first_cursor ss) ss) ss) 0 (first_cursor ss) ss)
unfolding placed_symbols_in
placing_finds ss =
    let start = first_cursor ss in
    placing_from start ss (heavy_of start (cursor_after start ss) ss) 0 [] start ss refl (heavy_first ss) (λ front s back kind cut lt h. nothing_below (length front) lt)
  where
    nothing_below : (n : ℕ) → n < 0 → ⊥
    nothing_below n lt = omega (arith, lt)
