-- The first fault of operands.
use Rattle.std.proofs.Common.{◌≡◌, ℕ, ◌+◌, ◌%◌, ◌^◌, ◌≤◌, Bool, true, false, List, [], ◌∷◌, ◌++◌, length, Option, Some, None, Result, Ok, Err, refl, sym, ap, ◌∙◌, subst, arith, append_assoc, true≢false, ◌⊎◌, inl, inr}
use Rattle.std.specs.Prelude.{ℤ, pos, map, ◌&&◌, ◌==◌, if◌then◌else◌}
use Rattle.std.specs.Int.{w32, to_le_bytes}
use Rattle.std.specs.List.{flat_map, list_all}
use Rattle.asm_statement.specs.Answer.{◌>>=◌}
use Rattle.asm_statement.specs.Fault.{source_fault_number}
use Rattle.asm_statement.specs.Statement.{StatementValue, BodyValue}
use Rattle.asm_statement.specs.Statements.{is_zeros}
use Rattle.asm_statement.specs.declared.fault.Fault.{Fault}
use Rattle.asm_statement.specs.declared.fault.FaultKind.{FaultKind}
use Rattle.asm_statement.specs.declared.fault.FaultKind.TheVariants as kinds
use Rattle.asm_statement.specs.declared.operand.Value.{Value}
use Rattle.asm_statement.specs.declared.operand.Value.TheVariants as values
use Rattle.asm_statement.specs.declared.operand.Immediate.{Immediate}
use Rattle.asm_statement.specs.declared.operand.Immediate.TheVariants as immediates
use Rattle.asm_statement.specs.declared.operand.Upper.{Upper}
use Rattle.asm_statement.specs.declared.operand.Upper.TheVariants as uppers
use Rattle.asm_statement.specs.declared.operand.Target.{Target}
use Rattle.asm_statement.specs.declared.operand.Target.TheVariants as targets
use Rattle.asm_statement.specs.declared.statement.Section.{Section}
use Rattle.asm_statement.specs.declared.statement.Section.TheVariants as sections
use Rattle.asm_statement.specs.declared.statement.Body.TheVariants as body
use Rattle.asm_statement.specs.declared.statement.Directive.TheVariants as directive
use Rattle.asm_statement.specs.declared.statement.Pseudo.TheVariants as pseudo
use Rattle.asm_statement.specs.declared.statement.Instruction.{Instruction}
use Rattle.asm_statement.specs.declared.statement.Instruction.TheVariants as read
use Rattle.isa_table.specs.declared.instr.Instr.TheVariants as instr
use Rattle.asm_assemble.specs.declared.cursor.Cursor.{Cursor}
use Rattle.asm_assemble.specs.declared.instruction.Pair.{Pair}
use Rattle.asm_assemble.specs.Program.{SymbolList}
use Rattle.asm_assemble.specs.Numbers.{as_word, is_in_range, number12, number20, amount_of, hi, lo, distance, is_signed_word, offset_of}
use Rattle.asm_assemble.specs.Operands.{operand_address, defined, symbol_value, valued_operand, immediate_of, upper_of, operand_target}
use Rattle.asm_assemble.specs.Instructions.{offset_to, placed_instr, li_pair, la_pair, jump_pair, instr_pair}
use Rattle.asm_assemble.specs.Cursors.{cursor_address, stepped_cursor}
use Rattle.asm_assemble.specs.Locals.{Local, local_target, local_label_at, local_label_of}
use Rattle.asm_assemble.specs.Valuing.{instr_bytes, pair_bytes, fits_word, word_list, half_list, byte_list, where_fits, directive_bytes, valued_bytes, Images, put_bytes, bytes_in, said_at, valuing}
use Rattle.asm_assemble.specs.Placed.{Standing, IsTarget, IsOffset}
use Rattle.asm_assemble.proofs.PlacedCuts.{laid, stood}
use Rattle.asm_assemble.proofs.PlacedSteps.{unbound}
use Rattle.asm_assemble.proofs.PlacedOperands.{AreLast, last_behind, is_target, is_offset}
use Rattle.asm_assemble.proofs.PlacedOneValue.{AreFound, found_behind, target_is, offset_is}
use Rattle.asm_laws.specs.Faults.{Operand, Ranged, Named, Reached, symbol_operands, word_operands, immediate_operands, upper_operands, instruction_operands, operands_of, IsWrong, AnyOperand, IsMisvalued}
use Rattle.asm_laws.proofs.Phases.{Tells, Answers, IsClear, Phase, from, clear_more, all_clear, is_first}

abbrev some : ℕ → Option ℕ
some n = Some n

some_is_none : (n : ℕ) → some n ≡ None → ⊥
some_is_none n e = absurd cc

abbrev good : ℕ → Result ℕ FaultKind
good n = Ok n

abbrev bad : FaultKind → Result ℕ FaultKind
bad kind = Err kind

bad_is : (a b : FaultKind) → bad a ≡ bad b → b ≡ a
bad_is a b e = cc

good_is_bad : (n : ℕ) (kind : FaultKind) → good n ≡ bad kind → ⊥
good_is_bad n kind e = absurd cc

-- a step after one that has no fault of its own
then_answers : {X Y : Type 0} (r : Result X FaultKind) (f : X → Y) (Is : FaultKind → Type 0) → Answers r Is → Answers (r >>= λ x. Ok (f x)) Is
then_answers (Ok x) f Is h = h
then_answers (Err kind) f Is h = h

rest_fails : {X Y : Type 0} (r : Result X FaultKind) (f : X → Y) (kind : FaultKind) → (r >>= λ x. Ok (f x)) ≡ Err kind → r ≡ Err kind
rest_fails (Ok x) f kind e = absurd cc
rest_fails (Err k) f kind e = let same : k ≡ kind = cc in ap Err same

both : (b c : Bool) → (b && c) ≡ true → (b ≡ true) × (c ≡ true)
both true c e = (refl, e)
both false c e = absurd (true≢false (sym e))

-- ---- operands
module _ (symbols : SymbolList) (before : List Standing) (s : Standing) (after : List Standing) where
  ranged_only : (low high : ℕ) (n : ℤ) (kind : FaultKind) → IsWrong symbols before s after kind (Ranged low high n) → (kind ≡ kinds.Range) × (is_in_range low high n ≡ false)
  ranged_only low high n kinds.Range h = (refl, h)
  ranged_only low high n _ h = absurd h

  named_only : (name : List ℕ) (kind : FaultKind) → IsWrong symbols before s after kind (Named name) → (kind ≡ kinds.Undefined) × (operand_address symbols name ≡ None)
  named_only name kinds.Undefined h = (refl, h)
  named_only name _ h = absurd h

  reached_only : (width : ℕ) (target : Target) (kind : FaultKind) → IsWrong symbols before s after kind (Reached width target)
      → ((kind ≡ kinds.Undefined) × ((to : ℕ) → IsTarget symbols before s.statement.source after target to → ⊥))
      ⊎ ((kind ≡ kinds.BranchRange) × ((to : ℕ) × IsTarget symbols before s.statement.source after target to × ((offset : ℕ) → IsOffset width symbols before s after target offset → ⊥)))
  reached_only width target kinds.Undefined h = inl (refl, h)
  reached_only width target kinds.BranchRange h = inr (refl, h)
  reached_only width target _ h = absurd h

  -- a target's faults are Undefined and BranchRange
  reached_least : (width : ℕ) (target : Target) (kind : FaultKind) → IsWrong symbols before s after kind (Reached width target) → 6 ≤ source_fault_number kind
  reached_least width target kind h = by (reached_only width target kind h)
    where
      by : ((kind ≡ kinds.Undefined) × ((to : ℕ) → IsTarget symbols before s.statement.source after target to → ⊥))
          ⊎ ((kind ≡ kinds.BranchRange) × ((to : ℕ) × IsTarget symbols before s.statement.source after target to × ((offset : ℕ) → IsOffset width symbols before s after target offset → ⊥)))
          → 6 ≤ source_fault_number kind
      by (inl w) = let le : 6 ≤ 6 = omega arith in from kind kinds.Undefined w.0 6 le
      by (inr w) = let le : 6 ≤ 8 = omega arith in from kind kinds.BranchRange w.0 6 le

  -- where the target is there, only BranchRange
  reached_there : (width : ℕ) (target : Target) (to : ℕ) → IsTarget symbols before s.statement.source after target to
      → (kind : FaultKind) → IsWrong symbols before s after kind (Reached width target) → 8 ≤ source_fault_number kind
  reached_there width target to there kind h = by (reached_only width target kind h)
    where
      by : ((kind ≡ kinds.Undefined) × ((to : ℕ) → IsTarget symbols before s.statement.source after target to → ⊥))
          ⊎ ((kind ≡ kinds.BranchRange) × ((to : ℕ) × IsTarget symbols before s.statement.source after target to × ((offset : ℕ) → IsOffset width symbols before s after target offset → ⊥)))
          → 8 ≤ source_fault_number kind
      by (inl w) = absurd (w.1 to there)
      by (inr w) = let le : 8 ≤ 8 = omega arith in from kind kinds.BranchRange w.0 8 le

  -- and none where an offset leads there
  reached_well : (width : ℕ) (target : Target) (to offset : ℕ) → IsTarget symbols before s.statement.source after target to → IsOffset width symbols before s after target offset
      → (kind : FaultKind) → IsWrong symbols before s after kind (Reached width target) → ⊥
  reached_well width target to offset there leads kind h = by (reached_only width target kind h)
    where
      by : ((kind ≡ kinds.Undefined) × ((to : ℕ) → IsTarget symbols before s.statement.source after target to → ⊥))
          ⊎ ((kind ≡ kinds.BranchRange) × ((to : ℕ) × IsTarget symbols before s.statement.source after target to × ((offset : ℕ) → IsOffset width symbols before s after target offset → ⊥)))
          → ⊥
      by (inl w) = w.1 to there
      by (inr w) = w.1.2 offset leads

  -- Range is the lowest of all
  least : (o : Operand) (kind : FaultKind) → IsWrong symbols before s after kind o → 5 ≤ source_fault_number kind
  least (Ranged low high n) kind h = let le : 5 ≤ 5 = omega arith in from kind kinds.Range (ranged_only low high n kind h).0 5 le
  least (Named name) kind h = let le : 5 ≤ 6 = omega arith in from kind kinds.Undefined (named_only name kind h).0 5 le
  least (Reached width target) kind h = let six = reached_least width target kind h in omega (arith, six)

  any_least : (os : List Operand) (kind : FaultKind) → AnyOperand (IsWrong symbols before s after kind) os → 5 ≤ source_fault_number kind
  any_least [] kind h = absurd h
  any_least (o ∷ os) kind (inl w) = least o kind w
  any_least (o ∷ os) kind (inr h) = any_least os kind h

  only_one : (o : Operand) (kind : FaultKind) → AnyOperand (IsWrong symbols before s after kind) (o ∷ []) → IsWrong symbols before s after kind o
  only_one o kind (inl w) = w
  only_one o kind (inr h) = absurd h

  one_answers : {X : Type 0} (o : Operand) (r : Result X FaultKind) → Answers r (λ kind. IsWrong symbols before s after kind o)
      → Answers r (λ kind. AnyOperand (IsWrong symbols before s after kind) (o ∷ []))
  one_answers o (Ok x) h = λ kind w. h kind (only_one o kind w)
  one_answers o (Err kind) h = (inl h.0, λ other w. h.1 other (only_one o other w))

  -- ---- numbers
  number_answers : {X : Type 0} (low high : ℕ) (n : ℤ) (x : X)
      → Answers (if is_in_range low high n then Ok x else Err kinds.Range) (λ kind. IsWrong symbols before s after kind (Ranged low high n))
  number_answers low high n x = by (is_in_range low high n) refl
    where
      by : (b : Bool) → is_in_range low high n ≡ b → Answers (if b then Ok x else Err kinds.Range) (λ kind. IsWrong symbols before s after kind (Ranged low high n))
      by true e = λ kind h. true≢false (sym e ∙ (ranged_only low high n kind h).1)
      by false e = (e, λ other h. least (Ranged low high n) other h)

  numbers_fit : (low high : ℕ) (ns : List ℤ) → list_all (is_in_range low high) ns ≡ true → (kind : FaultKind)
      → AnyOperand (IsWrong symbols before s after kind) (map (λ n. Ranged low high n) ns) → ⊥
  numbers_fit low high [] e kind h = h
  numbers_fit low high (n ∷ ns) e kind (inl w) =
      true≢false (sym (both (is_in_range low high n) (list_all (is_in_range low high) ns) e).0 ∙ (ranged_only low high n kind w).1)
  numbers_fit low high (n ∷ ns) e kind (inr h) = numbers_fit low high ns (both (is_in_range low high n) (list_all (is_in_range low high) ns) e).1 kind h

  numbers_wrong : (low high : ℕ) (ns : List ℤ) → list_all (is_in_range low high) ns ≡ false → AnyOperand (IsWrong symbols before s after kinds.Range) (map (λ n. Ranged low high n) ns)
  numbers_wrong low high [] e = absurd (true≢false e)
  numbers_wrong low high (n ∷ ns) e = by (is_in_range low high n) refl e (numbers_wrong low high ns)
    where
      by : (b : Bool) → is_in_range low high n ≡ b → (b && list_all (is_in_range low high) ns) ≡ false
          → (list_all (is_in_range low high) ns ≡ false → AnyOperand (IsWrong symbols before s after kinds.Range) (map (λ n. Ranged low high n) ns))
          → AnyOperand (IsWrong symbols before s after kinds.Range) (Ranged low high n ∷ map (λ n. Ranged low high n) ns)
      by true f e more = inr (more e)
      by false f e more = inl f

  numbers_answers : (low high : ℕ) (ns : List ℤ) (bytes : List ℕ)
      → Answers (where_fits (list_all (is_in_range low high) ns) (Ok bytes)) (λ kind. AnyOperand (IsWrong symbols before s after kind) (map (λ n. Ranged low high n) ns))
  unfolding where_fits
  numbers_answers low high ns bytes = by (list_all (is_in_range low high) ns) refl
    where
      by : (b : Bool) → list_all (is_in_range low high) ns ≡ b
          → Answers (where_fits b (Ok bytes)) (λ kind. AnyOperand (IsWrong symbols before s after kind) (map (λ n. Ranged low high n) ns))
      by true e = λ kind h. numbers_fit low high ns e kind h
      by false e = (numbers_wrong low high ns e, λ other h. any_least (map (λ n. Ranged low high n) ns) other h)

  -- ---- symbols
  named_answers : {X : Type 0} (name : List ℕ) (f : ℕ → X) → Answers (defined (operand_address symbols name) >>= λ at. Ok (f at)) (λ kind. IsWrong symbols before s after kind (Named name))
  unfolding defined
  named_answers name f = by (operand_address symbols name) refl
    where
      by : (o : Option ℕ) → operand_address symbols name ≡ o → Answers (defined o >>= λ at. Ok (f at)) (λ kind. IsWrong symbols before s after kind (Named name))
      by (Some at) e = λ kind h. some_is_none at (sym e ∙ (named_only name kind h).1)
      by None e = (e, λ other h. let le : 6 ≤ 6 = omega arith in from other kinds.Undefined (named_only name other h).0 6 le)

  value_answers : (v : Value) → Answers (valued_operand symbols v) (λ kind. AnyOperand (IsWrong symbols before s after kind) (symbol_operands v))
  unfolding valued_operand symbol_value
  value_answers (values.Number n) = λ kind h. h
  value_answers (values.Symbol name offset) =
      one_answers (Named name) (symbol_value symbols name offset) (named_answers name (λ at. (at + as_word offset) % 2 ^ 32))

  symbol_answers : (name : List ℕ) (offset : ℤ) → Answers (symbol_value symbols name offset) (λ kind. AnyOperand (IsWrong symbols before s after kind) (Named name ∷ []))
  unfolding symbol_value
  symbol_answers name offset = one_answers (Named name) (symbol_value symbols name offset) (named_answers name (λ at. (at + as_word offset) % 2 ^ 32))

  -- ---- immediates
  immediate_answers : (imm : Immediate) → Answers (immediate_of symbols imm) (λ kind. AnyOperand (IsWrong symbols before s after kind) (immediate_operands imm))
  unfolding immediate_of number12
  immediate_answers (immediates.Number n) = one_answers (Ranged (2 ^ 11) (2 ^ 11) n) (number12 n) (number_answers (2 ^ 11) (2 ^ 11) n (as_word n))
  immediate_answers (immediates.Low v) =
      then_answers (valued_operand symbols v) (λ word. lo word) (λ kind. AnyOperand (IsWrong symbols before s after kind) (symbol_operands v)) (value_answers v)

  upper_answers : (imm : Upper) → Answers (upper_of symbols imm) (λ kind. AnyOperand (IsWrong symbols before s after kind) (upper_operands imm))
  unfolding upper_of number20
  upper_answers (uppers.Number n) = one_answers (Ranged 0 (2 ^ 20) n) (number20 n) (number_answers 0 (2 ^ 20) n (as_word n))
  upper_answers (uppers.High v) =
      then_answers (valued_operand symbols v) (λ word. hi word) (λ kind. AnyOperand (IsWrong symbols before s after kind) (symbol_operands v)) (value_answers v)

  amount_answers : (n : ℤ) → Answers (amount_of n) (λ kind. AnyOperand (IsWrong symbols before s after kind) (Ranged 0 (2 ^ 5) n ∷ []))
  unfolding amount_of
  amount_answers n = one_answers (Ranged 0 (2 ^ 5) n) (amount_of n) (number_answers 0 (2 ^ 5) n (as_word n))

  -- ---- words
  words_wrong : (vs : List Value) → list_all fits_word vs ≡ false → AnyOperand (IsWrong symbols before s after kinds.Range) (flat_map word_operands vs)
  unfolding fits_word
  words_wrong [] e = absurd (true≢false e)
  words_wrong (values.Number n ∷ vs) e = by (is_in_range (2 ^ 31) (2 ^ 32) n) refl e (words_wrong vs)
    where
      by : (b : Bool) → is_in_range (2 ^ 31) (2 ^ 32) n ≡ b → (b && list_all fits_word vs) ≡ false
          → (list_all fits_word vs ≡ false → AnyOperand (IsWrong symbols before s after kinds.Range) (flat_map word_operands vs))
          → AnyOperand (IsWrong symbols before s after kinds.Range) (Ranged (2 ^ 31) (2 ^ 32) n ∷ flat_map word_operands vs)
      by true f e more = inr (more e)
      by false f e more = inl f
  words_wrong (values.Symbol name offset ∷ vs) e = inr (words_wrong vs e)

  words_fit : (vs : List Value) → list_all fits_word vs ≡ true → (kind : FaultKind) → AnyOperand (IsWrong symbols before s after kind) (flat_map word_operands vs) → kind ≡ kinds.Undefined
  unfolding fits_word
  words_fit [] e kind h = absurd h
  words_fit (values.Number n ∷ vs) e kind (inl w) =
      absurd (true≢false (sym (both (is_in_range (2 ^ 31) (2 ^ 32) n) (list_all fits_word vs) e).0 ∙ (ranged_only (2 ^ 31) (2 ^ 32) n kind w).1))
  words_fit (values.Number n ∷ vs) e kind (inr h) = words_fit vs (both (is_in_range (2 ^ 31) (2 ^ 32) n) (list_all fits_word vs) e).1 kind h
  words_fit (values.Symbol name offset ∷ vs) e kind (inl w) = (named_only name kind w).0
  words_fit (values.Symbol name offset ∷ vs) e kind (inr h) = words_fit vs e kind h

  not_valued : (name : List ℕ) (offset : ℤ) (word : ℕ) → symbol_value symbols name offset ≡ Ok word → operand_address symbols name ≡ None → ⊥
  unfolding symbol_value defined
  not_valued name offset word e none = good_is_bad word kinds.Undefined (sym e ∙ ap (λ o. defined o >>= λ at. good ((at + as_word offset) % 2 ^ 32)) none)

  words_valued : (vs : List Value) (bytes : List ℕ) → word_list symbols vs ≡ Ok bytes → AnyOperand (IsWrong symbols before s after kinds.Undefined) (flat_map word_operands vs) → ⊥
  unfolding word_list valued_operand
  words_valued [] bytes e h = h
  words_valued (values.Number n ∷ vs) bytes e (inl w) = w
  words_valued (values.Number n ∷ vs) bytes e (inr h) =
      let rest = unbound (word_list symbols vs) (λ more. Ok (to_le_bytes w32 (as_word n) ++ more)) bytes e in
      words_valued vs rest.value rest.was h
  words_valued (values.Symbol name offset ∷ vs) bytes e (inl w) =
      let step = unbound (symbol_value symbols name offset) (λ word. word_list symbols vs >>= λ more. Ok (to_le_bytes w32 word ++ more)) bytes e in
      not_valued name offset step.value step.was w
  words_valued (values.Symbol name offset ∷ vs) bytes e (inr h) =
      let step = unbound (symbol_value symbols name offset) (λ word. word_list symbols vs >>= λ more. Ok (to_le_bytes w32 word ++ more)) bytes e in
      let rest = unbound (word_list symbols vs) (λ more. Ok (to_le_bytes w32 step.value ++ more)) bytes step.then in
      words_valued vs rest.value rest.was h

  words_undefined : (vs : List Value) (kind : FaultKind) → word_list symbols vs ≡ Err kind
      → (kind ≡ kinds.Undefined) × AnyOperand (IsWrong symbols before s after kinds.Undefined) (flat_map word_operands vs)
  unfolding word_list valued_operand symbol_value defined
  words_undefined [] kind e = absurd cc
  words_undefined (values.Number n ∷ vs) kind e =
      let more = words_undefined vs kind (rest_fails (word_list symbols vs) (λ more. to_le_bytes w32 (as_word n) ++ more) kind e) in
      (more.0, inr more.1)
  words_undefined (values.Symbol name offset ∷ vs) kind e = by (operand_address symbols name) refl (words_undefined vs kind) e
    where
      by : (o : Option ℕ) → operand_address symbols name ≡ o
          → (word_list symbols vs ≡ Err kind → (kind ≡ kinds.Undefined) × AnyOperand (IsWrong symbols before s after kinds.Undefined) (flat_map word_operands vs))
          → ((defined o >>= λ at. Ok ((at + as_word offset) % 2 ^ 32)) >>= λ word. word_list symbols vs >>= λ more. Ok (to_le_bytes w32 word ++ more)) ≡ Err kind
          → (kind ≡ kinds.Undefined) × AnyOperand (IsWrong symbols before s after kinds.Undefined) (Named name ∷ flat_map word_operands vs)
      by None f more e = let same : kind ≡ kinds.Undefined = cc in (same, inl f)
      by (Some at) f more e =
          let rest = more (rest_fails (word_list symbols vs) (λ bytes. to_le_bytes w32 ((at + as_word offset) % 2 ^ 32) ++ bytes) kind e) in
          (rest.0, inr rest.1)

  words_answers : (vs : List Value) → Answers (where_fits (list_all fits_word vs) (word_list symbols vs)) (λ kind. AnyOperand (IsWrong symbols before s after kind) (flat_map word_operands vs))
  unfolding where_fits
  words_answers vs = by (list_all fits_word vs) refl
    where
      valued : list_all fits_word vs ≡ true → (r : Result (List ℕ) FaultKind) → word_list symbols vs ≡ r
          → Answers r (λ kind. AnyOperand (IsWrong symbols before s after kind) (flat_map word_operands vs))
      valued fit (Ok bytes) e = λ kind h. words_valued vs bytes e (subst (λ k. AnyOperand (IsWrong symbols before s after k) (flat_map word_operands vs)) (words_fit vs fit kind h) h)
      valued fit (Err kind) e =
          let wrong = words_undefined vs kind e in
          subst (λ k. Tells (Some k) (λ kind. AnyOperand (IsWrong symbols before s after kind) (flat_map word_operands vs))) (sym wrong.0)
          (wrong.1, λ other h. let le : 6 ≤ 6 = omega arith in from other kinds.Undefined (words_fit vs fit other h) 6 le)

      by : (b : Bool) → list_all fits_word vs ≡ b → Answers (where_fits b (word_list symbols vs)) (λ kind. AnyOperand (IsWrong symbols before s after kind) (flat_map word_operands vs))
      by true e = valued e (word_list symbols vs) refl
      by false e = (words_wrong vs e, λ other h. any_least (flat_map word_operands vs) other h)

-- ---- targets
undefined_only : (o : Option ℕ) (kind : FaultKind) → defined o ≡ Err kind → kind ≡ kinds.Undefined
unfolding defined
undefined_only (Some at) kind e = absurd cc
undefined_only None kind e = bad_is kinds.Undefined kind e

target_undefined : (symbols : SymbolList) (local : Option ℕ) (target : Target) (kind : FaultKind) → operand_target symbols local target ≡ Err kind → kind ≡ kinds.Undefined
unfolding operand_target
target_undefined symbols local (targets.Address n) kind e = absurd (good_is_bad (as_word n) kind e)
target_undefined symbols local (targets.Symbol name) kind e = undefined_only (operand_address symbols name) kind e
target_undefined symbols local (targets.Back digits) kind e = undefined_only local kind e
target_undefined symbols local (targets.Ahead digits) kind e = undefined_only local kind e

offset_wrong : (width word : ℕ) (kind : FaultKind) → offset_of width word ≡ Err kind → kind ≡ kinds.BranchRange
unfolding offset_of
offset_wrong width word kind e = by (is_signed_word width word && (word % 2 == 0)) e
  where
    by : (b : Bool) → (if b then good word else bad kinds.BranchRange) ≡ bad kind → kind ≡ kinds.BranchRange
    by true e = absurd (good_is_bad word kind e)
    by false e = bad_is kinds.BranchRange kind e

module _ (symbols : SymbolList) (locals : List Local) (done : List Standing) (next : Cursor) (ss : List StatementValue) (s : Standing) (last : AreLast locals done) (found : AreFound locals done) where
  offset_answers : (width : ℕ) (target : Target) (to : ℕ) → operand_target symbols (local_target locals next ss s.statement.source target) target ≡ Ok to
      → (r : Result ℕ FaultKind) → offset_of width (distance s.address to) ≡ r → Answers r (λ kind. IsWrong symbols done s (laid next ss) kind (Reached width target))
  unfolding offset_to
  offset_answers width target to e (Ok offset) f =
      let there : IsTarget symbols done s.statement.source (laid next ss) target to = is_target symbols locals done next ss s.statement.source target to last e in
      let whole : offset_to width symbols (local_target locals next ss s.statement.source target) s.address target ≡ good offset = ap (λ r. r >>= λ to. offset_of width (distance s.address to)) e ∙ f in
      reached_well symbols done s (laid next ss) width target to offset there (is_offset width symbols locals done next ss s target offset last whole)
  offset_answers width target to e (Err kind) f =
      let there : IsTarget symbols done s.statement.source (laid next ss) target to = is_target symbols locals done next ss s.statement.source target to last e in
      let whole : offset_to width symbols (local_target locals next ss s.statement.source target) s.address target ≡ bad kind = ap (λ r. r >>= λ to. offset_of width (distance s.address to)) e ∙ f in
      subst (λ k. Tells (Some k) (λ kind. IsWrong symbols done s (laid next ss) kind (Reached width target))) (sym (offset_wrong width (distance s.address to) kind f))
      ((to, there, λ offset leads. good_is_bad offset kind (sym (offset_is width symbols locals done next ss s target offset found leads) ∙ whole)), reached_there symbols done s (laid next ss) width target to there)

  target_answers : (width : ℕ) (target : Target) (r : Result ℕ FaultKind) → operand_target symbols (local_target locals next ss s.statement.source target) target ≡ r
      → Answers (r >>= λ to. offset_of width (distance s.address to)) (λ kind. IsWrong symbols done s (laid next ss) kind (Reached width target))
  target_answers width target (Ok to) e = offset_answers width target to e (offset_of width (distance s.address to)) refl
  target_answers width target (Err kind) e =
      subst (λ k. Tells (Some k) (λ kind. IsWrong symbols done s (laid next ss) kind (Reached width target)))
      (sym (target_undefined symbols (local_target locals next ss s.statement.source target) target kind e))
      (λ to there. good_is_bad to kind (sym (target_is symbols locals done next ss s.statement.source target to found there) ∙ e), reached_least symbols done s (laid next ss) width target)

  reached_answers : (width : ℕ) (target : Target)
      → Answers (offset_to width symbols (local_target locals next ss s.statement.source target) s.address target) (λ kind. AnyOperand (IsWrong symbols done s (laid next ss) kind) (Reached width target ∷ []))
  unfolding offset_to
  reached_answers width target =
      one_answers symbols done s (laid next ss) (Reached width target) (offset_to width symbols (local_target locals next ss s.statement.source target) s.address target)
      (target_answers width target (operand_target symbols (local_target locals next ss s.statement.source target) target) refl)

  -- ---- statements
  instruction_answers : (i : Instruction) → Answers (placed_instr symbols (local_label_of locals next ss s.statement.source (body.Instruction i)) s.address i)
      (λ kind. AnyOperand (IsWrong symbols done s (laid next ss) kind) (instruction_operands i))
  unfolding placed_instr local_label_of
  instruction_answers (read.Fixed i) = λ kind h. h
  instruction_answers (read.Lui rd imm) =
      then_answers (upper_of symbols imm) (λ high. instr.Lui rd high) (λ kind. AnyOperand (IsWrong symbols done s (laid next ss) kind) (upper_operands imm)) (upper_answers symbols done s (laid next ss) imm)
  instruction_answers (read.Auipc rd imm) =
      then_answers (upper_of symbols imm) (λ high. instr.Auipc rd high) (λ kind. AnyOperand (IsWrong symbols done s (laid next ss) kind) (upper_operands imm)) (upper_answers symbols done s (laid next ss) imm)
  instruction_answers (read.Jal rd target) =
      then_answers (offset_to 21 symbols (local_target locals next ss s.statement.source target) s.address target) (λ offset. instr.Jal rd offset)
      (λ kind. AnyOperand (IsWrong symbols done s (laid next ss) kind) (Reached 21 target ∷ [])) (reached_answers 21 target)
  instruction_answers (read.Jalr rd rs1 imm) =
      then_answers (immediate_of symbols imm) (λ word. instr.Jalr rd rs1 word) (λ kind. AnyOperand (IsWrong symbols done s (laid next ss) kind) (immediate_operands imm))
      (immediate_answers symbols done s (laid next ss) imm)
  instruction_answers (read.Branch op rs1 rs2 target) =
      then_answers (offset_to 13 symbols (local_target locals next ss s.statement.source target) s.address target) (λ offset. instr.Branch op rs1 rs2 offset)
      (λ kind. AnyOperand (IsWrong symbols done s (laid next ss) kind) (Reached 13 target ∷ [])) (reached_answers 13 target)
  instruction_answers (read.Load op rd rs1 imm) =
      then_answers (immediate_of symbols imm) (λ word. instr.Load op rd rs1 word) (λ kind. AnyOperand (IsWrong symbols done s (laid next ss) kind) (immediate_operands imm))
      (immediate_answers symbols done s (laid next ss) imm)
  instruction_answers (read.Store op rs1 rs2 imm) =
      then_answers (immediate_of symbols imm) (λ word. instr.Store op rs1 rs2 word) (λ kind. AnyOperand (IsWrong symbols done s (laid next ss) kind) (immediate_operands imm))
      (immediate_answers symbols done s (laid next ss) imm)
  instruction_answers (read.Immediate op rd rs1 imm) =
      then_answers (immediate_of symbols imm) (λ word. instr.Immediate op rd rs1 word) (λ kind. AnyOperand (IsWrong symbols done s (laid next ss) kind) (immediate_operands imm))
      (immediate_answers symbols done s (laid next ss) imm)
  instruction_answers (read.Shift op rd rs1 amount) =
      then_answers (amount_of amount) (λ count. instr.Shift op rd rs1 count) (λ kind. AnyOperand (IsWrong symbols done s (laid next ss) kind) (Ranged 0 (2 ^ 5) amount ∷ []))
      (amount_answers symbols done s (laid next ss) amount)

  -- a pseudo-instruction with a symbol
  pair_answers : (name : List ℕ) (offset : ℤ) (pair : ℕ → Pair)
      → Answers ((symbol_value symbols name offset >>= λ to. Ok (pair to)) >>= λ (p : Pair). Ok (pair_bytes p.first p.second)) (λ kind. AnyOperand (IsWrong symbols done s (laid next ss) kind) (Named name ∷ []))
  pair_answers name offset pair =
      then_answers (symbol_value symbols name offset >>= λ to. Ok (pair to)) (λ (p : Pair). pair_bytes p.first p.second) (λ kind. AnyOperand (IsWrong symbols done s (laid next ss) kind) (Named name ∷ []))
      (then_answers (symbol_value symbols name offset) pair (λ kind. AnyOperand (IsWrong symbols done s (laid next ss) kind) (Named name ∷ [])) (symbol_answers symbols done s (laid next ss) name offset))

  body_answers : (section : Section) (b : BodyValue) → Answers (valued_bytes symbols (local_label_of locals next ss s.statement.source b) section s.address b)
      (λ kind. AnyOperand (IsWrong symbols done s (laid next ss) kind) (operands_of b))
  unfolding valued_bytes directive_bytes instr_pair
  body_answers section (body.Label name) = λ kind h. h
  body_answers section (body.LocalLabel digits) = λ kind h. h
  body_answers section (body.Instruction i) =
      then_answers (placed_instr symbols (local_label_of locals next ss s.statement.source (body.Instruction i)) s.address i) (λ j. instr_bytes j)
      (λ kind. AnyOperand (IsWrong symbols done s (laid next ss) kind) (instruction_operands i)) (instruction_answers i)
  body_answers section (body.Pseudo (pseudo.Li rd number)) =
      then_answers (instr_pair symbols s.address (pseudo.Li rd number)) (λ (p : Pair). pair_bytes p.first p.second)
      (λ kind. AnyOperand (IsWrong symbols done s (laid next ss) kind) (Ranged (2 ^ 31) (2 ^ 64) number ∷ []))
      (one_answers symbols done s (laid next ss) (Ranged (2 ^ 31) (2 ^ 64) number) (instr_pair symbols s.address (pseudo.Li rd number))
      (number_answers symbols done s (laid next ss) (2 ^ 31) (2 ^ 64) number (li_pair rd (as_word number))))
  body_answers section (body.Pseudo (pseudo.La rd name offset)) = pair_answers name offset (λ to. la_pair rd (distance s.address to))
  body_answers section (body.Pseudo (pseudo.Call name)) = pair_answers name (pos 0) (λ to. jump_pair 1 1 (distance s.address to))
  body_answers section (body.Pseudo (pseudo.Tail name)) = pair_answers name (pos 0) (λ to. jump_pair 6 0 (distance s.address to))
  body_answers section (body.Directive (directive.Words vs)) = words_answers symbols done s (laid next ss) vs
  body_answers section (body.Directive (directive.Halves ns)) = numbers_answers symbols done s (laid next ss) (2 ^ 15) (2 ^ 16) ns (half_list ns)
  body_answers section (body.Directive (directive.Bytes ns)) = numbers_answers symbols done s (laid next ss) (2 ^ 7) (2 ^ 8) ns (byte_list ns)
  body_answers section (body.Directive (directive.Ascii text)) = λ kind h. h
  body_answers section (body.Directive (directive.Zero count)) = λ kind h. h
  body_answers section (body.Directive (directive.Align n)) = λ kind h. h
  body_answers section (body.Directive (directive.Section to)) = λ kind h. h
  body_answers section (body.Directive (directive.Global names)) = λ kind h. h

-- in the text and in the data
not_zeros : {X : Type 0} (r : Result X FaultKind) (Is : FaultKind → Type 0) → Answers r Is → Answers r (λ kind. (false ≡ false) × Is kind)
not_zeros (Ok x) Is h = λ kind g. h kind g.1
not_zeros (Err kind) Is h = ((refl, h.0), λ other g. h.1 other g.1)

section_answers : (symbols : SymbolList) (locals : List Local) (done : List Standing) (next : Cursor) (ss : List StatementValue) (s : Standing) → AreLast locals done → AreFound locals done
    → (q : Section) (b : BodyValue) → Answers (bytes_in symbols (local_label_of locals next ss s.statement.source b) q s.address b)
    (λ kind. (is_zeros q ≡ false) × AnyOperand (IsWrong symbols done s (laid next ss) kind) (operands_of b))
unfolding bytes_in
section_answers symbols locals done next ss s last found sections.Text b =
    not_zeros (valued_bytes symbols (local_label_of locals next ss s.statement.source b) sections.Text s.address b) (λ kind. AnyOperand (IsWrong symbols done s (laid next ss) kind) (operands_of b))
    (body_answers symbols locals done next ss s last found sections.Text b)
section_answers symbols locals done next ss s last found sections.Data b =
    not_zeros (valued_bytes symbols (local_label_of locals next ss s.statement.source b) sections.Data s.address b) (λ kind. AnyOperand (IsWrong symbols done s (laid next ss) kind) (operands_of b))
    (body_answers symbols locals done next ss s last found sections.Data b)
section_answers symbols locals done next ss s last found sections.Zeros b = λ kind g. true≢false g.0

-- ---- the phase
goes : (symbols : SymbolList) (all done : List Standing) (s : Standing) (rest : List Standing) (more : List ℕ → Result Images Fault) (r : Result (List ℕ) FaultKind) → all ≡ done ++ s ∷ rest
    → IsClear (IsMisvalued symbols) all (length done) → Answers r (λ kind. IsMisvalued symbols kind done s rest)
    → ((bytes : List ℕ) → ((kind : FaultKind) → IsMisvalued symbols kind done s rest → ⊥) → Phase (IsMisvalued symbols) all (more bytes))
    → Phase (IsMisvalued symbols) all (said_at s.statement r >>= more)
unfolding said_at
goes symbols all done s rest more (Ok bytes) is clear told next = next bytes told
goes symbols all done s rest more (Err kind) is clear told next = is_first (IsMisvalued symbols) all done s rest kind is clear told

-- the phase of operands finds its first fault
pub valuing_finds : (symbols : SymbolList) (all : List Standing) (locals : List Local) (done : List Standing) (images : Images) (c : Cursor) (ss : List StatementValue)
    → AreLast locals done → AreFound locals done → all ≡ done ++ laid c ss → IsClear (IsMisvalued symbols) all (length done)
    → Phase (IsMisvalued symbols) all (valuing symbols locals images c ss)
unfolding laid valuing
valuing_finds symbols all locals done images c [] last found is clear = all_clear (IsMisvalued symbols) all done is clear
valuing_finds symbols all locals done images c (s ∷ ss) last found is clear =
    let next = stepped_cursor c s.body in
    let here = stood c s in
    let after = laid next ss in
    let local = local_label_of locals next ss s.source s.body in
    let labels = local_label_at s.source (cursor_address c) s.body ++ locals in
    goes symbols all done here after (λ bytes. valuing symbols labels (put_bytes c.section images bytes) next ss) (bytes_in symbols local c.section (cursor_address c) s.body) is clear
    (section_answers symbols locals done next ss here last found c.section s.body)
    (λ bytes none. valuing_finds symbols all labels (done ++ here ∷ []) (put_bytes c.section images bytes) next ss (last_behind locals done c s last) (found_behind locals done c s found)
    (is ∙ sym (append_assoc done (here ∷ []) after)) (clear_more (IsMisvalued symbols) all done here after is clear none))
