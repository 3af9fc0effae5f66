-- What is answered of a statement's operands is the fault of their shape, or else of their registers.
use Rattle.std.proofs.Common.{◌≡◌, ℕ, zero, suc, ◌-◌, pos, Bool, true, false, cond, List, [], ◌∷◌, ◌++◌, Option, Some, None, Result, Ok, Err, refl, ap, ◌∙◌}
use Rattle.std.specs.Prelude.{IfOk, IfErr, is_some}
use Rattle.std.specs.List.{list_all}
use Rattle.asm_lex.specs.Lexemes.{Lexeme, Word, Comma, Text}
use Rattle.isa_table.specs.declared.instr.Instr.{Instr}
use Rattle.isa_table.specs.declared.instr.Instr.TheVariants as instrs
use Rattle.asm_statement.specs.Statement.{BodyValue, DirectiveValue}
use Rattle.asm_statement.specs.Texts.{with_byte, byte_in_front, said_from, between_quotes}
use Rattle.asm_statement.specs.declared.fault.FaultKind.{FaultKind}
use Rattle.asm_statement.specs.declared.fault.FaultKind.TheVariants as kinds
use Rattle.asm_statement.specs.declared.operand.Immediate.TheVariants as immediates
use Rattle.asm_statement.specs.declared.operand.Value.{Value}
use Rattle.asm_statement.specs.declared.operand.Value.TheVariants as values
use Rattle.asm_statement.specs.declared.statement.Instruction.{Instruction}
use Rattle.asm_statement.specs.declared.statement.Instruction.TheVariants as i
use Rattle.asm_statement.specs.declared.statement.Pseudo.{Pseudo}
use Rattle.asm_statement.specs.declared.statement.Pseudo.TheVariants as pseudos
use Rattle.asm_statement.specs.declared.heads.Head.{Head}
use Rattle.asm_statement.specs.declared.heads.Head.TheVariants as heads
use Rattle.asm_statement.specs.declared.heads.Operation.{Operation}
use Rattle.asm_statement.specs.declared.heads.Operation.TheVariants as ops
use Rattle.asm_statement.specs.Names.{register_of, fence_set_of}
use Rattle.asm_statement.specs.Shapes.{name_in_front, two_names_in_front, name, number, value, immediate, upper, target, memory, address, register_operand}
use Rattle.asm_statement.specs.Operations.{◌>>-◌, shaped, two_registers, three_registers, register_and, registers_and, register_and_memory, two_with_last, three_with_last, jump, jal, jump_register, jalr, fence_tso, fence, without_operands, unary_instruction, return_instruction, fixed, instruction}
use Rattle.asm_statement.specs.Directives.{parts, each, text, with_end, texts_from, count, section, made_directive, required, directive}
use Rattle.asm_statement.specs.Statements.{load_number, addressed, load_address, call, tail, as_pseudo, as_instruction, as_directive, headed}
use Rattle.asm_laws.specs.PartFaults.{Places, shape_then, fits_then, no_operands, one_and, two_and, one_and_memory, one_and_last, two_and_last, target_alone, register_alone, symbol_behind, operation_places, places, is_register}

-- the fault of a result, if it has one
abbrev pub verdict : {X : Type 0} → Result X FaultKind → Option FaultKind
verdict (Ok x) = None
verdict (Err fault) = Some fault

abbrev pub names_verdict : Bool → Option FaultKind
names_verdict true = None
names_verdict false = Some kinds.Register

-- the fault that places of registers have, if they have one
abbrev pub places_verdict : Places → Option FaultKind
places_verdict None = Some kinds.Operands
places_verdict (Some names) = names_verdict (list_all is_register names)

-- ---- steps
-- behind a register
register_then : {Y : Type 0} (name : List ℕ) (next : ℕ → Result Y FaultKind) (names : List (List ℕ))
    → ((r : ℕ) → verdict (next r) ≡ places_verdict (Some names)) → verdict (register_operand name >>- next) ≡ places_verdict (Some (name ∷ names))
unfolding register_operand
register_then {Y} name next names g = by (register_of name) refl
  where
    by : (o : Option ℕ) → register_of name ≡ o → verdict (register_operand name >>- next) ≡ places_verdict (Some (name ∷ names))
    by None e = rw e refl
    by (Some r) e = rw e (g r)

-- behind operands of a shape
then_places : {X Y : Type 0} (o : Option X) (next : X → Result Y FaultKind) (names : X → Places)
    → ((x : X) → verdict (next x) ≡ places_verdict (names x)) → verdict (shaped o next) ≡ places_verdict (shape_then o names)
then_places None next names g = refl
then_places (Some x) next names g = g x

-- behind what is made of a value
made : {X Y : Type 0} (r : Result X FaultKind) (make : X → Y) → verdict (r >>- λ x. Ok (make x)) ≡ verdict r
made (Ok x) make = refl
made (Err fault) make = refl

either : {X : Type 0} (test : Bool) (r s : Result X FaultKind) (o p : Places) → verdict r ≡ places_verdict o → verdict s ≡ places_verdict p
    → verdict (cond test r s) ≡ places_verdict (cond test o p)
either true r s o p h g = h
either false r s o p h g = g

-- ---- operands
two_told : (a b : List ℕ) → verdict (two_registers a b) ≡ places_verdict (Some (a ∷ b ∷ []))
unfolding two_registers
two_told a b = register_then a (λ a. register_operand b >>- λ b. Ok (a, b)) (b ∷ []) (λ r. register_then b (λ b. Ok (r, b)) [] (λ s. refl))

two_then : {Y : Type 0} (a b : List ℕ) (next : ℕ × ℕ → Result Y FaultKind) (names : List (List ℕ))
    → ((r s : ℕ) → verdict (next (r, s)) ≡ places_verdict (Some names)) → verdict (two_registers a b >>- next) ≡ places_verdict (Some (a ∷ b ∷ names))
unfolding two_registers register_operand
two_then {Y} a b next names g = by (register_of a) refl (register_of b) refl
  where
    by : (o : Option ℕ) → register_of a ≡ o → (p : Option ℕ) → register_of b ≡ p
        → verdict (two_registers a b >>- next) ≡ places_verdict (Some (a ∷ b ∷ names))
    by None e p f = rw e refl
    by (Some r) e None f = rw (e, f) refl
    by (Some r) e (Some s) f = rw (e, f) (g r s)

three_told : (a b c : List ℕ) → verdict (three_registers a b c) ≡ places_verdict (Some (a ∷ b ∷ c ∷ []))
unfolding three_registers
three_told a b c =
    two_then a b (λ r. register_operand c >>- λ c. Ok (r.0, r.1, c)) (c ∷ []) (λ r s.
    register_then c (λ c. Ok (r, s, c)) [] (λ t. refl))

one_and_told : {X : Type 0} (read : List Lexeme → Option X) (ls : List Lexeme) → verdict (register_and read ls) ≡ places_verdict (one_and read ls)
unfolding register_and
one_and_told {X} read ls =
    then_places (name_in_front ls) (λ n. shaped (read n.1) (λ x. register_operand n.0 >>- λ r. Ok (r, x))) (λ n. shape_then (read n.1) (λ x. Some (n.0 ∷ []))) (λ n.
    then_places (read n.1) (λ x. register_operand n.0 >>- λ r. Ok (r, x)) (λ x. Some (n.0 ∷ [])) (λ x.
    register_then n.0 (λ r. Ok (r, x)) [] (λ r. refl)))

two_and_told : {X : Type 0} (read : List Lexeme → Option X) (ls : List Lexeme) → verdict (registers_and read ls) ≡ places_verdict (two_and read ls)
unfolding registers_and
two_and_told {X} read ls =
    then_places (two_names_in_front ls) (λ n. shaped (read n.2) (λ x. two_registers n.0 n.1 >>- λ r. Ok (r.0, r.1, x))) (λ n. shape_then (read n.2) (λ x. Some (n.0 ∷ n.1 ∷ []))) (λ n.
    then_places (read n.2) (λ x. two_registers n.0 n.1 >>- λ r. Ok (r.0, r.1, x)) (λ x. Some (n.0 ∷ n.1 ∷ [])) (λ x.
    two_then n.0 n.1 (λ r. Ok (r.0, r.1, x)) [] (λ r s. refl)))

memory_told : (ls : List Lexeme) → verdict (register_and_memory ls) ≡ places_verdict (one_and_memory ls)
unfolding register_and_memory
memory_told ls =
    then_places (name_in_front ls) (λ n. shaped (memory n.1) (λ m. two_registers n.0 m.1 >>- λ r. Ok (r.0, r.1, m.0))) (λ n. shape_then (memory n.1) (λ m. Some (n.0 ∷ m.1 ∷ []))) (λ n.
    then_places (memory n.1) (λ m. two_registers n.0 m.1 >>- λ r. Ok (r.0, r.1, m.0)) (λ m. Some (n.0 ∷ m.1 ∷ [])) (λ m.
    two_then n.0 m.1 (λ r. Ok (r.0, r.1, m.0)) [] (λ r s. refl)))

one_last : (last : List Lexeme → Option (List ℕ)) (ls : List Lexeme) → verdict (two_with_last last ls) ≡ places_verdict (one_and_last last ls)
unfolding two_with_last
one_last last ls =
    then_places (name_in_front ls) (λ n. shaped (last n.1) (λ b. two_registers n.0 b)) (λ n. shape_then (last n.1) (λ b. Some (n.0 ∷ b ∷ []))) (λ n.
    then_places (last n.1) (λ b. two_registers n.0 b) (λ b. Some (n.0 ∷ b ∷ [])) (λ b. two_told n.0 b))

two_last : (last : List Lexeme → Option (List ℕ)) (ls : List Lexeme) → verdict (three_with_last last ls) ≡ places_verdict (two_and_last last ls)
unfolding three_with_last
two_last last ls =
    then_places (two_names_in_front ls) (λ n. shaped (last n.2) (λ c. three_registers n.0 n.1 c)) (λ n. shape_then (last n.2) (λ c. Some (n.0 ∷ n.1 ∷ c ∷ []))) (λ n.
    then_places (last n.2) (λ c. three_registers n.0 n.1 c) (λ c. Some (n.0 ∷ n.1 ∷ c ∷ [])) (λ c. three_told n.0 n.1 c))

alone_told : {X : Type 0} (x : X) (ls : List Lexeme) → verdict (without_operands x ls) ≡ places_verdict (no_operands ls)
unfolding without_operands
alone_told x [] = refl
alone_told x (l ∷ ls) = refl

-- ---- operations
jump_told : (rd : ℕ) (ls : List Lexeme) → verdict (jump rd ls) ≡ places_verdict (target_alone ls)
unfolding jump
jump_told rd ls = then_places (target ls) (λ t. Ok (i.Jal rd t)) (λ t. Some []) (λ t. refl)

jal_told : (ls : List Lexeme) → verdict (jal ls) ≡ places_verdict (operation_places ops.Jal ls)
unfolding jal
jal_told ls =
    either (is_some (name_in_front ls)) (register_and target ls >>- λ o. Ok (i.Jal o.0 o.1)) (jump 1 ls) (one_and target ls) (target_alone ls)
    (made (register_and target ls) (λ o. i.Jal o.0 o.1) ∙ one_and_told target ls)
    (jump_told 1 ls)

jump_register_told : (rd : ℕ) (ls : List Lexeme) → verdict (jump_register rd ls) ≡ places_verdict (register_alone ls)
unfolding jump_register
jump_register_told rd ls =
    then_places (name ls) (λ rs1. register_operand rs1 >>- λ rs1. Ok (i.Jalr rd rs1 (immediates.Number (pos 0)))) (λ r. Some (r ∷ [])) (λ rs1.
    register_then rs1 (λ rs1. Ok (i.Jalr rd rs1 (immediates.Number (pos 0)))) [] (λ r. refl))

jalr_told : (ls : List Lexeme) → verdict (jalr ls) ≡ places_verdict (operation_places ops.Jalr ls)
unfolding jalr
jalr_told ls =
    either (is_some (two_names_in_front ls)) (registers_and immediate ls >>- λ o. Ok (i.Jalr o.0 o.1 o.2)) behind (two_and immediate ls) places_behind
    (made (registers_and immediate ls) (λ o. i.Jalr o.0 o.1 o.2) ∙ two_and_told immediate ls)
    (either (is_some (name_in_front ls)) (register_and_memory ls >>- λ o. Ok (i.Jalr o.0 o.1 o.2)) (jump_register 1 ls) (one_and_memory ls) (register_alone ls)
    (made (register_and_memory ls) (λ o. i.Jalr o.0 o.1 o.2) ∙ memory_told ls)
    (jump_register_told 1 ls))
  where
    behind : Result Instruction FaultKind
    behind = cond (is_some (name_in_front ls)) (register_and_memory ls >>- λ o. Ok (i.Jalr o.0 o.1 o.2)) (jump_register 1 ls)

    places_behind : Places
    places_behind = cond (is_some (name_in_front ls)) (one_and_memory ls) (register_alone ls)

fence_told : (ls : List Lexeme) → verdict (fence ls) ≡ places_verdict (fits_then (fence ls) [])
unfolding fence
fence_told [] = refl
fence_told (Word pred ∷ Comma ∷ Word succ ∷ []) = by (fence_set_of pred) (fence_set_of succ) refl refl
  where
    by : (o p : Option ℕ) → fence_set_of pred ≡ o → fence_set_of succ ≡ p
        → verdict (fence (Word pred ∷ Comma ∷ Word succ ∷ [])) ≡ places_verdict (fits_then (fence (Word pred ∷ Comma ∷ Word succ ∷ [])) [])
    by None p e f = rw e refl
    by (Some a) None e f = rw (e, f) refl
    by (Some a) (Some b) e f = rw (e, f) refl
fence_told _ = refl

-- an operation with nothing left to value
fixed_by : (op : Operation) (ls : List Lexeme) (r : Result Instr FaultKind) → fixed op ls ≡ r → (whole : Result Instruction FaultKind)
    → ((j : Instr) → fixed op ls ≡ Ok j → whole ≡ Ok (i.Fixed j)) → ((f : FaultKind) → fixed op ls ≡ Err f → whole ≡ Err f) → verdict whole ≡ verdict r
fixed_by op ls (Ok j) e whole ok err = rw (ok j e) refl
fixed_by op ls (Err f) e whole ok err = rw (err f e) refl

fixed_same : (op : Operation) (ls : List Lexeme) → ((j : Instr) → fixed op ls ≡ Ok j → instruction op ls ≡ Ok (i.Fixed j))
    → ((f : FaultKind) → fixed op ls ≡ Err f → instruction op ls ≡ Err f) → verdict (instruction op ls) ≡ verdict (fixed op ls)
fixed_same op ls ok err = fixed_by op ls (fixed op ls) refl (instruction op ls) ok err

instruction_told : (op : Operation) (ls : List Lexeme) → verdict (instruction op ls) ≡ places_verdict (operation_places op ls)
unfolding instruction fixed
instruction_told ops.Lui ls = made (register_and upper ls) (λ o. i.Lui o.0 o.1) ∙ one_and_told upper ls
instruction_told ops.Auipc ls = made (register_and upper ls) (λ o. i.Auipc o.0 o.1) ∙ one_and_told upper ls
instruction_told ops.Jal ls = jal_told ls
instruction_told ops.Jalr ls = jalr_told ls
instruction_told (ops.Branch op) ls = made (registers_and target ls) (λ o. i.Branch op o.0 o.1 o.2) ∙ two_and_told target ls
instruction_told (ops.Load op) ls = made (register_and_memory ls) (λ o. i.Load op o.0 o.1 o.2) ∙ memory_told ls
instruction_told (ops.Store op) ls = made (register_and_memory ls) (λ o. i.Store op o.1 o.0 o.2) ∙ memory_told ls
instruction_told (ops.Immediate op) ls = made (registers_and immediate ls) (λ o. i.Immediate op o.0 o.1 o.2) ∙ two_and_told immediate ls
instruction_told (ops.Shift op) ls = made (registers_and number ls) (λ o. i.Shift op o.0 o.1 o.2) ∙ two_and_told number ls
instruction_told ops.Nop ls = alone_told _ ls
instruction_told ops.Ret ls = alone_told return_instruction ls
instruction_told (ops.Unary op) ls = made (two_with_last name ls) (λ r. unary_instruction op r.0 r.1) ∙ one_last name ls
instruction_told (ops.BranchZero op) ls = made (register_and target ls) (λ o. i.Branch op o.0 0 o.1) ∙ one_and_told target ls
instruction_told (ops.ZeroBranch op) ls = made (register_and target ls) (λ o. i.Branch op 0 o.0 o.1) ∙ one_and_told target ls
instruction_told (ops.SwappedBranch op) ls = made (registers_and target ls) (λ o. i.Branch op o.1 o.0 o.2) ∙ two_and_told target ls
instruction_told ops.Jump ls = jump_told 0 ls
instruction_told ops.JumpRegister ls = jump_register_told 0 ls
instruction_told (ops.Register op) ls =
    fixed_same (ops.Register op) ls (λ j e. rw e refl) (λ f e. rw e refl)
    ∙ made (three_with_last name ls) (λ r. instrs.Register op r.0 r.1 r.2) ∙ two_last name ls
instruction_told ops.Fence ls = fixed_same ops.Fence ls (λ j e. rw e refl) (λ f e. rw e refl) ∙ fence_told ls
instruction_told ops.FenceTso ls = fixed_same ops.FenceTso ls (λ j e. rw e refl) (λ f e. rw e refl) ∙ alone_told fence_tso ls
instruction_told ops.Ebreak ls = fixed_same ops.Ebreak ls (λ j e. rw e refl) (λ f e. rw e refl) ∙ alone_told instrs.Ebreak ls
instruction_told ops.Ecall ls = fixed_same ops.Ecall ls (λ j e. rw e refl) (λ f e. rw e refl) ∙ alone_told instrs.Ecall ls
instruction_told (ops.LoadReserved order) ls =
    fixed_same (ops.LoadReserved order) ls (λ j e. rw e refl) (λ f e. rw e refl)
    ∙ made (two_with_last address ls) (λ r. instrs.LoadReserved order.aq order.rl r.0 r.1) ∙ one_last address ls
instruction_told (ops.StoreConditional order) ls =
    fixed_same (ops.StoreConditional order) ls (λ j e. rw e refl) (λ f e. rw e refl)
    ∙ made (three_with_last address ls) (λ r. instrs.StoreConditional order.aq order.rl r.0 r.2 r.1) ∙ two_last address ls
instruction_told (ops.Amo op order) ls =
    fixed_same (ops.Amo op order) ls (λ j e. rw e refl) (λ f e. rw e refl)
    ∙ made (three_with_last address ls) (λ r. instrs.Amo op order.aq order.rl r.0 r.2 r.1) ∙ two_last address ls

-- ---- directives: their one fault is that of their shape
abbrev IsShape : FaultKind → Type 0
IsShape kind = kind ≡ kinds.Operands

said_only : (inside : ℕ) (done bytes : List ℕ) → IfErr (said_from inside done bytes) IsShape
unfolding said_from
said_only inside done [] = tt
said_only (suc inside) done (b ∷ bs) = said_only inside done bs
said_only zero done (b ∷ bs) = by (byte_in_front (b ∷ bs)) (λ byte len. said_only (len - 1) (done ++ byte ∷ []) bs)
  where
    by : (o : Option (ℕ × ℕ)) → ((byte len : ℕ) → IfErr (said_from (len - 1) (done ++ byte ∷ []) bs) IsShape)
        → IfErr (with_byte o (λ byte len. said_from (len - 1) (done ++ byte ∷ []) bs)) IsShape
    by None more = refl
    by (Some e) more = more e.0 e.1

text_only : (done : List ℕ) (ls : List Lexeme) → IfErr (text done ls) IsShape
unfolding text
text_only done (Text quoted ∷ []) = said_only 0 done (between_quotes quoted)
text_only done _ = refl

then_only : {X Y : Type 0} (r : Result X FaultKind) (next : X → Result Y FaultKind) → IfErr r IsShape → ((x : X) → IfErr (next x) IsShape) → IfErr (r >>- next) IsShape
then_only (Ok x) next h g = g x
then_only (Err fault) next h g = h

texts_only : (ended : Bool) (done : List ℕ) (ps : List (List Lexeme)) → IfErr (texts_from ended done ps) IsShape
unfolding texts_from
texts_only ended done [] = tt
texts_only ended done (p ∷ ps) =
    then_only (text done p) (λ bytes. texts_from ended (with_end ended bytes) ps) (text_only done p) (λ bytes. texts_only ended (with_end ended bytes) ps)

each_only : {X : Type 0} (read : List Lexeme → Option X) (done : List X) (ps : List (List Lexeme)) → IfErr (each read done ps) IsShape
unfolding each
each_only read done [] = tt
each_only {X} read done (p ∷ ps) = by (read p) (λ x. each_only read (done ++ x ∷ []) ps)
  where
    by : (o : Option X) → ((x : X) → IfErr (each read (done ++ x ∷ []) ps) IsShape) → IfErr (shaped o (λ x. each read (done ++ x ∷ []) ps)) IsShape
    by None more = refl
    by (Some x) more = more x

made_only : {X : Type 0} (make : X → DirectiveValue) (r : Result X FaultKind) → IfErr r IsShape → IfErr (made_directive make r) IsShape
made_only make (Ok x) h = tt
made_only make (Err fault) h = h

required_only : {X : Type 0} (make : X → DirectiveValue) (o : Option X) → IfErr (required make o) IsShape
required_only make (Some x) = tt
required_only make None = refl

alone_only : {X : Type 0} (x : X) (ls : List Lexeme) → IfErr (without_operands x ls) IsShape
unfolding without_operands
alone_only x [] = tt
alone_only x (l ∷ ls) = refl

directive_only : (head : Head) (ls : List Lexeme) → IfErr (directive head ls) IsShape
unfolding directive
directive_only (heads.Section s) ls = made_only _ (without_operands s ls) (alone_only s ls)
directive_only heads.NamedSection ls = required_only _ (section ls)
directive_only heads.Words ls = made_only _ (each value [] (parts ls)) (each_only value [] (parts ls))
directive_only heads.Halves ls = made_only _ (each number [] (parts ls)) (each_only number [] (parts ls))
directive_only heads.Bytes ls = made_only _ (each number [] (parts ls)) (each_only number [] (parts ls))
directive_only (heads.Ascii ended) ls = made_only _ (texts_from ended [] (parts ls)) (texts_only ended [] (parts ls))
directive_only heads.Zero ls = required_only _ (count ls)
directive_only heads.Align ls = required_only _ (count ls)
directive_only heads.Global ls = made_only _ (each name [] (parts ls)) (each_only name [] (parts ls))
directive_only _ ls = tt

fits_told : {X : Type 0} (r : Result X FaultKind) → IfErr r IsShape → verdict r ≡ places_verdict (fits_then r [])
fits_told (Ok x) h = refl
fits_told (Err fault) h = ap Some h

-- ---- a statement by its first name
as_instruction_same : (r : Result Instruction FaultKind) → verdict (as_instruction r) ≡ verdict r
as_instruction_same (Ok x) = refl
as_instruction_same (Err fault) = refl

as_pseudo_same : (r : Result Pseudo FaultKind) → verdict (as_pseudo r) ≡ verdict r
as_pseudo_same (Ok x) = refl
as_pseudo_same (Err fault) = refl

as_directive_same : (r : Result (Option DirectiveValue) FaultKind) → verdict (as_directive r) ≡ verdict r
as_directive_same (Ok (Some d)) = refl
as_directive_same (Ok None) = refl
as_directive_same (Err fault) = refl

addressed_told : (rd : List ℕ) (o : Option Value) → verdict (addressed rd o) ≡ places_verdict (symbol_behind rd o)
addressed_told rd (Some (values.Symbol x offset)) = register_then rd (λ rd. Ok (pseudos.La rd x offset)) [] (λ r. refl)
addressed_told rd (Some (values.Number n)) = refl
addressed_told rd None = refl

directive_told : (head : Head) (ls : List Lexeme) → verdict (as_directive (directive head ls)) ≡ places_verdict (fits_then (directive head ls) [])
directive_told head ls = as_directive_same (directive head ls) ∙ fits_told (directive head ls) (directive_only head ls)

pub headed_told : (head : Head) (ls : List Lexeme) → verdict (headed head ls) ≡ places_verdict (places head ls)
unfolding headed load_number load_address call tail
headed_told (heads.Operation operation) ls = as_instruction_same (instruction operation ls) ∙ instruction_told operation ls
headed_told heads.Li ls = as_pseudo_same (load_number ls) ∙ made (register_and number ls) (λ o. pseudos.Li o.0 o.1) ∙ one_and_told number ls
headed_told heads.La ls =
    as_pseudo_same (load_address ls)
    ∙ then_places (name_in_front ls) (λ n. addressed n.0 (value n.1)) (λ n. symbol_behind n.0 (value n.1)) (λ n. addressed_told n.0 (value n.1))
headed_told heads.Call ls = as_pseudo_same (call ls) ∙ then_places (name ls) (λ x. Ok (pseudos.Call x)) (λ x. Some []) (λ x. refl)
headed_told heads.Tail ls = as_pseudo_same (tail ls) ∙ then_places (name ls) (λ x. Ok (pseudos.Tail x)) (λ x. Some []) (λ x. refl)
headed_told head ls = directive_told head ls
