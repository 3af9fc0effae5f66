-- Local labels among statements.
use Rattle.std.proofs.Common.{◌≡◌, ℕ, cond, List, [], ◌∷◌, ◌++◌, Option, Some, refl, sym, ap, ◌∙◌, Result, Ok, Err, ◌+◌, ◌<◌, length, get_or, drop, subst}
use Rattle.std.proofs.lemmas.List.{at_drop_more}
use Rattle.std.specs.Str.{bytes_eq}
use Rattle.asm_statement.specs.Answer.{◌>>=◌}
use Rattle.asm_statement.specs.Statement.{StatementValue, BodyValue}
use Rattle.asm_statement.specs.declared.fault.Fault.{Fault}
use Rattle.asm_statement.specs.declared.operand.Target.{Target}
use Rattle.asm_statement.specs.declared.operand.Target.TheVariants as targets
use Rattle.asm_statement.specs.declared.statement.Body.TheVariants as body
use Rattle.asm_statement.specs.declared.statement.Instruction.TheVariants as read
use Rattle.asm_assemble.specs.declared.cursor.Cursor.{Cursor}
use Rattle.asm_assemble.specs.Program.{SymbolList}
use Rattle.asm_assemble.specs.Cursors.{cursor_address, stepped_cursor}
use Rattle.asm_assemble.specs.Operands.{found}
use Rattle.asm_assemble.specs.Locals.{Local, in_source, back_of, local_label_at, local_target, local_label_of}
use Rattle.asm_statement.specs.declared.fault.FaultKind.{FaultKind}
use Rattle.asm_statement.specs.declared.statement.Section.{Section}
use Rattle.asm_assemble.specs.Placing.{at_statement}
use Rattle.asm_assemble.specs.Valuing.{Images, bytes_in, put_bytes, put_all, said_at, valuing}

-- ---- labels before, seen by what is found among them
abbrev pub Same : List Local → List Local → Type 0
Same xs ys = (q : List ℕ) → found xs q ≡ found ys q

same_target : (xs ys : List Local) (next : Cursor) (after : List StatementValue) (source : ℕ) (t : Target) → Same xs ys → local_target xs next after source t ≡ local_target ys next after source t
unfolding local_target back_of
same_target xs ys next after source (targets.Back digits) h = ap (in_source source) (h digits)
same_target xs ys next after source (targets.Ahead digits) h = refl
same_target xs ys next after source (targets.Address n) h = refl
same_target xs ys next after source (targets.Symbol name) h = refl

same_local : (xs ys : List Local) (next : Cursor) (after : List StatementValue) (source : ℕ) (b : BodyValue) → Same xs ys → local_label_of xs next after source b ≡ local_label_of ys next after source b
unfolding local_label_of
same_local xs ys next after source (body.Instruction (read.Jal rd target)) h = same_target xs ys next after source target h
same_local xs ys next after source (body.Instruction (read.Branch op rs1 rs2 target)) h = same_target xs ys next after source target h
same_local xs ys next after source (body.Instruction (read.Fixed i)) h = refl
same_local xs ys next after source (body.Instruction (read.Lui rd imm)) h = refl
same_local xs ys next after source (body.Instruction (read.Auipc rd imm)) h = refl
same_local xs ys next after source (body.Instruction (read.Jalr rd rs1 imm)) h = refl
same_local xs ys next after source (body.Instruction (read.Load op rd rs1 imm)) h = refl
same_local xs ys next after source (body.Instruction (read.Store op rs1 rs2 imm)) h = refl
same_local xs ys next after source (body.Instruction (read.Immediate op rd rs1 imm)) h = refl
same_local xs ys next after source (body.Instruction (read.Shift op rd rs1 amount)) h = refl
same_local xs ys next after source (body.Label name) h = refl
same_local xs ys next after source (body.LocalLabel name) h = refl
same_local xs ys next after source (body.Pseudo p) h = refl
same_local xs ys next after source (body.Directive d) h = refl

same_behind : (new xs ys : List Local) → Same xs ys → Same (new ++ xs) (new ++ ys)
unfolding found
same_behind [] xs ys h q = h q
same_behind (n ∷ new) xs ys h q = ap (cond (bytes_eq q n.0) (Some n.1)) (same_behind new xs ys h q)

same_bind : {X Y : Type 0} (r : Result X Fault) (f g : X → Result Y Fault) → ((x : X) → f x ≡ g x) → (r >>= f) ≡ (r >>= g)
same_bind (Ok x) f g h = h x
same_bind (Err e) f g h = refl

one_put : (r : Result (List ℕ) FaultKind) (section : Section) (done made : Images) (s : StatementValue) (rest : Images → Result Images Fault)
    → put_all section done r ≡ Ok made → (said_at s r >>= λ bytes. rest (put_bytes section done bytes)) ≡ rest made
unfolding put_all said_at
one_put (Ok bytes) section done made s rest e = let same : put_bytes section done bytes ≡ made = cc in ap rest same
one_put (Err kind) section done made s rest e = absurd cc

none_put : (r : Result (List ℕ) FaultKind) (section : Section) (done : Images) (s : StatementValue) (kind : FaultKind) (rest : Images → Result Images Fault)
    → put_all section done r ≡ Err kind → (said_at s r >>= λ bytes. rest (put_bytes section done bytes)) ≡ Err (at_statement s kind)
unfolding put_all said_at
none_put (Ok bytes) section done s kind rest e = absurd cc
none_put (Err k) section done s kind rest e = let same : k ≡ kind = cc in ap (λ k. Err (at_statement s k)) same

-- the values depend on the labels before by what is found among them
pub same_values : (symbols : SymbolList) (xs ys : List Local) (done : Images) (c : Cursor) (ss : List StatementValue) → Same xs ys
    → valuing symbols xs done c ss ≡ valuing symbols ys done c ss
unfolding valuing
same_values symbols xs ys done c [] h = refl
same_values symbols xs ys done c (s ∷ ss) h =
    rw (same_local xs ys (stepped_cursor c s.body) ss s.source s.body h)
    (same_bind (said_at s (bytes_in symbols (local_label_of ys (stepped_cursor c s.body) ss s.source s.body) c.section (cursor_address c) s.body))
    (λ bytes. valuing symbols (local_label_at s.source (cursor_address c) s.body ++ xs) (put_bytes c.section done bytes) (stepped_cursor c s.body) ss)
    (λ bytes. valuing symbols (local_label_at s.source (cursor_address c) s.body ++ ys) (put_bytes c.section done bytes) (stepped_cursor c s.body) ss)
    (λ bytes. same_values symbols (local_label_at s.source (cursor_address c) s.body ++ xs) (local_label_at s.source (cursor_address c) s.body ++ ys) (put_bytes c.section done bytes) (stepped_cursor c s.body) ss
    (same_behind (local_label_at s.source (cursor_address c) s.body) xs ys h)))

-- a statement whose bytes are put leads to the next one
pub goes_on : (symbols : SymbolList) (before new : List Local) (done made : Images) (c : Cursor) (s : StatementValue) (ss : List StatementValue)
    → put_all c.section done (bytes_in symbols (local_label_of before (stepped_cursor c s.body) ss s.source s.body) c.section (cursor_address c) s.body) ≡ Ok made
    → Same new (local_label_at s.source (cursor_address c) s.body ++ before)
    → valuing symbols before done c (s ∷ ss) ≡ valuing symbols new made (stepped_cursor c s.body) ss
unfolding valuing
goes_on symbols before new done made c s ss e h =
    one_put (bytes_in symbols (local_label_of before (stepped_cursor c s.body) ss s.source s.body) c.section (cursor_address c) s.body) c.section done made s
    (λ images. valuing symbols (local_label_at s.source (cursor_address c) s.body ++ before) images (stepped_cursor c s.body) ss) e
    ∙ sym (same_values symbols new (local_label_at s.source (cursor_address c) s.body ++ before) made (stepped_cursor c s.body) ss h)

-- a statement with a fault ends the phase
pub ends : (symbols : SymbolList) (before : List Local) (done : Images) (c : Cursor) (s : StatementValue) (ss : List StatementValue) (kind : FaultKind)
    → put_all c.section done (bytes_in symbols (local_label_of before (stepped_cursor c s.body) ss s.source s.body) c.section (cursor_address c) s.body) ≡ Err kind
    → valuing symbols before done c (s ∷ ss) ≡ Err (at_statement s kind)
unfolding valuing
ends symbols before done c s ss kind e =
    none_put (bytes_in symbols (local_label_of before (stepped_cursor c s.body) ss s.source s.body) c.section (cursor_address c) s.body) c.section done s kind
    (λ images. valuing symbols (local_label_at s.source (cursor_address c) s.body ++ before) images (stepped_cursor c s.body) ss) e

-- the same, among all statements
pub goes_on_at : (symbols : SymbolList) (before new : List Local) (done made : Images) (c next : Cursor) (i : ℕ) (s : StatementValue) (ss after : List StatementValue)
    (at : ℕ) (local : Option ℕ) (all : Result Images Fault)
    → i < length ss → s ≡ get_or ss i s → after ≡ drop (i + 1) ss → next ≡ stepped_cursor c s.body → at ≡ cursor_address c
    → local ≡ local_label_of before next after s.source s.body
    → put_all c.section done (bytes_in symbols local c.section (cursor_address c) s.body) ≡ Ok made
    → Same new (local_label_at s.source at s.body ++ before)
    → valuing symbols before done c (drop i ss) ≡ all
    → valuing symbols new made next (drop (i + 1) ss) ≡ all
goes_on_at symbols before new done made c next i s ss after at local all below is rest stepped here refers puts notes same =
    let d = at_drop_more (valuing symbols before done c) ss i s below in
    let p : put_all c.section done (bytes_in symbols (local_label_of before (stepped_cursor c s.body) (drop (i + 1) ss) s.source s.body) c.section (cursor_address c) s.body) ≡ Ok made = cc in
    let n = subst (λ a. Same new (local_label_at s.source a s.body ++ before)) here notes in
    let e = goes_on symbols before new done made c s (drop (i + 1) ss) p n in
    cc

-- a fault ends all
pub ends_at : (symbols : SymbolList) (before : List Local) (done : Images) (c next : Cursor) (i : ℕ) (s : StatementValue) (ss after : List StatementValue)
    (local : Option ℕ) (all : Result Images Fault) (kind : FaultKind) (fault : Fault)
    → i < length ss → s ≡ get_or ss i s → after ≡ drop (i + 1) ss → next ≡ stepped_cursor c s.body
    → local ≡ local_label_of before next after s.source s.body
    → put_all c.section done (bytes_in symbols local c.section (cursor_address c) s.body) ≡ Err kind
    → fault ≡ at_statement s kind
    → valuing symbols before done c (drop i ss) ≡ all
    → all ≡ Err fault
ends_at symbols before done c next i s ss after local all kind fault below is rest stepped refers puts told same =
    let d = at_drop_more (valuing symbols before done c) ss i s below in
    let p : put_all c.section done (bytes_in symbols (local_label_of before (stepped_cursor c s.body) (drop (i + 1) ss) s.source s.body) c.section (cursor_address c) s.body) ≡ Err kind = cc in
    let e = ends symbols before done c s (drop (i + 1) ss) kind p in
    cc
