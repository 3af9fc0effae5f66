-- Operands with the values that the map gives them are valued so.
use Rattle.std.proofs.Common.{◌≡◌, ℕ, ◌+◌, ◌%◌, ◌^◌, ◌<◌, Bool, true, false, List, [], ◌∷◌, ◌++◌, Option, Some, Ok, Err, refl, sym, ap, ◌∙◌, arith, subst, cond, eqb, ◌⊎◌, inl, inr}
use Rattle.std.specs.Prelude.{◌&&◌, ◌||◌}
use Rattle.std.specs.List.{list_any}
use Rattle.std.proofs.lemmas.Bool.{eq-eqb}
use Rattle.asm_statement.specs.Answer.{◌>>=◌}
use Rattle.asm_statement.specs.Statement.{StatementValue, BodyValue}
use Rattle.asm_statement.specs.declared.fault.FaultKind.TheVariants as kinds
use Rattle.asm_statement.specs.declared.operand.Target.{Target}
use Rattle.asm_statement.specs.declared.operand.Target.TheVariants as targets
use Rattle.asm_statement.specs.declared.statement.Section.{Section}
use Rattle.asm_statement.specs.declared.statement.Body.TheVariants as body
use Rattle.asm_statement.specs.declared.statement.Instruction.{Instruction}
use Rattle.asm_statement.specs.declared.statement.Instruction.TheVariants as read
use Rattle.isa_table.specs.declared.instr.Instr.{Instr}
use Rattle.asm_assemble.specs.declared.cursor.Cursor.{Cursor}
use Rattle.asm_assemble.specs.declared.locals.Place.{Place}
use Rattle.asm_assemble.specs.Program.{SymbolList}
use Rattle.asm_assemble.specs.Numbers.{offset_of, distance}
use Rattle.asm_assemble.specs.Operands.{found, operand_address, defined, operand_target}
use Rattle.asm_assemble.specs.Instructions.{placed_instr, offset_to}
use Rattle.asm_assemble.specs.Cursors.{cursor_address, stepped_cursor}
use Rattle.asm_assemble.specs.Locals.{Local, in_source, local_place, is_local_name, back_of, ahead_of, local_label_at, local_target, local_label_of}
use Rattle.asm_assemble.specs.Valuing.{valued_bytes}
use Rattle.asm_assemble.specs.Placed.{Standing, HasNone, IsLastLocal, IsTarget, IsOffset, IsInstr, HasBytes}
use Rattle.asm_assemble.proofs.PlacedCuts.{laid, stood, same_head, same_tail, none_is_some}

abbrev place : ℕ → ℕ → Place
place source at = record { source = source; address = at }

-- ---- local labels

-- each last label of the statements done is found
abbrev pub AreFound : List Local → List Standing → Type 0
AreFound locals done = (digits : List ℕ) (source at : ℕ) → IsLastLocal digits source at done → found locals digits ≡ Some (place source at)

pub found_none : AreFound [] []
unfolding found
found_none digits source at h = absurd (none_is_some h.label h.front h.back h.cut)

-- the place of a statement among those done and one more
pub record IsBefore (done front back : List Standing) (s label : Standing) : Type 0 where
  pub rest : List Standing
  pub cut : done ≡ front ++ label ∷ rest
  pub back_is : back ≡ rest ++ s ∷ []

abbrev IsLast : List Standing → List Standing → Standing → Standing → Type 0
IsLast front back s label = (s ≡ label) × (back ≡ [])

nothing_behind : (front : List Standing) (label : Standing) (back : List Standing) → [] ≡ front ++ label ∷ back → ⊥
nothing_behind front label back e = none_is_some label front back e

which : (done front back : List Standing) (s label : Standing) → done ++ s ∷ [] ≡ front ++ label ∷ back → IsLast front back s label ⊎ IsBefore done front back s label
which [] [] back s label e = inl (same_head s label [] back e, sym (same_tail s label [] back e))
which [] (x ∷ front) back s label e = absurd (none_is_some label front back (same_tail s x [] (front ++ label ∷ back) e))
which (d ∷ done) [] back s label e =
    inr (record { rest = done; cut = ap (λ (x : Standing). x ∷ done) (same_head d label (done ++ s ∷ []) back e); back_is = sym (same_tail d label (done ++ s ∷ []) back e) })
which (d ∷ done) (x ∷ front) back s label e =
    by (same_head d x (done ++ s ∷ []) (front ++ label ∷ back) e) (which done front back s label (same_tail d x (done ++ s ∷ []) (front ++ label ∷ back) e))
  where
    by : d ≡ x → IsLast front back s label ⊎ IsBefore done front back s label → IsLast (x ∷ front) back s label ⊎ IsBefore (d ∷ done) (x ∷ front) back s label
    by f (inl h) = inl h
    by f (inr h) = inr (record { rest = h.rest; cut = ap (λ (y : Standing). y ∷ done) f ∙ ap (λ (ys : List Standing). x ∷ ys) h.cut; back_is = h.back_is })

any_split : (test : Standing → Bool) (ss : List Standing) (s : Standing) → list_any test (ss ++ s ∷ []) ≡ false → (list_any test ss ≡ false) × (test s ≡ false)
any_split test [] s e = (refl, by (test s) e)
  where
    by : (b : Bool) → (b || false) ≡ false → b ≡ false
    by true e = absurd cc
    by false e = refl
any_split test (x ∷ ss) s e = by (test x) e (any_split test ss s)
  where
    by : (b : Bool) → (b || list_any test (ss ++ s ∷ [])) ≡ false → (list_any test (ss ++ s ∷ []) ≡ false → (list_any test ss ≡ false) × (test s ≡ false))
        → ((b || list_any test ss) ≡ false) × (test s ≡ false)
    by true e h = absurd cc
    by false e h = h e

-- what is found with a statement more
found_at : (locals : List Local) (source at : ℕ) (b : BodyValue) (digits : List ℕ) → is_local_name digits b ≡ true → found (local_label_at source at b ++ locals) digits ≡ Some (local_place source at)
unfolding found local_label_at is_local_name
found_at locals source at (body.LocalLabel name) digits e = rw e refl
found_at locals source at (body.Label name) digits e = absurd cc
found_at locals source at (body.Instruction i) digits e = absurd cc
found_at locals source at (body.Pseudo p) digits e = absurd cc
found_at locals source at (body.Directive d) digits e = absurd cc

found_past : (locals : List Local) (source at : ℕ) (b : BodyValue) (digits : List ℕ) → is_local_name digits b ≡ false → found (local_label_at source at b ++ locals) digits ≡ found locals digits
unfolding found local_label_at is_local_name
found_past locals source at (body.LocalLabel name) digits e = rw e refl
found_past locals source at (body.Label name) digits e = refl
found_past locals source at (body.Instruction i) digits e = refl
found_past locals source at (body.Pseudo p) digits e = refl
found_past locals source at (body.Directive d) digits e = refl

found_more : (locals : List Local) (done : List Standing) (s : Standing) → AreFound locals done → AreFound (local_label_at s.statement.source s.address s.statement.body ++ locals) (done ++ s ∷ [])
found_more locals done s h digits source at last = by (which done last.front last.back s last.label last.cut)
  where
    test : Standing → Bool
    test s = is_local_name digits s.statement.body

    by : IsLast last.front last.back s last.label ⊎ IsBefore done last.front last.back s last.label
        → found (local_label_at s.statement.source s.address s.statement.body ++ locals) digits ≡ Some (place source at)
    by (inl is) =
        let here : is_local_name digits s.statement.body ≡ true = ap test is.0 ∙ last.is_label in
        let source_is : s.statement.source ≡ source = ap (λ (x : Standing). x.statement.source) is.0 ∙ last.in_source in
        let at_is : s.address % 2 ^ 32 ≡ at = ap (λ (x : Standing). x.address % 2 ^ 32) is.0 ∙ last.at_address in
        found_at locals s.statement.source s.address s.statement.body digits here
        ∙ (ap (λ n. Some (place n (s.address % 2 ^ 32))) source_is ∙ ap (λ n. Some (place source n)) at_is)
    by (inr is) =
        let none = any_split test is.rest s (subst (λ b. list_any test b ≡ false) is.back_is last.no_other) in
        found_past locals s.statement.source s.address s.statement.body digits none.1
        ∙ h digits source at (record { front = last.front; label = last.label; back = is.rest; cut = is.cut; is_label = last.is_label; no_other = none.0; in_source = last.in_source; at_address = last.at_address })

-- the labels before a statement, when it is done
pub found_behind : (locals : List Local) (done : List Standing) (c : Cursor) (s : StatementValue) → AreFound locals done
    → AreFound (local_label_at s.source (cursor_address c) s.body ++ locals) (done ++ stood c s ∷ [])
found_behind locals done c s h = found_more locals done (stood c s) h

-- the next label after
next_found : (c : Cursor) (ss : List StatementValue) (digits : List ℕ) (source at : ℕ) (front : List Standing) (label : Standing) (back : List Standing)
    → laid c ss ≡ front ++ label ∷ back → is_local_name digits label.statement.body ≡ true → HasNone digits front → label.statement.source ≡ source → label.address % 2 ^ 32 ≡ at
    → ahead_of c ss digits ≡ Some (place source at)
unfolding laid ahead_of
next_found c [] digits source at front label back cut is none in_this at_this = absurd (none_is_some label front back cut)
next_found c (s ∷ ss) digits source at [] label back cut is none in_this at_this =
    let same : stood c s ≡ label = same_head (stood c s) label (laid (stepped_cursor c s.body) ss) back cut in
    let here : is_local_name digits s.body ≡ true = ap (λ (x : Standing). is_local_name digits x.statement.body) same ∙ is in
    let source_is : s.source ≡ source = ap (λ (x : Standing). x.statement.source) same ∙ in_this in
    let at_is : cursor_address c % 2 ^ 32 ≡ at = ap (λ (x : Standing). x.address % 2 ^ 32) same ∙ at_this in
    ap (λ b. cond b (Some (local_place s.source (cursor_address c))) (ahead_of (stepped_cursor c s.body) ss digits)) here
    ∙ (ap (λ n. Some (place n (cursor_address c % 2 ^ 32))) source_is ∙ ap (λ n. Some (place source n)) at_is)
next_found c (s ∷ ss) digits source at (x ∷ front) label back cut is none in_this at_this =
    let same : stood c s ≡ x = same_head (stood c s) x (laid (stepped_cursor c s.body) ss) (front ++ label ∷ back) cut in
    let split = neither (is_local_name digits x.statement.body) (list_any (λ s. is_local_name digits s.statement.body) front) none in
    let past : is_local_name digits s.body ≡ false = ap (λ (x : Standing). is_local_name digits x.statement.body) same ∙ split.0 in
    ap (λ b. cond b (Some (local_place s.source (cursor_address c))) (ahead_of (stepped_cursor c s.body) ss digits)) past
    ∙ next_found (stepped_cursor c s.body) ss digits source at front label back (same_tail (stood c s) x (laid (stepped_cursor c s.body) ss) (front ++ label ∷ back) cut) is split.1 in_this at_this
  where
    neither : (b c : Bool) → (b || c) ≡ false → (b ≡ false) × (c ≡ false)
    neither true c e = absurd cc
    neither false c e = (refl, e)

in_this_source : (source at : ℕ) → in_source source (Some (place source at)) ≡ Some at
unfolding in_source
in_this_source source at = rw (eq-eqb source source refl) refl

is_defined : (o : Option ℕ) (to : ℕ) → o ≡ Some to → defined o ≡ Ok to
unfolding defined
is_defined o to e = rw e refl

-- ---- targets
pub target_is : (symbols : SymbolList) (locals : List Local) (done : List Standing) (next : Cursor) (after : List StatementValue) (source : ℕ) (target : Target) (to : ℕ)
    → AreFound locals done → IsTarget symbols done source (laid next after) target to
    → operand_target symbols (local_target locals next after source target) target ≡ Ok to
unfolding operand_target local_target back_of
target_is symbols locals done next after source (targets.Address n) to h is = ap Ok (sym is)
target_is symbols locals done next after source (targets.Symbol name) to h is = is_defined (operand_address symbols name) to is
target_is symbols locals done next after source (targets.Back digits) to h is =
    is_defined (in_source source (found locals digits)) to (ap (in_source source) (h digits source to is) ∙ in_this_source source to)
target_is symbols locals done next after source (targets.Ahead digits) to h is =
    is_defined (in_source source (ahead_of next after digits)) to
    (ap (in_source source) (next_found next after digits source to is.front is.label is.back is.cut is.is_label is.no_other is.in_source is.at_address) ∙ in_this_source source to)

only_distance : (at to offset : ℕ) → (at + offset) % 2 ^ 32 ≡ to % 2 ^ 32 → offset < 2 ^ 32 → distance at to ≡ offset
unfolding distance
only_distance at to offset e small = omega (arith, e, small)

pub offset_is : (width : ℕ) (symbols : SymbolList) (locals : List Local) (done : List Standing) (next : Cursor) (after : List StatementValue) (s : Standing) (target : Target) (offset : ℕ)
    → AreFound locals done → IsOffset width symbols done s (laid next after) target offset
    → offset_to width symbols (local_target locals next after s.statement.source target) s.address target ≡ Ok offset
unfolding offset_to offset_of
offset_is width symbols locals done next after s target offset h is =
    ap (λ r. r >>= λ to. offset_of width (distance s.address to)) (target_is symbols locals done next after s.statement.source target is.to h is.is_target)
    ∙ (ap (offset_of width) (only_distance s.address is.to offset is.reaches is.word)
    ∙ ap (λ b. cond (b && eqb (offset % 2) 0) (Ok offset) (Err kinds.BranchRange)) is.signed
    ∙ ap (λ b. cond b (Ok offset) (Err kinds.BranchRange)) (eq-eqb (offset % 2) 0 is.even))

-- ---- instructions
instr_so : (symbols : SymbolList) (locals : List Local) (done : List Standing) (next : Cursor) (after : List StatementValue) (s : Standing) (i : Instruction) (j : Instr)
    → AreFound locals done → IsInstr symbols done s (laid next after) i j
    → placed_instr symbols (local_label_of locals next after s.statement.source (body.Instruction i)) s.address i ≡ Ok j
unfolding placed_instr local_label_of
instr_so symbols locals done next after s (read.Fixed i) j h is = ap Ok (sym is)
instr_so symbols locals done next after s (read.Lui rd imm) j h is = rw is.1 (ap Ok (sym is.2))
instr_so symbols locals done next after s (read.Auipc rd imm) j h is = rw is.1 (ap Ok (sym is.2))
instr_so symbols locals done next after s (read.Jal rd target) j h is =
    rw (offset_is 21 symbols locals done next after s target is.0 h is.1) (ap Ok (sym is.2))
instr_so symbols locals done next after s (read.Jalr rd rs1 imm) j h is = rw is.1 (ap Ok (sym is.2))
instr_so symbols locals done next after s (read.Branch op rs1 rs2 target) j h is =
    rw (offset_is 13 symbols locals done next after s target is.0 h is.1) (ap Ok (sym is.2))
instr_so symbols locals done next after s (read.Load op rd rs1 imm) j h is = rw is.1 (ap Ok (sym is.2))
instr_so symbols locals done next after s (read.Store op rs1 rs2 imm) j h is = rw is.1 (ap Ok (sym is.2))
instr_so symbols locals done next after s (read.Immediate op rd rs1 imm) j h is = rw is.1 (ap Ok (sym is.2))
instr_so symbols locals done next after s (read.Shift op rd rs1 amount) j h is = rw is.1 (ap Ok (sym is.2))

-- the bytes of a statement
pub body_so : (symbols : SymbolList) (locals : List Local) (done : List Standing) (next : Cursor) (after : List StatementValue) (section : Section) (s : Standing) (b : BodyValue) (bytes : List ℕ)
    → AreFound locals done → HasBytes symbols done s (laid next after) section b bytes
    → valued_bytes symbols (local_label_of locals next after s.statement.source b) section s.address b ≡ Ok bytes
unfolding valued_bytes
body_so symbols locals done next after section s (body.Label name) bytes h is = ap Ok (sym is)
body_so symbols locals done next after section s (body.LocalLabel digits) bytes h is = ap Ok (sym is)
body_so symbols locals done next after section s (body.Instruction i) bytes h is =
    rw (instr_so symbols locals done next after s i is.0 h is.1) (ap Ok (sym is.2))
body_so symbols locals done next after section s (body.Pseudo p) bytes h is = rw is.1 (ap Ok (sym is.2))
body_so symbols locals done next after section s (body.Directive d) bytes h is = is
