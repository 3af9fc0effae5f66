-- Operands of placed statements.
use Rattle.std.proofs.Common.{◌≡◌, ℕ, ◌+◌, ◌%◌, ◌^◌, ◌<◌, Bool, true, false, List, [], ◌∷◌, ◌++◌, Option, Some, None, Ok, Err, refl, sym, ap, ◌∙◌, arith, subst, cond, eqb, append_assoc}
use Rattle.std.specs.Prelude.{◌&&◌, ◌||◌}
use Rattle.std.specs.Map.{lookup}
use Rattle.std.specs.Str.{bytes_eq}
use Rattle.std.specs.List.{list_any}
use Rattle.std.proofs.lemmas.Bool.{eqb-true}
use Rattle.asm_statement.specs.Statement.{StatementValue, BodyValue}
use Rattle.asm_statement.specs.declared.fault.FaultKind.TheVariants as kinds
use Rattle.asm_statement.specs.declared.operand.Target.{Target}
use Rattle.asm_statement.specs.declared.operand.Target.TheVariants as targets
use Rattle.asm_statement.specs.declared.statement.Section.{Section}
use Rattle.asm_statement.specs.declared.statement.Body.TheVariants as body
use Rattle.asm_statement.specs.declared.statement.Instruction.{Instruction}
use Rattle.asm_statement.specs.declared.statement.Instruction.TheVariants as read
use Rattle.isa_table.specs.declared.instr.Instr.{Instr}
use Rattle.isa_table.specs.declared.instr.Instr.TheVariants as instr
use Rattle.asm_assemble.specs.declared.cursor.Cursor.{Cursor}
use Rattle.asm_assemble.specs.declared.locals.Place.{Place}
use Rattle.asm_assemble.specs.Program.{SymbolList}
use Rattle.asm_assemble.specs.Numbers.{as_word, amount_of, is_signed_word, offset_of, distance}
use Rattle.asm_assemble.specs.Operands.{found, operand_address, defined, immediate_of, upper_of, operand_target}
use Rattle.asm_assemble.specs.Instructions.{placed_instr, offset_to, instr_pair}
use Rattle.asm_assemble.specs.Cursors.{cursor_address, stepped_cursor}
use Rattle.asm_assemble.specs.Locals.{Local, in_source, local_place, is_local_name, back_of, ahead_of, local_label_at, local_target, local_label_of}
use Rattle.asm_assemble.specs.Valuing.{valued_bytes, instr_bytes, pair_bytes}
use Rattle.asm_assemble.specs.Placed.{Standing, IsLastLocal, IsNextLocal, IsTarget, IsOffset, IsInstr, HasBytes}
use Rattle.asm_assemble.proofs.PlacedCuts.{laid, stood}
use Rattle.asm_assemble.proofs.PlacedSteps.{unbound, good_is}

abbrev some : {X : Type 0} → X → Option X
some x = Some x

pub some_is : {X : Type 0} (x y : X) → some x ≡ some y → x ≡ y
some_is x y e = cc

-- ---- local labels
-- the labels before are those of the statements done, the last one first
abbrev pub AreLast : List Local → List Standing → Type 0
AreLast locals done = (digits : List ℕ) (place : Place) → found locals digits ≡ Some place → IsLastLocal digits place.source place.address done

-- a place in this source
from_source : (source : ℕ) (o : Option Place) (at : ℕ) → in_source source o ≡ Some at → (place : Place) × (o ≡ Some place) × (place.source ≡ source) × (place.address ≡ at)
unfolding in_source
from_source source None at e = absurd cc
from_source source (Some place) at e = by (eqb place.source source) refl e
  where
    by : (b : Bool) → eqb place.source source ≡ b → cond b (Some place.address) None ≡ Some at → (found : Place) × (some place ≡ Some found) × (found.source ≡ source) × (found.address ≡ at)
    by true same e = (place, refl, eqb-true place.source source same, some_is place.address at e)
    by false other e = absurd cc

any_push : (test : Standing → Bool) (ss : List Standing) (s : Standing) → list_any test ss ≡ false → test s ≡ false → list_any test (ss ++ s ∷ []) ≡ false
any_push test [] s e f = rw f refl
any_push test (x ∷ ss) s e f = by (test x) e (any_push test ss s)
  where
    by : (b : Bool) → (b || list_any test ss) ≡ false → (list_any test ss ≡ false → test s ≡ false → list_any test (ss ++ s ∷ []) ≡ false)
        → (b || list_any test (ss ++ s ∷ [])) ≡ false
    by true e h = absurd cc
    by false e h = h e f

-- a statement that is no such label
last_kept : (digits : List ℕ) (source at : ℕ) (done : List Standing) (s : Standing) → IsLastLocal digits source at done
    → is_local_name digits s.statement.body ≡ false → IsLastLocal digits source at (done ++ s ∷ [])
last_kept digits source at done s h e = record {
  front = h.front;
  label = h.label;
  back = h.back ++ s ∷ [];
  cut = ap (λ (d : List Standing). d ++ s ∷ []) h.cut ∙ append_assoc h.front (h.label ∷ h.back) (s ∷ []);
  is_label = h.is_label;
  no_other = any_push (λ s. is_local_name digits s.statement.body) h.back s h.no_other e;
  in_source = h.in_source;
  at_address = h.at_address;
}

-- a statement that is one
last_new : (digits : List ℕ) (done : List Standing) (s : Standing) → is_local_name digits s.statement.body ≡ true
    → IsLastLocal digits s.statement.source (s.address % 2 ^ 32) (done ++ s ∷ [])
last_new digits done s e = record { front = done; label = s; back = []; cut = refl; is_label = e; no_other = refl; in_source = refl; at_address = refl }

-- the labels before, and a statement more
last_more : (locals : List Local) (done : List Standing) (s : Standing) (b : BodyValue) → s.statement.body ≡ b → AreLast locals done
    → AreLast (local_label_at s.statement.source s.address b ++ locals) (done ++ s ∷ [])
unfolding local_label_at found is_local_name
last_more locals done s (body.LocalLabel name) is h digits place e = by (bytes_eq digits name) refl e
  where
    by : (b : Bool) → bytes_eq digits name ≡ b → cond b (Some (local_place s.statement.source s.address)) (lookup (bytes_eq digits) locals) ≡ Some place
        → IsLastLocal digits place.source place.address (done ++ s ∷ [])
    by true f e = subst (λ (p : Place). IsLastLocal digits p.source p.address (done ++ s ∷ [])) (some_is (local_place s.statement.source s.address) place e)
        (last_new digits done s (rw is f))
    by false f e = last_kept digits place.source place.address done s (h digits place e) (rw is f)
last_more locals done s (body.Label name) is h digits place e = last_kept digits place.source place.address done s (h digits place e) (rw is refl)
last_more locals done s (body.Instruction i) is h digits place e = last_kept digits place.source place.address done s (h digits place e) (rw is refl)
last_more locals done s (body.Pseudo p) is h digits place e = last_kept digits place.source place.address done s (h digits place e) (rw is refl)
last_more locals done s (body.Directive d) is h digits place e = last_kept digits place.source place.address done s (h digits place e) (rw is refl)

-- the labels before a statement, when it is done
pub last_behind : (locals : List Local) (done : List Standing) (c : Cursor) (s : StatementValue) → AreLast locals done
    → AreLast (local_label_at s.source (cursor_address c) s.body ++ locals) (done ++ stood c s ∷ [])
last_behind locals done c s h = last_more locals done (stood c s) s.body refl h

pub none_before : AreLast [] []
unfolding found
none_before digits place e = absurd cc

-- the next label after
next_label : (c : Cursor) (ss : List StatementValue) (digits : List ℕ) (place : Place) → ahead_of c ss digits ≡ Some place
    → IsNextLocal digits place.source place.address (laid c ss)
unfolding ahead_of laid
next_label c [] digits place e = absurd cc
next_label c (s ∷ ss) digits place e = by (is_local_name digits s.body) refl e (next_label (stepped_cursor c s.body) ss digits place)
  where
    by : (b : Bool) → is_local_name digits s.body ≡ b → cond b (Some (local_place s.source (cursor_address c))) (ahead_of (stepped_cursor c s.body) ss digits) ≡ Some place
        → (ahead_of (stepped_cursor c s.body) ss digits ≡ Some place → IsNextLocal digits place.source place.address (laid (stepped_cursor c s.body) ss))
        → IsNextLocal digits place.source place.address (stood c s ∷ laid (stepped_cursor c s.body) ss)
    by true f e h = let same : local_place s.source (cursor_address c) ≡ place = some_is (local_place s.source (cursor_address c)) place e in
        subst (λ (p : Place). IsNextLocal digits p.source p.address (stood c s ∷ laid (stepped_cursor c s.body) ss)) same
        (record { front = []; label = stood c s; back = laid (stepped_cursor c s.body) ss; cut = refl; is_label = f; no_other = refl; in_source = refl; at_address = refl })
    by false f e h = let next = h e in record {
      front = stood c s ∷ next.front;
      label = next.label;
      back = next.back;
      cut = ap (λ (rest : List Standing). stood c s ∷ rest) next.cut;
      is_label = next.is_label;
      no_other = rw f next.no_other;
      in_source = next.in_source;
      at_address = next.at_address;
    }

-- ---- targets
was_defined : (o : Option ℕ) (to : ℕ) → defined o ≡ Ok to → o ≡ Some to
unfolding defined
was_defined (Some at) to e = ap some (good_is at to e)
was_defined None to e = absurd cc

pub is_target : (symbols : SymbolList) (locals : List Local) (done : List Standing) (next : Cursor) (after : List StatementValue) (source : ℕ) (target : Target) (to : ℕ)
    → AreLast locals done → operand_target symbols (local_target locals next after source target) target ≡ Ok to
    → IsTarget symbols done source (laid next after) target to
unfolding operand_target local_target back_of
is_target symbols locals done next after source (targets.Address n) to h e = sym (good_is (as_word n) to e)
is_target symbols locals done next after source (targets.Symbol name) to h e = was_defined (operand_address symbols name) to e
is_target symbols locals done next after source (targets.Back digits) to h e =
    let place = from_source source (found locals digits) to (was_defined (in_source source (found locals digits)) to e) in
    subst (λ s. IsLastLocal digits s to done) place.2 (subst (λ a. IsLastLocal digits place.0.source a done) place.3 (h digits place.0 place.1))
is_target symbols locals done next after source (targets.Ahead digits) to h e =
    let place = from_source source (ahead_of next after digits) to (was_defined (in_source source (ahead_of next after digits)) to e) in
    subst (λ s. IsNextLocal digits s to (laid next after)) place.2
    (subst (λ a. IsNextLocal digits place.0.source a (laid next after)) place.3 (next_label next after digits place.0 place.1))

-- an offset that a word is
was_offset : (width word offset : ℕ) → offset_of width word ≡ Ok offset → (word ≡ offset) × (is_signed_word width word ≡ true) × (word % 2 ≡ 0)
unfolding offset_of
was_offset width word offset e = by (is_signed_word width word) (eqb (word % 2) 0) refl refl e
  where
    by : (b c : Bool) → is_signed_word width word ≡ b → eqb (word % 2) 0 ≡ c → cond (b && c) (Ok word) (Err kinds.BranchRange) ≡ Ok offset
        → (word ≡ offset) × (is_signed_word width word ≡ true) × (word % 2 ≡ 0)
    by true true f g e = (good_is word offset e, f, eqb-true (word % 2) 0 g)
    by true false f g e = absurd cc
    by false c f g e = absurd cc

reaches_by : (at to : ℕ) → (at + distance at to) % 2 ^ 32 ≡ to % 2 ^ 32
unfolding distance
reaches_by at to = omega arith

is_word : (at to : ℕ) → distance at to < 2 ^ 32
unfolding distance
is_word at to = omega arith

pub is_offset : (width : ℕ) (symbols : SymbolList) (locals : List Local) (done : List Standing) (next : Cursor) (after : List StatementValue) (s : Standing) (target : Target) (offset : ℕ)
    → AreLast locals done → offset_to width symbols (local_target locals next after s.statement.source target) s.address target ≡ Ok offset
    → IsOffset width symbols done s (laid next after) target offset
unfolding offset_to
is_offset width symbols locals done next after s target offset h e =
    let to = unbound (operand_target symbols (local_target locals next after s.statement.source target) target) (λ to. offset_of width (distance s.address to)) offset e in
    let was = was_offset width (distance s.address to.value) offset to.then in
    record {
      to = to.value;
      is_target = is_target symbols locals done next after s.statement.source target to.value h to.was;
      reaches = subst (λ w. (s.address + w) % 2 ^ 32 ≡ to.value % 2 ^ 32) was.0 (reaches_by s.address to.value);
      word = subst (λ w. w < 2 ^ 32) was.0 (is_word s.address to.value);
      signed = subst (λ w. is_signed_word width w ≡ true) was.0 was.1;
      even = subst (λ w. w % 2 ≡ 0) was.0 was.2;
    }

-- ---- instructions
instr_is : (symbols : SymbolList) (locals : List Local) (done : List Standing) (next : Cursor) (after : List StatementValue) (s : Standing) (i : Instruction) (j : Instr)
    → AreLast locals done → placed_instr symbols (local_label_of locals next after s.statement.source (body.Instruction i)) s.address i ≡ Ok j
    → IsInstr symbols done s (laid next after) i j
unfolding placed_instr local_label_of
instr_is symbols locals done next after s (read.Fixed i) j h e = sym (good_is i j e)
instr_is symbols locals done next after s (read.Lui rd imm) j h e =
    let high = unbound (upper_of symbols imm) (λ high. Ok (instr.Lui rd high)) j e in
    (high.value, high.was, sym (good_is (instr.Lui rd high.value) j high.then))
instr_is symbols locals done next after s (read.Auipc rd imm) j h e =
    let high = unbound (upper_of symbols imm) (λ high. Ok (instr.Auipc rd high)) j e in
    (high.value, high.was, sym (good_is (instr.Auipc rd high.value) j high.then))
instr_is symbols locals done next after s (read.Jal rd target) j h e =
    let source = s.statement.source in
    let offset = unbound (offset_to 21 symbols (local_target locals next after source target) s.address target) (λ offset. Ok (instr.Jal rd offset)) j e in
    (offset.value, is_offset 21 symbols locals done next after s target offset.value h offset.was, sym (good_is (instr.Jal rd offset.value) j offset.then))
instr_is symbols locals done next after s (read.Jalr rd rs1 imm) j h e =
    let word = unbound (immediate_of symbols imm) (λ word. Ok (instr.Jalr rd rs1 word)) j e in
    (word.value, word.was, sym (good_is (instr.Jalr rd rs1 word.value) j word.then))
instr_is symbols locals done next after s (read.Branch op rs1 rs2 target) j h e =
    let source = s.statement.source in
    let offset = unbound (offset_to 13 symbols (local_target locals next after source target) s.address target) (λ offset. Ok (instr.Branch op rs1 rs2 offset)) j e in
    (offset.value, is_offset 13 symbols locals done next after s target offset.value h offset.was, sym (good_is (instr.Branch op rs1 rs2 offset.value) j offset.then))
instr_is symbols locals done next after s (read.Load op rd rs1 imm) j h e =
    let word = unbound (immediate_of symbols imm) (λ word. Ok (instr.Load op rd rs1 word)) j e in
    (word.value, word.was, sym (good_is (instr.Load op rd rs1 word.value) j word.then))
instr_is symbols locals done next after s (read.Store op rs1 rs2 imm) j h e =
    let word = unbound (immediate_of symbols imm) (λ word. Ok (instr.Store op rs1 rs2 word)) j e in
    (word.value, word.was, sym (good_is (instr.Store op rs1 rs2 word.value) j word.then))
instr_is symbols locals done next after s (read.Immediate op rd rs1 imm) j h e =
    let word = unbound (immediate_of symbols imm) (λ word. Ok (instr.Immediate op rd rs1 word)) j e in
    (word.value, word.was, sym (good_is (instr.Immediate op rd rs1 word.value) j word.then))
instr_is symbols locals done next after s (read.Shift op rd rs1 amount) j h e =
    let count = unbound (amount_of amount) (λ count. Ok (instr.Shift op rd rs1 count)) j e in
    (count.value, count.was, sym (good_is (instr.Shift op rd rs1 count.value) j count.then))

-- the bytes of a statement, its operands valued
pub body_bytes : (symbols : SymbolList) (locals : List Local) (done : List Standing) (next : Cursor) (after : List StatementValue) (section : Section) (s : Standing) (b : BodyValue) (bytes : List ℕ)
    → AreLast locals done → valued_bytes symbols (local_label_of locals next after s.statement.source b) section s.address b ≡ Ok bytes
    → HasBytes symbols done s (laid next after) section b bytes
unfolding valued_bytes
body_bytes symbols locals done next after section s (body.Label name) bytes h e = sym (good_is [] bytes e)
body_bytes symbols locals done next after section s (body.LocalLabel digits) bytes h e = sym (good_is [] bytes e)
body_bytes symbols locals done next after section s (body.Instruction i) bytes h e =
    let made = unbound (placed_instr symbols (local_label_of locals next after s.statement.source (body.Instruction i)) s.address i) (λ j. Ok (instr_bytes j)) bytes e in
    (made.value, instr_is symbols locals done next after s i made.value h made.was, sym (good_is (instr_bytes made.value) bytes made.then))
body_bytes symbols locals done next after section s (body.Pseudo p) bytes h e =
    let made = unbound (instr_pair symbols s.address p) (λ pair. Ok (pair_bytes pair.first pair.second)) bytes e in
    (made.value, made.was, sym (good_is (pair_bytes made.value.first made.value.second) bytes made.then))
body_bytes symbols locals done next after section s (body.Directive d) bytes h e = e
