-- A part of a text is answered with the lowest of its faults.
use Rattle.std.proofs.Common.{◌≡◌, ℕ, ◌≤◌, ◌⊎◌, inl, inr, Bool, true, false, cond, List, [], ◌∷◌, ◌++◌, Option, Some, None, Result, Ok, Err, refl, sym, ap, subst, ◌∙◌, arith, true≢false}
use Rattle.std.specs.Prelude.{◌&&◌, ◌↔◌, IfOk}
use Rattle.std.specs.List.{list_all}
use Rattle.asm_lex.specs.Lexemes.{Lexeme, Word}
use Rattle.asm_statement.specs.Fault.{source_fault_number}
use Rattle.asm_statement.specs.Heads.{head_of}
use Rattle.asm_statement.specs.Statement.{BodyValue, DirectiveValue}
use Rattle.asm_statement.specs.declared.fault.FaultKind.{FaultKind}
use Rattle.asm_statement.specs.declared.fault.FaultKind.TheVariants as kinds
use Rattle.asm_statement.specs.declared.heads.Head.{Head}
use Rattle.asm_statement.specs.declared.heads.Head.TheVariants as heads
use Rattle.asm_statement.specs.declared.statement.Body.TheVariants as bodies
use Rattle.asm_statement.specs.declared.statement.Directive.TheVariants as directives
use Rattle.asm_statement.specs.declared.statement.Instruction.{Instruction}
use Rattle.asm_statement.specs.declared.statement.Pseudo.{Pseudo}
use Rattle.asm_statement.specs.declared.statement.Section.{Section}
use Rattle.asm_statement.specs.Operations.{◌>>-◌, instruction, without_operands}
use Rattle.asm_statement.specs.Directives.{comma_separated, texts, count, section, made_directive, required, directive}
use Rattle.asm_statement.specs.Shapes.{name, number, value}
use Rattle.asm_statement.specs.Statements.{load_number, load_address, call, tail, as_pseudo, as_instruction, as_directive, headed, is_bytes, is_zeros, allowed_in_section, by_head, body}
use Rattle.asm_laws.specs.Reads.{Part, labelled, with_body, said_by_part}
use Rattle.asm_laws.specs.PartFaults.{Places, places, is_register, HasNoRegister, is_of_bytes, HeadHas, NameHas, BodyHas, PartHas, IsLowest}
use Rattle.asm_laws.proofs.Phases.{Tells, from, one_kind}
use Rattle.asm_laws.proofs.Places.{verdict, names_verdict, places_verdict, headed_told}

-- ---- what stands in `.bss`
abbrev takes : Option BodyValue → Bool
takes None = false
takes (Some b) = is_bytes b

abbrev Takes : Bool → Option BodyValue → Type 0
Takes b o = takes o ≡ b

instruction_takes : (r : Result Instruction FaultKind) → IfOk (as_instruction r) (Takes true)
instruction_takes (Ok x) = refl
instruction_takes (Err fault) = tt

pseudo_takes : (r : Result Pseudo FaultKind) → IfOk (as_pseudo r) (Takes true)
pseudo_takes (Ok x) = refl
pseudo_takes (Err fault) = tt

made_takes : {X : Type 0} (make : X → DirectiveValue) (r : Result X FaultKind) (b : Bool) → ((x : X) → is_bytes (bodies.Directive (make x)) ≡ b)
    → IfOk (as_directive (made_directive make r)) (Takes b)
made_takes make (Ok x) b h = h x
made_takes make (Err fault) b h = tt

required_takes : {X : Type 0} (make : X → DirectiveValue) (o : Option X) (b : Bool) → ((x : X) → is_bytes (bodies.Directive (make x)) ≡ b)
    → IfOk (as_directive (required make o)) (Takes b)
required_takes make (Some x) b h = h x
required_takes make None b h = tt

headed_takes : (head : Head) (ls : List Lexeme) → IfOk (headed head ls) (Takes (is_of_bytes head))
unfolding headed directive
headed_takes (heads.Operation operation) ls = instruction_takes (instruction operation ls)
headed_takes heads.Li ls = pseudo_takes (load_number ls)
headed_takes heads.La ls = pseudo_takes (load_address ls)
headed_takes heads.Call ls = pseudo_takes (call ls)
headed_takes heads.Tail ls = pseudo_takes (tail ls)
headed_takes (heads.Section s) ls = made_takes directives.Section (without_operands s ls) false (λ x. refl)
headed_takes heads.NamedSection ls = required_takes directives.Section (section ls) false (λ x. refl)
headed_takes heads.Words ls = made_takes directives.Words (comma_separated value ls) true (λ x. refl)
headed_takes heads.Halves ls = made_takes directives.Halves (comma_separated number ls) true (λ x. refl)
headed_takes heads.Bytes ls = made_takes directives.Bytes (comma_separated number ls) true (λ x. refl)
headed_takes (heads.Ascii ended) ls = made_takes directives.Ascii (texts ended ls) true (λ x. refl)
headed_takes heads.Zero ls = required_takes directives.Zero (count ls) false (λ x. refl)
headed_takes heads.Align ls = required_takes directives.Align (count ls) false (λ x. refl)
headed_takes heads.Global ls = made_takes directives.Global (comma_separated name ls) false (λ x. refl)
headed_takes _ ls = refl

-- ---- a statement with a known first name
no_fault_is : (fault : FaultKind) → ◌≡◌ {A = Option FaultKind} None (Some fault) → ⊥
no_fault_is fault e = absurd (cc)

one_verdict : (f g : FaultKind) → ◌≡◌ {A = Option FaultKind} (Some f) (Some g) → f ≡ g
one_verdict f g e = cc

no_places : (names : List (List ℕ)) → ◌≡◌ {A = Places} (Some names) None → ⊥
no_places names e = absurd (cc)

allowed_verdict : (s : Section) (o : Option BodyValue) → verdict (allowed_in_section s o) ≡ cond (is_zeros s && takes o) (Some kinds.Directive) None
allowed_verdict s None = none (is_zeros s)
  where
    none : (b : Bool) → None ≡ cond (b && false) (Some kinds.Directive) None
    none true = refl
    none false = refl
allowed_verdict s (Some b) = some (is_zeros s && is_bytes b)
  where
    some : (c : Bool) → verdict (cond c (Err kinds.Directive) (Ok (Some b))) ≡ cond c (Some kinds.Directive) None
    some true = refl
    some false = refl

module _ (s : Section) (head : Head) (ls : List Lexeme) where
  abbrev Has : FaultKind → Type 0
  Has kind = HeadHas s head ls kind

  -- another shape
  shape_is_lowest : places head ls ≡ None → Tells (Some kinds.Operands) Has
  shape_is_lowest none = (inl (refl, none), lowest)
    where
      lowest : (other : FaultKind) → Has other → 3 ≤ source_fault_number other
      lowest other (inl h) = let le : 3 ≤ 3 = omega arith in from other kinds.Operands h.0 3 le
      lowest other (inr (inl h)) = let le : 3 ≤ 4 = omega arith in from other kinds.Register h.0 3 le
      lowest other (inr (inr h)) = let le : 3 ≤ 9 = omega arith in from other kinds.Directive h.0 3 le

  module _ (names : List (List ℕ)) (some : places head ls ≡ Some names) where
    no_shape_fault : places head ls ≡ None → ⊥
    no_shape_fault none = no_places names (sym some ∙ none)

    -- another name in a register's place
    register_is_lowest : list_all is_register names ≡ false → Tells (Some kinds.Register) Has
    register_is_lowest bad = (inr (inl (refl, subst HasNoRegister (sym some) bad)), lowest)
      where
        lowest : (other : FaultKind) → Has other → 4 ≤ source_fault_number other
        lowest other (inl h) = absurd (no_shape_fault h.1)
        lowest other (inr (inl h)) = let le : 4 ≤ 4 = omega arith in from other kinds.Register h.0 4 le
        lowest other (inr (inr h)) = let le : 4 ≤ 9 = omega arith in from other kinds.Directive h.0 4 le

    module _ (good : list_all is_register names ≡ true) where
      no_register_fault : HasNoRegister (places head ls) → ⊥
      no_register_fault h = true≢false (sym good ∙ subst HasNoRegister some h)

      -- bytes in `.bss`, or no fault
      section_is_lowest : (zeros : Bool) → is_zeros s ≡ zeros → (bytes : Bool) → is_of_bytes head ≡ bytes
          → Tells (cond (zeros && bytes) (Some kinds.Directive) None) Has
      section_is_lowest true in_bss true of_bytes = (inr (inr (refl, in_bss, of_bytes)), lowest)
        where
          lowest : (other : FaultKind) → Has other → 9 ≤ source_fault_number other
          lowest other (inl h) = absurd (no_shape_fault h.1)
          lowest other (inr (inl h)) = absurd (no_register_fault h.1)
          lowest other (inr (inr h)) = let le : 9 ≤ 9 = omega arith in from other kinds.Directive h.0 9 le
      section_is_lowest true in_bss false of_bytes = none
        where
          none : (other : FaultKind) → Has other → ⊥
          none other (inl h) = no_shape_fault h.1
          none other (inr (inl h)) = no_register_fault h.1
          none other (inr (inr h)) = true≢false (sym h.2 ∙ of_bytes)
      section_is_lowest false in_bss bytes of_bytes = none
        where
          none : (other : FaultKind) → Has other → ⊥
          none other (inl h) = no_shape_fault h.1
          none other (inr (inl h)) = no_register_fault h.1
          none other (inr (inr h)) = true≢false (sym h.1 ∙ in_bss)

  -- by the answer and by the places of registers
  faulted : (fault : FaultKind) (o : Places) → places head ls ≡ o → Some fault ≡ places_verdict o → Tells (Some fault) Has
  faulted fault None none e = subst (λ k. Tells (Some k) Has) (sym (one_verdict fault kinds.Operands e)) (shape_is_lowest none)
  faulted fault (Some names) some e = by (list_all is_register names) refl e
    where
      by : (b : Bool) → list_all is_register names ≡ b → Some fault ≡ names_verdict b → Tells (Some fault) Has
      by true good e = absurd (no_fault_is fault (sym e))
      by false bad e = subst (λ k. Tells (Some k) Has) (sym (one_verdict fault kinds.Register e)) (register_is_lowest names some bad)

  well : (b : Option BodyValue) (o : Places) → places head ls ≡ o → None ≡ places_verdict o → takes b ≡ is_of_bytes head
      → Tells (verdict (allowed_in_section s b)) Has
  well b None none e same = absurd (no_fault_is kinds.Operands e)
  well b (Some names) some e same = by (list_all is_register names) refl e
    where
      by : (c : Bool) → list_all is_register names ≡ c → None ≡ names_verdict c → Tells (verdict (allowed_in_section s b)) Has
      by true good e =
          subst (λ v. Tells v Has) (sym (allowed_verdict s b ∙ ap (λ t. cond (is_zeros s && t) (Some kinds.Directive) None) same))
          (section_is_lowest names some good (is_zeros s) refl (is_of_bytes head) refl)
      by false bad e = absurd (no_fault_is kinds.Register e)

  head_told : Tells (verdict (headed head ls >>- allowed_in_section s)) Has
  head_told = by (headed head ls) (headed_told head ls) (headed_takes head ls)
    where
      by : (r : Result (Option BodyValue) FaultKind) → verdict r ≡ places_verdict (places head ls) → IfOk r (Takes (is_of_bytes head))
          → Tells (verdict (r >>- allowed_in_section s)) Has
      by (Ok b) e same = well b (places head ls) refl e same
      by (Err fault) e same = faulted fault (places head ls) refl e

-- ---- what is behind the labels of a part
lowest_alone : (k : FaultKind) → Tells (Some k) (λ kind. kind ≡ k)
lowest_alone k = (refl, λ other e. from other k e (source_fault_number k) (omega arith))

name_told : (s : Section) (name : List ℕ) (ls : List Lexeme) (o : Option Head) → Tells (verdict (by_head s name ls o)) (λ kind. NameHas s o name ls kind)
name_told s name ls (Some head) = head_told s head ls
name_told s name ls None = lowest_alone _

body_told : (s : Section) (ls : List Lexeme) → Tells (verdict (body s ls)) (λ kind. BodyHas s ls kind)
unfolding body
body_told s [] = λ kind h. h
body_told s (Word name ∷ ls) = name_told s name ls (head_of name)
body_told s (l ∷ ls) = lowest_alone kinds.Mnemonic

-- ---- the part
abbrev faulty : FaultKind → Result (List BodyValue) FaultKind
faulty kind = Err kind

with_body_verdict : (labels : List BodyValue) (r : Result (Option BodyValue) FaultKind) → verdict (with_body labels r) ≡ verdict r
with_body_verdict labels (Ok None) = refl
with_body_verdict labels (Ok (Some b)) = refl
with_body_verdict labels (Err kind) = refl

module _ (s : Section) (p : Part) where
  abbrev Behind : FaultKind → Type 0
  Behind kind = BodyHas s (labelled p.lexemes).1 kind

  told : Tells (verdict (said_by_part s p)) Behind
  told =
      subst (λ v. Tells v Behind) (sym (with_body_verdict (labelled p.lexemes).0 (body s (labelled p.lexemes).1)))
      (body_told s (labelled p.lexemes).1)

  from_part : (kind : FaultKind) → PartHas false s p kind → Behind kind
  from_part kind (inl h) = absurd (true≢false (sym h.1))
  from_part kind (inr h) = h

  lowest_of : (kind : FaultKind) → Tells (Some kind) Behind → IsLowest (PartHas false s p) kind
  lowest_of kind t = record { has = inr t.0; lowest = λ other h. t.1 other (from_part other h) }

  forth : (kind : FaultKind) → said_by_part s p ≡ Err kind → IsLowest (PartHas false s p) kind
  forth kind e = lowest_of kind (subst (λ r. Tells (verdict r) Behind) e told)

  back : (kind : FaultKind) (r : Result (List BodyValue) FaultKind) → Tells (verdict r) Behind → IsLowest (PartHas false s p) kind → r ≡ Err kind
  back kind (Ok bs) t h = absurd (t kind (from_part kind h.has))
  back kind (Err other) t h =
      let low : source_fault_number other ≤ source_fault_number kind = t.1 kind (from_part kind h.has) in
      let high : source_fault_number kind ≤ source_fault_number other = h.lowest other (inr t.0) in
      ap faulty (one_kind other kind (omega (arith, low, high)))

pub part_iff : (s : Section) (p : Part) (kind : FaultKind) → (said_by_part s p ≡ Err kind) ↔ IsLowest (PartHas false s p) kind
part_iff s p kind = (forth s p kind, back s p kind (said_by_part s p) (told s p))

-- a part in which a token is wrong has that fault, the lowest of all
positive : (kind : FaultKind) → 1 ≤ source_fault_number kind
positive kinds.Token = omega arith
positive kinds.Mnemonic = omega arith
positive kinds.Operands = omega arith
positive kinds.Register = omega arith
positive kinds.Range = omega arith
positive kinds.Undefined = omega arith
positive kinds.Twice = omega arith
positive kinds.BranchRange = omega arith
positive kinds.Directive = omega arith
positive kinds.Align = omega arith
positive kinds.TooLarge = omega arith

pub broken_iff : (s : Section) (p : Part) (kind : FaultKind) → (kind ≡ kinds.Token) ↔ IsLowest (PartHas true s p) kind
broken_iff s p kind = (there, alone)
  where
    there : kind ≡ kinds.Token → IsLowest (PartHas true s p) kind
    there e = record {
      has = inl (e, refl);
      lowest = λ other h. subst (λ k. source_fault_number k ≤ source_fault_number other) (sym e) (positive other);
    }

    alone : IsLowest (PartHas true s p) kind → kind ≡ kinds.Token
    alone h =
        let low : source_fault_number kind ≤ 1 = h.lowest kinds.Token (inl (refl, refl)) in
        let high = positive kind in
        one_kind kind kinds.Token (omega (arith, low, high))
