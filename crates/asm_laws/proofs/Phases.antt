-- The first fault of statements in a phase, and that it is one.
use Rattle.std.proofs.Common.{◌≡◌, ℕ, ◌<◌, ◌≤◌, List, [], ◌∷◌, ◌++◌, length, Option, Some, None, Result, Ok, Err, refl, sym, ap, ◌∙◌, subst, arith, append-nil, length-append, ◌⊎◌, inl, inr}
use Rattle.std.specs.Prelude.{◌==◌, if◌then◌else◌}
use Rattle.std.proofs.lemmas.Bool.{cases_lt}
use Rattle.asm_statement.specs.Fault.{source_fault_number}
use Rattle.asm_statement.specs.declared.fault.Fault.{Fault}
use Rattle.asm_statement.specs.declared.fault.FaultKind.{FaultKind}
use Rattle.asm_statement.specs.declared.fault.FaultKind.TheVariants as kinds
use Rattle.asm_assemble.specs.Placed.{Standing}
use Rattle.asm_assemble.specs.Placing.{at_statement}
use Rattle.asm_assemble.proofs.PlacedCuts.{same_head, same_tail}
use Rattle.asm_laws.specs.Faults.{HasNoFault, IsFirstFault}

-- when a statement has a fault
abbrev pub Cause : Type 1
Cause = FaultKind → List Standing → Standing → List Standing → Type 0

-- a statement has no fault, or this is its lowest
abbrev pub Tells : Option FaultKind → (FaultKind → Type 0) → Type 0
Tells None Is = (kind : FaultKind) → Is kind → ⊥
Tells (Some kind) Is = Is kind × ((other : FaultKind) → Is other → source_fault_number kind ≤ source_fault_number other)

-- the same of a result
abbrev pub Answers : {X : Type 0} → Result X FaultKind → (FaultKind → Type 0) → Type 0
Answers (Ok x) Is = Tells None Is
Answers (Err kind) Is = Tells (Some kind) Is

-- none of the first statements, this many, has a fault
abbrev pub IsClear : Cause → List Standing → ℕ → Type 0
IsClear Has all n = (front : List Standing) (s : Standing) (back : List Standing) (kind : FaultKind) → all ≡ front ++ s ∷ back → length front < n → Has kind front s back → ⊥

-- a phase finds no fault, or the first
abbrev pub Phase : {X : Type 0} → Cause → List Standing → Result X Fault → Type 0
Phase Has all (Ok x) = HasNoFault Has all
Phase Has all (Err fault) = IsFirstFault Has all fault

-- ---- numbers of faults
pub from : (kind k : FaultKind) → kind ≡ k → (n : ℕ) → n ≤ source_fault_number k → n ≤ source_fault_number kind
from kind k e n le = subst (λ x. n ≤ source_fault_number x) (sym e) le

abbrev kind_of : ℕ → FaultKind
kind_of n =
    if n == 1 then kinds.Token
    else (if n == 2 then kinds.Mnemonic
    else (if n == 3 then kinds.Operands
    else (if n == 4 then kinds.Register
    else (if n == 5 then kinds.Range
    else (if n == 6 then kinds.Undefined
    else (if n == 7 then kinds.Twice
    else (if n == 8 then kinds.BranchRange
    else (if n == 9 then kinds.Directive
    else (if n == 10 then kinds.Align
    else kinds.TooLarge)))))))))

kind_back : (kind : FaultKind) → kind_of (source_fault_number kind) ≡ kind
kind_back kinds.Token = refl
kind_back kinds.Mnemonic = refl
kind_back kinds.Operands = refl
kind_back kinds.Register = refl
kind_back kinds.Range = refl
kind_back kinds.Undefined = refl
kind_back kinds.Twice = refl
kind_back kinds.BranchRange = refl
kind_back kinds.Directive = refl
kind_back kinds.Align = refl
kind_back kinds.TooLarge = refl

pub one_kind : (a b : FaultKind) → source_fault_number a ≡ source_fault_number b → a ≡ b
one_kind a b e = sym (kind_back a) ∙ (ap kind_of e ∙ kind_back b)

-- ---- two ways to cut statements at the same place
abbrev AreSame : List Standing → List Standing → Standing → Standing → List Standing → List Standing → Type 0
AreSame front done s t back rest = (front ≡ done) × (s ≡ t) × (back ≡ rest)

same_cut : (front : List Standing) (s : Standing) (back done : List Standing) (t : Standing) (rest : List Standing) → front ++ s ∷ back ≡ done ++ t ∷ rest → length front ≡ length done
    → AreSame front done s t back rest
same_cut [] s back [] t rest e n = (refl, same_head s t back rest e, same_tail s t back rest e)
same_cut [] s back (d ∷ done) t rest e n = absurd (omega (arith, n))
same_cut (f ∷ front) s back [] t rest e n = absurd (omega (arith, n))
same_cut (f ∷ front) s back (d ∷ done) t rest e n =
    let head : f ≡ d = same_head f d (front ++ s ∷ back) (done ++ t ∷ rest) e in
    let more : AreSame front done s t back rest = same_cut front s back done t rest (same_tail f d (front ++ s ∷ back) (done ++ t ∷ rest) e) (omega (arith, n)) in
    (ap (λ (x : Standing). x ∷ front) head ∙ ap (λ (xs : List Standing). d ∷ xs) more.0, more.1, more.2)

moved : (Has : Cause) (kind : FaultKind) (front : List Standing) (s : Standing) (back done : List Standing) (t : Standing) (rest : List Standing) → AreSame front done s t back rest
    → Has kind front s back → Has kind done t rest
moved Has kind front s back done t rest e h =
    subst (λ xs. Has kind xs t rest) e.0 (subst (λ x. Has kind front x rest) e.1 (subst (λ ys. Has kind front s ys) e.2 h))

-- ---- statement by statement
-- one statement more has no fault
pub clear_more : (Has : Cause) (all done : List Standing) (s : Standing) (rest : List Standing) → all ≡ done ++ s ∷ rest → IsClear Has all (length done)
    → ((kind : FaultKind) → Has kind done s rest → ⊥) → IsClear Has all (length (done ++ s ∷ []))
clear_more Has all done s rest is clear none front t back kind cut lt h = by (cases_lt (length front) (length done))
  where
    by : (length front < length done) ⊎ (length done ≤ length front) → ⊥
    by (inl before) = clear front t back kind cut before h
    by (inr at) =
        let same : length front ≡ length done = omega (arith, length-append done (s ∷ []), at, lt) in
        none kind (moved Has kind front t back done s rest (same_cut front t back done s rest (sym cut ∙ is) same) h)

-- none has
pub all_clear : (Has : Cause) (all done : List Standing) → all ≡ done ++ [] → IsClear Has all (length done) → HasNoFault Has all
all_clear Has all done is clear before s after kind cut h =
    let size : length done ≡ length (before ++ s ∷ after) = ap length (sym (append-nil done) ∙ (sym is ∙ cut)) in
    clear before s after kind cut (omega (arith, size, length-append before (s ∷ after))) h

-- the next statement has one
pub is_first : (Has : Cause) (all done : List Standing) (s : Standing) (rest : List Standing) (kind : FaultKind) → all ≡ done ++ s ∷ rest → IsClear Has all (length done)
    → Tells (Some kind) (λ k. Has k done s rest) → IsFirstFault Has all (at_statement s.statement kind)
is_first Has all done s rest kind is clear h = record {
  before = done;
  here = s;
  after = rest;
  cut = is;
  has = h.0;
  lowest = h.1;
  first = clear;
  in_source = refl;
  on_its_line = refl;
}

-- ---- there is one first fault
same_fault : (f g : Fault) → f.kind ≡ g.kind → f.source ≡ g.source → f.line ≡ g.line → f ≡ g
same_fault f g a b c =
    ap (λ (k : FaultKind). record { kind = k; source = f.source; line = f.line }) a
    ∙ (ap (λ (n : ℕ). record { kind = g.kind; source = n; line = f.line }) b ∙ ap (λ (n : ℕ). record { kind = g.kind; source = g.source; line = n }) c)

pub one_first : (Has : Cause) (all : List Standing) (f g : Fault) → IsFirstFault Has all f → IsFirstFault Has all g → f ≡ g
one_first Has all f g h k = by (cases_lt (length h.before) (length k.before)) (cases_lt (length k.before) (length h.before))
  where
    by : (length h.before < length k.before) ⊎ (length k.before ≤ length h.before) → (length k.before < length h.before) ⊎ (length h.before ≤ length k.before) → f ≡ g
    by (inl lt) other = absurd (k.first h.before h.here h.after f.kind h.cut lt h.has)
    by (inr ge) (inl lt) = absurd (h.first k.before k.here k.after g.kind k.cut lt k.has)
    by (inr ge) (inr le) =
        let same : length h.before ≡ length k.before = omega (arith, ge, le) in
        let at : AreSame h.before k.before h.here k.here h.after k.after = same_cut h.before h.here h.after k.before k.here k.after (sym h.cut ∙ k.cut) same in
        let back : AreSame k.before h.before k.here h.here k.after h.after = (sym at.0, sym at.1, sym at.2) in
        let low : source_fault_number f.kind ≤ source_fault_number g.kind = h.lowest g.kind (moved Has g.kind k.before k.here k.after h.before h.here h.after back k.has) in
        let high : source_fault_number g.kind ≤ source_fault_number f.kind = k.lowest f.kind (moved Has f.kind h.before h.here h.after k.before k.here k.after at h.has) in
        same_fault f g (one_kind f.kind g.kind (omega (arith, low, high)))
        (h.in_source ∙ (ap (λ (s : Standing). s.statement.source) at.1 ∙ sym k.in_source))
        (h.on_its_line ∙ (ap (λ (s : Standing). s.statement.line) at.1 ∙ sym k.on_its_line))
