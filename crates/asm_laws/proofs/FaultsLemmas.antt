-- The fault of statements is the first of the first phase that has one.
use Rattle.std.proofs.Common.{◌≡◌, ℕ, ◌-◌, ◌<◌, ◌↔◌, List, [], length, Result, Ok, Err, refl, ap, subst, arith, inl, inr}
use Rattle.asm_statement.specs.Answer.{◌>>=◌}
use Rattle.asm_statement.specs.Statement.{StatementValue}
use Rattle.asm_statement.specs.declared.fault.Fault.{Fault}
use Rattle.asm_assemble.specs.Program.{SymbolList, ProgramValue}
use Rattle.asm_assemble.specs.Cursors.{cursor_after}
use Rattle.asm_assemble.specs.Placing.{globals_from, placing}
use Rattle.asm_assemble.specs.Valuing.{Images, valuing, no_bytes}
use Rattle.asm_assemble.specs.Assembled.{first_cursor, heavy_of, program_of_placed, assembled}
use Rattle.asm_assemble.specs.Placed.{Standing, placed_symbols_in}
use Rattle.asm_assemble.proofs.PlacedCuts.{laid}
use Rattle.asm_assemble.proofs.PlacedBases.{bases_of}
use Rattle.asm_assemble.proofs.PlacedOperands.{none_before}
use Rattle.asm_assemble.proofs.PlacedOneValue.{found_none}
use Rattle.asm_assemble.proofs.PlacedWhole.{symbols_are, are_standing}
use Rattle.asm_assemble.proofs.PlacedOneLayout.{one_layout}
use Rattle.asm_laws.specs.Faults.{IsMisplaced, IsMisvalued, HasNoFault, IsOfFirstPhase, HasFirstFault}
use Rattle.asm_laws.proofs.Phases.{Phase, one_first}
use Rattle.asm_laws.proofs.Misplaced.{placing_finds}
use Rattle.asm_laws.proofs.Misvalued.{valuing_finds}

abbrev good : ProgramValue → Result ProgramValue Fault
good p = Ok p

-- no phase has a fault, or this is the first
abbrev IsFound : List Standing → Result ProgramValue Fault → Type 0
IsFound all (Ok p) = HasNoFault (IsMisplaced all) all × HasNoFault (IsMisvalued (placed_symbols_in all all)) all
IsFound all (Err fault) = IsOfFirstPhase all fault

values_found : (all : List Standing) (make : Images → ProgramValue) (r : Result Images Fault) → HasNoFault (IsMisplaced all) all → Phase (IsMisvalued (placed_symbols_in all all)) all r
    → IsFound all (r >>= λ images. good (make images))
values_found all make (Ok images) clear found = (clear, found)
values_found all make (Err fault) clear found = inr (clear, found)

nothing_below : (n : ℕ) → n < 0 → ⊥
nothing_below n lt = omega (arith, lt)

-- the phase of operands, by the symbols of all statements
values_phase : (ss : List StatementValue) (symbols : SymbolList)
    → placing (globals_from [] ss) [] (heavy_of (first_cursor ss) (cursor_after (first_cursor ss) ss) ss) 0 (first_cursor ss) ss ≡ Ok symbols
    → Phase (IsMisvalued (placed_symbols_in (laid (first_cursor ss) ss) (laid (first_cursor ss) ss))) (laid (first_cursor ss) ss) (valuing symbols [] no_bytes (first_cursor ss) ss)
values_phase ss symbols e =
    let start = first_cursor ss in
    let all = laid start ss in
    subst (λ map. Phase (IsMisvalued map) all (valuing symbols [] no_bytes start ss)) (symbols_are ss symbols e)
    (valuing_finds symbols all [] [] no_bytes start ss none_before found_none refl (λ front s back kind cut lt h. nothing_below (length front) lt))

phases_found : (ss : List StatementValue) (make : SymbolList → Images → ProgramValue) (r : Result SymbolList Fault)
    → placing (globals_from [] ss) [] (heavy_of (first_cursor ss) (cursor_after (first_cursor ss) ss) ss) 0 (first_cursor ss) ss ≡ r
    → Phase (IsMisplaced (laid (first_cursor ss) ss)) (laid (first_cursor ss) ss) r
    → IsFound (laid (first_cursor ss) ss) (r >>= λ symbols. valuing symbols [] no_bytes (first_cursor ss) ss >>= λ images. good (make symbols images))
phases_found ss make (Ok symbols) e found =
    values_found (laid (first_cursor ss) ss) (make symbols) (valuing symbols [] no_bytes (first_cursor ss) ss) found (values_phase ss symbols e)
phases_found ss make (Err fault) e found = inl found

all_found : (ss : List StatementValue) → IsFound (laid (first_cursor ss) ss) (assembled ss)
unfolding assembled
all_found ss =
    let start = first_cursor ss in
    let end = cursor_after start ss in
    phases_found ss (λ symbols images. program_of_placed images (end.zeros_at - start.zeros_at) symbols)
    (placing (globals_from [] ss) [] (heavy_of start end ss) 0 start ss) refl (placing_finds ss)

-- ---- there is one such fault
not_both : (all : List Standing) (p : ProgramValue) (fault : Fault) → IsFound all (Ok p) → IsOfFirstPhase all fault → ⊥
not_both all p fault none (inl h) = none.0 h.before h.here h.after fault.kind h.cut h.has
not_both all p fault none (inr h) = none.1 h.1.before h.1.here h.1.after fault.kind h.1.cut h.1.has

one_fault : (all : List Standing) (f g : Fault) → IsOfFirstPhase all f → IsOfFirstPhase all g → f ≡ g
one_fault all f g (inl h) (inl k) = one_first (IsMisplaced all) all f g h k
one_fault all f g (inl h) (inr k) = absurd (k.0 h.before h.here h.after f.kind h.cut h.has)
one_fault all f g (inr h) (inl k) = absurd (h.0 k.before k.here k.after g.kind k.cut k.has)
one_fault all f g (inr h) (inr k) = one_first (IsMisvalued (placed_symbols_in all all)) all f g h.1 k.1

fails_with : (all : List Standing) (fault : Fault) (r : Result ProgramValue Fault) → IsFound all r → IsOfFirstPhase all fault → r ≡ Err fault
fails_with all fault (Ok p) found h = absurd (not_both all p fault found h)
fails_with all fault (Err other) found h = ap Err (one_fault all other fault found h)

-- ---- the law
pub first_fault : (ss : List StatementValue) (fault : Fault) → (assembled ss ≡ Err fault) ↔ HasFirstFault ss fault
first_fault ss fault = (found, counts)
  where
    found : assembled ss ≡ Err fault → HasFirstFault ss fault
    found e = record {
      all = laid (first_cursor ss) ss;
      bases = bases_of ss;
      standing = are_standing ss;
      counts = subst (IsFound (laid (first_cursor ss) ss)) e (all_found ss);
    }

    counts : HasFirstFault ss fault → assembled ss ≡ Err fault
    counts h =
        let places = (one_layout ss h.all h.bases h.standing).places in
        fails_with (laid (first_cursor ss) ss) fault (assembled ss) (all_found ss) (subst (λ all. IsOfFirstPhase all fault) places h.counts)
