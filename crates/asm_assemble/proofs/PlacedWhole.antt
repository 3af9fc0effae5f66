-- An assembled program has its statements where one symbol table puts them.
use Rattle.std.proofs.Common.{◌≡◌, ℕ, ◌+◌, ◌-◌, List, [], Result, Ok, refl, ◌∙◌, arith, subst}
use Rattle.asm_statement.specs.Answer.{◌>>=◌}
use Rattle.asm_statement.specs.Statement.{StatementValue}
use Rattle.asm_statement.specs.declared.fault.Fault.{Fault}
use Rattle.asm_statement.specs.declared.statement.Section.TheVariants as sections
use Rattle.asm_assemble.specs.Program.{SymbolList, ProgramValue}
use Rattle.asm_assemble.specs.Cursors.{cursor_after}
use Rattle.asm_assemble.specs.Placing.{globals_from, placing}
use Rattle.asm_assemble.specs.Valuing.{Images, valuing, no_bytes}
use Rattle.asm_assemble.specs.Assembled.{start_at, first_cursor, heavy_of, program_entry, program_of_placed, assembled}
use Rattle.asm_assemble.specs.Placed.{taken, StandsThere, AreStanding, placed_symbols_in, IsFit, Holds, Placed}
use Rattle.asm_assemble.proofs.PlacedCuts.{laid, each_cut, laid_statements}
use Rattle.asm_assemble.proofs.PlacedAddresses.{IsBehind, all_stand, behind_all}
use Rattle.asm_assemble.proofs.PlacedBases.{bases_of, behind_none, are_bases}
use Rattle.asm_assemble.proofs.PlacedSymbols.{placed_symbols}
use Rattle.asm_assemble.proofs.PlacedFits.{all_fit, symbols_laid}
use Rattle.asm_assemble.proofs.PlacedSteps.{unbound}
use Rattle.asm_assemble.proofs.PlacedOperands.{none_before}
use Rattle.asm_assemble.proofs.PlacedBytes.{AreSized, all_hold, all_sized}
use Rattle.asm_assemble.proofs.Sizes.{fits}

abbrev good : ProgramValue → Result ProgramValue Fault
good p = Ok p

good_is : (p q : ProgramValue) → good p ≡ good q → p ≡ q
good_is p q e = cc

behind_base : (base n size : ℕ) → n ≡ base + size → n - base ≡ size
behind_base base n size e = omega (arith, e)

-- the symbols of all statements
pub symbols_are : (ss : List StatementValue) (symbols : SymbolList)
    → placing (globals_from [] ss) [] (heavy_of (first_cursor ss) (cursor_after (first_cursor ss) ss) ss) 0 (first_cursor ss) ss ≡ Ok symbols
    → symbols ≡ placed_symbols_in (laid (first_cursor ss) ss) (laid (first_cursor ss) ss)
symbols_are ss symbols e =
    let start = first_cursor ss in
    placed_symbols (globals_from [] ss) [] (heavy_of start (cursor_after start ss) ss) 0 start ss symbols e ∙ symbols_laid start ss start ss

-- the statements at the cursor's places
pub are_standing : (ss : List StatementValue) → AreStanding ss (laid (first_cursor ss) ss) (bases_of ss)
are_standing ss =
    let start = first_cursor ss in
    record {
      statements = laid_statements start ss;
      begins = are_bases ss;
      stands = each_cut (λ before s after. StandsThere (bases_of ss) before s) [] (laid start ss) (all_stand (bases_of ss) [] start ss (behind_none ss));
    }

-- a program whose phases went well
phases_placed : (ss : List StatementValue) (symbols : SymbolList) (images : Images)
    → placing (globals_from [] ss) [] (heavy_of (first_cursor ss) (cursor_after (first_cursor ss) ss) ss) 0 (first_cursor ss) ss ≡ Ok symbols
    → valuing symbols [] no_bytes (first_cursor ss) ss ≡ Ok images
    → Placed ss (program_of_placed images ((cursor_after (first_cursor ss) ss).zeros_at - (first_cursor ss).zeros_at) symbols)
unfolding program_of_placed program_entry placed_symbols_in first_cursor start_at
phases_placed ss symbols images placed valued =
    let start = first_cursor ss in
    let end = cursor_after start ss in
    let all = laid start ss in
    let bases = bases_of ss in
    let zeros = end.zeros_at - start.zeros_at in
    let behind : IsBehind bases all end = behind_all bases [] start ss (behind_none ss) in
    let none : AreSized [] no_bytes = record { text_sized = refl; data_sized = refl } in
    let sized : AreSized all images = all_sized symbols [] [] no_bytes images start ss none valued in
    record {
      all = all;
      bases = bases;
      placed = record {
        standing = are_standing ss;
        symbols = symbols_are ss symbols placed;
        fits = each_cut (λ before s after. IsFit symbols (placed_symbols_in all before) s.address s.statement.body) [] all
            (all_fit start ss symbols (heavy_of start end ss) 0 [] start ss placed);
        holds = each_cut (λ before s after. Holds s.section bases (program_of_placed images zeros symbols) before s after) [] all
            (all_hold bases zeros (program_entry symbols) symbols [] [] no_bytes images start ss none_before none (behind_none ss) valued);
        text_size = sized.text_sized;
        data_size = sized.data_sized;
        zeros_size = behind_base start.zeros_at end.zeros_at (taken sections.Zeros all) (behind.at_end sections.Zeros);
        within = fits (globals_from [] ss) start ss symbols images refl placed valued;
        entry = refl;
      };
    }

pub assembled_is_placed : (ss : List StatementValue) (p : ProgramValue) → assembled ss ≡ Ok p → Placed ss p
unfolding assembled
assembled_is_placed ss p e =
    let start = first_cursor ss in
    let end = cursor_after start ss in
    let zeros = end.zeros_at - start.zeros_at in
    let symbols = unbound (placing (globals_from [] ss) [] (heavy_of start end ss) 0 start ss)
    (λ symbols. valuing symbols [] no_bytes start ss >>= λ images. good (program_of_placed images zeros symbols)) p e in
    let images = unbound (valuing symbols.value [] no_bytes start ss) (λ images. good (program_of_placed images zeros symbols.value)) p symbols.then in
    subst (Placed ss) (good_is (program_of_placed images.value zeros symbols.value) p images.then)
    (phases_placed ss symbols.value images.value symbols.was images.was)
