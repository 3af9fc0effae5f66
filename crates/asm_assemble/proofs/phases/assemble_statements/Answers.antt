use Rattle.std.proofs.Common.{[], ◌+◌, ◌^◌, refl, arith}
use Rattle.asm_assemble.specs.Assembled.{heavy_of}
use Rattle.asm_assemble.specs.Placing.{globals_from}
use Rattle.asm_assemble.specs.Program.{symbol_list}
use Rattle.asm_assemble.proofs.Within.{within_more}
use Rattle.asm_assemble.proofs.Sizes.{fits_here, zeros_small}
use Rattle.asm_assemble.proofs.phases.assemble_statements.Goals as goal

pub cursor_after-end-requires : goal.cursor_after-end-requires
cursor_after-end-requires g c = within_more (2 ^ 62 + 3) (2 ^ 63) c.first_cursor-start.result c.first_cursor-start.ensures.small (omega arith)

pub symbols_of-requires-clause-start_small : goal.symbols_of-requires-clause-start_small
symbols_of-requires-clause-start_small g c = within_more (2 ^ 62 + 3) (2 ^ 62 + 2 ^ 60) c.first_cursor-start.result c.first_cursor-start.ensures.small (omega arith)

pub symbols_of-requires-clause-end_small : goal.symbols_of-requires-clause-end_small
symbols_of-requires-clause-end_small g c =
    within_more (2 ^ 62 + 3 + 2 ^ 61) (2 ^ 62 + 2 ^ 61 + 3) c.cursor_after-end.result
    (c.cursor_after-end.ensures.small (2 ^ 62 + 3) c.first_cursor-start.ensures.small) (omega arith)

pub value_all-requires : goal.value_all-requires
value_all-requires g c = within_more (2 ^ 62 + 3) (2 ^ 62 + 2 ^ 60) c.first_cursor-start.result c.first_cursor-start.ensures.small (omega arith)

pub overflow_cast-zeros : goal.overflow_cast-zeros
overflow_cast-zeros g c =
    let start = c.first_cursor-start.result in
    let end = c.cursor_after-end.result in
    let ss = c.args.statements.now in
    let sections = c.in_ok-sections.sections in
    let within = fits_here (globals_from [] ss) start end (heavy_of start end ss) ss
    (symbol_list c.in_ok-symbols.symbols.entries) sections c.saturating_sub-zeros.result c.first_cursor-start.ensures.value c.cursor_after-end.ensures.value refl
    c.in_ok-symbols.ensures c.in_ok-sections.ensures (omega arith) in
    omega (arith, zeros_small sections.text_bytes sections.data_bytes c.saturating_sub-zeros.result within)

pub program_of-requires : goal.program_of-requires
program_of-requires g c =
    let start = c.first_cursor-start.result in
    let end = c.cursor_after-end.result in
    let ss = c.args.statements.now in
    fits_here (globals_from [] ss) start end (heavy_of start end ss) ss
    (symbol_list c.in_ok-symbols.symbols.entries) c.in_ok-sections.sections c.saturating_sub-zeros.result c.first_cursor-start.ensures.value c.cursor_after-end.ensures.value refl
    c.in_ok-symbols.ensures c.in_ok-sections.ensures (omega arith)
