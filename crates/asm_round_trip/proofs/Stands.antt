-- The assembler on a statement of the text that is neither a label nor a change of section.
use Rattle.std.proofs.Common.{◌≡◌, ℕ, ◌%◌, ◌^◌, ◌<◌, List, [], ◌∷◌, length, Option, None, Ok, refl, arith}
use Rattle.std.specs.Prelude.{pos}
use Rattle.std.specs.Int.{w32, to_le_bytes}
use Rattle.isa_table.specs.Spells.{word_of}
use Rattle.isa_table.specs.declared.instr.Instr.{Instr}
use Rattle.asm_statement.specs.Statement.{BodyValue}
use Rattle.asm_statement.specs.declared.operand.Value.TheVariants as values
use Rattle.asm_statement.specs.declared.statement.Section.{Section}
use Rattle.asm_statement.specs.declared.statement.Section.TheVariants as sections
use Rattle.asm_statement.specs.declared.statement.Body.TheVariants as bodies
use Rattle.asm_statement.specs.declared.statement.Directive.TheVariants as directives
use Rattle.asm_statement.specs.declared.statement.Instruction.{Instruction}
use Rattle.asm_assemble.specs.Program.{SymbolList}
use Rattle.asm_assemble.specs.Numbers.{as_word, is_in_range}
use Rattle.asm_assemble.specs.Operands.{valued_operand}
use Rattle.asm_assemble.specs.Instructions.{placed_instr}
use Rattle.asm_assemble.specs.Cursors.{section_of, size, directive_size}
use Rattle.asm_assemble.specs.Locals.{local_label_at}
use Rattle.asm_assemble.specs.Placing.{Globals, with_globals, own_fault, placed_symbols_at}
use Rattle.asm_assemble.specs.Valuing.{instr_bytes, fits_word, word_list, byte_list, where_fits, directive_bytes, valued_bytes}
use Rattle.asm_round_trip.proofs.Signs.{is_below}

-- at an address of the text a statement gives bytes, and has no other effect
pub record Stands (at : ℕ) (b : BodyValue) (bytes : List ℕ) : Type 0 where
  pub stays : section_of b ≡ None
  pub size_is : size at b ≡ length bytes
  pub no_global : (seen : Globals) → with_globals seen b ≡ seen
  pub no_fault : (seen : SymbolList) → own_fault seen at b ≡ None
  pub no_symbol : (globals : Globals) (section : Section) → placed_symbols_at globals section at b ≡ []
  pub no_label : (source : ℕ) → local_label_at source at b ≡ []
  pub gives : (symbols : SymbolList) (local : Option ℕ) → valued_bytes symbols local sections.Text at b ≡ Ok bytes

pub instruction_stands : (at : ℕ) (i : Instruction) (instr : Instr) → at % 4 ≡ 0 → ((symbols : SymbolList) (local : Option ℕ) → placed_instr symbols local at i ≡ Ok instr)
    → Stands at (bodies.Instruction i) (to_le_bytes w32 (word_of instr))
unfolding section_of size with_globals own_fault placed_symbols_at local_label_at valued_bytes instr_bytes
instruction_stands at i instr aligned valued = record {
  stays = refl;
  size_is = refl;
  no_global = λ seen. refl;
  no_fault = λ seen. rw aligned refl;
  no_symbol = λ globals section. refl;
  no_label = λ source. refl;
  gives = λ symbols local. rw (valued symbols local) refl;
}

pub word_stands : (at word : ℕ) → word < 2 ^ 32 → Stands at (bodies.Directive (directives.Words (values.Number (pos word) ∷ []))) (to_le_bytes w32 word)
unfolding section_of size directive_size with_globals own_fault placed_symbols_at local_label_at valued_bytes directive_bytes fits_word is_in_range where_fits word_list valued_operand as_word
word_stands at word lt = record {
  stays = refl;
  size_is = refl;
  no_global = λ seen. refl;
  no_fault = λ seen. refl;
  no_symbol = λ globals section. refl;
  no_label = λ source. refl;
  gives = λ symbols local. let e : word % 2 ^ 32 ≡ word = omega arith in rw (is_below word 4294967296 lt, e) refl;
}

pub byte_stands : (at byte : ℕ) → byte < 2 ^ 8 → Stands at (bodies.Directive (directives.Bytes (pos byte ∷ []))) (byte ∷ [])
unfolding section_of size directive_size with_globals own_fault placed_symbols_at local_label_at valued_bytes directive_bytes is_in_range where_fits byte_list as_word
byte_stands at byte lt = record {
  stays = refl;
  size_is = refl;
  no_global = λ seen. refl;
  no_fault = λ seen. refl;
  no_symbol = λ globals section. refl;
  no_label = λ source. refl;
  gives = λ symbols local. let e : byte % 2 ^ 32 % 2 ^ 8 ≡ byte = omega arith in rw (is_below byte 256 lt, e) refl;
}
