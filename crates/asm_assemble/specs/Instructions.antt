-- The instructions of a statement, from its operands' values.
use Rattle.std.specs.Prelude.{ℕ, ◌==◌, ◌^◌, Option, Some, None, Result, Ok, Err, Bool, true, pos, if◌then◌else◌}
use Rattle.asm_statement.specs.Answer.{◌>>=◌}
use Rattle.asm_statement.specs.declared.fault.FaultKind.{FaultKind}
use Rattle.asm_statement.specs.declared.fault.FaultKind.TheVariants as kinds
use Rattle.asm_statement.specs.declared.operand.Target.{Target}
use Rattle.asm_statement.specs.declared.statement.Instruction.{Instruction}
use Rattle.asm_statement.specs.declared.statement.Instruction.TheVariants as read
use Rattle.asm_statement.specs.declared.statement.Pseudo.{Pseudo}
use Rattle.asm_statement.specs.declared.statement.Pseudo.TheVariants as pseudo
use Rattle.isa_table.specs.declared.instr.Instr.{Instr}
use Rattle.isa_table.specs.declared.instr.Instr.TheVariants as instr
use Rattle.isa_table.specs.declared.mnemonic.ImmediateOp.TheVariants.{Addi}
use Rattle.asm_assemble.specs.declared.instruction.Pair.{Pair}
use Rattle.asm_assemble.specs.Program.{SymbolList}
use Rattle.asm_assemble.specs.Numbers.{as_word, is_in_range, is_signed_word, amount_of, offset_of, distance, hi, lo}
use Rattle.asm_assemble.specs.Operands.{symbol_value, immediate_of, upper_of, operand_target}

-- the offset of this many bits from an address to a target
unfoldable pub offset_to : ℕ → SymbolList → Option ℕ → ℕ → Target → Result ℕ FaultKind
offset_to width symbols local at target =
    operand_target symbols local target >>= λ to. offset_of width (distance at to)

-- the instruction of a statement at an address
unfoldable pub placed_instr : SymbolList → Option ℕ → ℕ → Instruction → Result Instr FaultKind
placed_instr symbols local at (read.Fixed i) = Ok i
placed_instr symbols local at (read.Lui rd imm) = upper_of symbols imm >>= λ high. Ok (instr.Lui rd high)
placed_instr symbols local at (read.Auipc rd imm) =
    upper_of symbols imm >>= λ high. Ok (instr.Auipc rd high)
placed_instr symbols local at (read.Jal rd target) =
    offset_to 21 symbols local at target >>= λ offset.
    Ok (instr.Jal rd offset)
placed_instr symbols local at (read.Jalr rd rs1 imm) =
    immediate_of symbols imm >>= λ word. Ok (instr.Jalr rd rs1 word)
placed_instr symbols local at (read.Branch op rs1 rs2 target) =
    offset_to 13 symbols local at target >>= λ offset.
    Ok (instr.Branch op rs1 rs2 offset)
placed_instr symbols local at (read.Load op rd rs1 imm) =
    immediate_of symbols imm >>= λ word. Ok (instr.Load op rd rs1 word)
placed_instr symbols local at (read.Store op rs1 rs2 imm) =
    immediate_of symbols imm >>= λ word. Ok (instr.Store op rs1 rs2 word)
placed_instr symbols local at (read.Immediate op rd rs1 imm) =
    immediate_of symbols imm >>= λ word. Ok (instr.Immediate op rd rs1 word)
placed_instr symbols local at (read.Shift op rd rs1 amount) =
    amount_of amount >>= λ count. Ok (instr.Shift op rd rs1 count)

-- `addi rd, rs1, imm`
abbrev pub addi : ℕ → ℕ → ℕ → Instr
addi rd rs1 imm = instr.Immediate Addi rd rs1 imm

-- whether `li` of a word is one instruction
unfoldable pub is_short : ℕ → Bool
is_short word = if is_signed_word 12 word then true else (lo word == 0)

-- `li` of a word: ADDI if it is a 12-bit signed number, else LUI, and ADDI if the low part is not 0
unfoldable pub li_pair : ℕ → ℕ → Pair
li_pair rd word =
    if is_signed_word 12 word
    then record { first = addi rd 0 word; second = None }
    else record {
      first = instr.Lui rd (hi word);
      second = if lo word == 0 then None else Some (addi rd rd (lo word));
    }

-- the two instructions that put the target at a distance from the first of them into a register
unfoldable pub la_pair : ℕ → ℕ → Pair
la_pair rd d = record {
  first = instr.Auipc rd (hi d);
  second = Some (addi rd rd (lo d));
}

-- the two instructions that jump by a distance from the first of them, through a register
unfoldable pub jump_pair : ℕ → ℕ → ℕ → Pair
jump_pair by rd d = record {
  first = instr.Auipc by (hi d);
  second = Some (instr.Jalr rd by (lo d));
}

-- the instructions of a pseudo-instruction at an address
unfoldable pub instr_pair : SymbolList → ℕ → Pseudo → Result Pair FaultKind
instr_pair symbols at (pseudo.Li rd number) =
    if is_in_range (2 ^ 31) (2 ^ 64) number then Ok (li_pair rd (as_word number)) else Err kinds.Range
instr_pair symbols at (pseudo.La rd name offset) =
    symbol_value symbols name offset >>= λ to. Ok (la_pair rd (distance at to))
instr_pair symbols at (pseudo.Call name) =
    symbol_value symbols name (pos 0) >>= λ to. Ok (jump_pair 1 1 (distance at to))
instr_pair symbols at (pseudo.Tail name) =
    symbol_value symbols name (pos 0) >>= λ to. Ok (jump_pair 6 0 (distance at to))

-- the size of a pseudo-instruction in bytes
unfoldable pub pseudo_size : Pseudo → ℕ
pseudo_size (pseudo.Li rd number) = if is_short (as_word number) then 4 else 8
pseudo_size (pseudo.La rd name offset) = 8
pseudo_size (pseudo.Call name) = 8
pseudo_size (pseudo.Tail name) = 8
