-- The values of operands.
use Rattle.std.specs.Prelude.{ℕ, ℤ, ◌+◌, ◌%◌, ◌^◌, List, Option, Some, None, Result, Ok, Err}
use Rattle.std.specs.Map.{lookup}
use Rattle.std.specs.Option.{option_map}
use Rattle.std.specs.Str.{bytes_eq}
use Rattle.asm_statement.specs.Answer.{◌>>=◌}
use Rattle.asm_statement.specs.declared.fault.FaultKind.{FaultKind}
use Rattle.asm_statement.specs.declared.fault.FaultKind.TheVariants as kinds
use Rattle.asm_statement.specs.declared.operand.Value.{Value}
use Rattle.asm_statement.specs.declared.operand.Value.TheVariants as values
use Rattle.asm_statement.specs.declared.operand.Immediate.{Immediate}
use Rattle.asm_statement.specs.declared.operand.Immediate.TheVariants as immediates
use Rattle.asm_statement.specs.declared.operand.Upper.{Upper}
use Rattle.asm_statement.specs.declared.operand.Upper.TheVariants as uppers
use Rattle.asm_statement.specs.declared.operand.Target.{Target}
use Rattle.asm_statement.specs.declared.operand.Target.TheVariants as targets
use Rattle.asm_assemble.specs.Program.{SymbolList}
use Rattle.asm_assemble.specs.Numbers.{as_word, number12, number20, hi, lo}

-- the value of a name
unfoldable pub found : {V : Type 0} → List (List ℕ × V) → List ℕ → Option V
found entries name = lookup (bytes_eq name) entries

-- the address of a symbol
unfoldable pub operand_address : SymbolList → List ℕ → Option ℕ
operand_address symbols name = option_map (λ s. s.address) (found symbols name)

-- a defined address, or the fault `Undefined`
unfoldable pub defined : Option ℕ → Result ℕ FaultKind
defined (Some at) = Ok at
defined None = Err kinds.Undefined

-- the sum of a symbol's address and a number, modulo 2^32
unfoldable pub symbol_value : SymbolList → List ℕ → ℤ → Result ℕ FaultKind
symbol_value symbols name offset =
    defined (operand_address symbols name) >>= λ at. Ok ((at + as_word offset) % 2 ^ 32)

-- a value, modulo 2^32
unfoldable pub valued_operand : SymbolList → Value → Result ℕ FaultKind
valued_operand symbols (values.Number n) = Ok (as_word n)
valued_operand symbols (values.Symbol name offset) = symbol_value symbols name offset

-- a 12-bit immediate, as the word that it is extended to
unfoldable pub immediate_of : SymbolList → Immediate → Result ℕ FaultKind
immediate_of symbols (immediates.Number n) = number12 n
immediate_of symbols (immediates.Low v) = valued_operand symbols v >>= λ word. Ok (lo word)

-- a 20-bit immediate
unfoldable pub upper_of : SymbolList → Upper → Result ℕ FaultKind
upper_of symbols (uppers.Number n) = number20 n
upper_of symbols (uppers.High v) = valued_operand symbols v >>= λ word. Ok (hi word)

-- the address of a target; a local reference's is given
unfoldable pub operand_target : SymbolList → Option ℕ → Target → Result ℕ FaultKind
operand_target symbols local (targets.Address n) = Ok (as_word n)
operand_target symbols local (targets.Symbol name) = defined (operand_address symbols name)
operand_target symbols local (targets.Back digits) = defined local
operand_target symbols local (targets.Ahead digits) = defined local
