-- Lines as words between spaces: what a line's words are, and the command of so many of them.
use Rattle.std.specs.Prelude.{◌≡◌, ◌≢◌, ℕ, true, List, [], ◌∷◌, ◌++◌, Ok, Err, codes, if◌then◌else◌}
use Rattle.std.specs.List.{All}
use Rattle.std.specs.Str.{bytes_eq}
use Rattle.debug_text.specs.Words.{ends_word}
use Rattle.elf_read.specs.Symbol.{SymbolValue}
use Rattle.debug_text.specs.Commands.{CommandRead, bare_command, single_command, double_command, registers_command}
use Rattle.debug_text.specs.declared.commands.Command.TheVariants.{Nothing}
use Rattle.debug_text.specs.declared.fault.DebugFault.TheVariants.{BadCommand}

-- a line has these words, with spaces between and around them
pub data HasWords : List ℕ → List (List ℕ) → Type 0 where
  nothing : HasWords [] []
  space : (line : List ℕ) (words : List (List ℕ)) → HasWords line words → HasWords (32 ∷ line) words
  word : (b : ℕ) (bytes rest : List ℕ) (words : List (List ℕ)) → All (λ c. c ≢ 32) (b ∷ bytes)
      → ends_word rest ≡ true → HasWords rest words
      → HasWords ((b ∷ bytes) ++ rest) ((b ∷ bytes) ∷ words)

-- `regs` with names of registers; of other commands none has more than two operands
abbrev pub long_command : List SymbolValue → List ℕ → List ℕ → List ℕ → List (List ℕ) → CommandRead
long_command symbols name first second [] = double_command symbols name first second
long_command symbols name first second (more ∷ words) = Err BadCommand

-- the command of these words; no word is a blank line
abbrev pub command_of_words : List SymbolValue → List (List ℕ) → CommandRead
command_of_words symbols [] = Ok Nothing
command_of_words symbols (name ∷ []) = bare_command name
command_of_words symbols (name ∷ (operand ∷ [])) = single_command symbols name operand
command_of_words symbols (name ∷ (first ∷ (second ∷ words))) =
    if bytes_eq name (codes "regs") then registers_command first (second ∷ words)
    else long_command symbols name first second words
