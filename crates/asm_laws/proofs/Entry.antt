-- A program's entry is an address of 32 bits.
use Rattle.std.proofs.Common.{ℕ, ◌^◌, ◌<◌, Bool, true, false, cond, List, [], ◌∷◌, ◌++◌, Option, Some, None, IfSome, sym, subst, arith}
use Rattle.std.specs.Prelude.{unwrap_or, codes}
use Rattle.std.specs.Map.{lookup}
use Rattle.std.specs.Option.{option_map}
use Rattle.std.specs.Str.{bytes_eq}
use Rattle.asm_statement.specs.Statement.{StatementValue, BodyValue}
use Rattle.asm_statement.specs.declared.statement.Section.{Section}
use Rattle.asm_statement.specs.declared.statement.Body.TheVariants as body
use Rattle.asm_assemble.specs.Operands.{found, operand_address}
use Rattle.asm_assemble.specs.Placed.{Standing, Bases, ArePlaced, symbol_at, placed_symbols_in}
use Rattle.asm_assemble.specs.Program.{SymbolList, ProgramValue}
use Rattle.asm_assemble.specs.declared.program.Symbol.{Symbol}

abbrev AreSmall : SymbolList → Type 0
AreSmall [] = Unit {0}
AreSmall (e ∷ es) = (e.1.address < 2 ^ 32) × AreSmall es

abbrev address_in : Option Symbol → Option ℕ
address_in o = option_map (λ (s : Symbol). s.address) o

found_small : (es : SymbolList) (name : List ℕ) → AreSmall es → IfSome (operand_address es name) (λ a. a < 2 ^ 32)
unfolding operand_address found
found_small [] name h = tt
found_small (e ∷ es) name h = by (bytes_eq name e.0) (found_small es name h.1)
  where
    by : (b : Bool) → IfSome (address_in (lookup (bytes_eq name) es)) (λ a. a < 2 ^ 32) → IfSome (address_in (cond b (Some e.1) (lookup (bytes_eq name) es))) (λ a. a < 2 ^ 32)
    by true g = h.0
    by false g = g

one_small : (all : List Standing) (section : Section) (at : ℕ) (b : BodyValue) (rest : SymbolList) → AreSmall rest → AreSmall (symbol_at all section at b ++ rest)
one_small all section at (body.Label name) rest h = (omega arith, h)
one_small all section at (body.LocalLabel n) rest h = h
one_small all section at (body.Instruction n) rest h = h
one_small all section at (body.Pseudo n) rest h = h
one_small all section at (body.Directive n) rest h = h

all_small : (all ss : List Standing) → AreSmall (placed_symbols_in all ss)
unfolding placed_symbols_in
all_small all [] = tt
all_small all (s ∷ ss) = one_small all s.section s.address s.statement.body _ (all_small all ss)

else_small : (o : Option ℕ) → IfSome o (λ a. a < 2 ^ 32) → unwrap_or o 0x10000 < 2 ^ 32
else_small None h = omega arith
else_small (Some a) h = h

pub entry_small : (ss : List StatementValue) (p : ProgramValue) (all : List Standing) (bases : Bases) → ArePlaced ss p all bases → p.entry < 2 ^ 32
entry_small ss p all bases h =
    subst (λ a. a < 2 ^ 32) (sym h.entry)
    (else_small (operand_address p.symbols (codes "_start")) (found_small p.symbols (codes "_start") (subst AreSmall (sym h.symbols) (all_small all all))))
