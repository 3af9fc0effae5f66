-- Symbols that are new.
use Rattle.std.proofs.Common.{refl, ◌≡◌, ℕ, Bool, Option, Some, None}
use Rattle.asm_statement.specs.Statement.{BodyValue}
use Rattle.asm_statement.specs.declared.statement.Body.TheVariants as body
use Rattle.asm_assemble.specs.declared.program.Symbol.{Symbol}
use Rattle.asm_assemble.specs.Program.{SymbolList}
use Rattle.asm_assemble.specs.Operands.{found}
use Rattle.asm_assemble.specs.Placing.{place_fault, own_fault, IsNew}

-- a statement that is placed without a fault defines a new symbol, if any
pub is_new : (seen : SymbolList) (heavy : Bool) (at : ℕ) (b : BodyValue) → place_fault seen heavy at b ≡ None → IsNew seen b
unfolding place_fault own_fault IsNew
is_new seen heavy at (body.Label name) e = by (found seen name) refl
  where
    by : (o : Option Symbol) → found seen name ≡ o → found seen name ≡ None
    by None p = p
    by (Some a) p = let h = rw p at e in absurd cc
is_new seen heavy at (body.LocalLabel digits) e = tt
is_new seen heavy at (body.Instruction i) e = tt
is_new seen heavy at (body.Pseudo p) e = tt
is_new seen heavy at (body.Directive d) e = tt
