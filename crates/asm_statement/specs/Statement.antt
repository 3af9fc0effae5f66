-- Statements as contracts see them.
use Rattle.std.specs.Prelude.{ℕ}
use Rattle.asm_statement.specs.declared.statement.Body.{Body}
use Rattle.asm_statement.specs.declared.statement.Body.TheVariants as body
use Rattle.asm_statement.specs.declared.statement.Directive.{Directive}
use Rattle.asm_statement.specs.declared.statement.Directive.TheVariants as directive

-- a directive, whatever allocator has its lists
abbrev pub DirectiveValue : Type 0
DirectiveValue = Directive (Unit {0})

-- the body of a statement, whatever allocator has its lists
abbrev pub BodyValue : Type 0
BodyValue = Body (Unit {0})

-- a statement, its source's index from 0 and its line from 1
pub record StatementValue : Type 0 where
  pub source : ℕ
  pub line : ℕ
  pub body : BodyValue

-- the directive without its allocator
abbrev pub directive_value : {A : Type 0} → Directive A → DirectiveValue
directive_value (directive.Section section) = directive.Section section
directive_value (directive.Align n) = directive.Align n
directive_value (directive.Zero count) = directive.Zero count
directive_value (directive.Words values) = directive.Words values
directive_value (directive.Halves numbers) = directive.Halves numbers
directive_value (directive.Bytes numbers) = directive.Bytes numbers
directive_value (directive.Ascii bytes) = directive.Ascii bytes
directive_value (directive.Global names) = directive.Global names

-- the body of a statement without its allocator
abbrev pub body_value : {A : Type 0} → Body A → BodyValue
body_value (body.Label name) = body.Label name
body_value (body.LocalLabel digits) = body.LocalLabel digits
body_value (body.Instruction i) = body.Instruction i
body_value (body.Pseudo p) = body.Pseudo p
body_value (body.Directive d) = body.Directive (directive_value d)
