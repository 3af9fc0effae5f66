-- The places of statements.
use Rattle.std.specs.Prelude.{ℕ, ◌+◌, ◌-◌, ◌*◌, ◌^◌, ◌≤◌, nat_lt, List, [], ◌∷◌, length, Option, Some, None, if◌then◌else◌}
use Rattle.asm_statement.specs.Statement.{StatementValue, BodyValue, DirectiveValue}
use Rattle.asm_statement.specs.declared.statement.Section.{Section}
use Rattle.asm_statement.specs.declared.statement.Section.TheVariants as sections
use Rattle.asm_statement.specs.declared.statement.Body.TheVariants as body
use Rattle.asm_statement.specs.declared.statement.Directive.TheVariants as directive
use Rattle.asm_assemble.specs.declared.cursor.Cursor.{Cursor}
use Rattle.asm_assemble.specs.Program.{round_up}
use Rattle.asm_assemble.specs.Instructions.{pseudo_size}

-- the number of bytes up to a multiple of 2^n; n above 12 is a fault
unfoldable pub align_size : ℕ → ℕ → ℕ
align_size at n = if nat_lt 12 n then 0 else round_up at (2 ^ n) - at

-- the number of bytes of a directive at an address
unfoldable pub directive_size : ℕ → DirectiveValue → ℕ
directive_size at (directive.Section section) = 0
directive_size at (directive.Align n) = align_size at n
directive_size at (directive.Zero count) = count
directive_size at (directive.Words values) = 4 * length values
directive_size at (directive.Halves numbers) = 2 * length numbers
directive_size at (directive.Bytes numbers) = length numbers
directive_size at (directive.Ascii bytes) = length bytes
directive_size at (directive.Global names) = 0

-- the number of bytes of a statement at an address
unfoldable pub size : ℕ → BodyValue → ℕ
size at (body.Label name) = 0
size at (body.LocalLabel digits) = 0
size at (body.Instruction i) = 4
size at (body.Pseudo p) = pseudo_size p
size at (body.Directive d) = directive_size at d

-- the next address in a section
abbrev pub address_in : Section → Cursor → ℕ
address_in sections.Text c = c.text_at
address_in sections.Data c = c.data_at
address_in sections.Zeros c = c.zeros_at

-- the address of the next statement
unfoldable pub cursor_address : Cursor → ℕ
cursor_address c = address_in c.section c

-- the cursor after this many bytes in a section
abbrev pub advanced : Section → Cursor → ℕ → Cursor
advanced sections.Text c n = record c { text_at = c.text_at + n }
advanced sections.Data c n = record c { data_at = c.data_at + n }
advanced sections.Zeros c n = record c { zeros_at = c.zeros_at + n }

-- the section to which a statement changes
unfoldable pub section_of : BodyValue → Option Section
section_of (body.Directive (directive.Section section)) = Some section
section_of b = None

-- the cursor in another section, or after a statement
abbrev pub switched : Option Section → Cursor → BodyValue → Cursor
switched (Some section) c b = record c { section = section }
switched None c b = advanced c.section c (size (cursor_address c) b)

-- the cursor after a statement
unfoldable pub stepped_cursor : Cursor → BodyValue → Cursor
stepped_cursor c b = switched (section_of b) c b

-- the cursor after all statements
unfoldable pub cursor_after : Cursor → List StatementValue → Cursor
cursor_after c [] = c
cursor_after c (s ∷ ss) = cursor_after (stepped_cursor c s.body) ss

-- addresses that this many statements can reach
unfoldable pub CursorIsWithin : ℕ → Cursor → Type 0
CursorIsWithin count c =
    (c.text_at ≤ (count + 1) * 2 ^ 64) × (c.data_at ≤ (count + 1) * 2 ^ 64) ×
    (c.zeros_at ≤ (count + 1) * 2 ^ 64)
