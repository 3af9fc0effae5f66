-- The head line of a trace.
use Rattle.std.specs.Prelude.{ℕ, zero, suc, ◌+◌, List, [], ◌∷◌, ◌++◌, codes, decimal, map, Option}
use Rattle.json.specs.Print.{quoted}
use Rattle.trace_text.specs.Composites.{member, object, array}
use Rattle.trace_text.specs.Scalars.{number_or_null}
use Rattle.elf_read.specs.Symbol.{SymbolValue}
use Rattle.elf_read.specs.declared.symbol.SymbolKind.{SymbolKind}
use Rattle.elf_read.specs.declared.symbol.SymbolKind.TheVariants as kinds
use Rattle.elf_read.specs.declared.symbol.SymbolPlace.{SymbolPlace}
use Rattle.elf_read.specs.declared.symbol.SymbolPlace.TheVariants as places
use Rattle.hart_step.specs.Hart.{HartValue, Registers, hart_of}
use Rattle.trace_text.specs.Values.{end_value}
use Rattle.trace_text.specs.declared.head.HartThen.{HartThen}
use Rattle.trace_text.specs.declared.head.Span.{Span}

-- so many registers from register r on, each behind a comma, and the closing bracket
unfoldable pub head_registers : Registers → ℕ → ℕ → List ℕ
head_registers x r zero = 93 ∷ []
head_registers x r (suc count) = 44 ∷ (decimal (x r) ++ head_registers x (r + 1) count)

-- the values of x0 to x31
unfoldable pub registers_value : Registers → List ℕ
registers_value x = 91 ∷ (decimal (x 0) ++ head_registers x 1 31)

-- a hart, and the address of the word that it has reserved
abbrev pub then_of : HartThen → HartValue × Option ℕ
then_of h = (hart_of h.hart, h.reserved)

-- a hart as it is before the first choice that is told
unfoldable pub hart_object : HartValue × Option ℕ → List ℕ
hart_object h = object (
    member (codes "pc") (decimal h.0.pc)
    ∷ member (codes "registers") (registers_value h.0.registers)
    ∷ member (codes "reserved") (number_or_null h.1)
    ∷ member (codes "end") (end_value h.0.state)
    ∷ [])

-- the member of what a symbol names behind others, if its table says it
unfoldable pub kind_part : SymbolKind → List ℕ
kind_part kinds.Unsaid = []
kind_part kinds.Object = codes ",\"kind\":\"object\""
kind_part kinds.Function = codes ",\"kind\":\"function\""
kind_part kinds.Section = codes ",\"kind\":\"section\""
kind_part kinds.File = codes ",\"kind\":\"file\""
kind_part kinds.Other = codes ",\"kind\":\"other\""

-- the member of an absolute value behind others
unfoldable pub place_part : SymbolPlace → List ℕ
place_part places.Absolute = codes ",\"absolute\":true"
place_part places.Elsewhere = []

-- the opening brace, and a symbol's name and address
unfoldable pub symbol_front : SymbolValue → List ℕ
symbol_front s = 123 ∷ (member (codes "name") (quoted s.name) ++ 44 ∷ member (codes "address") (decimal s.address))

-- a symbol: an object
unfoldable pub symbol_object : SymbolValue → List ℕ
symbol_object s = symbol_front s ++ (kind_part s.kind ++ (place_part s.place ++ 125 ∷ []))

-- what stands before the lines of choices: an object
unfoldable pub head_object : ℕ → List ℕ → Span → List SymbolValue → List (HartValue × Option ℕ) → List ℕ
head_object entry inputs span symbols harts = object (
    member (codes "trace") (codes "1")
    ∷ member (codes "entry") (decimal entry)
    ∷ member (codes "inputs") (array (map decimal inputs))
    ∷ member (codes "from") (decimal span.from)
    ∷ member (codes "to") (decimal span.to)
    ∷ member (codes "symbols") (array (map symbol_object symbols))
    ∷ member (codes "harts") (array (map hart_object harts))
    ∷ [])

-- the same, with LF behind it
unfoldable pub head_line : ℕ → List ℕ → Span → List SymbolValue → List (HartValue × Option ℕ) → List ℕ
head_line entry inputs span symbols harts = head_object entry inputs span symbols harts ++ 10 ∷ []
