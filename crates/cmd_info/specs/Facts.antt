-- The facts of a file as an object of JSON.
use Rattle.std.specs.Prelude.{◌≡◌, ℕ, List, [], ◌∷◌, ◌++◌, codes, decimal, map, Option, Some, None}
use Rattle.std.specs.declared.result.Result.TheVariants.{Ok, Err}
use Rattle.image.specs.Image.{ImageValue}
use Rattle.image.specs.Segment.{SegmentValue}
use Rattle.elf_read.specs.Symbol.{SymbolValue}
use Rattle.elf_read.specs.SymbolTable.{Symbols, symbols_of}
use Rattle.elf_read.specs.declared.symbol.SymFault.TheVariants as symbols
use Rattle.json.specs.Print.{quoted}
use Rattle.object_library.specs.declared.kind.Kind.{Kind}
use Rattle.object_library.specs.Names.{object_name}
use Rattle.program_open.specs.Program.{program_of}
use Rattle.program_open.specs.declared.program.ProgramForm.TheVariants as form
use Rattle.trace_text.specs.Composites.{array, member, object}
use Rattle.trace_text.specs.Values.{name_value}
use Rattle.cmd_run.specs.Info.{rights_text, AreShown, NamesLibrary}
use Rattle.cmd_run.specs.declared.info.SymbolOrder.{SymbolOrder}

-- a segment: its base, its size in bytes and its rights
unfoldable pub segment_object : SegmentValue → List ℕ
segment_object s = object (
    member (codes "base") (decimal s.base)
    ∷ member (codes "size") (decimal s.size)
    ∷ member (codes "rights") (name_value (rights_text s.rights))
    ∷ [])

-- a symbol: its name and its address
unfoldable pub symbol_shown : SymbolValue → List ℕ
symbol_shown s = object (
    member (codes "name") (quoted s.name)
    ∷ member (codes "address") (decimal s.address)
    ∷ [])

-- the symbols; none if there is no table, and `null` if it is invalid
unfoldable pub symbols_value : Symbols → List ℕ
symbols_value (Ok symbols) = array (map symbol_shown symbols)
symbols_value (Err symbols.NoTable) = array []
symbols_value (Err symbols.BadTable) = codes "null"
symbols_value (Err symbols.Memory) = []

-- the name of a kind, or `null`
unfoldable pub library_value : Option Kind → List ℕ
library_value None = codes "null"
library_value (Some kind) = name_value (object_name kind)

-- the facts of an image with these symbols, given the kind of object that it is, on a line of its
-- own
unfoldable pub facts_object : ImageValue → Symbols → Option Kind → List ℕ
facts_object image symbols library = object (
    member (codes "entry") (decimal image.entry)
    ∷ member (codes "segments") (array (map segment_object image.segments))
    ∷ member (codes "symbols") (symbols_value symbols)
    ∷ member (codes "library") (library_value library)
    ∷ []) ++ 10 ∷ []

-- a text is the facts of an image with these symbols in an order
pub record ShowsObject (order : SymbolOrder) (image : ImageValue) (symbols : Symbols) (text : List ℕ) : Type 0 where
  pub library : Option Kind
  pub named : NamesLibrary image library
  pub shown : Symbols
  pub arranged : AreShown order symbols shown
  pub text_is : text ≡ facts_object image shown library

-- a file loads, and the text is its facts
pub record ShowsFileObject (order : SymbolOrder) (bytes text : List ℕ) : Type 0 where
  pub image : ImageValue
  pub loads : program_of form.Elf bytes ≡ Ok image
  pub shows : ShowsObject order image (symbols_of bytes) text
