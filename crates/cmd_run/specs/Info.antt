-- What is shown of a file: its entry, its segments, its symbols, and which object it is.
use Rattle.std.specs.Prelude.{◌≡◌, ℕ, ◌==◌, List, [], ◌∷◌, ◌++◌, IsPermutation, Vec, Result, Ok, Err, codes, if◌then◌else◌, Option, Some, None}
use Rattle.std.specs.Fmt.{decimal}
use Rattle.std.specs.List.{flat_map}
use Rattle.std.specs.List.Sorted.{IsNonDecreasingBy, IsStableByKey}
use Rattle.std.specs.Ordering.{nat_cmp}
use Rattle.std.specs.Int.RustNames.{bit_and}
use Rattle.image.specs.Image.{ImageValue}
use Rattle.image.specs.Segment.{SegmentValue}
use Rattle.elf_read.specs.Symbol.{SymbolValue}
use Rattle.elf_read.specs.SymbolTable.{Symbols}
use Rattle.elf_read.specs.declared.symbol.SymFault.{SymFault}
use Rattle.elf_read.specs.declared.symbol.SymFault.TheVariants as symbols
use Rattle.isa_names.specs.Digits.{word_text}
use Rattle.object_library.specs.declared.kind.Kind.{Kind}
use Rattle.object_library.specs.Images.{image_of, IsSame}
use Rattle.object_library.specs.Names.{object_name}
use Rattle.cmd_run.specs.declared.info.SymbolOrder.{SymbolOrder}
use Rattle.cmd_run.specs.declared.info.SymbolOrder.TheVariants as order

-- a letter for a right, or a dash if it is missing
abbrev pub right_text : ℕ → ℕ → List ℕ → List ℕ
right_text rights right letter = if bit_and rights right == 0 then codes "-" else letter

-- rights as `rwx`
abbrev pub rights_text : ℕ → List ℕ
rights_text rights = right_text rights 4 (codes "r") ++ (right_text rights 2 (codes "w") ++ right_text rights 1 (codes "x"))

-- a segment's line: its base, its size in bytes and its rights
abbrev pub segment_line : ℕ → ℕ → ℕ → List ℕ
segment_line base size rights =
    codes "segment " ++ (word_text base ++ (codes " " ++ (decimal size ++ (codes " " ++ rights_text rights))))

-- a segment's line with LF
abbrev pub segment_entry : SegmentValue → List ℕ
segment_entry s = segment_line s.base s.size s.rights ++ 10 ∷ []

-- a symbol's line: its address and its name
abbrev pub symbol_line : ℕ → List ℕ → List ℕ
symbol_line address name = codes "symbol " ++ (word_text address ++ (codes " " ++ name))

-- a symbol's line with LF
abbrev pub symbol_entry : SymbolValue → List ℕ
symbol_entry s = symbol_line s.address s.name ++ 10 ∷ []

-- the symbols' lines, or a line with the reason why there are none
abbrev pub symbols_text : Symbols → List ℕ
symbols_text (Ok []) = codes "symbols none" ++ 10 ∷ []
symbols_text (Ok (s ∷ more)) = flat_map symbol_entry (s ∷ more)
symbols_text (Err symbols.NoTable) = codes "symbols none" ++ 10 ∷ []
symbols_text (Err symbols.BadTable) = codes "symbols bad" ++ 10 ∷ []
symbols_text (Err symbols.Memory) = []

-- the same symbols by rising address, those of one address in the order in which they were
pub record IsByAddress (symbols sorted : List SymbolValue) : Type 0 where
  pub same : IsPermutation symbols sorted
  pub rising : IsNonDecreasingBy (λ (s : SymbolValue). s.address) sorted
  pub stable : IsStableByKey (λ (s : SymbolValue). s.address) nat_cmp symbols sorted

-- the symbols in an order
abbrev pub IsArranged : SymbolOrder → List SymbolValue → List SymbolValue → Type 0
IsArranged order.OfFile symbols shown = shown ≡ symbols
IsArranged order.ByAddress symbols shown = IsByAddress symbols shown

-- the symbols of a file in an order, or why it has none
abbrev pub AreShown : SymbolOrder → Symbols → Symbols → Type 0
AreShown order (Err why) shown = shown ≡ Err why
AreShown order (Ok symbols) (Err why) = ⊥
AreShown order (Ok symbols) (Ok shown) = IsArranged order symbols shown

-- what was found of a file's symbols
abbrev pub symbols_found : {Z : Type 0} → Result (Vec SymbolValue Z) SymFault → Symbols
symbols_found (Ok symbols) = Ok symbols.items
symbols_found (Err why) = Err why

-- an image is the object of a kind, or of none
abbrev pub NamesLibrary : ImageValue → Option Kind → Type 0
NamesLibrary image (Some kind) = IsSame image (image_of kind)
NamesLibrary image None = (kind : Kind) → IsSame image (image_of kind) → ⊥

-- the name of a kind, or `none`
abbrev pub library_name : Option Kind → List ℕ
library_name None = codes "none"
library_name (Some kind) = object_name kind

-- the facts of an image with these symbols, given the kind of object that it is
unfoldable pub info_of : ImageValue → Symbols → Option Kind → List ℕ
info_of image symbols library =
    codes "entry " ++ (word_text image.entry ++ 10 ∷ (flat_map segment_entry image.segments
    ++ (symbols_text symbols ++ (codes "library " ++ (library_name library ++ 10 ∷ [])))))

-- a text is the facts of an image with these symbols in an order
pub record ShowsFacts (order : SymbolOrder) (image : ImageValue) (symbols : Symbols) (text : List ℕ) : Type 0 where
  pub library : Option Kind
  pub named : NamesLibrary image library
  pub shown : Symbols
  pub arranged : AreShown order symbols shown
  pub text_is : text ≡ info_of image shown library
