-- Numbers, whatever the symbols are, and addresses without symbols.
use Rattle.std.proofs.Common.{refl, ◌≡◌, ℕ, List, [], Option, Some, None, Ok, Err, ap}
use Rattle.elf_read.specs.Symbol.{SymbolValue}
use Rattle.debug_text.specs.Numbers.{read_address}
use Rattle.debug_text.specs.Addresses.{address_meant, named_address, number_or, or_bad}
use Rattle.debug_text.specs.declared.fault.DebugFault.TheVariants.{BadCommand}

pub is_number : (symbols : List SymbolValue) (text : List ℕ) (a : ℕ) → read_address text ≡ Some a
    → address_meant symbols text ≡ Ok a
unfolding address_meant
is_number symbols text a number = ap (λ found. number_or found (named_address symbols text)) number

number_only : (found : Option ℕ) → number_or found (Err BadCommand) ≡ or_bad found
number_only None = refl
number_only (Some a) = refl

pub without_symbols : (text : List ℕ) → address_meant [] text ≡ or_bad (read_address text)
unfolding address_meant
without_symbols text = number_only (read_address text)
