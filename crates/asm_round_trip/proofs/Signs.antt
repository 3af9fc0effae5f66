-- Printed numbers give the values that they were printed for.
use Rattle.std.proofs.Common.{◌≡◌, ℕ, ◌+◌, ◌-◌, ◌%◌, ◌^◌, ◌<◌, ◌≤◌, true, false, Ok, Option, refl, ap, ◌∙◌, arith, nat_lt, inl, inr}
use Rattle.std.specs.Prelude.{ℤ, pos, negsuc}
use Rattle.std.proofs.lemmas.Bool.Decides.{nat_tests}
use Rattle.isa_table.specs.Ranges.{IsSignedWord}
use Rattle.isa_table.specs.Signed.{signed_of}
use Rattle.asm_statement.specs.declared.operand.Target.TheVariants as targets
use Rattle.asm_assemble.specs.Program.{SymbolList}
use Rattle.asm_assemble.specs.Numbers.{as_word, is_in_range, number12, number20, amount_of, distance, is_signed_word, offset_of}
use Rattle.asm_assemble.specs.Operands.{operand_target}
use Rattle.asm_assemble.specs.Instructions.{offset_to}

pub is_below : (a b : ℕ) → a < b → nat_lt a b ≡ true
is_below a b lt = grind (arith, nat_tests)

pub not_below : (a b : ℕ) → b ≤ a → nat_lt a b ≡ false
not_below a b le = grind (arith, nat_tests)

-- a number of twelve signed bits
abbrev pub IsSmall : ℤ → Type 0
IsSmall (pos n) = n < 2048
IsSmall (negsuc n) = n < 2048

-- what is printed of a signed word gives the word again
pub record IsPrinted (w : ℕ) (z : ℤ) : Type 0 where
  pub small : IsSmall z
  pub same : number12 z ≡ Ok w

from_positive : (w : ℕ) → w < 2048 → number12 (pos w) ≡ Ok w
unfolding number12 is_in_range as_word
from_positive w lt = let e : w % 2 ^ 32 ≡ w = omega arith in rw (is_below w 2048 lt, e) refl

from_negative : (w : ℕ) → 2 ^ 32 - 2048 ≤ w → w < 2 ^ 32 → number12 (negsuc (2 ^ 32 - 1 - w)) ≡ Ok w
unfolding number12 is_in_range as_word
from_negative w low high =
    let e : 2 ^ 32 - 1 - (2 ^ 32 - 1 - w) % 2 ^ 32 ≡ w = omega arith in
    rw (is_below (2 ^ 32 - 1 - w) 2048 (omega arith), e) refl

negative : (w : ℕ) → 2 ^ 31 ≤ w → w < 2 ^ 32 → signed_of w ≡ negsuc (2 ^ 32 - 1 - w)
negative w low high = rw (not_below w (2 ^ 31) low, is_below w (2 ^ 32) high) (ap negsuc (omega arith))

pub printed : (w : ℕ) → IsSignedWord 12 w → IsPrinted w (signed_of w)
printed w (inl lt) =
    let e : signed_of w ≡ pos w = rw (is_below w (2 ^ 31) (omega arith)) refl in
    rw e (record { small = lt; same = from_positive w lt })
printed w (inr h) =
    rw (negative w (omega (arith, h.0)) h.1) (record { small = omega (arith, h.0, h.1); same = from_negative w h.0 h.1 })

pub upper_number : (k : ℕ) → k < 2 ^ 20 → number20 (pos k) ≡ Ok k
unfolding number20 is_in_range as_word
upper_number k lt = let e : k % 2 ^ 32 ≡ k = omega arith in rw (is_below k 1048576 lt, e) refl

pub amount_number : (k : ℕ) → k < 2 ^ 5 → amount_of (pos k) ≡ Ok k
unfolding amount_of is_in_range as_word
amount_number k lt = let e : k % 2 ^ 32 ≡ k = omega arith in rw (is_below k 32 lt, e) refl

-- an offset that is added, and taken away again
offset_back : (at offset : ℕ) → at < 2 ^ 32 → offset < 2 ^ 32 → distance at ((at + offset) % 2 ^ 32 % 2 ^ 32) ≡ offset
unfolding distance
offset_back at offset a o = omega arith

signed_word : (width w : ℕ) → IsSignedWord width w → is_signed_word width w ≡ true
signed_word width w (inl lt) = rw (is_below w (2 ^ (width - 1)) lt) refl
signed_word width w (inr h) = grind (arith, nat_tests, h)

in_reach : (width offset : ℕ) → IsSignedWord width offset → offset % 2 ≡ 0 → offset_of width offset ≡ Ok offset
unfolding offset_of
in_reach width offset signed even = rw (signed_word width offset signed, even) refl

-- a target is valued as the offset that it was printed for
pub target_back : (width at offset : ℕ) → at < 2 ^ 32 → offset < 2 ^ 32 → IsSignedWord width offset → offset % 2 ≡ 0
    → (symbols : SymbolList) (local : Option ℕ) → offset_to width symbols local at (targets.Address (pos ((at + offset) % 2 ^ 32))) ≡ Ok offset
unfolding offset_to operand_target as_word
target_back width at offset a o signed even symbols local = ap (offset_of width) (offset_back at offset a o) ∙ in_reach width offset signed even
