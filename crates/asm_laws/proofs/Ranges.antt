-- The operands of placed instructions are in the ranges of their formats.
use Rattle.std.proofs.Common.{◌≡◌, ℕ, ◌+◌, ◌-◌, ◌%◌, ◌^◌, ◌<◌, ◌≤◌, ◌⊎◌, ℤ, pos, negsuc, Bool, true, false, cond, Result, Ok, Err, refl, subst, inl, inr, arith}
use Rattle.std.specs.Prelude.{nat_lt, ◌||◌}
use Rattle.std.proofs.lemmas.Bool.{ltb-true, ltb-false}
use Rattle.std.proofs.lemmas.Bool.Decides.{nat_tests}
use Rattle.asm_statement.specs.Answer.{◌>>=◌}
use Rattle.asm_statement.specs.declared.fault.FaultKind.{FaultKind}
use Rattle.asm_statement.specs.declared.operand.Immediate.{Immediate}
use Rattle.asm_statement.specs.declared.operand.Immediate.TheVariants as immediates
use Rattle.asm_statement.specs.declared.operand.Upper.{Upper}
use Rattle.asm_statement.specs.declared.operand.Upper.TheVariants as uppers
use Rattle.isa_table.specs.Ranges.{IsSignedWord}
use Rattle.asm_assemble.specs.Numbers.{as_word, is_in_range, number12, number20, amount_of, hi, lo, is_signed_word}
use Rattle.asm_assemble.specs.Operands.{valued_operand, immediate_of, upper_of}
use Rattle.asm_assemble.specs.Program.{SymbolList}

-- a step that gives a value had one before
pub step_gives : {E X Y : Type 0} (r : Result X E) (next : X → Result Y E) (y : Y) → (r >>= next) ≡ Ok y → (x : X) × (r ≡ Ok x) × (next x ≡ Ok y)
step_gives (Ok x) next y e = (x, refl, e)
step_gives (Err fault) next y e = absurd cc

abbrev good : ℕ → Result ℕ FaultKind
good n = Ok n

same_ok : (x y : ℕ) → good x ≡ good y → x ≡ y
same_ok x y e = cc

-- ---- numbers
between_12 : (n : ℤ) → is_in_range (2 ^ 11) (2 ^ 11) n ≡ true → IsSignedWord 12 (as_word n)
unfolding is_in_range as_word
between_12 (pos n) e = let lt : n < 2 ^ 11 = ltb-true n (2 ^ 11) e in let small : n % 2 ^ 32 < 2 ^ 11 = omega arith in inl small
between_12 (negsuc n) e = let lt : n < 2 ^ 11 = ltb-true n (2 ^ 11) e in
    let high : 2 ^ 32 - 2 ^ 11 ≤ 2 ^ 32 - 1 - n % 2 ^ 32 = omega arith in
    let low : 2 ^ 32 - 1 - n % 2 ^ 32 < 2 ^ 32 = omega arith in inr (high, low)

between_20 : (n : ℤ) → is_in_range 0 (2 ^ 20) n ≡ true → as_word n < 2 ^ 20
unfolding is_in_range as_word
between_20 (pos n) e = let lt : n < 2 ^ 20 = ltb-true n (2 ^ 20) e in omega arith
between_20 (negsuc n) e = let lt : n < 0 = ltb-true n 0 e in absurd (omega arith)

between_5 : (n : ℤ) → is_in_range 0 (2 ^ 5) n ≡ true → as_word n < 2 ^ 5
unfolding is_in_range as_word
between_5 (pos n) e = let lt : n < 2 ^ 5 = ltb-true n (2 ^ 5) e in omega arith
between_5 (negsuc n) e = let lt : n < 0 = ltb-true n 0 e in absurd (omega arith)

-- where a test chooses a value, it held
chosen : (b : Bool) (x y : ℕ) (why : FaultKind) → cond {A = Result ℕ FaultKind} b (Ok x) (Err why) ≡ Ok y → (b ≡ true) × (x ≡ y)
chosen true x y why e = (refl, same_ok x y e)
chosen false x y why e = absurd cc

number_12 : (n : ℤ) (w : ℕ) → number12 n ≡ Ok w → IsSignedWord 12 w
unfolding number12
number_12 n w e = let c = chosen (is_in_range (2 ^ 11) (2 ^ 11) n) (as_word n) w _ e in subst (IsSignedWord 12) c.1 (between_12 n c.0)

number_20 : (n : ℤ) (w : ℕ) → number20 n ≡ Ok w → w < 2 ^ 20
unfolding number20
number_20 n w e = let c = chosen (is_in_range 0 (2 ^ 20) n) (as_word n) w _ e in subst (λ v. v < 2 ^ 20) c.1 (between_20 n c.0)

pub amount_5 : (n : ℤ) (w : ℕ) → amount_of n ≡ Ok w → w < 2 ^ 5
unfolding amount_of
amount_5 n w e = let c = chosen (is_in_range 0 (2 ^ 5) n) (as_word n) w _ e in subst (λ v. v < 2 ^ 5) c.1 (between_5 n c.0)

extended : (b : Bool) (x : ℕ) → x < 2 ^ 12 → nat_lt x (2 ^ 11) ≡ b → IsSignedWord 12 (cond b x (x + (2 ^ 32 - 2 ^ 12)))
extended true x h e = inl (ltb-true x (2 ^ 11) e)
extended false x h e =
    let le : 2 ^ 11 ≤ x = ltb-false x (2 ^ 11) e in
    let high : 2 ^ 32 - 2 ^ 11 ≤ x + (2 ^ 32 - 2 ^ 12) = omega arith in
    let low : x + (2 ^ 32 - 2 ^ 12) < 2 ^ 32 = omega arith in inr (high, low)

pub lo_signed : (v : ℕ) → IsSignedWord 12 (lo v)
unfolding lo
lo_signed v = extended (nat_lt (v % 2 ^ 12) (2 ^ 11)) (v % 2 ^ 12) (omega arith) refl

pub hi_small : (v : ℕ) → hi v < 2 ^ 20
unfolding hi
hi_small v = omega arith

pub immediate_12 : (symbols : SymbolList) (imm : Immediate) (w : ℕ) → immediate_of symbols imm ≡ Ok w → IsSignedWord 12 w
unfolding immediate_of
immediate_12 symbols (immediates.Number n) w e = number_12 n w e
immediate_12 symbols (immediates.Low v) w e = let g = step_gives (valued_operand symbols v) (λ word. Ok (lo word)) w e in subst (IsSignedWord 12) (same_ok (lo g.0) w g.2) (lo_signed g.0)

pub upper_20 : (symbols : SymbolList) (imm : Upper) (w : ℕ) → upper_of symbols imm ≡ Ok w → w < 2 ^ 20
unfolding upper_of
upper_20 symbols (uppers.Number n) w e = number_20 n w e
upper_20 symbols (uppers.High v) w e = let g = step_gives (valued_operand symbols v) (λ word. Ok (hi word)) w e in subst (λ v. v < 2 ^ 20) (same_ok (hi g.0) w g.2) (hi_small g.0)

signed_cases : (a b : Bool) (low high : Type 0) → (a ≡ true → low) → (b ≡ true → high) → (a || b) ≡ true → low ⊎ high
signed_cases true b low high f g e = inl (f refl)
signed_cases false b low high f g e = inr (g e)

pub signed_13 : (w : ℕ) → w < 2 ^ 32 → is_signed_word 13 w ≡ true → IsSignedWord 13 w
signed_13 w h e = grind (arith, nat_tests)

pub signed_21 : (w : ℕ) → w < 2 ^ 32 → is_signed_word 21 w ≡ true → IsSignedWord 21 w
signed_21 w h e = grind (arith, nat_tests)

pub signed_12 : (w : ℕ) → w < 2 ^ 32 → is_signed_word 12 w ≡ true → IsSignedWord 12 w
signed_12 w h e = grind (arith, nat_tests)
