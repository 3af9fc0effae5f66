-- Numbers as hexadecimal digits without leading zeros.
use Rattle.std.proofs.Common.{◌≡◌, ℕ, zero, suc, ◌/◌, ◌%◌, ◌^◌, ◌<◌, ◌≤◌, ◌==◌, nat_lt, Bool, true, false, if◌then◌else◌, List, [], ◌∷◌, ◌++◌, refl, ap, sym, ◌∙◌, append_assoc, arith, eq-eqb, ne_eqb, ltb-true, ltb-false}
use Rattle.std.specs.Fmt.{digits, digits_onto}
use Rattle.gdb_frames.specs.Digits.{hex_digit}
use Rattle.gdb_replies.specs.Digits.{number_text}

abbrev spell : ℕ → ℕ → List ℕ → List ℕ
spell k n acc = digits_onto k 16 false n acc

spelled : (k n : ℕ) (acc : List ℕ) (t : Bool) → (n / 16 == 0) ≡ t
    → spell (suc k) n acc ≡ (if t then hex_digit (n % 16) ∷ acc else spell k (n / 16) (hex_digit (n % 16) ∷ acc))
spelled k n acc t e = ap (λ (b : Bool). if b then hex_digit (n % 16) ∷ acc else spell k (n / 16) (hex_digit (n % 16) ∷ acc)) e

spell_last : (k n : ℕ) (acc : List ℕ) → n < 16 → spell (suc k) n acc ≡ hex_digit n ∷ acc
spell_last k n acc small =
    let same : n % 16 ≡ n = omega arith in
    spelled k n acc true (eq-eqb (n / 16) 0 (omega arith)) ∙ ap (λ d. hex_digit d ∷ acc) same

spell_next : (k n : ℕ) (acc : List ℕ) → 16 ≤ n → spell (suc k) n acc ≡ spell k (n / 16) (hex_digit (n % 16) ∷ acc)
spell_next k n acc large = spelled k n acc false (ne_eqb (n / 16) 0 (λ e. omega arith))

by_size : {P : Type 0} (n : ℕ) (t : Bool) → nat_lt n 16 ≡ t → (n < 16 → P) → (16 ≤ n → P) → P
by_size n true e small large = small (ltb-true n 16 e)
by_size n false e small large = large (ltb-false n 16 e)

spell_front : (k n : ℕ) (acc : List ℕ) → spell k n acc ≡ spell k n [] ++ acc
spell_front zero n acc = refl
spell_front (suc k) n acc =
    by_size n (nat_lt n 16) refl
    (λ s. spell_last k n acc s ∙ ap (λ x. x ++ acc) (sym (spell_last k n [] s)))
    (λ l. spell_next k n acc l ∙ spell_front k (n / 16) (hex_digit (n % 16) ∷ acc)
    ∙ sym (append_assoc (spell k (n / 16) []) (hex_digit (n % 16) ∷ []) acc)
    ∙ ap (λ x. x ++ acc) (sym (spell_next k n [] l ∙ spell_front k (n / 16) (hex_digit (n % 16) ∷ []))))

-- the limit of digits does not matter where it is large enough
spell_enough : (j k n : ℕ) (acc : List ℕ) → n < 16 ^ suc j → n < 16 ^ suc k → spell (suc j) n acc ≡ spell (suc k) n acc
spell_enough zero k n acc p q = spell_last zero n acc (omega arith) ∙ sym (spell_last k n acc (omega arith))
spell_enough (suc j) zero n acc p q = spell_last (suc j) n acc (omega arith) ∙ sym (spell_last zero n acc (omega arith))
spell_enough (suc j) (suc k) n acc p q =
    by_size n (nat_lt n 16) refl
    (λ s. spell_last (suc j) n acc s ∙ sym (spell_last (suc k) n acc s))
    (λ l. spell_next (suc j) n acc l ∙ spell_enough j k (n / 16) (hex_digit (n % 16) ∷ acc) (omega arith) (omega arith)
    ∙ sym (spell_next (suc k) n acc l))

-- a number of one digit
pub number_one : (n : ℕ) → n < 16 → number_text n ≡ hex_digit n ∷ []
unfolding digits
number_one n small = spell_last 63 n [] small

-- a number of more digits: those of its front, and the last one
pub number_more : (n : ℕ) → 16 ≤ n → n < 2 ^ 64 → number_text n ≡ number_text (n / 16) ++ (hex_digit (n % 16) ∷ [])
unfolding digits
number_more n large fits =
    spell_next 63 n [] large
    ∙ spell_enough 62 63 (n / 16) (hex_digit (n % 16) ∷ []) (omega arith) (omega arith)
    ∙ spell_front 64 (n / 16) (hex_digit (n % 16) ∷ [])

-- the last digit behind those of the front
pub pushed_digit : (old front new : List ℕ) (n d : ℕ) → 16 ≤ n → n < 2 ^ 64
    → front ≡ old ++ number_text (n / 16) → new ≡ front ++ (d ∷ []) → d ≡ hex_digit (n % 16)
    → new ≡ old ++ number_text n
pushed_digit old front new n d large fits is_front is_new is_digit =
    is_new ∙ ap (λ l. l ++ (d ∷ [])) is_front ∙ append_assoc old (number_text (n / 16)) (d ∷ [])
    ∙ ap (λ e. old ++ (number_text (n / 16) ++ (e ∷ []))) is_digit
    ∙ ap (λ t. old ++ t) (sym (number_more n large fits))
