-- Words in memory: a load depends on its word alone, and a store changes its word alone.
use Rattle.std.proofs.Common.{◌≡◌, ℕ, zero, suc, ◌+◌, ◌-◌, ◌*◌, ◌/◌, ◌%◌, ◌^◌, ◌<◌, ◌≤◌, Bool, true, false, ◌&&◌, ◌==◌, [], ◌∷◌, Option, Some, None, refl, ap, ap₂, sym, ◌∙◌, arith, inl, inr, ⊎_elim}
use Rattle.std.specs.Prelude.{if◌then◌else◌, slice_index, nat_le, nat_lt, ◌⊎◌}
use Rattle.std.proofs.lemmas.Bool.{eq-eqb, ne_eqb, cases_eq, cases_lt, and_parts, and_from, and_left, and_right, leb-true, ltb-true, lt-leb, le-ltb, le-leb, lt-ltb}
use Rattle.mem_store.specs.Memory.{little_endian, number_at, stored, granted, around, to_execute}
use Rattle.mem_store.specs.Access.{fetched}
use Rattle.hart_reservations.specs.Marks.{word_of}
use Rattle.bank_laws.specs.Words.{bytes_at, with_four}

-- the four bytes from an address on are the same
abbrev pub SameFour : (ℕ → ℕ) → (ℕ → ℕ) → ℕ → Type 0
SameFour b d x = (i : ℕ) → i < 4 → b (x + i) ≡ d (x + i)

pub index_at : (b : ℕ → ℕ) (x i : ℕ) → i < 4 → slice_index (bytes_at b x) i ≡ b (x + i)
index_at b x zero low = ap b (omega arith)
index_at b x (suc zero) low = refl
index_at b x (suc (suc zero)) low = refl
index_at b x (suc (suc (suc zero))) low = refl
index_at b x (suc (suc (suc (suc i)))) low = absurd (omega (arith, low))

index_from : (b : ℕ → ℕ) (x a : ℕ) → x ≤ a → a < x + 4 → slice_index (bytes_at b x) (a - x) ≡ b a
index_from b x a low high = index_at b x (a - x) (omega (arith, low, high)) ∙ ap b (omega (arith, low))

-- a word put back where it was
pub put_back : (b d : ℕ → ℕ) (x a : ℕ) → b a ≡ d a → b a ≡ with_four d x (bytes_at b x) a
put_back b d x a same = go (nat_le x a && nat_lt a (x + 4)) refl
  where
    go : (t : Bool) → (nat_le x a && nat_lt a (x + 4)) ≡ t → b a ≡ (if t then slice_index (bytes_at b x) (a - x) else d a)
    go true e = let both = and_parts (nat_le x a) (nat_lt a (x + 4)) e in sym (index_from b x a (leb-true x a both.0) (ltb-true a (x + 4) both.1))
    go false e = same

pub put_there : (b d : ℕ → ℕ) (x : ℕ) → SameFour b (with_four d x (bytes_at b x)) x
put_there b d x i low = sym (rw (and_from (nat_le x (x + i)) (nat_lt (x + i) (x + 4)) (le-leb x (x + i) (omega arith)) (lt-ltb (x + i) (x + 4) (omega (arith, low)))) (index_from b x (x + i) (omega arith) (omega (arith, low))))

number_same : (n : ℕ) (f g : ℕ → ℕ) → ((k : ℕ) → k < n → f k ≡ g k) → little_endian n f ≡ little_endian n g
number_same zero f g e = refl
number_same (suc n) f g e = ap₂ (λ (low high : ℕ). low + high * 256 ^ n) (number_same n f g (λ k below. e k (omega (arith, below)))) (e n (omega arith))

-- a load depends on its word alone
pub number_in_word : (b d : ℕ → ℕ) (n a : ℕ) → a % 4 + n ≤ 4 → SameFour b d (word_of a) → number_at b n a ≡ number_at d n a
number_in_word b d n a fits same =
    number_same n (λ k. b (a + k)) (λ k. d (a + k))
    (λ k below. let there : word_of a + (a % 4 + k) ≡ a + k = omega arith in
    ap b (sym there) ∙ same (a % 4 + k) (omega (arith, below, fits)) ∙ ap d there)

-- the bytes at addresses modulo 2^32
abbrev pub wrapped : (ℕ → ℕ) → ℕ → ℕ
wrapped b a = b (a % 2 ^ 32)

-- the instruction at an address is that of its four bytes
pub fetched_same : (g : ℕ → Option ℕ) (b d : ℕ → ℕ) (pc : ℕ)
    → (granted to_execute (around (record { rights = g; bytes = b })) 4 pc ≡ true → SameFour (wrapped b) (wrapped d) pc)
    → fetched (record { rights = g; bytes = b }) pc ≡ fetched (record { rights = g; bytes = d }) pc
fetched_same g b d pc same = go (granted to_execute (around (record { rights = g; bytes = b })) 4 pc) refl
  where
    go : (t : Bool) → granted to_execute (around (record { rights = g; bytes = b })) 4 pc ≡ t
        → (if t then Some (number_at (wrapped b) 4 pc) else None) ≡ (if t then Some (number_at (wrapped d) 4 pc) else None)
    go true e = ap Some (number_same 4 (λ k. wrapped b (pc + k)) (λ k. wrapped d (pc + k)) (same e))
    go false e = refl

four : {a b c d a' b' c' d' : ℕ} → a ≡ a' → b ≡ b' → c ≡ c' → d ≡ d' → a ∷ b ∷ c ∷ d ∷ [] ≡ a' ∷ b' ∷ c' ∷ d' ∷ []
four p q r s = λ i. p i ∷ q i ∷ r i ∷ s i ∷ []

-- the bytes at an address are the same, byte by byte
pub bytes_same : (b d : ℕ → ℕ) (x : ℕ) → SameFour b d x → bytes_at b x ≡ bytes_at d x
bytes_same b d x e = four (ap b (omega arith) ∙ e 0 (omega arith) ∙ ap d (omega arith)) (e 1 (omega arith)) (e 2 (omega arith)) (e 3 (omega arith))

-- words that begin at multiples of 4 are the same or apart
words_apart : (x y i : ℕ) → x % 4 ≡ 0 → y % 4 ≡ 0 → (y ≡ x → ⊥) → i < 4 → (y + i < x) ⊎ (x + 4 ≤ y + i)
words_apart x y i ax ay n low = ⊎_elim (λ (l : y < x). inl (omega (arith, l, ax, ay, low))) (λ (l : x ≤ y). inr (near l)) (cases_lt y x)
  where
    near : x ≤ y → x + 4 ≤ y + i
    near l = ⊎_elim (λ (m : x < y). omega (arith, m, ax, ay)) (λ (m : y ≤ x). absurd (n (omega (arith, l, m)))) (cases_lt x y)

stored_inside : (n a v : ℕ) (b d : ℕ → ℕ) (z : ℕ) → b z ≡ d z → stored n a v b z ≡ stored n a v d z
stored_inside n a v b d z e = ap (λ (o : ℕ). if nat_le a z && nat_lt z (a + n) then v / 256 ^ (z - a) % 256 else o) e

stored_outside : (n a v : ℕ) (b : ℕ → ℕ) (z : ℕ) → (z < a) ⊎ (a + n ≤ z) → stored n a v b z ≡ b z
stored_outside n a v b z (inl l) = rw (and_left (nat_le a z) (nat_lt z (a + n)) (lt-leb a z l)) refl
stored_outside n a v b z (inr l) = rw (and_right (nat_le a z) (nat_lt z (a + n)) (le-ltb z (a + n) l)) refl

-- a store changes its word alone, by that word's bytes
pub store_in_word : (n a v y : ℕ) (b d : ℕ → ℕ) → a % 4 + n ≤ 4 → y % 4 ≡ 0 → SameFour b d (word_of a)
    → bytes_at (stored n a v b) y ≡ (if y == word_of a then bytes_at (stored n a v d) (word_of a) else bytes_at b y)
store_in_word n a v y b d fits ay same =
    ⊎_elim
    (λ (e : y ≡ word_of a). rw (eq-eqb y (word_of a) e) (ap (bytes_at (stored n a v b)) e
    ∙ bytes_same (stored n a v b) (stored n a v d) (word_of a) (λ i low. stored_inside n a v b d (word_of a + i) (same i low))))
    (λ (ne : y ≡ word_of a → ⊥). rw (ne_eqb y (word_of a) ne)
    (bytes_same (stored n a v b) b y (λ i low. stored_outside n a v b (y + i)
    (⊎_elim (λ (l : y + i < word_of a). inl (omega (arith, l))) (λ (l : word_of a + 4 ≤ y + i). inr (omega (arith, l, fits))) (words_apart (word_of a) y i (omega arith) ay ne low)))))
    (cases_eq y (word_of a))
