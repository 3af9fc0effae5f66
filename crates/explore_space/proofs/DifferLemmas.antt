-- Different keys stand for different places.
use Rattle.std.proofs.Common.{◌≡◌, ℕ, zero, suc, ◌/◌, ◌%◌, ◌<◌, ◌≤◌, ◌==◌, List, length, Option, refl, ap, sym, ◌∙◌, subst, arith, inl, inr}
use Rattle.std.proofs.lemmas.Bool.{cases_order}
use Rattle.std.proofs.lemmas.List.{ext_get_or, get_or-take}
use Rattle.std.proofs.lemmas.Option.{same_Some, get_or_from_slice_get}
use Rattle.std.specs.List.{AllPairs, slice_get, slice_index, slice_index_or}
use Rattle.image.specs.Image.{ImageValue}
use Rattle.hart_step.specs.Hart.{hart_of}
use Rattle.hart_step.specs.declared.hart.Hart.{Hart}
use Rattle.bank_laws.specs.Words.{bytes_at}
use Rattle.explore_table.proofs.ListLemmas.{get_there}
use Rattle.explore_laws.specs.Places.{Place}
use Rattle.explore_search.specs.Searched.{KeysDiffer}
use Rattle.explore_sites.specs.Cells.{words_shown}
use Rattle.explore_space.specs.Places.{chosen_worded, hart_in, hart_numbered, hart_worded, cells_in, marks_in, place_of_key, AreUnlike, HartsDiffer, IsKey}
use Rattle.explore_space.specs.declared.shared.Shared.{Shared}
use Rattle.explore_space.proofs.KeyLemmas.{hart_at, word_at}
use Rattle.explore_space.specs.Habits.{Habits}

-- numbers are equal where neither order can be
same_number : (a b : ℕ) → (a < b → ⊥) → (b < a → ⊥) → a ≡ b
same_number a b not_less not_more = elim (cases_order a b) [
  | inl same ↦ same
  | inr apart ↦ absurd (elim apart [ inl less ↦ not_less less | inr more ↦ not_more more ])
]

-- ---- harts
other_hart : (harts : List Hart) → HartsDiffer harts → (a b : ℕ) → a < b → b < length harts
    → hart_numbered harts a ≡ hart_numbered harts b → ⊥
other_hart harts differ a b low inside same =
    let x = get_there harts a (omega (arith, low, inside)) in
    let y = get_there harts b inside in
    differ a b x.0 low inside
    (ap hart_of (get_or_from_slice_get harts a x.0 x.0 x.1) ∙ sym (ap hart_in x.1) ∙ same ∙ ap hart_in y.1
    ∙ sym (ap hart_of (get_or_from_slice_get harts b y.0 x.0 y.1)))

same_hart : (harts : List Hart) → HartsDiffer harts → (a b : ℕ) → a < length harts → b < length harts
    → hart_numbered harts a ≡ hart_numbered harts b → a ≡ b
same_hart harts differ a b a_in b_in same =
    same_number a b (λ less. other_hart harts differ a b less b_in same) (λ more. other_hart harts differ b a more a_in (sym same))

-- ---- what they share
module _ {Z : Type 0} (image : ImageValue) (shareds : List (Shared Z)) (differ : AllPairs (AreUnlike image) shareds) where
  -- reservations and words of a number
  abbrev shown : ℕ → ℕ → List ℕ
  shown a x = words_shown image (cells_in (slice_get shareds a)) x

  other_shared : (a b : ℕ) → a < b → b < length shareds → marks_in (slice_get shareds a) ≡ marks_in (slice_get shareds b)
      → ((x : ℕ) → x % 4 ≡ 0 → shown a x ≡ shown b x) → ⊥
  other_shared a b low inside marks words =
      let x = get_there shareds a (omega (arith, low, inside)) in
      let y = get_there shareds b inside in
      let unlike : AreUnlike image x.0 y.0
      = subst (λ (s : Shared Z). AreUnlike image s y.0) (get_or_from_slice_get shareds a x.0 x.0 x.1)
      (subst (λ (s : Shared Z). AreUnlike image (slice_index_or shareds a x.0) s) (get_or_from_slice_get shareds b y.0 x.0 y.1)
      (differ a b x.0 low inside)) in
      let word = unlike (sym (ap marks_in x.1) ∙ marks ∙ ap marks_in y.1) in
      word.differs (sym (ap (λ (o : Option (Shared Z)). words_shown image (cells_in o) word.address) x.1) ∙ words word.address word.is_word
      ∙ ap (λ (o : Option (Shared Z)). words_shown image (cells_in o) word.address) y.1)

  same_shared : (a b : ℕ) → a < length shareds → b < length shareds → marks_in (slice_get shareds a) ≡ marks_in (slice_get shareds b)
      → ((x : ℕ) → x % 4 ≡ 0 → shown a x ≡ shown b x) → a ≡ b
  same_shared a b a_in b_in marks words =
      same_number a b (λ less. other_shared a b less b_in marks words)
      (λ more. other_shared b a more a_in (sym marks) (λ x at. sym (words x at)))

-- ---- words
same_bit : (a b : ℕ) → a ≤ 1 → b ≤ 1 → (a == 1) ≡ (b == 1) → a ≡ b
same_bit zero zero a_low b_low same = refl
same_bit zero (suc zero) a_low b_low same = absurd (cc)
same_bit (suc zero) zero a_low b_low same = absurd (cc)
same_bit (suc zero) (suc zero) a_low b_low same = refl
same_bit (suc (suc a)) b a_low b_low same = absurd (omega (arith, a_low))
same_bit zero (suc (suc b)) a_low b_low same = absurd (omega (arith, b_low))
same_bit (suc zero) (suc (suc b)) a_low b_low same = absurd (omega (arith, b_low))

-- a word is told by its half, and by whether it is odd
same_word : (a b : ℕ) → a / 2 ≡ b / 2 → chosen_worded a ≡ chosen_worded b → a ≡ b
same_word a b half odd = let rest = same_bit (a % 2) (b % 2) (omega arith) (omega arith) odd in omega (arith, half, rest)

-- ---- keys
module _ {Z : Type 0} (habits : Habits) (image : ImageValue) (n : ℕ) (harts : List Hart) (shareds : List (Shared Z)) where
  abbrev place : List ℕ → Place
  place = place_of_key habits image n harts shareds

  abbrev Key : List ℕ → Type 0
  Key = IsKey image n harts shareds

  module _ (k l : List ℕ) (is_k : Key k) (is_l : Key l) (same : place k ≡ place l) where
    hart_same : (i : ℕ) → i < n → slice_index k i / 2 ≡ slice_index l i / 2
    hart_same i low =
        same_hart harts is_k.once.0 (slice_index k i / 2) (slice_index l i / 2)
        (is_k.harts i (slice_index k i) (word_at image n harts shareds k is_k i low))
        (is_l.harts i (slice_index l i) (word_at image n harts shareds l is_l i low))
        (same_Some (hart_worded harts (slice_index k i)) (hart_worded harts (slice_index l i))
        (sym (hart_at image n harts shareds k is_k i low) ∙ ap (λ (p : Place). slice_get p.world.harts i) same
        ∙ hart_at image n harts shareds l is_l i low))

    chosen_same : (i : ℕ) → i < n → chosen_worded (slice_index k i) ≡ chosen_worded (slice_index l i)
    chosen_same i low = ap chosen_worded (sym (get_or-take n k i 0 low)) ∙ ap (λ (p : Place). p.chosen i) same
        ∙ ap chosen_worded (get_or-take n l i 0 low)

    shared_same : slice_index k n ≡ slice_index l n
    shared_same = same_shared image shareds is_k.once.1.0 (slice_index k n) (slice_index l n) is_k.shared is_l.shared
        (ap (λ (p : Place). p.world.reserved) same)
        (λ x at. is_k.words x at ∙ ap (λ (p : Place). bytes_at p.world.memory.bytes x) same ∙ sym (is_l.words x at))

    each : (i : ℕ) → i < length k → slice_index k i ≡ slice_index l i
    each i inside = elim (cases_order i n) [
      | inl here ↦ ap (slice_index k) here ∙ shared_same ∙ ap (slice_index l) (sym here)
      | inr apart ↦ elim apart [
        | inl low ↦ same_word (slice_index k i) (slice_index l i) (hart_same i low) (chosen_same i low)
        | inr past ↦ absurd (let len = is_k.len in omega (arith, len, inside, past))
      ]
    ]

  pub keys_differ : KeysDiffer Key place
  keys_differ k l is_k is_l same = ext_get_or 0 k l (is_k.len ∙ sym is_l.len) (each k l is_k is_l same)
