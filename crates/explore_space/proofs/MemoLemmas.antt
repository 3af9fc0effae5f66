-- Turns stay where more parts are known, and one more is kept.
use Rattle.std.proofs.Common.{◌≡◌, ℕ, ◌<◌, ◌≤◌, Bool, true, false, if◌then◌else◌, List, [], ◌∷◌, length, Some, refl, ap, sym, ◌∙◌, subst, arith, inl, inr}
use Rattle.std.proofs.lemmas.Option.{slice_get_within}
use Rattle.std.specs.List.{slice_get, slice_index}
use Rattle.image.specs.Image.{ImageValue}
use Rattle.hart_reservations.specs.Marks.{Marks}
use Rattle.hart_step.specs.Hart.{HartValue}
use Rattle.hart_step.specs.declared.hart.Hart.{Hart}
use Rattle.machine.specs.declared.choice.Choice.{Choice}
use Rattle.bank_laws.specs.Banks.{WordBytes}
use Rattle.explore_search.specs.Searched.{GoesOn}
use Rattle.explore_sites.specs.Cells.{words_shown}
use Rattle.explore_space.specs.Habits.{Habits}
use Rattle.explore_space.specs.Memo.{AreThere, AreTurns, HasAnswer, KeepsOne, turn_words}
use Rattle.explore_space.specs.Places.{PartsTurn, Turns, cells_in, hart_in, hart_numbered, marks_in}
use Rattle.explore_space.specs.declared.shared.Shared.{Shared}
use Rattle.explore_space.proofs.KeyLemmas.{longer_get, longer_length}

-- the same turn by equal parts
pub turns_moved : (habits : Habits) (image : ImageValue) (c : Choice) (v a new_v b : HartValue) (values d new_values e : ℕ → WordBytes)
    (marks p new_marks q : Marks) (steps : ℕ) → Turns habits image c v new_v values new_values marks new_marks steps
    → a ≡ v → b ≡ new_v → d ≡ values → e ≡ new_values → p ≡ marks → q ≡ new_marks → Turns habits image c a b d e p q steps
turns_moved habits image c v a new_v b values d new_values e marks p new_marks q steps turns a_is b_is d_is e_is p_is q_is =
    rw a_is (rw b_is (rw d_is (rw e_is (rw p_is (rw q_is turns)))))

-- ---- more parts are known
module _ {Z : Type 0} (habits : Habits) (image : ImageValue) (harts more_harts : List Hart) (shareds more_shareds : List (Shared Z))
    (harts_go : GoesOn harts more_harts) (shareds_go : GoesOn shareds more_shareds) where
  hart_same : (i : ℕ) → i < length harts → hart_numbered more_harts i ≡ hart_numbered harts i
  hart_same i h = ap hart_in (longer_get harts more_harts harts_go i h)

  words_same : (i : ℕ) → i < length shareds
      → words_shown image (cells_in (slice_get more_shareds i)) ≡ words_shown image (cells_in (slice_get shareds i))
  words_same i h = ap (λ o. words_shown image (cells_in o)) (longer_get shareds more_shareds shareds_go i h)

  marks_same : (i : ℕ) → i < length shareds → marks_in (slice_get more_shareds i) ≡ marks_in (slice_get shareds i)
  marks_same i h = ap marks_in (longer_get shareds more_shareds shareds_go i h)

  there_stays : (hart shared : ℕ) → AreThere harts shareds hart shared → AreThere more_harts more_shareds hart shared
  there_stays hart shared there =
      let a = longer_length harts more_harts harts_go in
      let b = longer_length shareds more_shareds shareds_go in omega (arith, a, b, there)

  -- a turn from parts that were known, where it led to parts that are known now
  turn_begins : (c : Choice) (hart shared new_hart new_shared steps : ℕ) → AreThere harts shareds hart shared
      → PartsTurn habits image c harts shareds hart shared more_harts more_shareds new_hart new_shared steps
      → PartsTurn habits image c more_harts more_shareds hart shared more_harts more_shareds new_hart new_shared steps
  turn_begins c hart shared new_hart new_shared steps there turns =
      turns_moved habits image c _ _ _ _ _ _ _ _ _ _ _ _ steps turns (hart_same hart there.0) refl (words_same shared there.1) refl
      (marks_same shared there.1) refl

  turn_stays : (c : Choice) (hart shared new_hart new_shared steps : ℕ) → AreThere harts shareds hart shared
      → AreThere harts shareds new_hart new_shared
      → PartsTurn habits image c harts shareds hart shared harts shareds new_hart new_shared steps
      → PartsTurn habits image c more_harts more_shareds hart shared more_harts more_shareds new_hart new_shared steps
  turn_stays c hart shared new_hart new_shared steps there after turns =
      turns_moved habits image c _ _ _ _ _ _ _ _ _ _ _ _ steps turns (hart_same hart there.0) (hart_same new_hart after.0)
      (words_same shared there.1) (words_same new_shared after.1) (marks_same shared there.1) (marks_same new_shared after.1)

  pub turns_stay : (words afters : List (List ℕ)) → AreTurns habits image harts shareds words afters
      → AreTurns habits image more_harts more_shareds words afters
  turns_stay words afters are = record {
    each = λ at hart shared c new_hart new_shared steps kept.
        (let told = are.each at hart shared c new_hart new_shared steps kept in (
          there_stays hart shared told.0,
          there_stays new_hart new_shared told.1,
          turn_stays c hart shared new_hart new_shared steps told.0 told.1 told.2,
        ));
  }

-- ---- nothing is kept
pub no_turns : {Z : Type 0} (habits : Habits) (image : ImageValue) (harts : List Hart) (shareds : List (Shared Z)) (keys answers : List (List ℕ))
    → length keys ≡ 0 → AreTurns habits image harts shareds keys answers
no_turns habits image harts shareds keys answers none = record {
  each = λ at hart shared c new_hart new_shared steps kept.
      absurd (let there = slice_get_within keys at _ kept.0 in omega (arith, there, none));
}

-- ---- one turn more
abbrev word_of_bool : Bool → ℕ
word_of_bool b = if b then 1 else 0

same_bool : (a b : Bool) → word_of_bool a ≡ word_of_bool b → a ≡ b
same_bool true true e = refl
same_bool false false e = refl
same_bool true false e = absurd (omega (arith, e))
same_bool false true e = absurd (omega (arith, e))

same_turn : (hart other_hart shared other_shared : ℕ) (c d : Choice) → turn_words hart shared c ≡ turn_words other_hart other_shared d
    → (hart ≡ other_hart) × (shared ≡ other_shared) × (c ≡ d)
same_turn hart other_hart shared other_shared c d e =
    let harts : c.hart ≡ d.hart = ap (λ (xs : List ℕ). slice_index xs 2) e in
    let refused : c.refuse ≡ d.refuse = same_bool c.refuse d.refuse (ap (λ (xs : List ℕ). slice_index xs 3) e) in (
      ap (λ (xs : List ℕ). slice_index xs 0) e,
      ap (λ (xs : List ℕ). slice_index xs 1) e,
      (λ i. record { hart = harts i; refuse = refused i }),
    )

turns_more : {Z : Type 0} (habits : Habits) (image : ImageValue) (harts : List Hart) (shareds : List (Shared Z))
    (keys answers more_keys more_answers : List (List ℕ)) (hart shared new_hart new_shared steps : ℕ) (c : Choice)
    → AreTurns habits image harts shareds keys answers
    → KeepsOne keys answers more_keys more_answers (turn_words hart shared c) (new_hart ∷ new_shared ∷ steps ∷ [])
    → AreThere harts shareds hart shared → AreThere harts shareds new_hart new_shared
    → PartsTurn habits image c harts shareds hart shared harts shareds new_hart new_shared steps
    → AreTurns habits image harts shareds more_keys more_answers
turns_more habits image harts shareds keys answers more_keys more_answers hart shared new_hart new_shared steps c are keeps there after turns = record {
  each = λ at other_hart other_shared d after_hart after_shared taken kept.
      elim (keeps.each at (turn_words other_hart other_shared d) (after_hart ∷ after_shared ∷ taken ∷ []) kept) [
        | inl old ↦ are.each at other_hart other_shared d after_hart after_shared taken old
        | inr new ↦
            let same = same_turn other_hart hart other_shared shared d c new.0 in
            subst (λ x. Goes x other_shared d after_hart after_shared taken) (sym same.0)
            (subst (λ x. Goes hart x d after_hart after_shared taken) (sym same.1)
            (subst (λ x. Goes hart shared x after_hart after_shared taken) (sym same.2)
            (subst (λ x. Goes hart shared c x after_shared taken) (sym (ap (λ (xs : List ℕ). slice_index xs 0) new.1))
            (subst (λ x. Goes hart shared c new_hart x taken) (sym (ap (λ (xs : List ℕ). slice_index xs 1) new.1))
            (subst (λ x. Goes hart shared c new_hart new_shared x) (sym (ap (λ (xs : List ℕ). slice_index xs 2) new.1)) (there, after, turns))))))
      ];
}
  where
    Goes : ℕ → ℕ → Choice → ℕ → ℕ → ℕ → Type 0
    Goes h s x a b k = AreThere harts shareds h s × AreThere harts shareds a b × PartsTurn habits image x harts shareds h s harts shareds a b k

-- ---- an answer of three words
three_words : (xs : List ℕ) → 3 ≤ length xs → length xs < 4 → xs ≡ slice_index xs 0 ∷ slice_index xs 1 ∷ slice_index xs 2 ∷ []
three_words [] some few = absurd (omega (arith, some, few))
three_words (a ∷ []) some few = absurd (omega (arith, some, few))
three_words (a ∷ b ∷ []) some few = absurd (omega (arith, some, few))
three_words (a ∷ b ∷ d ∷ []) some few = refl
three_words (a ∷ b ∷ d ∷ e ∷ more) some few = absurd (omega (arith, some, few))

pub kept_turn : {Z : Type 0} (habits : Habits) (image : ImageValue) (harts : List Hart) (shareds : List (Shared Z)) (keys answers : List (List ℕ))
    (at hart shared bit : ℕ) (c : Choice) (answer : List ℕ) → AreTurns habits image harts shareds keys answers
    → bit ≡ (if c.refuse then 1 else 0) → HasAnswer keys answers at (hart ∷ shared ∷ c.hart ∷ bit ∷ []) answer
    → 3 ≤ length answer → length answer < 4
    → AreThere harts shareds (slice_index answer 0) (slice_index answer 1)
    × PartsTurn habits image c harts shareds hart shared harts shareds (slice_index answer 0) (slice_index answer 1) (slice_index answer 2)
kept_turn habits image harts shareds keys answers at hart shared bit c answer are bit_is kept some few =
    let told = are.each at hart shared c (slice_index answer 0) (slice_index answer 1) (slice_index answer 2)
    (kept.0 ∙ ap (λ (b : ℕ). Some (hart ∷ shared ∷ c.hart ∷ b ∷ [])) bit_is, kept.1 ∙ ap Some (three_words answer some few)) in
    (told.1, told.2)

-- ---- one more is kept where more parts are known
pub turn_kept : {Z : Type 0} (habits : Habits) (image : ImageValue) (harts more_harts : List Hart) (shareds more_shareds : List (Shared Z))
    → GoesOn harts more_harts → GoesOn shareds more_shareds → (keys answers more_keys more_answers : List (List ℕ))
    (hart shared new_hart new_shared steps bit : ℕ) (c : Choice) → AreTurns habits image harts shareds keys answers
    → KeepsOne keys answers more_keys more_answers (hart ∷ shared ∷ c.hart ∷ bit ∷ []) (new_hart ∷ new_shared ∷ steps ∷ [])
    → bit ≡ (if c.refuse then 1 else 0) → AreThere harts shareds hart shared → AreThere more_harts more_shareds new_hart new_shared
    → PartsTurn habits image c harts shareds hart shared more_harts more_shareds new_hart new_shared steps
    → AreTurns habits image more_harts more_shareds more_keys more_answers
turn_kept habits image harts more_harts shareds more_shareds harts_go shareds_go keys answers more_keys more_answers hart shared new_hart
    new_shared steps bit c are keeps bit_is there after turns =
    turns_more habits image more_harts more_shareds keys answers more_keys more_answers hart shared new_hart new_shared steps c
    (turns_stay habits image harts more_harts shareds more_shareds harts_go shareds_go keys answers are)
    (subst (λ (b : ℕ). KeepsOne keys answers more_keys more_answers (hart ∷ shared ∷ c.hart ∷ b ∷ []) (new_hart ∷ new_shared ∷ steps ∷ []))
    bit_is keeps)
    (there_stays habits image harts more_harts shareds more_shareds harts_go shareds_go hart shared there) after
    (turn_begins habits image harts more_harts shareds more_shareds harts_go shareds_go c hart shared new_hart new_shared steps there turns)
