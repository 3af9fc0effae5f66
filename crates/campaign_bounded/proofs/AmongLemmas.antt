-- Elements of lists, one by one.
use Rattle.std.proofs.Common.{◌≡◌, ℕ, zero, suc, ◌+◌, ◌<◌, ◌≤◌, Bool, true, false, List, [], ◌∷◌, ◌++◌, map, length, cond, refl, arith, ap, sym, ◌∙◌, ◌⊎◌, inl, inr, subst}
use Rattle.std.proofs.lemmas.Bool.{true≢false}
use Rattle.std.specs.Prelude.{slice_index_or, IsTrue}
use Rattle.std.specs.List.{Contains, filter, flat_map, range_with_len}

-- x is an element, by cases
abbrev pub Among : {X : Type 0} → List X → X → Type 0
Among [] x = ⊥
Among (y ∷ ys) x = (y ≡ x) ⊎ Among ys x

module _ {X : Type 0} where
  among_at : (xs : List X) (x : X) (k : ℕ) → k < length xs → slice_index_or xs k x ≡ x → Among xs x
  among_at [] x k inside is = absurd (omega (arith, inside))
  among_at (y ∷ ys) x zero inside is = inl is
  among_at (y ∷ ys) x (suc k) inside is = inr (among_at ys x k (omega (arith, inside)) is)

  pub among : (xs : List X) (x : X) → Contains xs x → Among xs x
  among xs x h = among_at xs x h.0 h.1 h.2

  pub contains : (xs : List X) (x : X) → Among xs x → Contains xs x
  contains [] x h = absurd h
  contains (y ∷ ys) x (inl e) = (0, omega arith, e)
  contains (y ∷ ys) x (inr h) = let at = contains ys x h in (suc at.0, omega (arith, at.1), at.2)

  pub among_append : (xs ys : List X) (x : X) → Among (xs ++ ys) x → Among xs x ⊎ Among ys x
  among_append [] ys x h = inr h
  among_append (z ∷ xs) ys x (inl e) = inl (inl e)
  among_append (z ∷ xs) ys x (inr h) = elim (among_append xs ys x h) [ inl a ↦ inl (inr a) | inr b ↦ inr b ]

  pub among_left : (xs ys : List X) (x : X) → Among xs x → Among (xs ++ ys) x
  among_left [] ys x h = absurd h
  among_left (z ∷ xs) ys x (inl e) = inl e
  among_left (z ∷ xs) ys x (inr h) = inr (among_left xs ys x h)

  pub among_right : (xs ys : List X) (x : X) → Among ys x → Among (xs ++ ys) x
  among_right [] ys x h = h
  among_right (z ∷ xs) ys x h = inr (among_right xs ys x h)

  module _ (p : X → Bool) where
    pub among_filter : (xs : List X) (x : X) → Among xs x → p x ≡ true → Among (filter p xs) x
    among_filter [] x h is = absurd h
    among_filter (y ∷ ys) x h is = by (p y) refl h (λ more. among_filter ys x more is)
      where
        by : (b : Bool) → p y ≡ b → Among (y ∷ ys) x → (Among ys x → Among (filter p ys) x)
            → Among (cond b (y ∷ filter p ys) (filter p ys)) x
        by true here (inl e) later = inl e
        by true here (inr more) later = inr (later more)
        by false here (inl e) later = absurd (true≢false (sym is ∙ ap p (sym e) ∙ here))
        by false here (inr more) later = later more

    pub filter_among : (xs : List X) (x : X) → Among (filter p xs) x → Among xs x × (p x ≡ true)
    filter_among [] x h = absurd h
    filter_among (y ∷ ys) x h = by (p y) refl h (filter_among ys x)
      where
        by : (b : Bool) → p y ≡ b → Among (cond b (y ∷ filter p ys) (filter p ys)) x
            → (Among (filter p ys) x → Among ys x × (p x ≡ true)) → Among (y ∷ ys) x × (p x ≡ true)
        by true here (inl e) later = (inl e, ap p (sym e) ∙ here)
        by true here (inr more) later = let at = later more in (inr at.0, at.1)
        by false here more later = let at = later more in (inr at.0, at.1)

module _ {X Y : Type 0} (f : X → List Y) where
  pub among_flat_map : (xs : List X) (x : X) (y : Y) → Among xs x → Among (f x) y → Among (flat_map f xs) y
  among_flat_map [] x y h at = absurd h
  among_flat_map (z ∷ xs) x y (inl e) at = among_left (f z) (flat_map f xs) y (subst (λ u. Among (f u) y) (sym e) at)
  among_flat_map (z ∷ xs) x y (inr h) at = among_right (f z) (flat_map f xs) y (among_flat_map xs x y h at)

  pub flat_map_among : (xs : List X) (y : Y) → Among (flat_map f xs) y → (x : X) × Among xs x × Among (f x) y
  flat_map_among [] y h = absurd h
  flat_map_among (z ∷ xs) y h = elim (among_append (f z) (flat_map f xs) y h) [
    | inl here ↦ (z, inl refl, here)
    | inr more ↦ let at = flat_map_among xs y more in (at.0, inr at.1, at.2)
  ]

module _ {X Y : Type 0} (f : X → Y) where
  pub among_map : (xs : List X) (x : X) → Among xs x → Among (map f xs) (f x)
  among_map [] x h = absurd h
  among_map (z ∷ xs) x (inl e) = inl (ap f e)
  among_map (z ∷ xs) x (inr h) = inr (among_map xs x h)

  pub map_among : (xs : List X) (y : Y) → Among (map f xs) y → (x : X) × (f x ≡ y) × Among xs x
  map_among [] y h = absurd h
  map_among (z ∷ xs) y (inl e) = (z, e, inl refl)
  map_among (z ∷ xs) y (inr h) = let at = map_among xs y h in (at.0, at.1, inr at.2)

pub among_range : (a n g : ℕ) → a ≤ g → g < a + n → Among (range_with_len a n) g
among_range a zero g low high = absurd (omega (arith, low, high))
among_range a (suc n) g low high = by (first_or a g low) (λ past. among_range (a + 1) n g past (omega (arith, high)))
  where
    first_or : (a g : ℕ) → a ≤ g → (a ≡ g) ⊎ (a + 1 ≤ g)
    first_or a g low = grind (arith, low)

    by : (a ≡ g) ⊎ (a + 1 ≤ g) → (a + 1 ≤ g → Among (range_with_len (a + 1) n) g) → Among (range_with_len a (suc n)) g
    by (inl e) later = inl e
    by (inr past) later = inr (later past)
