-- Room for units, as room for two things side by side: a type and the bytes behind it, or two blocks.
-- Both come of one lemma, on a struct of two fields. Assumes `Logic`.
use Rattle.std.proofs.Common.{◌≡◌, ℕ, ◌+◌, ◌-◌, ◌*◌, ◌/◌, ◌%◌, ◌≤◌, max, length, List, [], ◌∷◌, refl, sym, ap, subst, ◌∙◌, arith}
use seplogic.Ra.Ura.{Ura}
use native.Mathlib.Nat.{add-zero}
use mir.Syntax.{Ty, Width, w8, w16, w32, w64, w128, tnil, tcons, ty_int, ty_array, ty_struct}
use mir.Val.{bytes, vint}
use base.Fraction.{full_share}
use base.Logic.{SProp, ent, sep, wand, emp, via, id⊢, mono∗, apply∗}
use prog.Memory.{size, align, up}
use prog.Model.{rooms_of}
use prog.Align.{→dv, align_w, align-bytes}
use types.Kit.{Item, raw, ◌⊛◌, ◌$◌, ◌∵◌, !, qed, done, move, keep, use0, use1, use2, split, frame, assume, rewrite}
use types.Logic.{Logic, sem}
use denote.Builtin.{u128}
use denote.Index.{row}
use denote.Memory.{part_at}
use denote.Plain.{uint_out}
use Rattle.page_heap.specs.Memory.{units_of}

-- Where two fields lie and how large the struct is, by the second's width and the first's: each
-- case is arithmetic with a literal modulus.
record Places (a c s t n : ℕ) : Type 0 where
  first : up a 0 ≡ 0
  second : up c (up a 0 + s) ≡ s
  whole : up (max a (max c 1)) (up c (up a 0 + s) + t) ≡ n
  least : n % 16 ≡ 0 → 16 % max a (max c 1) ≡ 0

-- bytes behind anything, of which the whole is a multiple of 16
bytes_behind : (v : Width) (s n : ℕ) → n % 16 ≡ 0 → s ≤ n → Places (bytes v) 1 s ((n - s) * 1) n
bytes_behind w8 s n even fits = record { first = refl; second = omega arith; whole = omega arith; least = λ _. refl }
bytes_behind w16 s n even fits = record { first = refl; second = omega arith; whole = omega arith; least = λ _. refl }
bytes_behind w32 s n even fits = record { first = refl; second = omega arith; whole = omega arith; least = λ _. refl }
bytes_behind w64 s n even fits = record { first = refl; second = omega arith; whole = omega arith; least = λ _. refl }
bytes_behind w128 s n even fits = record { first = refl; second = omega arith; whole = omega arith; least = λ _. refl }

-- units behind units
units_behind : (m n : ℕ) → m % 16 ≡ 0 → n % 16 ≡ 0 → m ≤ n → Places 16 16 (m / 16 * 16) ((n - m) / 16 * 16) n
units_behind m n even even' fits = record { first = refl; second = omega arith; whole = omega arith; least = λ _. refl }

module _ {M : Type 1} {𝓤 : Ura M} (𝓛 : Logic 𝓤) (b : ℕ) where
  open 𝓛 use {H}

  abbrev Pr : Type 2
  Pr = SProp 𝓤

  abbrev ◌∗◌ : Pr → Pr → Pr
  P ∗ Q = sep 𝓤 P Q

  infixr 35 ◌∗◌
  abbrev units : ℕ → ℕ → Pr
  units o n = H.room (units_of n) b o

  module _ (τ υ : Ty) (n : ℕ) (even : n % 16 ≡ 0) (at : Places (align τ) (align υ) (size τ) (size υ) n) where
    abbrev Two : Ty
    Two = ty_struct [] (tcons τ (tcons υ tnil))

    abbrev Fields : ℕ → Pr
    Fields o = rooms_of 𝓤 H.room (tcons τ (tcons υ tnil)) 0 b o

    abbrev sides : ℕ → Pr
    sides o = H.room τ b o ∗ H.room υ b (o + size τ)

    -- the struct of the two has the size of the units, and asks for no more alignment
    as_two : (o : ℕ) → ent 𝓤 (units o n) (H.room Two b o ∗ wand 𝓤 (H.room Two b o) (units o n))
    as_two o =
        let all_units : n ≡ n / 16 * 16 = omega arith in
        𝓛.laws.room_as (units_of n) Two b o (at.whole ∙ all_units) (→dv _ 16 (at.least even))

    begins : (o : ℕ) → o + up (align τ) 0 ≡ o
    begins o = ap (λ (k : ℕ). o + k) at.first ∙ add-zero o

    follows : (o : ℕ) → o + up (align υ) (up (align τ) 0 + size τ) ≡ o + size τ
    follows o = ap (λ (k : ℕ). o + k) at.second

    -- its fields are the two, side by side
    apart : (o : ℕ) → ent 𝓤 (Fields o) (sides o)
    apart o =
        let one : ℕ → Item 𝓤 = λ k. raw (H.room τ b k) in let other : ℕ → Item 𝓤 = λ k. raw (H.room υ b k) in
        qed 𝓛 (one (o + up (align τ) 0) ∷ other (o + up (align υ) (up (align τ) 0 + size τ)) ∷ raw (emp 𝓤) ∷ []) ∵
        rewrite ! 0 one (begins o) refl $ rewrite ! 1 other (follows o) refl $ keep ! (0 ∷ 1 ∷ []) $ done !

    together : (o : ℕ) → ent 𝓤 (sides o) (Fields o)
    together o =
        let one : ℕ → Item 𝓤 = λ k. raw (H.room τ b k) in let other : ℕ → Item 𝓤 = λ k. raw (H.room υ b k) in
        qed 𝓛 (one o ∷ other (o + size τ) ∷ []) ∵
        rewrite ! 0 one (sym (begins o)) refl $ rewrite ! 1 other (sym (follows o)) refl $
        use0 𝓛 (raw (emp 𝓤)) (id⊢ 𝓤 (emp 𝓤)) $ move ! (1 ∷ 2 ∷ 0 ∷ []) $ done !

    two_parts : (o : ℕ) → ent 𝓤 (units o n) (sides o ∗ wand 𝓤 (sides o) (units o n))
    two_parts o =
        let R : Pr = H.room Two b o in
        qed 𝓛 (raw (units o n) ∷ []) ∵
        use1 𝓛 (raw R ⊛ raw (wand 𝓤 R (units o n))) (as_two o) $ split ! $
        use1 𝓛 (raw (Fields o) ⊛ raw (wand 𝓤 (Fields o) R)) (𝓛.laws.room_fields [] (tcons τ (tcons υ tnil)) b o) $ split ! $
        use1 𝓛 (raw (sides o)) (apart o) $ frame ! $
        assume ! (raw (sides o)) $ use1 𝓛 (raw (Fields o)) (together o) $
        use2 𝓛 (raw R) (apply∗ 𝓤 (Fields o) R) $ use2 𝓛 (raw (units o n)) (apply∗ 𝓤 R (units o n)) $ done !

  -- the units are room for a type that fits, and come back
  pub lent_to : (τ : Ty) (o n : ℕ) → n % 16 ≡ 0 → size τ ≤ n →
      ent 𝓤 (units o n) (H.room τ b o ∗ wand 𝓤 (H.room τ b o) (units o n))
  lent_to τ o n even fits =
      let υ : Ty = ty_array (ty_int w8) (n - size τ) in
      let at = subst (λ (a : ℕ). Places a 1 (size τ) ((n - size τ) * 1) n) (sym (align-bytes τ))
      (bytes_behind (align_w τ) (size τ) n even fits) in
      let S : Pr = H.room τ b o ∗ H.room υ b (o + size τ) in
      qed 𝓛 (raw (units o n) ∷ []) ∵
      use1 𝓛 (raw S ⊛ raw (wand 𝓤 S (units o n))) (two_parts τ υ n even at o) $ split ! $
      use1 𝓛 (raw (H.room τ b o) ⊛ raw (H.room υ b (o + size τ))) (id⊢ 𝓤 S) $ split ! $ frame ! $
      assume ! (raw (H.room τ b o)) $ move ! (0 ∷ 1 ∷ []) $ use2 𝓛 (raw S) (id⊢ 𝓤 S) $
      use2 𝓛 (raw (units o n)) (apply∗ 𝓤 S (units o n)) $ done !

  -- the first m bytes, and those behind them, where MIR's `offset` leads
  pub parted : (o m n : ℕ) → m % 16 ≡ 0 → n % 16 ≡ 0 → m ≤ n → ent 𝓤 (units o n) (units o m ∗ units (m + o) (n - m))
  parted o m n even even' fits =
      let S : Pr = units o m ∗ units (o + m / 16 * 16) (n - m) in
      let behind : o + m / 16 * 16 ≡ m + o = omega arith in
      qed 𝓛 (raw (units o n) ∷ []) ∵
      use1 𝓛 (raw S ⊛ raw (wand 𝓤 S (units o n)))
      (two_parts (units_of m) (units_of (n - m)) n even' (units_behind m n even even' fits) o) $
      split ! $ use1 𝓛 (raw (units o m) ⊛ raw (units (o + m / 16 * 16) (n - m))) (id⊢ 𝓤 S) $ split ! $
      rewrite ! 1 (λ (k : ℕ). raw (units k (n - m))) behind refl $ keep ! (0 ∷ 1 ∷ []) $ done !

  -- a row of numbers is room for as many, whatever they are
  a_slot : (x o : ℕ) → ent 𝓤 (sem 𝓛 (part_at u128 full_share x b o)) (H.room (ty_int w128) b o)
  a_slot x o = via 𝓤 (H.at full_share (ty_int w128) b o (vint w128 x)) (uint_out 𝓛 full_share w128 x b o)
      (𝓛.laws.at_room (ty_int w128) b o (vint w128 x))

  slots : (xs : List ℕ) (o : ℕ) → ent 𝓤 (sem 𝓛 (row u128 full_share xs b o)) (H.room (ty_array (ty_int w128) (length xs)) b o)
  slots [] o = 𝓛.laws.room_nil (ty_int w128) b o
  slots (x ∷ xs) o =
      via 𝓤 (H.room (ty_int w128) b o ∗ H.room (ty_array (ty_int w128) (length xs)) b (o + 16))
      (mono∗ 𝓤 (a_slot x o) (slots xs (o + 16))) (𝓛.laws.room_cons (ty_int w128) (length xs) b o)

  pub row_room : (xs : List ℕ) (o : ℕ) → ent 𝓤 (sem 𝓛 (row u128 full_share xs b o)) (units o (length xs * 16))
  row_room xs o =
      let count : length xs ≡ length xs * 16 / 16 = omega arith in
      subst (λ (k : ℕ). ent 𝓤 (sem 𝓛 (row u128 full_share xs b o)) (H.room (ty_array (ty_int w128) k) b o)) count (slots xs o)
