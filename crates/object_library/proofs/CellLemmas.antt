-- What the loops of a comparison have seen, that it is all, and that a run sees no more of an
-- image.
use Rattle.std.proofs.Common.{◌≡◌, ◌≢◌, ℕ, zero, suc, ◌+◌, ◌-◌, ◌*◌, ◌/◌, ◌%◌, ◌^◌, ◌<◌, ◌≤◌, Bool, true, false, ◌&&◌, ◌||◌, nat_le, nat_lt, List, [], ◌∷◌, length, get_or, take, Option, Some, None, refl, sym, ap, ◌∙◌, ◌⊎◌, inl, inr, arith, subst}
use Rattle.std.proofs.Math.Nat.{zero-div}
use Rattle.std.proofs.lemmas.List.Folds.{list_any_more}
use Rattle.image.specs.Image.{ImageValue, IsSound, span_of}
use Rattle.image.proofs.Sound.{extent_from_sound}
use Rattle.image.specs.Segment.{SegmentValue}
use Rattle.image.specs.Spans.{has_address}
use Rattle.mem_store.specs.Image.{segment_at, rights_in, byte_in, segments_memory, image_memory}
use Rattle.machine.specs.Start.{started, first_harts}
use Rattle.object_library.specs.Images.{bytes_of, object_image, words_of, zeros_of, image_of, cell, cell_in, IsSame}
use Rattle.object_library.specs.declared.kind.Kind.{Kind}
use Rattle.object_library.specs.Cells.{known, AgreeOn, AgreeWhereCovered, Matches, EndInRange, is_covered}

within : (b n a : ℕ) → (nat_le b a && nat_lt a (b + n)) ≡ true → b ≤ a × a < b + n
within b n a e = grind arith

-- one address more
pub one_more : (f g : ℕ → Option (ℕ × ℕ)) (base i : ℕ) → AgreeOn f g base i → f (base + i) ≡ g (base + i) → AgreeOn f g base (i + 1)
one_more f g base i before here a low high = go (last_or_not a (base + i))
  where
    last_or_not : (a b : ℕ) → (a ≡ b) ⊎ (a ≢ b)
    last_or_not a b = grind arith

    go : (a ≡ base + i) ⊎ (a ≢ base + i) → f a ≡ g a
    go (inl e) = ap f e ∙ here ∙ sym (ap g e)
    go (inr ne) = before a low (omega arith)

-- one segment more
pub more : (f g : ℕ → Option (ℕ × ℕ)) (ss : List SegmentValue) (i : ℕ) (d : SegmentValue) → i < length ss → AgreeWhereCovered f g (take i ss) →
    AgreeOn f g (get_or ss i d).base (get_or ss i d).size → AgreeWhereCovered f g (take (i + 1) ss)
more f g ss i d lt before on a c =
    go (is_covered (take i ss) a) (has_address a (span_of (get_or ss i d))) refl refl (sym (list_any_more (λ s. has_address a (span_of s)) ss i d lt) ∙ c)
  where
    go : (p q : Bool) → is_covered (take i ss) a ≡ p → has_address a (span_of (get_or ss i d)) ≡ q → (p || q) ≡ true → f a ≡ g a
    go true q ep eq e = before a ep
    go false true ep eq e = let w = within (get_or ss i d).base (get_or ss i d).size a eq in on a w.0 w.1
    go false false ep eq e = absurd (cc)

nowhere : (ss : List SegmentValue) (a : ℕ) → is_covered ss a ≡ false → cell ss a ≡ None
nowhere [] a e = refl
nowhere (s ∷ ss) a e = go (has_address a (span_of s)) refl e (nowhere ss a)
  where
    go : (b : Bool) → has_address a (span_of s) ≡ b → (has_address a (span_of s) || is_covered ss a) ≡ false → (is_covered ss a ≡ false → cell ss a ≡ None) → cell (s ∷ ss) a ≡ None
    go true eb e rest = absurd (let q : (true || is_covered ss a) ≡ false = subst (λ (b : Bool). (b || is_covered ss a) ≡ false) eb e in cc)
    go false eb e rest = rw eb (rest (subst (λ (b : Bool). (b || is_covered ss a) ≡ false) eb e))

inside_or_not : (b n a : ℕ) → (b ≤ a × a < b + n) ⊎ ((nat_le b a && nat_lt a (b + n)) ≡ false)
inside_or_not b n a = grind arith

-- two maps are equal if they agree at each address in either
pub everywhere : (ss : List SegmentValue) (words : List ℕ) (zeros : ℕ) → AgreeOn (cell ss) (known words zeros) 0x10000 (4 * length words) →
    AgreeOn (cell ss) (known words zeros) 0x11000 zeros → AgreeWhereCovered (cell ss) (known words zeros) ss → (a : ℕ) → cell ss a ≡ known words zeros a
everywhere ss words zeros text zeroed own a = go (is_covered ss a) refl (inside_or_not 0x10000 (4 * length words) a) (inside_or_not 0x11000 zeros a)
  where
    go : (b : Bool) → is_covered ss a ≡ b → (0x10000 ≤ a × a < 0x10000 + 4 * length words) ⊎ ((nat_le 0x10000 a && nat_lt a (0x10000 + 4 * length words)) ≡ false) →
        (0x11000 ≤ a × a < 0x11000 + zeros) ⊎ ((nat_le 0x11000 a && nat_lt a (0x11000 + zeros)) ≡ false) → cell ss a ≡ known words zeros a
    go true e t d = own a e
    go false e (inl t) d = text a t.0 t.1
    go false e (inr t) (inl d) = zeroed a d.0 d.1
    go false e (inr t) (inr d) = nowhere ss a e ∙ rw (t, d)

-- byte j of a list of words
pub byte_at : (ws : List ℕ) (j : ℕ) → get_or (bytes_of ws) j 0 ≡ (get_or ws (j / 4) 0 / 256 ^ (j % 4)) % 256
byte_at [] j = nothing (j % 4)
  where
    nothing : (k : ℕ) → 0 ≡ (0 / 256 ^ k) % 256
    nothing k = rw zero-div
byte_at (w ∷ ws) zero = omega arith
byte_at (w ∷ ws) (suc zero) = refl
byte_at (w ∷ ws) (suc (suc zero)) = refl
byte_at (w ∷ ws) (suc (suc (suc zero))) = refl
byte_at (w ∷ ws) (suc (suc (suc (suc j)))) =
    let a : suc (suc (suc (suc j))) / 4 ≡ suc (j / 4) = omega arith in
    let b : suc (suc (suc (suc j))) % 4 ≡ j % 4 = omega arith in
    rw (a, b) (byte_at ws j)

-- the map that is computed is the image's
pub known_is : (ws : List ℕ) (zeros a : ℕ) → known ws zeros a ≡ cell (object_image ws zeros).segments a
known_is ws zeros a = go (nat_le 0x10000 a && nat_lt a (0x10000 + 4 * length ws)) (nat_le 0x11000 a && nat_lt a (0x11000 + zeros)) refl refl
  where
    go : (p q : Bool) → (nat_le 0x10000 a && nat_lt a (0x10000 + 4 * length ws)) ≡ p → (nat_le 0x11000 a && nat_lt a (0x11000 + zeros)) ≡ q →
        known ws zeros a ≡ cell (object_image ws zeros).segments a
    go true q e f =
        let w = within 0x10000 (4 * length ws) a e in
        let part : (a - 0x10000) % 4 ≡ a % 4 = omega (arith, w.0) in
        let byte : (get_or ws ((a - 0x10000) / 4) 0 / 256 ^ (a % 4)) % 256 ≡ get_or (bytes_of ws) (a - 0x10000) 0 = sym (byte_at ws (a - 0x10000) ∙ rw part) in
        rw e (ap (λ (b : ℕ). Some (b, 5)) byte)
    go false true e f = rw (e, f)
    go false false e f = rw (e, f)

abbrev rights_of : Option (ℕ × ℕ) → Option ℕ
rights_of None = None
rights_of (Some c) = Some c.1

abbrev byte_of : Option (ℕ × ℕ) → ℕ
byte_of None = 0
byte_of (Some c) = c.0

rights_cell : (o : Option SegmentValue) (a : ℕ) → rights_in o ≡ rights_of (cell_in o a)
rights_cell None a = refl
rights_cell (Some s) a = refl

byte_cell : (o : Option SegmentValue) (a : ℕ) → byte_in o a ≡ byte_of (cell_in o a)
byte_cell None a = refl
byte_cell (Some s) a = refl

same_memory : (m n : ImageValue) → IsSame m n → image_memory m ≡ image_memory n
unfolding segments_memory
same_memory m n s = λ i. record {
  rights = λ a. (rights_cell (segment_at m.segments a) a ∙ ap rights_of (s.1 a) ∙ sym (rights_cell (segment_at n.segments a) a)) i;
  bytes = λ a. (byte_cell (segment_at m.segments a) a ∙ ap byte_of (s.1 a) ∙ sym (byte_cell (segment_at n.segments a) a)) i;
}

-- a run sees no more of an image than its entry and its map
pub same_start : (m n : ImageValue) (inputs : List ℕ) → IsSame m n → started m inputs ≡ started n inputs
unfolding started
same_start m n inputs s = λ i. record {
  harts = first_harts (s.0 i) (length inputs) 0 inputs;
  memory = same_memory m n s i;
  reserved = λ h. None;
}

-- the comparison decides whether the image is the object's
pub same_if_matches : (kind : Kind) (m : ImageValue) (ws : List ℕ) (zeros : ℕ) → ws ≡ words_of kind → zeros ≡ zeros_of kind → Matches m ws zeros → IsSame m (image_of kind)
same_if_matches kind m ws zeros is_words is_zeros f =
    (f.0, λ a. f.1 a ∙ known_is ws zeros a ∙ ap (λ (w : List ℕ). cell (object_image w zeros).segments a) is_words ∙ ap (λ (z : ℕ). cell (object_image (words_of kind) z).segments a) is_zeros)

pub matches_if_same : (kind : Kind) (m : ImageValue) (ws : List ℕ) (zeros : ℕ) → ws ≡ words_of kind → zeros ≡ zeros_of kind → IsSame m (image_of kind) → Matches m ws zeros
matches_if_same kind m ws zeros is_words is_zeros s =
    (s.0, λ a. s.1 a ∙ sym (known_is ws zeros a ∙ ap (λ (w : List ℕ). cell (object_image w zeros).segments a) is_words ∙ ap (λ (z : ℕ). cell (object_image (words_of kind) z).segments a) is_zeros))

pub in_range_if_sound : (entry : ℕ) (ss segments : List SegmentValue) → IsSound entry ss → segments ≡ ss → EndInRange segments
in_range_if_sound entry ss segments sound same = subst EndInRange (sym same) (λ i s lt is. (extent_from_sound entry ss i s sound lt is).0)
