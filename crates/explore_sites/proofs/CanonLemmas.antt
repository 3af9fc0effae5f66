-- Canonical cells.
use Rattle.std.proofs.Common.{◌≡◌, ◌≢◌, ℕ, zero, suc, ◌<◌, ◌≤◌, cond, eqb, not, List, [], ◌∷◌, set, take, drop, Some, refl, ap, sym, ◌∙◌, subst, arith, eq-eqb, inl, inr, ◌⊎◌}
use Rattle.std.proofs.lemmas.Bool.{cases_eq, cases_order, ne_eqb}
use Rattle.std.proofs.lemmas.Option.{slice_get_within, slice_get-map, get_or_from_slice_get, same_Some}
use Rattle.std.proofs.lemmas.List.Elements.{All-nil, All-cons, All-head, All-tail, All-set, All-weaker, All-append, All-take, All-drop, All-filter}
use Rattle.std.proofs.lemmas.List.Kept.{AllPairs-cons, AllPairs-filter}
use Rattle.std.specs.Option.{option_map}
use Rattle.std.specs.List.{All, AllPairs, filter, insert, slice_get}
use Rattle.image.specs.Image.{ImageValue}
use Rattle.bank_laws.specs.Banks.{WordBytes, with_word_bytes}
use Rattle.explore_sites.specs.Cells.{AreCanonical, WordsDiffer, cell_words, image_words, values_over, cell_word, words_shown}
use Rattle.explore_sites.specs.declared.cell.Cell.{Cell}

-- an address is below a cell's
abbrev pub IsBelow : ℕ → Cell → Type 0
IsBelow a c = a < c.address

abbrev pub IsBefore : Cell → Cell → Type 0
IsBefore a b = a.address < b.address

-- a cell hasn't the image's own bytes
abbrev pub IsOther : ImageValue → Cell → Type 0
IsOther image c = c.bytes ≢ image_words image c.address

-- ---- parts
pairs_nil : {X : Type 0} (R : X → X → Type 0) → AllPairs R []
pairs_nil R i j d below within = absurd (omega (arith, within))

pairs_first : {X : Type 0} (R : X → X → Type 0) (x : X) (xs : List X) → AllPairs R (x ∷ xs) → All (R x) xs
pairs_first R x xs all k d within = all 0 (suc k) d (omega arith) (omega (arith, within))

pairs_rest : {X : Type 0} (R : X → X → Type 0) (x : X) (xs : List X) → AllPairs R (x ∷ xs) → AllPairs R xs
pairs_rest R x xs all i j d below within = all (suc i) (suc j) d (omega (arith, below)) (omega (arith, within))

all_at : {X : Type 0} (P : X → Type 0) (xs : List X) (k : ℕ) (x : X) → All P xs → slice_get xs k ≡ Some x → P x
all_at P xs k x all there = subst P (get_or_from_slice_get xs k x x there) (all k x (slice_get_within xs k x there))

all_insert : {X : Type 0} (P : X → Type 0) (xs : List X) (i : ℕ) (x : X) → All P xs → P x → All P (insert xs i x)
all_insert P xs i x all one =
    All-append P (take i xs) (x ∷ drop i xs) (All-take P i xs all) (All-cons P x (drop i xs) one (All-drop P i xs all))

rest_canonical : (image : ImageValue) (c : Cell) (cells : List Cell) → AreCanonical image (c ∷ cells) → AreCanonical image cells
rest_canonical image c cells are = record {
  ordered = pairs_rest IsBefore c cells are.ordered;
  differ = All-tail (IsOther image) c cells are.differ;
}

first_below : (image : ImageValue) (c : Cell) (cells : List Cell) → AreCanonical image (c ∷ cells) → All (IsBelow c.address) cells
first_below image c cells are = pairs_first IsBefore c cells are.ordered

all_below : (a : ℕ) (c : Cell) (cells : List Cell) → a < c.address → All (IsBelow c.address) cells → All (IsBelow a) (c ∷ cells)
all_below a c cells below all =
    All-cons (IsBelow a) c cells below (All-weaker (IsBelow c.address) (IsBelow a) (λ d later. omega (arith, below, later)) cells all)

-- ---- what canonical cells show
-- no cell is at an address below all of theirs
shown_below : (base : ℕ → WordBytes) (cells : List Cell) (a : ℕ) → All (IsBelow a) cells → values_over base cells a ≡ base a
unfolding values_over
shown_below base [] a all = refl
shown_below base (c ∷ cells) a all =
    let first : a < c.address = All-head (IsBelow a) c cells all in
    rw (ne_eqb c.address a (λ e. omega (arith, first, e))) (shown_below base cells a (All-tail (IsBelow a) c cells all))

shown_first : (base : ℕ → WordBytes) (c : Cell) (cells : List Cell) → values_over base (c ∷ cells) c.address ≡ c.bytes
unfolding values_over
shown_first base c cells = rw (eq-eqb c.address c.address refl) refl

shown_rest : (base : ℕ → WordBytes) (c : Cell) (cells : List Cell) (x : ℕ) → c.address ≢ x
    → values_over base (c ∷ cells) x ≡ values_over base cells x
unfolding values_over
shown_rest base c cells x off = rw (ne_eqb c.address x off) refl

turned : (f g : ℕ → WordBytes) → WordsDiffer f g → WordsDiffer g f
turned f g d = record { address = d.address; is_word = d.is_word; differs = λ e. d.differs (sym e) }

-- a cell that stands before all others tells
first_tells : (image : ImageValue) (c : Cell) (cells others : List Cell) → AreCanonical image (c ∷ cells)
    → All (IsBelow c.address) others → WordsDiffer (words_shown image (c ∷ cells)) (words_shown image others)
first_tells image c cells others are later = record {
  address = c.address;
  is_word = c.is_word;
  differs = λ e. All-head (IsOther image) c cells are.differ
      (sym (shown_first (image_words image) c cells) ∙ e ∙ shown_below (image_words image) others c.address later);
}

-- cells at one address with other bytes tell
bytes_tell : (base : ℕ → WordBytes) (c d : Cell) (cells others : List Cell) → c.address ≡ d.address → c.bytes ≢ d.bytes
    → WordsDiffer (values_over base (c ∷ cells)) (values_over base (d ∷ others))
bytes_tell base c d cells others same other = record {
  address = c.address;
  is_word = c.is_word;
  differs = λ e. other (sym (shown_first base c cells) ∙ e ∙ ap (values_over base (d ∷ others)) same ∙ shown_first base d others);
}

-- what differs after cells at one address differs with them
rest_tells : (base : ℕ → WordBytes) (c d : Cell) (cells others : List Cell) → c.address ≡ d.address
    → All (IsBelow c.address) cells → All (IsBelow d.address) others → WordsDiffer (values_over base cells) (values_over base others)
    → WordsDiffer (values_over base (c ∷ cells)) (values_over base (d ∷ others))
rest_tells base c d cells others same later too w =
    let off : c.address ≢ w.address = λ at. w.differs
    (ap (values_over base cells) (sym at) ∙ shown_below base cells c.address later
    ∙ ap base same ∙ sym (shown_below base others d.address too) ∙ ap (values_over base others) (sym same ∙ at)) in
    record {
      address = w.address;
      is_word = w.is_word;
      differs = λ e. w.differs (sym (shown_rest base c cells w.address off) ∙ e
          ∙ shown_rest base d others w.address (λ at. off (same ∙ at)));
    }

bytes_cases : (a b : List ℕ) → (a ≡ b) ⊎ (a ≢ b)
bytes_cases [] [] = inl refl
bytes_cases [] (y ∷ ys) = inr (λ e. cc)
bytes_cases (x ∷ xs) [] = inr (λ e. cc)
bytes_cases (x ∷ xs) (y ∷ ys) = elim (cases_eq x y) [
  | inl same ↦ elim (bytes_cases xs ys) [
    | inl rest ↦ inl (cc)
    | inr off ↦ inr (λ e. off (cc))
  ]
  | inr off ↦ inr (λ e. off (cc))
]

same_first : (c d : Cell) (cells others : List Cell) → c.address ≡ d.address → c.bytes ≡ d.bytes → cell_words cells ≡ cell_words others
    → cell_words (c ∷ cells) ≡ cell_words (d ∷ others)
same_first c d cells others same bytes rest = λ i. (same i, bytes i) ∷ rest i

-- canonical cells are the same, or show different words
pub cells_tell : (image : ImageValue) (one other : List Cell) → AreCanonical image one → AreCanonical image other
    → (cell_words one ≡ cell_words other) ⊎ WordsDiffer (words_shown image one) (words_shown image other)
cells_tell image [] [] p q = inl refl
cells_tell image (c ∷ cells) [] p q = inr (first_tells image c cells [] p (All-nil (IsBelow c.address)))
cells_tell image [] (d ∷ others) p q =
    inr (turned (words_shown image (d ∷ others)) (words_shown image []) (first_tells image d others [] q (All-nil (IsBelow d.address))))
cells_tell image (c ∷ cells) (d ∷ others) p q =
    elim (cases_order c.address d.address) [
      | inl same ↦ elim (bytes_cases c.bytes d.bytes) [
        | inl bytes ↦ elim (cells_tell image cells others (rest_canonical image c cells p) (rest_canonical image d others q)) [
          | inl rest ↦ inl (same_first c d cells others same bytes rest)
          | inr w ↦ inr (rest_tells (image_words image) c d cells others same (first_below image c cells p) (first_below image d others q) w)
        ]
        | inr off ↦ inr (bytes_tell (image_words image) c d cells others same off)
      ]
      | inr off ↦ elim off [
        | inl less ↦ inr (first_tells image c cells (d ∷ others) p (all_below c.address d others less (first_below image d others q)))
        | inr more ↦ inr (turned (words_shown image (d ∷ others)) (words_shown image (c ∷ cells))
            (first_tells image d others (c ∷ cells) q (all_below d.address c cells more (first_below image c cells p))))
      ]
    ]

-- ---- cells that say the same
values_of : (ℕ → WordBytes) → List (ℕ × WordBytes) → ℕ → WordBytes
values_of base [] x = base x
values_of base (word ∷ words) x = cond (eqb word.0 x) word.1 (values_of base words x)

shown_by_words : (base : ℕ → WordBytes) (cells : List Cell) (x : ℕ) → values_over base cells x ≡ values_of base (cell_words cells) x
unfolding values_over values_of
shown_by_words base [] x = refl
shown_by_words base (c ∷ cells) x = ap (cond (eqb c.address x) c.bytes) (shown_by_words base cells x)

pub same_cells_show : (base : ℕ → WordBytes) (one other : List Cell) → cell_words one ≡ cell_words other
    → values_over base one ≡ values_over base other
same_cells_show base one other same = λ j x. each x j
  where
    each : (x : ℕ) → values_over base one x ≡ values_over base other x
    each x = shown_by_words base one x ∙ ap (λ words. values_of base words x) same ∙ sym (shown_by_words base other x)

-- lists that say the same do so at each place
pub same_at : (one other : List Cell) (k : ℕ) (c d : Cell) → slice_get one k ≡ Some c → slice_get other k ≡ Some d
    → cell_words one ≡ cell_words other → cell_word c ≡ cell_word d
same_at one other k c d here there same =
    let is : slice_get (cell_words one) k ≡ Some (cell_word c) = slice_get-map cell_word one k ∙ ap (option_map cell_word) here in
    let too : slice_get (cell_words other) k ≡ Some (cell_word d) = slice_get-map cell_word other k ∙ ap (option_map cell_word) there in
    same_Some (cell_word c) (cell_word d) (sym is ∙ ap (λ words. slice_get words k) same ∙ too)

-- ---- edits
pub no_cells_canonical : (image : ImageValue) → AreCanonical image []
no_cells_canonical image = record { ordered = pairs_nil IsBefore; differ = All-nil (IsOther image) }

set_ordered : (cells : List Cell) (i : ℕ) (cell new : Cell) → slice_get cells i ≡ Some cell → cell.address ≡ new.address
    → AllPairs IsBefore cells → AllPairs IsBefore (set cells i new)
set_ordered [] i cell new there same all = absurd (cc)
set_ordered (c ∷ cells) zero cell new there same all =
    let first : c ≡ cell = cc in
    let at : c.address ≡ new.address = ap (λ (x : Cell). x.address) first ∙ same in
    AllPairs-cons IsBefore new cells
    (subst (λ a. All (IsBelow a) cells) at (pairs_first IsBefore c cells all)) (pairs_rest IsBefore c cells all)
set_ordered (c ∷ cells) (suc i) cell new there same all =
    let later : c.address < cell.address = all_at (IsBefore c) cells i cell (pairs_first IsBefore c cells all) there in
    AllPairs-cons IsBefore c (set cells i new)
    (All-set (IsBefore c) cells i new (subst (λ a. c.address < a) same later) (pairs_first IsBefore c cells all))
    (set_ordered cells i cell new there same (pairs_rest IsBefore c cells all))

-- a cell gets other bytes
pub set_canonical : (image : ImageValue) (cells : List Cell) (i : ℕ) (cell new : Cell) → slice_get cells i ≡ Some cell
    → cell.address ≡ new.address → IsOther image new → AreCanonical image cells → AreCanonical image (set cells i new)
set_canonical image cells i cell new there same other are = record {
  ordered = set_ordered cells i cell new there same are.ordered;
  differ = All-set (IsOther image) cells i new other are.differ;
}

insert_ordered : (cells : List Cell) (i : ℕ) (new : Cell)
    → ((k : ℕ) (c : Cell) → k < i → slice_get cells k ≡ Some c → c.address < new.address)
    → ((c : Cell) → slice_get cells i ≡ Some c → new.address < c.address)
    → AllPairs IsBefore cells → AllPairs IsBefore (insert cells i new)
insert_ordered [] zero new below above all = AllPairs-cons IsBefore new [] (All-nil (IsBefore new)) (pairs_nil IsBefore)
insert_ordered [] (suc i) new below above all = AllPairs-cons IsBefore new [] (All-nil (IsBefore new)) (pairs_nil IsBefore)
insert_ordered (c ∷ cells) zero new below above all =
    AllPairs-cons IsBefore new (c ∷ cells)
    (all_below new.address c cells (above c refl) (pairs_first IsBefore c cells all)) all
insert_ordered (c ∷ cells) (suc i) new below above all =
    AllPairs-cons IsBefore c (insert cells i new)
    (all_insert (IsBefore c) cells i new (pairs_first IsBefore c cells all) (below 0 c (omega arith) refl))
    (insert_ordered cells i new (λ k d less there. below (suc k) d (omega (arith, less)) there) above (pairs_rest IsBefore c cells all))

-- a cell more, at its place
pub insert_canonical : (image : ImageValue) (cells more : List Cell) (i : ℕ) (new : Cell) → more ≡ insert cells i new
    → ((k : ℕ) (c : Cell) → k < i → slice_get cells k ≡ Some c → c.address < new.address)
    → ((c : Cell) → slice_get cells i ≡ Some c → new.address ≤ c.address)
    → ((k : ℕ) (c : Cell) → slice_get cells k ≡ Some c → c.address ≢ new.address)
    → IsOther image new → AreCanonical image cells → AreCanonical image more
insert_canonical image cells more i new is below above none other are = subst (AreCanonical image) (sym is) there
  where
    there : AreCanonical image (insert cells i new)
    there = record {
      ordered = insert_ordered cells i new below (λ c there. omega (arith, above c there, none i c there)) are.ordered;
      differ = all_insert (IsOther image) cells i new are.differ other;
    }

first_each : (base : ℕ → WordBytes) (cells : List Cell) (new : Cell) (x : ℕ)
    → values_over base (new ∷ cells) x ≡ cond (eqb x new.address) new.bytes (values_over base cells x)
unfolding values_over
first_each base cells new x = elim (cases_eq x new.address) [
  | inl here ↦ rw (eq-eqb x new.address here) (rw (eq-eqb new.address x (sym here)) refl)
  | inr off ↦ rw (ne_eqb x new.address off) (rw (ne_eqb new.address x (λ e. off (sym e))) refl)
]

insert_each : (base : ℕ → WordBytes) (cells : List Cell) (i : ℕ) (new : Cell) (x : ℕ)
    → ((k : ℕ) (c : Cell) → slice_get cells k ≡ Some c → c.address ≢ new.address)
    → values_over base (insert cells i new) x ≡ cond (eqb x new.address) new.bytes (values_over base cells x)
insert_each base cells zero new x none = first_each base cells new x
insert_each base [] (suc i) new x none = first_each base [] new x
insert_each base (c ∷ cells) (suc i) new x none =
    let rest = insert_each base cells i new x (λ k d e. none (suc k) d e) in
    elim (cases_eq c.address x) [
      | inl here ↦ ap (values_over base (c ∷ insert cells i new)) (sym here) ∙ shown_first base c (insert cells i new)
          ∙ rw (ne_eqb x new.address (λ e. none zero c refl (here ∙ e)))
          (sym (shown_first base c cells) ∙ ap (values_over base (c ∷ cells)) here)
      | inr off ↦ shown_rest base c (insert cells i new) x off ∙ rest
          ∙ ap (cond (eqb x new.address) new.bytes) (sym (shown_rest base c cells x off))
    ]

pub insert_shown : (base : ℕ → WordBytes) (cells more : List Cell) (i : ℕ) (new : Cell) → more ≡ insert cells i new
    → ((k : ℕ) (c : Cell) → slice_get cells k ≡ Some c → c.address ≢ new.address)
    → values_over base more ≡ with_word_bytes (values_over base cells) new.address new.bytes
insert_shown base cells more i new is none = λ j x. (ap (λ l. values_over base l x) is ∙ insert_each base cells i new x none) j

-- the cells that aren't at an address
abbrev pub without : ℕ → List Cell → List Cell
without a cells = filter (λ (c : Cell). not (eqb c.address a)) cells

pub without_canonical : (image : ImageValue) (cells rest : List Cell) (a : ℕ) → rest ≡ without a cells → AreCanonical image cells
    → AreCanonical image rest
without_canonical image cells rest a is are = subst (AreCanonical image) (sym is) there
  where
    there : AreCanonical image (without a cells)
    there = record {
      ordered = AllPairs-filter IsBefore (λ (c : Cell). not (eqb c.address a)) cells are.ordered;
      differ = All-filter (λ (c : Cell). not (eqb c.address a)) (IsOther image) cells are.differ;
    }

without_each : (base : ℕ → WordBytes) (cells : List Cell) (a x : ℕ)
    → values_over base (without a cells) x ≡ cond (eqb x a) (base x) (values_over base cells x)
unfolding values_over
without_each base [] a x = elim (cases_eq x a) [
  | inl here ↦ rw (eq-eqb x a here) refl
  | inr off ↦ rw (ne_eqb x a off) refl
]
without_each base (c ∷ cells) a x =
    let rest = without_each base cells a x in
    elim (cases_eq c.address a) [
      | inl at ↦ elim (cases_eq c.address x) [
        | inl here ↦ rw (eq-eqb c.address a at) (rest ∙ rw (eq-eqb x a (sym here ∙ at)) refl)
        | inr off ↦ rw (eq-eqb c.address a at) (rest ∙ ap (cond (eqb x a) (base x)) (sym (shown_rest base c cells x off)))
      ]
      | inr other ↦ elim (cases_eq c.address x) [
        | inl here ↦ rw (ne_eqb c.address a other) (rw (eq-eqb c.address x here) (rw (ne_eqb x a (λ e. other (here ∙ e))) refl))
        | inr off ↦ rw (ne_eqb c.address a other) (rw (ne_eqb c.address x off) rest)
      ]
    ]

-- a word gets the base's own bytes
pub without_shown : (base : ℕ → WordBytes) (cells rest : List Cell) (a : ℕ) → rest ≡ without a cells
    → values_over base rest ≡ with_word_bytes (values_over base cells) a (base a)
without_shown base cells rest a is = λ j x. (ap (λ l. values_over base l x) is ∙ each x) j
  where
    each : (x : ℕ) → values_over base (without a cells) x ≡ cond (eqb x a) (base a) (values_over base cells x)
    each x = elim (cases_eq x a) [
      | inl here ↦ without_each base cells a x ∙ rw (eq-eqb x a here) (ap base here)
      | inr off ↦ without_each base cells a x ∙ rw (ne_eqb x a off) refl
    ]
