-- Accesses of two harts in either order.
use Rattle.std.proofs.Common.{◌≡◌, ℕ, Bool, true, false, ◌==◌, Option, Some, None, refl, ap, sym, ◌∙◌, inl, inr}
use Rattle.std.specs.Prelude.{if◌then◌else◌}
use Rattle.std.proofs.lemmas.Bool.{eq-eqb, ne_eqb, cases_eq, eqb-true}
use Rattle.hart_reservations.specs.Marks.{Marks, names}
use Rattle.bank_laws.specs.declared.access.LoggedKind.{LoggedKind}
use Rattle.bank_laws.specs.declared.access.LoggedKind.TheVariants.{CodeRead, Load, Store, LoadReserved, ConditionalStored, ConditionalFailed}
use Rattle.bank_laws.specs.Banks.{WordBytes, is_store, with_word_bytes, marks_after, after_touch}
use Rattle.bank_laws.specs.Runs.{Act, Reads, Writes, Reserves, Tries, TableWorld, kind_of, put_at}
use Rattle.explore_sites.specs.Own.{is_store_conditional}

-- ---- choices between values
-- two tests that aren't both met can be made in either order
pub test_swap : {A : Type 0} (a b : Bool) (x y z : A) → (a ≡ true → b ≡ true → ⊥)
    → (if a then x else (if b then y else z)) ≡ (if b then y else (if a then x else z))
test_swap true true x y z no_ = absurd (no_ refl refl)
test_swap true false x y z no_ = refl
test_swap false true x y z no_ = refl
test_swap false false x y z no_ = refl

-- a number isn't two others at once
pub not_both : (j h k : ℕ) → (h ≡ k → ⊥) → (j == h) ≡ true → (j == k) ≡ true → ⊥
not_both j h k ne a b = ne (sym (eqb-true j h a) ∙ eqb-true j k b)

pub put_swap : {A : Type 0} (f : ℕ → A) (h k : ℕ) (x y : A) → (h ≡ k → ⊥) → put_at (put_at f h x) k y ≡ put_at (put_at f k y) h x
put_swap f h k x y ne = λ i j. test_swap (j == k) (j == h) y x (f j) (λ b a. not_both j h k ne a b) i

-- ---- one hart's mark
-- the mark after a store of another hart into a word
abbrev dropped : Option ℕ → ℕ → Option ℕ
dropped o x = if names o x then None else o

dropped_off : (x y : ℕ) → (x ≡ y → ⊥) → dropped (Some x) y ≡ Some x
dropped_off x y ne = rw (ne_eqb x y ne) refl

dropped_by : (c e : Bool) (z x y : ℕ) → (z == x) ≡ c → (z == y) ≡ e
    → dropped (if c then None else Some z) y ≡ dropped (if e then None else Some z) x
dropped_by true true z x y a b = refl
dropped_by true false z x y a b = rw a refl
dropped_by false true z x y a b = rw b refl
dropped_by false false z x y a b = rw a (rw b refl)

dropped_swap : (o : Option ℕ) (x y : ℕ) → dropped (dropped o x) y ≡ dropped (dropped o y) x
dropped_swap None x y = refl
dropped_swap (Some z) x y = dropped_by (z == x) (z == y) z x y refl refl

-- a mark that isn't of word x is of word y or not, whether stores into x have ended it or not
dropped_names : (o : Option ℕ) (x y : ℕ) → (x ≡ y → ⊥) → names (dropped o x) y ≡ names o y
dropped_names None x y ne = refl
dropped_names (Some z) x y ne = elim (cases_eq z x) [
  | inl e ↦ rw (eq-eqb z x e) (sym (ne_eqb z y (λ q. ne (sym e ∙ q))))
  | inr n ↦ rw (ne_eqb z x n) refl
]

-- the mark of a hart after an access, by whether it is the accessing one
abbrev mark_by : LoggedKind → Bool → ℕ → Option ℕ → Option ℕ
mark_by CodeRead mine x o = o
mark_by Load mine x o = o
mark_by Store mine x o = if mine then o else dropped o x
mark_by LoadReserved mine x o = if mine then Some x else o
mark_by ConditionalStored mine x o = if mine then None else (if mine then o else dropped o x)
mark_by ConditionalFailed mine x o = if mine then None else o

marks_by : (kind : LoggedKind) (r : Marks) (h x j : ℕ) → marks_after kind r h x j ≡ mark_by kind (j == h) x (r j)
marks_by CodeRead r h x j = refl
marks_by Load r h x j = refl
marks_by Store r h x j = refl
marks_by LoadReserved r h x j = refl
marks_by ConditionalStored r h x j = refl
marks_by ConditionalFailed r h x j = refl

store_swap : (other : LoggedKind) (a b : Bool) (x y : ℕ) (o : Option ℕ) → (a ≡ true → b ≡ true → ⊥) → (x ≡ y → ⊥)
    → mark_by other b y (mark_by Store a x o) ≡ mark_by Store a x (mark_by other b y o)
store_swap other true true x y o no_ ne = absurd (no_ refl refl)
store_swap CodeRead a b x y o no_ ne = refl
store_swap Load a b x y o no_ ne = refl
store_swap Store true false x y o no_ ne = refl
store_swap Store false true x y o no_ ne = refl
store_swap Store false false x y o no_ ne = dropped_swap o x y
store_swap LoadReserved true false x y o no_ ne = refl
store_swap LoadReserved false true x y o no_ ne = sym (dropped_off y x (λ e. ne (sym e)))
store_swap LoadReserved false false x y o no_ ne = refl
store_swap ConditionalStored true false x y o no_ ne = refl
store_swap ConditionalStored false true x y o no_ ne = refl
store_swap ConditionalStored false false x y o no_ ne = dropped_swap o x y
store_swap ConditionalFailed true false x y o no_ ne = refl
store_swap ConditionalFailed false true x y o no_ ne = refl
store_swap ConditionalFailed false false x y o no_ ne = refl

reserve_swap : (other : LoggedKind) (a b : Bool) (x y : ℕ) (o : Option ℕ) → (a ≡ true → b ≡ true → ⊥) → (x ≡ y → ⊥)
    → mark_by other b y (mark_by LoadReserved a x o) ≡ mark_by LoadReserved a x (mark_by other b y o)
reserve_swap other true true x y o no_ ne = absurd (no_ refl refl)
reserve_swap CodeRead a b x y o no_ ne = refl
reserve_swap Load a b x y o no_ ne = refl
reserve_swap Store true false x y o no_ ne = dropped_off x y ne
reserve_swap Store false true x y o no_ ne = refl
reserve_swap Store false false x y o no_ ne = refl
reserve_swap LoadReserved true false x y o no_ ne = refl
reserve_swap LoadReserved false true x y o no_ ne = refl
reserve_swap LoadReserved false false x y o no_ ne = refl
reserve_swap ConditionalStored true false x y o no_ ne = dropped_off x y ne
reserve_swap ConditionalStored false true x y o no_ ne = refl
reserve_swap ConditionalStored false false x y o no_ ne = refl
reserve_swap ConditionalFailed true false x y o no_ ne = refl
reserve_swap ConditionalFailed false true x y o no_ ne = refl
reserve_swap ConditionalFailed false false x y o no_ ne = refl

-- an access that is no store-conditional's, and one of another word
pub mark_swap : (act : Act) (other : LoggedKind) (a b : Bool) (x y : ℕ) (o : Option ℕ) → is_store_conditional act ≡ false
    → (a ≡ true → b ≡ true → ⊥) → (x ≡ y → ⊥)
    → mark_by other b y (mark_by (kind_of act false) a x o) ≡ mark_by (kind_of act false) a x (mark_by other b y o)
mark_swap Reads other a b x y o plain no_ ne = refl
mark_swap Writes other a b x y o plain no_ ne = store_swap other a b x y o no_ ne
mark_swap Reserves other a b x y o plain no_ ne = reserve_swap other a b x y o no_ ne
mark_swap Tries other a b x y o plain no_ ne = absurd cc

-- ---- all marks
pub marks_swap : (act : Act) (other : LoggedKind) (r : Marks) (h k x y : ℕ) → is_store_conditional act ≡ false
    → (h ≡ k → ⊥) → (x ≡ y → ⊥)
    → marks_after other (marks_after (kind_of act false) r h x) k y ≡ marks_after (kind_of act false) (marks_after other r k y) h x
marks_swap act other r h k x y plain off ne = λ i j. each j i
  where
    each : (j : ℕ) → marks_after other (marks_after (kind_of act false) r h x) k y j ≡ marks_after (kind_of act false) (marks_after other r k y) h x j
    each j =
        marks_by other (marks_after (kind_of act false) r h x) k y j
        ∙ ap (mark_by other (j == k) y) (marks_by (kind_of act false) r h x j)
        ∙ mark_swap act other (j == h) (j == k) x y (r j) plain (λ a b. not_both j h k off a b) ne
        ∙ ap (mark_by (kind_of act false) (j == h) x) (sym (marks_by other r k y j))
        ∙ sym (marks_by (kind_of act false) (marks_after other r k y) h x j)

-- another hart's mark names a word or not, whatever a hart does with another word
pub names_still : (act : Act) (r : Marks) (h k x y : ℕ) → is_store_conditional act ≡ false → (h ≡ k → ⊥) → (x ≡ y → ⊥)
    → names (marks_after (kind_of act false) r h x k) y ≡ names (r k) y
names_still Reads r h k x y plain off ne = refl
names_still Writes r h k x y plain off ne = rw (ne_eqb k h (λ e. off (sym e))) (dropped_names (r k) x y ne)
names_still Reserves r h k x y plain off ne = rw (ne_eqb k h (λ e. off (sym e))) refl
names_still Tries r h k x y plain off ne = absurd cc

-- ---- words
-- the words after an access
abbrev pub values_after : LoggedKind → (ℕ → WordBytes) → ℕ → WordBytes → ℕ → WordBytes
values_after kind f x v = if is_store kind then with_word_bytes f x v else f

values_by : (a b : Bool) (f : ℕ → WordBytes) (x y : ℕ) (u v : WordBytes) → (x ≡ y → ⊥)
    → (if b then with_word_bytes (if a then with_word_bytes f x u else f) y v else (if a then with_word_bytes f x u else f))
    ≡ (if a then with_word_bytes (if b then with_word_bytes f y v else f) x u else (if b then with_word_bytes f y v else f))
values_by true true f x y u v ne = put_swap f x y u v ne
values_by true false f x y u v ne = refl
values_by false true f x y u v ne = refl
values_by false false f x y u v ne = refl

pub values_swap : (one other : LoggedKind) (f : ℕ → WordBytes) (x y : ℕ) (u v : WordBytes) → (x ≡ y → ⊥)
    → values_after other (values_after one f x u) y v ≡ values_after one (values_after other f y v) x u
values_swap one other f x y u v ne = values_by (is_store one) (is_store other) f x y u v ne

-- a word is as before where another is accessed
pub value_still : (kind : LoggedKind) (f : ℕ → WordBytes) (x y : ℕ) (v : WordBytes) → (x ≡ y → ⊥) → values_after kind f x v y ≡ f y
value_still kind f x y v ne = go (is_store kind)
  where
    go : (s : Bool) → (if s then with_word_bytes f x v else f) y ≡ f y
    go true = rw (ne_eqb y x (λ e. ne (sym e))) refl
    go false = refl

-- ---- what harts and accesses leave
-- the world after hart h has come to a state by an access of word x
abbrev pub accessed : {H : Type 0} → TableWorld H → ℕ → H → LoggedKind → ℕ → WordBytes → TableWorld H
accessed w h s kind x v = record { harts = put_at w.harts h s; shared = after_touch w.shared kind h x v }

-- a world of its parts
abbrev pub world_of : {H : Type 0} → (ℕ → H) → (ℕ → WordBytes) → Marks → TableWorld H
world_of f values r = record { harts = f; shared = record { values = values; marks = r } }

pub worlds_by : {H : Type 0} (f g : ℕ → H) (values others : ℕ → WordBytes) (r q : Marks) → f ≡ g → values ≡ others → r ≡ q
    → world_of f values r ≡ world_of g others q
worlds_by f g values others r q a b c = λ i. record { harts = a i; shared = record { values = b i; marks = c i } }

-- a load and anything else
pub load_swap : {H : Type 0} (w : TableWorld H) (h k : ℕ) (s u : H) (other : LoggedKind) (x y : ℕ) (v z : WordBytes) → (h ≡ k → ⊥)
    → accessed (accessed w h s Load x v) k u other y z ≡ accessed (accessed w k u other y z) h s Load x v
load_swap w h k s u other x y v z off =
    worlds_by (put_at (put_at w.harts h s) k u) (put_at (put_at w.harts k u) h s)
    (values_after other w.shared.values y z) (values_after other w.shared.values y z)
    (marks_after other w.shared.marks k y) (marks_after other w.shared.marks k y)
    (put_swap w.harts h k s u off) refl refl

-- accesses of two words
pub access_swap : {H : Type 0} (w : TableWorld H) (h k : ℕ) (s u : H) (act : Act) (other : LoggedKind) (x y : ℕ) (v z : WordBytes)
    → is_store_conditional act ≡ false → (h ≡ k → ⊥) → (x ≡ y → ⊥)
    → accessed (accessed w h s (kind_of act false) x v) k u other y z ≡ accessed (accessed w k u other y z) h s (kind_of act false) x v
access_swap w h k s u act other x y v z plain off ne =
    let one = kind_of act false in
    worlds_by (put_at (put_at w.harts h s) k u) (put_at (put_at w.harts k u) h s)
    (values_after other (values_after one w.shared.values x v) y z) (values_after one (values_after other w.shared.values y z) x v)
    (marks_after other (marks_after one w.shared.marks h x) k y) (marks_after one (marks_after other w.shared.marks k y) h x)
    (put_swap w.harts h k s u off) (values_swap one other w.shared.values x y v z ne)
    (marks_swap act other w.shared.marks h k x y plain off ne)
