-- The words of a text are those of its items, and its fault is that of the first bad item.
use Rattle.std.proofs.Common.{◌≡◌, ℕ, ◌+◌, ◌<◌, ◌≤◌, Bool, true, false, List, [], ◌∷◌, ◌++◌, length, Option, Some, None, Ok, Err, refl, sym, ap, subst, ◌∙◌, arith, eq-eqb, ne_eqb, eqb-true, true≢false}
use Rattle.std.specs.Prelude.{◌==◌, ◌↔◌, if◌then◌else◌}
use Rattle.std.specs.declared.result.Result.{Result}
use Rattle.text_items.specs.Items.{Item, items_from}
use Rattle.program_open.specs.declared.hex.HexFault.{HexFault}
use Rattle.program_open.specs.declared.hex.HexFault.TheVariants.{BadWord, TooMany, Memory}
use Rattle.program_open.specs.HexText.{hex_word, hex_words, words_named, word_then, words_before, AreHexWords, StandsBehind, SpoilsWords}

-- ---- items that are words are read as these
named : (k : ℕ) (items : List Item) (words : List ℕ) → AreHexWords items words → k + length words ≤ 2048 → words_named k items ≡ Ok words
named k [] [] each few = refl
named k [] (w ∷ words) each few = absurd each
named k (i ∷ items) [] each few = absurd each
named k (i ∷ items) (w ∷ words) each few =
    rw (ne_eqb k 2048 (λ e. omega (arith, e, few)), each.0, named (k + 1) items words each.1 (omega (arith, few))) refl

-- ---- an item behind words is the first bad one
bad_named : (k : ℕ) (before behind : List Item) (item : Item) (words : List ℕ) → AreHexWords before words → k + length words < 2048
    → hex_word item.text ≡ None → words_named k (before ++ item ∷ behind) ≡ Err (BadWord (k + length words))
bad_named k [] behind item [] each few none = rw (ne_eqb k 2048 (λ e. omega (arith, e, few)), none) (ap (λ n. Err (BadWord n)) (omega arith))
bad_named k [] behind item (w ∷ words) each few none = absurd each
bad_named k (i ∷ before) behind item [] each few none = absurd each
bad_named k (i ∷ before) behind item (w ∷ words) each few none =
    rw (ne_eqb k 2048 (λ e. omega (arith, e, few)), each.0, bad_named (k + 1) before behind item words each.1 (omega (arith, few)) none)
    (ap (λ n. Err (BadWord n)) (omega arith))

many_named : (k : ℕ) (before behind : List Item) (item : Item) (words : List ℕ) → AreHexWords before words → k + length words ≡ 2048
    → words_named k (before ++ item ∷ behind) ≡ Err (TooMany 2048)
many_named k [] behind item [] each full = rw (eq-eqb k 2048 (omega (arith, full))) refl
many_named k [] behind item (w ∷ words) each full = absurd each
many_named k (i ∷ before) behind item [] each full = absurd each
many_named k (i ∷ before) behind item (w ∷ words) each full =
    rw (ne_eqb k 2048 (λ e. omega (arith, e, full)), each.0, many_named (k + 1) before behind item words each.1 (omega (arith, full))) refl

-- ---- what reading answers, numbered from k
abbrev SpoilsFrom : ℕ → List Item → HexFault → Type 0
SpoilsFrom k items (BadWord n) = (n < 2048) × ((m : ℕ) × (k + m ≡ n) × ((item : Item) × StandsBehind m item items × (hex_word item.text ≡ None)))
SpoilsFrom k items (TooMany n) = (n ≡ 2048) × ((m : ℕ) × (k + m ≡ 2048) × ((item : Item) × StandsBehind m item items))
SpoilsFrom k items Memory = ⊥

abbrev Told : ℕ → List Item → Result (List ℕ) HexFault → Type 0
Told k items (Ok words) = AreHexWords items words × (k + length words ≤ 2048)
Told k items (Err fault) = SpoilsFrom k items fault

further : (i : Item) (w m : ℕ) (item : Item) (items : List Item) → hex_word i.text ≡ Some w → StandsBehind m item items → StandsBehind (1 + m) item (i ∷ items)
further i w m item items e s = record {
  before = i ∷ s.before;
  behind = s.behind;
  split = ap (λ l. i ∷ l) s.split;
  words = w ∷ s.words;
  each = (e, s.each);
  many = omega (arith, s.many);
}

first : (item : Item) (items : List Item) → StandsBehind 0 item (item ∷ items)
first item items = record { before = []; behind = items; split = refl; words = []; each = tt; many = refl }

next_told : (k : ℕ) (i : Item) (items : List Item) (w : ℕ) → k < 2048 → hex_word i.text ≡ Some w → (r : Result (List ℕ) HexFault)
    → Told (k + 1) items r → Told k (i ∷ items) (words_before (w ∷ []) r)
next_told k i items w below e (Ok words) told = ((e, told.0), omega (arith, told.1))
next_told k i items w below e (Err (BadWord n)) (few, (m, is, (item, stands, none))) = (few, (1 + m, omega (arith, is), (item, further i w m item items e stands, none)))
next_told k i items w below e (Err (TooMany n)) (few, (m, is, (item, stands))) = (few, (1 + m, omega (arith, is), (item, further i w m item items e stands)))
next_told k i items w below e (Err Memory) told = absurd told

told : (k : ℕ) (items : List Item) → k ≤ 2048 → Told k items (words_named k items)
told k [] low = (tt, omega (arith, low))
told k (i ∷ items) low = by (k == 2048) refl (hex_word i.text) refl (λ below. told (k + 1) items (omega (arith, below)))
  where
    by : (full : Bool) → (k == 2048) ≡ full → (word : Option ℕ) → hex_word i.text ≡ word → (k < 2048 → Told (k + 1) items (words_named (k + 1) items))
        → Told k (i ∷ items) (if full then Err (TooMany 2048) else word_then word k (words_named (k + 1) items))
    by true full word e more = let is : k ≡ 2048 = eqb-true k 2048 full in (refl, (0, omega (arith, is), (i, first i items)))
    by false full None e more =
        let below : k < 2048 = let other : (k ≡ 2048 → ⊥) = (λ is. true≢false (sym (eq-eqb k 2048 is) ∙ full)) in omega (arith, low, other) in
        (below, (0, omega arith, (i, first i items, e)))
    by false full (Some w) e more =
        let below : k < 2048 = let other : (k ≡ 2048 → ⊥) = (λ is. true≢false (sym (eq-eqb k 2048 is) ∙ full)) in omega (arith, low, other) in
        next_told k i items w below e (words_named (k + 1) items) (more below)

pub words_are : (text words : List ℕ) → (hex_words text ≡ Ok words) ↔ (AreHexWords (items_from 0 text) words × (length words ≤ 2048))
words_are text words = (
  (λ e. let t : Told 0 (items_from 0 text) (Ok words) = subst (Told 0 (items_from 0 text)) e (told 0 (items_from 0 text) (omega arith)) in
      let few = t.1 in (t.0, omega (arith, few))),
  (λ h. let few = h.1 in named 0 (items_from 0 text) words h.0 (omega (arith, few))),
)

from_start : (items : List Item) (fault : HexFault) → SpoilsFrom 0 items fault → SpoilsWords items fault
from_start items (BadWord n) (few, (m, is, (item, stands, none))) =
    let same : m ≡ n = omega (arith, is) in
    (few, (item, subst (λ m. StandsBehind m item items) same stands, none))
from_start items (TooMany n) (few, (m, is, (item, stands))) =
    let same : m ≡ 2048 = omega (arith, is) in
    (few, (item, subst (λ m. StandsBehind m item items) same stands))
from_start items Memory h = absurd h

refused : (items : List Item) (fault : HexFault) → SpoilsWords items fault → words_named 0 items ≡ Err fault
refused items (BadWord n) (few, (item, stands, none)) =
    let many = stands.many in
    let same : 0 + length stands.words ≡ n = omega (arith, many) in
    ap (words_named 0) stands.split ∙ bad_named 0 stands.before stands.behind item stands.words stands.each (omega (arith, few, many)) none
    ∙ ap (λ n. Err (BadWord n)) same
refused items (TooMany n) (is, (item, stands)) =
    let many = stands.many in
    ap (words_named 0) stands.split ∙ many_named 0 stands.before stands.behind item stands.words stands.each (omega (arith, many))
    ∙ ap (λ n. Err (TooMany n)) (sym is)
refused items Memory h = absurd h

pub faults_are : (text : List ℕ) (fault : HexFault) → (hex_words text ≡ Err fault) ↔ SpoilsWords (items_from 0 text) fault
faults_are text fault = (
  (λ e. from_start (items_from 0 text) fault (subst (Told 0 (items_from 0 text)) e (told 0 (items_from 0 text) (omega arith)))),
  refused (items_from 0 text) fault,
)
