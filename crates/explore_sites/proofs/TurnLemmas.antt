-- Two turns of a table in either order.
use Rattle.std.proofs.Common.{◌≡◌, ℕ, Bool, true, false, [], Option, Some, None, refl, ap, ap₂, sym, ◌∙◌, inl, inr, ◌⊎◌}
use Rattle.hart_reservations.specs.Marks.{names}
use Rattle.bank_laws.specs.declared.access.LoggedKind.TheVariants.{Load, LoadReserved}
use Rattle.bank_laws.specs.Banks.{WordBytes}
use Rattle.bank_laws.specs.Runs.{Act, Reads, Writes, Reserves, Tries, Touch, StepTable, TableWorld, succeeds, kind_of, word_after, done}
use Rattle.explore_sites.specs.Own.{is_store_conditional, only_loads, may_store}
use Rattle.explore_sites.proofs.SwapLemmas.{put_swap, names_still, value_still, accessed, load_swap, access_swap}

-- two touches are of different words, or the first only loads and the second doesn't store
abbrev pub KeepApart : Option Touch → Option Touch → Type 0
KeepApart None q = Unit {0}
KeepApart (Some t) None = Unit {0}
KeepApart (Some t) (Some o) = (t.word ≡ o.word → ⊥) ⊎ ((only_loads t.act ≡ true) × (may_store o.act ≡ false))

-- a touch is no store-conditional
abbrev pub IsSure : Option Touch → Type 0
IsSure None = Unit {0}
IsSure (Some t) = is_store_conditional t.act ≡ false

module _ {H : Type 0} (T : StepTable H) where
  -- a hart's access by what it finds
  abbrev by_found : TableWorld H → ℕ → H → WordBytes → Act → ℕ → WordBytes → Bool → TableWorld H
  by_found w h s c act x v ok = accessed w h (T.after s c v ok) (kind_of act ok) x (word_after T s c v (kind_of act ok))

  -- an act that is no store-conditional doesn't look at the hart's mark
  sure_fails : (act : Act) (refuse holds : Bool) → is_store_conditional act ≡ false → succeeds act refuse holds ≡ false
  sure_fails Reads refuse holds sure = refl
  sure_fails Writes refuse holds sure = refl
  sure_fails Reserves refuse holds sure = refl
  sure_fails Tries refuse holds sure = absurd cc

  -- the step of a hart whose touch is no store-conditional
  sure_done : (w : TableWorld H) (h : ℕ) (refuse : Bool) (s : H) (c : WordBytes) (act : Act) (x : ℕ) (v : WordBytes)
      → is_store_conditional act ≡ false → w.shared.values x ≡ v
      → done T w h refuse s c (Some (record { act = act; word = x })) ≡ by_found w h s c act x v false
  sure_done w h refuse s c act x v sure is =
      ap (by_found w h s c act x (w.shared.values x)) (sure_fails act refuse (names (w.shared.marks h) x) sure)
      ∙ ap (λ z. by_found w h s c act x z false) is

  -- the step of a hart that finds these bytes, and its mark or not
  found_done : (w : TableWorld H) (h : ℕ) (refuse : Bool) (s : H) (c : WordBytes) (act : Act) (x : ℕ) (v : WordBytes) (holds : Bool)
      → w.shared.values x ≡ v → names (w.shared.marks h) x ≡ holds
      → done T w h refuse s c (Some (record { act = act; word = x })) ≡ by_found w h s c act x v (succeeds act refuse holds)
  found_done w h refuse s c act x v holds is has =
      ap₂ (λ z o. by_found w h s c act x z (succeeds act refuse o)) is has

  module _ (w : TableWorld H) (h k : ℕ) (refuse : Bool) (s u : H) (c d : WordBytes) (off : h ≡ k → ⊥) where
    -- a hart that touches nothing, and another
    none_first : (q : Option Touch) → done T (done T w h false s c None) k refuse u d q ≡ done T (done T w k refuse u d q) h false s c None
    none_first None = ap (λ f. record { harts = f; shared = w.shared }) (put_swap w.harts h k (T.after s c [] false) (T.after u d [] false) off)
    none_first (Some o) =
        let ok = succeeds o.act refuse (names (w.shared.marks k) o.word) in
        load_swap w h k (T.after s c [] false) (T.after u d (w.shared.values o.word) ok) (kind_of o.act ok) 0 o.word []
        (word_after T u d (w.shared.values o.word) (kind_of o.act ok)) off

    none_then : (t : Touch) → is_store_conditional t.act ≡ false
        → done T (done T w h false s c (Some t)) k refuse u d None ≡ done T (done T w k refuse u d None) h false s c (Some t)
    none_then t sure =
        let ok = succeeds t.act false (names (w.shared.marks h) t.word) in
        sym (load_swap w k h (T.after u d [] false) (T.after s c (w.shared.values t.word) ok) (kind_of t.act ok) 0 t.word []
        (word_after T s c (w.shared.values t.word) (kind_of t.act ok)) (λ e. off (sym e)))

    -- touches of two words
    words_apart : (act other : Act) (x y : ℕ) → is_store_conditional act ≡ false → (x ≡ y → ⊥)
        → done T (done T w h false s c (Some (record { act = act; word = x }))) k refuse u d (Some (record { act = other; word = y }))
        ≡ done T (done T w k refuse u d (Some (record { act = other; word = y }))) h false s c (Some (record { act = act; word = x }))
    words_apart act other x y sure ne =
        let p : Option Touch = Some (record { act = act; word = x }) in
        let q : Option Touch = Some (record { act = other; word = y }) in
        let v = w.shared.values x in
        let z = w.shared.values y in
        let ok = succeeds other refuse (names (w.shared.marks k) y) in
        let one : TableWorld H = by_found w h s c act x v false in
        let two : TableWorld H = by_found w k u d other y z ok in
        ap (λ m. done T m k refuse u d q) (sure_done w h false s c act x v sure refl)
        ∙ found_done one k refuse u d other y z (names (w.shared.marks k) y)
        (value_still (kind_of act false) w.shared.values x y (word_after T s c v (kind_of act false)) ne)
        (names_still act w.shared.marks h k x y sure off ne)
        ∙ access_swap w h k (T.after s c v false) (T.after u d z ok) act (kind_of other ok) x y
        (word_after T s c v (kind_of act false)) (word_after T u d z (kind_of other ok)) sure off ne
        ∙ sym (sure_done two h false s c act x v sure
        (value_still (kind_of other ok) w.shared.values y x (word_after T u d z (kind_of other ok)) (λ e. ne (sym e))))

    -- a load, and a touch that stores nothing
    loads_first : (act other : Act) (x y : ℕ) → only_loads act ≡ true → may_store other ≡ false
        → done T (done T w h false s c (Some (record { act = act; word = x }))) k refuse u d (Some (record { act = other; word = y }))
        ≡ done T (done T w k refuse u d (Some (record { act = other; word = y }))) h false s c (Some (record { act = act; word = x }))
    loads_first Reads Reads x y loads keeps =
        load_swap w h k (T.after s c (w.shared.values x) false) (T.after u d (w.shared.values y) false) Load x y
        (w.shared.values x) (w.shared.values y) off
    loads_first Reads Reserves x y loads keeps =
        load_swap w h k (T.after s c (w.shared.values x) false) (T.after u d (w.shared.values y) false) LoadReserved x y
        (w.shared.values x) (w.shared.values y) off
    loads_first Reads Writes x y loads keeps = absurd cc
    loads_first Reads Tries x y loads keeps = absurd cc
    loads_first Writes other x y loads keeps = absurd cc
    loads_first Reserves other x y loads keeps = absurd cc
    loads_first Tries other x y loads keeps = absurd cc

    pub done_swap : (p q : Option Touch) → IsSure p → KeepApart p q
        → done T (done T w h false s c p) k refuse u d q ≡ done T (done T w k refuse u d q) h false s c p
    done_swap None q sure apart = none_first q
    done_swap (Some t) None sure apart = none_then t sure
    done_swap (Some t) (Some o) sure apart = elim apart [
      | inl ne ↦ words_apart t.act o.act t.word o.word sure ne
      | inr both ↦ loads_first t.act o.act t.word o.word both.0 both.1
    ]
