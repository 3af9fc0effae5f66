-- Where no hart may stray, each hart's next step is clear of the others' words.
use Rattle.std.proofs.Common.{◌≡◌, ℕ, zero, suc, ◌+◌, ◌<◌, ◌==◌, Bool, true, false, ◌||◌, List, [], ◌∷◌, length, Option, Some, None, refl, ap, sym, ◌∙◌, subst, arith, inl, inr, true≢false}
use Rattle.std.specs.List.{slice_get}
use Rattle.std.specs.Option.{is_some}
use Rattle.hart_step.specs.Hart.{HartValue}
use Rattle.machine.specs.World.{World}
use Rattle.explore_search.proofs.SearchLemmas.{below_or}
use Rattle.explore_sites.specs.Own.{Owners, clear_by, clear_in, code_ahead, is_clear_code, touch_ahead}
use Rattle.explore_space.specs.Failing.{one_strays, strays_by, strays_from, touches_anothers}
use Rattle.explore_space.specs.Habits.{owners_in}
use Rattle.explore_space.specs.declared.own_words.OwnWord.{OwnWord}
use Rattle.explore_space.proofs.ClearLemmas.{ShutAbove, clear_if, nobodys_clear}

pub neither : (a b : Bool) → a || b ≡ false → (a ≡ false) × (b ≡ false)
neither true b e = absurd (true≢false e)
neither false b e = (refl, e)

code_clear : (owners : Owners) (h : ℕ) (o : Option ℕ) → is_some o ≡ false → is_clear_code owners h o ≡ true
code_clear owners h None e = refl
code_clear owners h (Some x) e = absurd (true≢false e)

by_hart : (owners : Owners) (w : World) (h : ℕ) (o : Option HartValue) → ShutAbove w.memory → strays_by owners w h o ≡ false → clear_by owners w h o ≡ true
by_hart owners w h None shut e = refl
by_hart owners w h (Some v) shut e =
    let both = neither (is_some (code_ahead w.memory v)) (touches_anothers owners h (touch_ahead w.memory v)) e in
    clear_if owners w.memory h v shut (code_clear owners h (code_ahead w.memory v) both.0) both.1

each_below : (owners : Owners) (w : World) (n h : ℕ) → h < n → one_strays owners w n ≡ false
    → strays_by owners w h (slice_get w.harts h) ≡ false
unfolding one_strays
each_below owners w zero h low e = absurd (omega (arith, low))
each_below owners w (suc n) h low e =
    let both = neither (one_strays owners w n) (strays_by owners w n (slice_get w.harts n)) e in
    elim (below_or h n (omega (arith, low))) [
      | inl before ↦ each_below owners w n h before both.0
      | inr here ↦ subst (λ k. strays_by owners w k (slice_get w.harts k) ≡ false) (sym here) both.1
    ]

pub clear_below : (words : List OwnWord) (w : World) (n h : ℕ) → ShutAbove w.memory → h < n → strays_from words w n ≡ false
    → clear_in (owners_in words) w h ≡ true
clear_below [] w n h shut low e = nobodys_clear w h shut
clear_below (own ∷ words) w n h shut low e =
    by_hart (owners_in (own ∷ words)) w h (slice_get w.harts h) shut (each_below (owners_in (own ∷ words)) w n h low e)

-- ---- whether one of the first harts may stray, hart by hart
pub strays_none : (owners : Owners) (w : World) → one_strays owners w 0 ≡ false
unfolding one_strays
strays_none owners w = refl

pub strays_more : (owners : Owners) (w : World) (n : ℕ) → one_strays owners w n ≡ false → strays_by owners w n (slice_get w.harts n) ≡ false
    → one_strays owners w (n + 1) ≡ false
unfolding one_strays
strays_more owners w n before here =
    let one : n + 1 ≡ suc n = omega arith in
    rw one (ap (λ b. b || strays_by owners w n (slice_get w.harts n)) before ∙ here)

pub strays_one : (owners : Owners) (w : World) (n h : ℕ) → h < n → strays_by owners w h (slice_get w.harts h) ≡ true → one_strays owners w n ≡ true
unfolding one_strays
strays_one owners w zero h low e = absurd (omega (arith, low))
strays_one owners w (suc n) h low e = elim (below_or h n (omega (arith, low))) [
  | inl before ↦ ap (λ b. b || strays_by owners w n (slice_get w.harts n)) (strays_one owners w n h before e)
  | inr here ↦
      or_true (one_strays owners w n) (strays_by owners w n (slice_get w.harts n))
      (subst (λ k. strays_by owners w k (slice_get w.harts k) ≡ true) here e)
]
  where
    or_true : (a b : Bool) → b ≡ true → a || b ≡ true
    or_true true b e = refl
    or_true false b e = e

-- where some word has an owner this is asked of all harts
pub some_strays : (words : List OwnWord) (w : World) (n : ℕ) → (length words == 0) ≡ false → strays_from words w n ≡ one_strays (owners_in words) w n
some_strays [] w n some = absurd (true≢false some)
some_strays (own ∷ words) w n some = refl
