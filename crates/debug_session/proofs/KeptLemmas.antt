-- Runs in two parts, and the machines that are kept between them.
use Rattle.std.proofs.Common.{◌≡◌, ℕ, zero, suc, ◌+◌, ◌*◌, List, [], ◌∷◌, ◌++◌, length, take, drop, Some, ◌⊎◌, inl, inr, ◌∙◌, sym, ap, refl, rules}
use Rattle.std.proofs.Math.Seq.{take-add}
use Rattle.std.proofs.lemmas.Option.{none-some}
use Rattle.std.specs.List.{slice_get}
use Rattle.image.specs.Image.{ImageValue}
use Rattle.mem_paged.specs.declared.page_store.PageStore.{PageStore}
use Rattle.machine.specs.World.{World, step, run}
use Rattle.machine.specs.Start.{started}
use Rattle.machine.specs.declared.choice.Choice.{Choice}
use Rattle.machine.specs.declared.machine.Machine.{Machine}
use Rattle.machine.proofs.WorldLemmas.{run_none}
use Rattle.debug_session.specs.Paged.{paged_world}
use Rattle.debug_session.specs.Kept.{AreKept}

-- ---- runs
run-append : (w : World) (cs ds : List Choice) → run w (cs ++ ds) ≡ run (run w cs) ds
unfolding run
run-append w [] ds = refl
run-append w (c ∷ cs) ds = run-append (step w c) cs ds

run_on : (w : World) (cs : List Choice) (f n : ℕ) → run w (take (f + n) cs) ≡ run (run w (take f cs)) (take n (drop f cs))
run_on w cs f n = ap (run w) (take-add f n cs) ∙ run-append w (take f cs) (take n (drop f cs))

-- n choices further than the first f
pub run_further : (start v w : World) (cs rest part : List Choice) (f n k : ℕ) → v ≡ run start (take f cs) → rest ≡ drop f cs → part ≡ take n rest
    → w ≡ run v part → f + n ≡ k → w ≡ run start (take k cs)
run_further start v w cs rest part f n k was rests is ran sum =
    ran ∙ ap (λ (u : World). run u part) was
    ∙ ap (run (run start (take f cs))) (is ∙ ap (take n) rests)
    ∙ sym (run_on start cs f n)
    ∙ ap (λ (i : ℕ). run start (take i cs)) sum

-- ---- machines that are kept
slice_get-push : {X : Type 0} (xs : List X) (x y : X) (i : ℕ) → slice_get (xs ++ x ∷ []) i ≡ Some y → (slice_get xs i ≡ Some y) ⊎ ((i ≡ length xs) × (y ≡ x))
slice_get-push [] x y zero e = inr (refl, search rules)
slice_get-push [] x y (suc i) e = absurd (search rules)
slice_get-push (z ∷ xs) x y zero e = inl e
slice_get-push (z ∷ xs) x y (suc i) e = elim (slice_get-push xs x y i e) [
  | inl old ↦ inl old
  | inr new ↦ inr (ap suc new.0, new.1)
]

module _ {Z : Type 0} (start : World) (cs : List Choice) where
  kept_none : AreKept {Z = Z} start cs []
  kept_none i m e = absurd (none-some m e)

  kept_push : (ms : List (Machine (PageStore Z) Z)) (m : Machine (PageStore Z) Z) (i : ℕ) → AreKept start cs ms → i ≡ length ms
      → paged_world m ≡ run start (take (i * 256) cs) → AreKept start cs (ms ++ m ∷ [])
  kept_push ms m i kept at is k n e = elim (slice_get-push ms m n k e) [
    | inl old ↦ kept k n old
    | inr new ↦ ap (λ (x : Machine (PageStore Z) Z). paged_world x) new.1 ∙ is ∙ ap (λ (j : ℕ). run start (take (j * 256) cs)) (at ∙ sym new.0)
  ]

  -- one machine more
  pub kept_more : (v : World) (ms ns : List (Machine (PageStore Z) Z)) (m : Machine (PageStore Z) Z) (count i : ℕ) → AreKept start cs ms → count ≡ length ms → count ≡ i
      → ns ≡ ms ++ m ∷ [] → paged_world m ≡ v → v ≡ run start (take (i * 256) cs) → AreKept start cs ns
  kept_more v ms ns m count i kept len at is same ran = rw is (kept_push ms m i kept (sym at ∙ len) (same ∙ ran))

  -- the first one
  pub kept_first : (none ms : List (Machine (PageStore Z) Z)) (m : Machine (PageStore Z) Z) → none ≡ [] → ms ≡ none ++ m ∷ [] → paged_world m ≡ start → AreKept start cs ms
  kept_first none ms m empty is same = rw (is, empty) (kept_push [] m 0 kept_none refl (same ∙ sym (run_none start)))

-- the same of a start and of choices that are known by other names
pub kept_so : {Z : Type 0} (image : ImageValue) (inputs : List ℕ) (choices cs : List Choice) (w : World) (ms : List (Machine (PageStore Z) Z)) → w ≡ started image inputs → cs ≡ choices
    → AreKept w cs ms → AreKept (started image inputs) choices ms
kept_so image inputs choices cs w ms is same kept i m e =
    kept i m e ∙ ap (λ (u : World). run u (take (i * 256) cs)) is ∙ ap (λ (ds : List Choice). run (started image inputs) (take (i * 256) ds)) same
