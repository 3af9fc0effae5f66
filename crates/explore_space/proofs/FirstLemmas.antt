-- The first key.
use Rattle.std.proofs.Common.{◌≡◌, ℕ, zero, suc, ◌+◌, ◌*◌, ◌/◌, ◌%◌, ◌<◌, Bool, false, ◌==◌, List, [], ◌∷◌, length, map, take, Some, None, refl, ap, sym, ◌∙◌, subst, arith, inl, inr}
use Rattle.std.proofs.lemmas.Bool.{cases_lt}
use Rattle.std.proofs.lemmas.List.{length-map, length-take-le, same_lists}
use Rattle.std.proofs.lemmas.Option.{same_Some, slice_get_within, slice_get-map, get_or_from_slice_get}
use Rattle.std.specs.List.{All, slice_get, slice_index}
use Rattle.std.specs.Option.{option_map}
use Rattle.image.specs.Image.{ImageValue}
use Rattle.mem_store.specs.Memory.{Memory}
use Rattle.mem_store.specs.Image.{image_memory}
use Rattle.hart_reservations.specs.Marks.{Marks, mark_at}
use Rattle.hart_step.specs.Hart.{HartValue, hart_of}
use Rattle.hart_step.specs.Laws.{Keeps, IsAligned}
use Rattle.hart_step.proofs.Kept.{keeps-same}
use Rattle.hart_step.specs.declared.hart.Hart.{Hart}
use Rattle.machine.specs.World.{World, run}
use Rattle.machine.specs.Start.{first_harts, started}
use Rattle.machine.proofs.RunLaws.{run-aligned, length-started}
use Rattle.bank_laws.specs.Words.{bytes_at}
use Rattle.explore_table.proofs.ListLemmas.{get_there}
use Rattle.explore_sites.specs.Cells.{AreCanonical, words_shown, values_over}
use Rattle.explore_sites.proofs.CanonLemmas.{no_cells_canonical}
use Rattle.explore_laws.specs.Places.{Place, place_begun}
use Rattle.explore_space.specs.Places.{chosen_by_key, chosen_worded, hart_in, hart_numbered, hart_worded, cells_in, marks_in, memory_over, world_of_key, place_of_key, HartsDiffer, IsKey, IsKeyOf}
use Rattle.explore_space.specs.declared.shared.Shared.{Shared}
use Rattle.explore_space.proofs.WorldLemmas.{memory_is, unmarked_past}
use Rattle.explore_space.proofs.KeyLemmas.{taken_at}
use Rattle.explore_space.specs.Habits.{Habits, stride_by_habit}

-- ---- the harts at the start
-- register 10 of each hart is its number
numbered : (entry n h : ℕ) (inputs : List ℕ) (k : ℕ) (v : HartValue) → slice_get (first_harts entry n h inputs) k ≡ Some v
    → v.registers 10 ≡ h + k
numbered entry n h [] k v e = absurd (cc)
numbered entry n h (input ∷ inputs) zero v e =
    let same : v.registers 10 ≡ h = sym (ap (λ (x : HartValue). x.registers 10) (same_Some _ v e)) in omega (arith, same)
numbered entry n h (input ∷ inputs) (suc k) v e = let later = numbered entry n (h + 1) inputs k v e in omega (arith, later)

begun_number : (image : ImageValue) (inputs : List ℕ) (k : ℕ) (v : HartValue) → slice_get (started image inputs).harts k ≡ Some v
    → v.registers 10 ≡ k
unfolding started
begun_number image inputs k v e = let is = numbered image.entry (length inputs) 0 inputs k v e in omega (arith, is)

harts_begin_apart : (image : ImageValue) (inputs : List ℕ) (begin : List Hart) → map hart_of begin ≡ (started image inputs).harts
    → HartsDiffer begin
harts_begin_apart image inputs begin begin_is i j d low inside =
    let here = get_there begin i (omega (arith, low, inside)) in
    let there = get_there begin j inside in
    λ same.
    let one = number i here.0 here.1 in
    let other = number j there.0 there.1 in
    let equal : (hart_of here.0).registers 10 ≡ (hart_of there.0).registers 10
    = ap (λ (v : HartValue). v.registers 10) (sym (ap hart_of (get_or_from_slice_get begin i here.0 d here.1)) ∙ same
    ∙ ap hart_of (get_or_from_slice_get begin j there.0 d there.1)) in
    omega (arith, one, other, equal, low)
  where
    number : (k : ℕ) (h : Hart) → slice_get begin k ≡ Some h → (hart_of h).registers 10 ≡ k
    number k h e = begun_number image inputs k (hart_of h)
        (ap (λ hs. slice_get hs k) (sym begin_is) ∙ slice_get-map hart_of begin k ∙ ap (option_map hart_of) e)

-- ---- the first key
module _ {Z : Type 0} (image : ImageValue) (inputs : List ℕ) (begin : List Hart) (shareds : List (Shared Z)) (s : Shared Z) (row : List ℕ)
    (entry : image.entry % 4 ≡ 0) (shareds_are : shareds ≡ s ∷ []) (begin_is : map hart_of begin ≡ (started image inputs).harts)
    (no_marks : mark_at s.marks ≡ (λ _. None)) (no_cells : s.cells.items ≡ []) (len : length row ≡ length inputs + 1)
    (words : (k : ℕ) → k < length inputs → slice_index row k ≡ 2 * k) (shared_at : slice_index row (length inputs) ≡ 0) where
  count : length begin ≡ length inputs
  count = sym (length-map begin hart_of) ∙ ap length begin_is ∙ length-started image inputs

  taken_long : length (take (length inputs) row) ≡ length inputs
  taken_long = length-take-le (length inputs) row (omega (arith, len))

  word_there : (k : ℕ) → k < length inputs → slice_get (take (length inputs) row) k ≡ Some (2 * k)
  word_there k below = taken_at (length inputs) row k below (omega (arith, len, below)) ∙ ap Some (words k below)

  half_is : (k : ℕ) → 2 * k / 2 ≡ k
  half_is k = omega arith

  all_harts : map (hart_worded begin) (take (length inputs) row) ≡ (started image inputs).harts
  all_harts = same_lists (map (hart_worded begin) (take (length inputs) row)) (map hart_of begin)
      (length-map (take (length inputs) row) (hart_worded begin) ∙ taken_long ∙ sym count ∙ sym (length-map begin hart_of))
      (λ k d low.
      let long = length-map (take (length inputs) row) (hart_worded begin) in
      let below : k < length inputs = omega (arith, low, long, taken_long) in
      let at = get_there begin k (omega (arith, below, count)) in
      get_or_from_slice_get (map (hart_worded begin) (take (length inputs) row)) k (hart_of at.0) d
      (slice_get-map (hart_worded begin) (take (length inputs) row) k ∙ ap (option_map (hart_worded begin)) (word_there k below)
      ∙ ap (λ i. Some (hart_numbered begin i)) (half_is k) ∙ ap (λ o. Some (hart_in o)) at.1)
      ∙ sym (get_or_from_slice_get (map hart_of begin) k (hart_of at.0) d (slice_get-map hart_of begin k ∙ ap (option_map hart_of) at.1)))
      ∙ begin_is

  shared_there : slice_get shareds (slice_index row (length inputs)) ≡ Some s
  shared_there = ap (slice_get shareds) shared_at ∙ ap (λ ss. slice_get ss 0) shareds_are

  no_cells_there : cells_in (slice_get shareds (slice_index row (length inputs))) ≡ []
  no_cells_there = ap cells_in shared_there ∙ no_cells

  image_is : memory_over (image_memory image) (words_shown image []) ≡ image_memory image
  unfolding values_over
  image_is = memory_is (image_memory image) (image_memory image) (words_shown image []) refl (λ x at. refl)

  memory_there : memory_over (image_memory image) (words_shown image (cells_in (slice_get shareds (slice_index row (length inputs))))) ≡ image_memory image
  memory_there = ap (λ cells. memory_over (image_memory image) (words_shown image cells)) no_cells_there ∙ image_is

  marks_there : marks_in (slice_get shareds (slice_index row (length inputs))) ≡ (λ (_ : ℕ). None)
  marks_there = ap marks_in shared_there ∙ no_marks

  first_world : world_of_key image (length inputs) begin shareds row ≡ started image inputs
  unfolding started
  first_world = ap (λ (hs : List HartValue). world_of hs (memory_over (image_memory image) (words_shown image (cells_in (slice_get shareds (slice_index row (length inputs)))))) (marks_in (slice_get shareds (slice_index row (length inputs))))) all_harts
      ∙ ap (λ (x : Memory). world_of (started image inputs).harts x (marks_in (slice_get shareds (slice_index row (length inputs))))) memory_there
      ∙ ap (λ (x : Marks). world_of (started image inputs).harts (image_memory image) x) marks_there
    where
      world_of : List HartValue → Memory → Marks → World
      world_of hs x y = record { harts = hs; memory = x; reserved = y }

  even : (k : ℕ) → 2 * k % 2 ≡ 0
  even k = omega arith

  -- words of harts are even
  chosen_none : (k : ℕ) → chosen_by_key (length inputs) row k ≡ false
  chosen_none k = elim (cases_lt k (length inputs)) [
    | inl below ↦ ap chosen_worded (get_or_from_slice_get (take (length inputs) row) k (2 * k) 0 (word_there k below)) ∙ ap (λ rest. rest == 1) (even k)
    | inr past ↦ unmarked_past (length inputs) row k past
  ]

  first_place : (habits : Habits)
      → place_of_key habits image (length inputs) begin shareds row ≡ place_begun (stride_by_habit habits) (started image inputs)
  first_place habits =
      let chosen : chosen_by_key (length inputs) row ≡ (λ (k : ℕ). false) = λ i k. chosen_none k i in
      ap (λ (x : World). place_of x (chosen_by_key (length inputs) row)) first_world ∙ ap (place_of (started image inputs)) chosen
    where
      place_of : World → (ℕ → Bool) → Place
      place_of x y = record { stride = stride_by_habit habits; world = x; chosen = y }

  only_one : (k : ℕ) (t : Shared Z) → slice_get (s ∷ []) k ≡ Some t → s ≡ t
  only_one zero t e = same_Some s t e
  only_one (suc k) t e = absurd (cc)

  first_key : IsKey image (length inputs) begin shareds row
  unfolding run values_over
  first_key = record {
    len = len;
    harts = λ k word e.
        let below : k < length inputs = (let a = slice_get_within (take (length inputs) row) k word e in omega (arith, a, taken_long)) in
        let is : 2 * k ≡ word = same_Some (2 * k) word (sym (word_there k below) ∙ e) in
        omega (arith, is, below, count);
    shared = (let a = ap length shareds_are in omega (arith, a, shared_at));
    once = (
      harts_begin_apart image inputs begin begin_is,
      (
        λ i j d low inside. absurd (let a = ap length shareds_are in omega (arith, a, low, inside)),
        λ k t e. subst (λ (x : Shared Z). AreCanonical image x.cells.items) (only_one k t (sym (ap (λ ss. slice_get ss k) shareds_are) ∙ e))
            (subst (AreCanonical image) (sym no_cells) (no_cells_canonical image)),
      ),
    );
    keeps = subst (Keeps (image_memory image)) (sym memory_there) (keeps-same (image_memory image));
    words = λ x at. ap (λ cells. words_shown image cells x) no_cells_there ∙ ap (λ (y : Memory). bytes_at y.bytes x) (sym memory_there);
    aligned = subst (All IsAligned) (sym all_harts) (run-aligned image inputs [] entry);
  }

  pub first_is_key : (habits : Habits)
      → IsKeyOf habits image (length inputs) begin shareds row (place_begun (stride_by_habit habits) (started image inputs))
  first_is_key habits = (first_key, first_place habits)
