-- A key whose hart has taken its local steps.
use Rattle.std.proofs.Common.{◌≡◌, ℕ, ◌/◌, ◌%◌, ◌<◌, Bool, List, length, map, take, set, Option, Some, ap, sym, ◌∙◌, subst, arith, inl, inr}
use Rattle.std.proofs.lemmas.List.{length-set, get_or-set_other, map-set}
use Rattle.std.specs.List.{All, slice_get, slice_index}
use Rattle.image.specs.Image.{ImageValue}
use Rattle.mem_store.specs.Image.{image_memory}
use Rattle.hart_step.specs.Hart.{HartValue}
use Rattle.hart_step.specs.Laws.{Keeps, IsAligned}
use Rattle.hart_step.proofs.HartLemmas.{stepped-aligned}
use Rattle.hart_step.specs.declared.hart.Hart.{Hart}
use Rattle.hart_local.specs.CodeMemory.{code_in}
use Rattle.hart_local.specs.LocalRuns.{plain_choices}
use Rattle.hart_local.proofs.StepLemmas.{code_kept}
use Rattle.machine.specs.World.{World, run}
use Rattle.machine.specs.declared.choice.Choice.{Choice}
use Rattle.machine.proofs.RunLaws.{all-run}
use Rattle.bank_laws.specs.Words.{bytes_at}
use Rattle.explore_laws.specs.Places.{Place}
use Rattle.explore_search.specs.Searched.{GoesOn}
use Rattle.explore_sites.specs.Cells.{words_shown}
use Rattle.explore_space.specs.Places.{chosen_by_key, chosen_worded, hart_numbered, hart_worded, cells_in, marks_in, memory_over, world_of_key, place_of_key, IsKey, IsKeyOf, KeptOnce}
use Rattle.explore_space.specs.declared.shared.Shared.{Shared}
use Rattle.explore_space.proofs.WorldLemmas.{chosen_stays, take-set}
use Rattle.explore_space.proofs.KeyLemmas.{hart_at, get_set, all_same, longer_length}
use Rattle.explore_space.specs.Begun.{hart_settled, place_rested}
use Rattle.explore_space.specs.Habits.{Habits, stride_by_habit}
use Rattle.explore_space.proofs.RestLemmas.{rested_by, settled_is}
use Rattle.explore_space.specs.Resting.{at_once, rested, stride_of}

module _ {Z : Type 0} (habits : Habits) (image : ImageValue) (n : ℕ) (harts more_harts : List Hart) (shareds : List (Shared Z)) (harts_go : GoesOn harts more_harts)
    (shareds_go : GoesOn shareds shareds) (key next : List ℕ) (is : IsKey image n harts shareds key) (number word id : ℕ) (low : number < n)
    (half : word / 2 ≡ id) (marked : chosen_worded word ≡ chosen_worded (slice_index key number)) (id_there : id < length more_harts)
    (next_is : next ≡ set key number word)
    (rests : hart_numbered more_harts id ≡ rested habits.section (code_in (image_memory image)) at_once (hart_worded harts (slice_index key number))) where
  abbrev f : ℕ → HartValue
  f = hart_worded harts

  abbrev g : ℕ → HartValue
  g = hart_worded more_harts

  abbrev w : World
  w = world_of_key image n harts shareds key

  hart_there : slice_get w.harts number ≡ Some (f (slice_index key number))
  hart_there = hart_at image n harts shareds key is number low

  code_is : code_in w.memory ≡ code_in (image_memory image)
  code_is = code_kept (image_memory image) w.memory is.keeps

  taken_is : take n next ≡ set (take n key) number word
  taken_is = ap (take n) next_is ∙ take-set n key number word

  harts_are : map g (take n next) ≡ set w.harts number (rested habits.section (code_in w.memory) at_once (f (slice_index key number)))
  harts_are = ap (map g) taken_is ∙ map-set g (take n key) number word
      ∙ ap (λ (hs : List HartValue). set hs number (g word)) (all_same image n harts more_harts shareds shareds harts_go shareds_go key is)
      ∙ ap (set w.harts number) (ap (hart_numbered more_harts) half ∙ rests ∙ ap (λ m. rested habits.section m at_once (f (slice_index key number))) (sym code_is))

  at_n : slice_index next n ≡ slice_index key n
  at_n = ap (λ (xs : List ℕ). slice_index xs n) next_is ∙ get_or-set_other key number n word 0 (λ e. omega (arith, e, low))

  world_is : world_of_key image n more_harts shareds next ≡ hart_settled habits.section w number
  world_is = ap (λ i. world_of (map g (take n next)) (slice_get shareds i)) at_n
      ∙ ap (λ (hs : List HartValue). world_of hs (slice_get shareds (slice_index key n))) harts_are
      ∙ ap (rested_by habits.section w number) (sym hart_there) ∙ sym (settled_is habits.section w number)
    where
      world_of : List HartValue → Option (Shared Z) → World
      world_of hs o = record { harts = hs; memory = memory_over (image_memory image) (words_shown image (cells_in o)); reserved = marks_in o }

  settled_place_is : place_of_key habits image n more_harts shareds next ≡ place_rested habits.section (place_of_key habits image n harts shareds key) number
  settled_place_is =
      let chosen : chosen_by_key n next ≡ chosen_by_key n key = λ i k. chosen_stays n number word key next low is.len taken_is marked k i in
      ap (λ (x : World). place_of x (chosen_by_key n next)) world_is ∙ ap (place_of (hart_settled habits.section w number)) chosen
    where
      place_of : World → (ℕ → Bool) → Place
      place_of x y = record { stride = stride_by_habit habits; world = x; chosen = y }

  abbrev locals : List Choice
  locals = plain_choices number (stride_of habits.section w number)

  run_is : world_of_key image n more_harts shareds next ≡ run w locals
  run_is = world_is

  settled_is_key : KeptOnce image more_harts shareds → IsKey image n more_harts shareds next
  settled_is_key once = record {
    once = once;
    len = ap length next_is ∙ length-set key number word ∙ is.len;
    harts = λ k i e. elim (get_set (take n key) number k word i (ap (λ (xs : List ℕ). slice_get xs k) (sym taken_is) ∙ e)) [
      | inl old ↦ (let a = is.harts k i old in let b = longer_length harts more_harts harts_go in omega (arith, a, b))
      | inr new ↦ (let a = new in omega (arith, a, half, id_there))
    ];
    shared = (let a = at_n in let b = is.shared in omega (arith, a, b));
    keeps = subst (λ i. Keeps (image_memory image) (memory_over (image_memory image) (words_shown image (cells_in (slice_get shareds i)))))
        (sym at_n) is.keeps;
    words = subst (λ i. (x : ℕ) → x % 4 ≡ 0 → words_shown image (cells_in (slice_get shareds i)) x
        ≡ bytes_at (memory_over (image_memory image) (words_shown image (cells_in (slice_get shareds i)))).bytes x)
        (sym at_n) is.words;
    aligned = subst (λ (x : World). All IsAligned x.harts) (sym run_is) (all-run IsAligned stepped-aligned w locals is.aligned);
  }

  pub settled_is_key_of : KeptOnce image more_harts shareds
      → IsKeyOf habits image n more_harts shareds next (place_rested habits.section (place_of_key habits image n harts shareds key) number)
  settled_is_key_of once = (settled_is_key once, settled_place_is)
