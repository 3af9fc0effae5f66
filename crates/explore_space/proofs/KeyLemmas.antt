-- Keys after a turn, and keys as tables grow.
use Rattle.std.proofs.Common.{◌≡◌, ℕ, zero, suc, ◌/◌, ◌%◌, ◌<◌, ◌≤◌, Bool, true, List, [], ◌∷◌, length, map, take, set, Option, Some, refl, ap, sym, ◌∙◌, subst, arith, inl, inr, ◌⊎◌}
use Rattle.std.proofs.lemmas.List.{length-set, length-append, map-set}
use Rattle.std.proofs.lemmas.List.Elements.{All-set}
use Rattle.std.proofs.lemmas.Option.{slice_get_within, get_or_from_slice_get, slice_get-map}
use Rattle.std.specs.Option.{option_map}
use Rattle.std.specs.List.{All, slice_get, slice_index}
use Rattle.image.specs.Image.{ImageValue}
use Rattle.mem_store.specs.Memory.{Memory, grants, to_write}
use Rattle.mem_store.specs.Image.{image_memory}
use Rattle.hart_step.specs.Hart.{HartValue}
use Rattle.hart_step.specs.Laws.{Keeps, IsAligned}
use Rattle.hart_step.specs.declared.hart.Hart.{Hart}
use Rattle.machine.specs.World.{World}
use Rattle.machine.specs.declared.choice.Choice.{Choice}
use Rattle.bank_laws.specs.Banks.{WordBytes}
use Rattle.bank_laws.specs.Words.{bytes_at}
use Rattle.explore_sites.specs.Cells.{words_shown}
use Rattle.explore_laws.specs.Places.{Place, place_after}
use Rattle.explore_search.specs.Searched.{GoesOn}
use Rattle.explore_space.specs.Habits.{Habits, stride_by_habit}
use Rattle.explore_space.specs.Places.{chosen_by_key, chosen_worded, hart_in, hart_worded, cells_in, marks_in, memory_over, world_of_key, place_of_key, IsKey, IsKeyOf, KeptOnce, KeysStay, PartsTurn, ShowsParts, world_turned}
use Rattle.explore_space.specs.declared.shared.Shared.{Shared}
use Rattle.explore_space.proofs.WorldLemmas.{get_within, map_same, memory_is, taken, shared_after, chosen_after, turn_sets}

pub longer_length : {X : Type 0} (xs ys : List X) → GoesOn xs ys → length xs ≤ length ys
longer_length xs ys goes = let e = ap length goes.1 ∙ length-append xs goes.0 in omega (arith, e)

pub longer_get : {X : Type 0} (xs ys : List X) → GoesOn xs ys → (k : ℕ) → k < length xs → slice_get ys k ≡ slice_get xs k
longer_get xs ys goes k h = ap (λ zs. slice_get zs k) goes.1 ∙ get_within xs goes.0 k h

-- ---- keys stay
module _ {Z : Type 0} (image : ImageValue) (n : ℕ) (harts more_harts : List Hart) (shareds more_shareds : List (Shared Z))
    (harts_go : GoesOn harts more_harts) (shareds_go : GoesOn shareds more_shareds) (key : List ℕ) (is : IsKey image n harts shareds key) where
  pub harts_same : (k word : ℕ) → slice_get (take n key) k ≡ Some word → hart_worded more_harts word ≡ hart_worded harts word
  harts_same k word e = ap hart_in (longer_get harts more_harts harts_go (word / 2) (is.harts k word e))

  pub all_same : map (hart_worded more_harts) (take n key) ≡ map (hart_worded harts) (take n key)
  all_same = map_same (hart_worded more_harts) (hart_worded harts) (take n key) harts_same

  shared_same : slice_get more_shareds (slice_index key n) ≡ slice_get shareds (slice_index key n)
  shared_same = longer_get shareds more_shareds shareds_go (slice_index key n) is.shared

  abbrev world_by : List HartValue → Option (Shared Z) → World
  world_by hs o = record { harts = hs; memory = memory_over (image_memory image) (words_shown image (cells_in o)); reserved = marks_in o }

  abbrev place_by : Habits → World → Place
  place_by habits w = record { stride = stride_by_habit habits; world = w; chosen = chosen_by_key n key }

  place_stays : (habits : Habits) → place_of_key habits image n more_harts more_shareds key ≡ place_of_key habits image n harts shareds key
  place_stays habits = ap (λ hs. place_by habits (world_by hs (slice_get more_shareds (slice_index key n)))) all_same
      ∙ ap (λ o. place_by habits (world_by (map (hart_worded harts) (take n key)) o)) shared_same

  key_stays : KeptOnce image more_harts more_shareds → IsKey image n more_harts more_shareds key
  key_stays once = record {
    len = is.len;
    once = once;
    harts = λ k word e. (let a = is.harts k word e in let b = longer_length harts more_harts harts_go in omega (arith, a, b));
    shared = (let a = is.shared in let b = longer_length shareds more_shareds shareds_go in omega (arith, a, b));
    keeps = subst (λ o. Keeps (image_memory image) (memory_over (image_memory image) (words_shown image (cells_in o)))) (sym shared_same) is.keeps;
    words = subst (λ o. (x : ℕ) → x % 4 ≡ 0
        → words_shown image (cells_in o) x ≡ bytes_at (memory_over (image_memory image) (words_shown image (cells_in o))).bytes x) (sym shared_same) is.words;
    aligned = subst (All IsAligned) (sym all_same) is.aligned;
  }

-- ---- lists, and what memory keeps
pub keeps_then : (a b c : Memory) → Keeps a b → Keeps b c → Keeps a c
keeps_then a b c f g = record {
  rights = g.rights ∙ f.rights;
  bytes = λ x shut. g.bytes x (ap (λ (r : ℕ → Option ℕ). grants to_write (r x)) f.rights ∙ shut) ∙ f.bytes x shut;
}

pub taken_at : (n : ℕ) (xs : List ℕ) (i : ℕ) → i < n → i < length xs → slice_get (take n xs) i ≡ Some (slice_index xs i)
taken_at zero xs i h l = absurd (omega (arith, h))
taken_at (suc n) [] i h l = absurd (omega (arith, l))
taken_at (suc n) (x ∷ xs) zero h l = refl
taken_at (suc n) (x ∷ xs) (suc i) h l = taken_at n xs i (omega (arith, h)) (omega (arith, l))

pub get_set : (xs : List ℕ) (i k v x : ℕ) → slice_get (set xs i v) k ≡ Some x → (slice_get xs k ≡ Some x) ⊎ (x ≡ v)
get_set [] i k v x e = inl e
get_set (y ∷ xs) zero zero v x e = inr (some_is v x e)
  where
    some_is : (a b : ℕ) → ◌≡◌ {A = Option ℕ} (Some a) (Some b) → b ≡ a
    some_is a b e = cc
get_set (y ∷ xs) zero (suc k) v x e = inl e
get_set (y ∷ xs) (suc i) zero v x e = inl e
get_set (y ∷ xs) (suc i) (suc k) v x e = get_set xs i k v x e

-- ---- what a key tells
-- the word of a hart in a key, and that hart in its world
pub word_at : {Z : Type 0} (image : ImageValue) (n : ℕ) (harts : List Hart) (shareds : List (Shared Z)) (key : List ℕ)
    → IsKey image n harts shareds key → (k : ℕ) → k < n → slice_get (take n key) k ≡ Some (slice_index key k)
word_at image n harts shareds key is k low = taken_at n key k low (let e = is.len in omega (arith, e, low))

pub hart_at : {Z : Type 0} (image : ImageValue) (n : ℕ) (harts : List Hart) (shareds : List (Shared Z)) (key : List ℕ)
    → IsKey image n harts shareds key → (k : ℕ) → k < n
    → slice_get (map (hart_worded harts) (take n key)) k ≡ Some (hart_worded harts (slice_index key k))
hart_at image n harts shareds key is k low =
    slice_get-map (hart_worded harts) (take n key) k ∙ ap (option_map (hart_worded harts)) (word_at image n harts shareds key is k low)

-- that hart, and what harts share
pub key_parts : {Z : Type 0} (image : ImageValue) (n : ℕ) (harts : List Hart) (shareds : List (Shared Z)) (key : List ℕ)
    → IsKey image n harts shareds key → (number : ℕ) → number < n
    → ShowsParts image (world_of_key image n harts shareds key) number harts shareds (slice_index key number / 2) (slice_index key n)
key_parts image n harts shareds key is number low =
    let w = world_of_key image n harts shareds key in
    let v = hart_worded harts (slice_index key number) in
    let there = hart_at image n harts shareds key is number low in
    record {
      there = there;
      aligned = subst IsAligned (get_or_from_slice_get w.harts number v v there) (is.aligned number v (slice_get_within w.harts number v there));
      keeps = is.keeps;
      words = is.words;
      reserved = refl;
    }

-- ---- one turn
module _ {Z : Type 0} (habits : Habits) (image : ImageValue) (n : ℕ) (harts more_harts : List Hart) (shareds more_shareds : List (Shared Z))
    (harts_go : GoesOn harts more_harts) (shareds_go : GoesOn shareds more_shareds) (key next : List ℕ) (is : IsKey image n harts shareds key)
    (number word id shared_id steps : ℕ) (refuse : Bool) (low : number < n) (half : word / 2 ≡ id) (marked : chosen_worded word ≡ true)
    (id_there : id < length more_harts) (shared_there : shared_id < length more_shareds) (next_is : next ≡ set (set key number word) n shared_id)
    (turns : PartsTurn habits image (record { hart = number; refuse = refuse }) harts shareds (slice_index key number / 2) (slice_index key n)
    more_harts more_shareds id shared_id steps) where
  abbrev w : World
  w = world_of_key image n harts shareds key

  abbrev c : Choice
  c = record { hart = number; refuse = refuse }

  abbrev g : ℕ → HartValue
  g = hart_worded more_harts

  abbrev values_in : Option (Shared Z) → ℕ → WordBytes
  values_in o = words_shown image (cells_in o)

  shows : ShowsParts image (world_turned habits w c) number more_harts more_shareds (word / 2) shared_id
  shows = subst (λ i. ShowsParts image (world_turned habits w c) number more_harts more_shareds i shared_id) (sym half)
      (turns.leads w (key_parts image n harts shareds key is number low))

  at_n : slice_index next n ≡ shared_id
  at_n = shared_after n number word shared_id key next is.len next_is

  taken_is : take n next ≡ set (take n key) number word
  taken_is = taken n number word shared_id key next is.len next_is

  harts_are : map g (take n next) ≡ set w.harts number (g word)
  harts_are = ap (map g) taken_is ∙ map-set g (take n key) number word
      ∙ ap (λ (hs : List HartValue). set hs number (g word)) (all_same image n harts more_harts shareds more_shareds harts_go shareds_go key is)

  next_world : world_of_key image n more_harts more_shareds next ≡ world_turned habits w c
  next_world =
      let harts_turned = harts_are ∙ sym (turn_sets habits w c (g word) shows.there) in
      let memory_turned = memory_is (image_memory image) (world_turned habits w c).memory (values_in (slice_get more_shareds shared_id)) shows.keeps.rights
      shows.words in
      ap (λ i. world_of (slice_get more_shareds i)) at_n
      ∙ (λ i. record { harts = harts_turned i; memory = memory_turned i; reserved = shows.reserved i })
    where
      world_of : Option (Shared Z) → World
      world_of o = record { harts = map g (take n next); memory = memory_over (image_memory image) (values_in o); reserved = marks_in o }

  next_place : place_of_key habits image n more_harts more_shareds next ≡ place_after (place_of_key habits image n harts shareds key) c
  next_place = λ i. record {
    stride = stride_by_habit habits;
    world = next_world i;
    chosen = λ k. chosen_after n number word key next low is.len taken_is marked k i;
  }

  next_key : KeptOnce image more_harts more_shareds → IsKey image n more_harts more_shareds next
  next_key once = record {
    len = ap length next_is ∙ length-set (set key number word) n shared_id ∙ length-set key number word ∙ is.len;
    harts = λ k i e. elim (get_set (take n key) number k word i (ap (λ (xs : List ℕ). slice_get xs k) (sym taken_is) ∙ e)) [
      | inl old ↦ (let a = is.harts k i old in let b = longer_length harts more_harts harts_go in omega (arith, a, b))
      | inr new ↦ (let a = new in omega (arith, a, half, id_there))
    ];
    shared = (let a = at_n in omega (arith, a, shared_there));
    once = once;
    keeps = subst (λ (x : World). Keeps (image_memory image) x.memory) (sym next_world) shows.keeps;
    words = λ x at. ap (λ i. values_in (slice_get more_shareds i) x) at_n ∙ shows.words x at
        ∙ ap (λ (y : World). bytes_at y.memory.bytes x) (sym next_world);
    aligned = subst (All IsAligned) (sym harts_are) (All-set IsAligned w.harts number (g word) shows.aligned is.aligned);
  }

  pub next_is_key : KeptOnce image more_harts more_shareds
      → IsKeyOf habits image n more_harts more_shareds next (place_after (place_of_key habits image n harts shareds key) c)
  next_is_key once = (next_key once, next_place)

-- ---- keys and places stay
pub kept : {Z : Type 0} (image : ImageValue) (n : ℕ) (harts more_harts : List Hart) (shareds more_shareds : List (Shared Z))
    → GoesOn harts more_harts → GoesOn shareds more_shareds → (KeptOnce image harts shareds → KeptOnce image more_harts more_shareds)
    → (habits : Habits) → KeysStay habits image n harts shareds more_harts more_shareds
kept image n harts more_harts shareds more_shareds harts_go shareds_go once habits key is = (
  key_stays image n harts more_harts shareds more_shareds harts_go shareds_go key is (once is.once),
  place_stays image n harts more_harts shareds more_shareds harts_go shareds_go key is habits,
)
