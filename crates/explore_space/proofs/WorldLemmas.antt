-- Worlds by their words, and what a turn changes in a key and in its world's harts.
use Rattle.std.proofs.Common.{◌≡◌, ◌≢◌, ℕ, zero, suc, ◌+◌, ◌%◌, ◌<◌, ◌≤◌, true, false, ◌||◌, ◌==◌, List, [], ◌∷◌, ◌++◌, length, map, take, set, Option, Some, None, refl, ap, sym, ◌∙◌, subst, arith, inl, inr, eq-eqb}
use Rattle.std.proofs.lemmas.Bool.{cases_eq, ne_eqb}
use Rattle.std.proofs.lemmas.List.{length-set, length-take, length-take-le, get_or-set_same, get_or-set_other, get_or-take, get_or_past, set-set, set-get_or, take-set-le}
use Rattle.std.proofs.lemmas.Option.{get_or_from_slice_get}
use Rattle.std.specs.List.{slice_get, slice_index}
use Rattle.mem_store.specs.Memory.{Memory}
use Rattle.hart_reservations.specs.Marks.{word_of}
use Rattle.hart_step.specs.Hart.{HartValue}
use Rattle.hart_step.specs.Effect.{site}
use Rattle.hart_step.specs.Step.{stepped}
use Rattle.hart_local.specs.LocalRuns.{plain_choices}
use Rattle.machine.specs.World.{World, step_of, step, run}
use Rattle.machine.specs.declared.choice.Choice.{Choice}
use Rattle.bank_laws.specs.Banks.{WordBytes}
use Rattle.bank_laws.specs.Words.{bytes_at}
use Rattle.bank_laws.proofs.WordLemmas.{index_at}
use Rattle.explore_space.specs.Habits.{Habits, stride_by_habit}
use Rattle.explore_space.specs.Places.{chosen_by_key, chosen_worded, memory_over, world_turned}

-- ---- memory from its words
word_and_rest : (y : ℕ) → word_of y + y % 4 ≡ y
word_and_rest y = omega arith

aligned_word : (y : ℕ) → word_of y % 4 ≡ 0
aligned_word y = omega arith

bytes_over : (values : ℕ → WordBytes) (b : ℕ → ℕ) → ((x : ℕ) → x % 4 ≡ 0 → values x ≡ bytes_at b x)
    → (y : ℕ) → slice_index (values (word_of y)) (y % 4) ≡ b y
bytes_over values b same y =
    ap (λ v. slice_index v (y % 4)) (same (word_of y) (aligned_word y)) ∙ index_at b (word_of y) (y % 4) (omega arith)
    ∙ ap b (word_and_rest y)

pub memory_is : (m n : Memory) (values : ℕ → WordBytes) → n.rights ≡ m.rights → ((x : ℕ) → x % 4 ≡ 0 → values x ≡ bytes_at n.bytes x)
    → memory_over m values ≡ n
unfolding memory_over
memory_is m n values rights same =
    let bytes : (λ (y : ℕ). slice_index (values (word_of y)) (y % 4)) ≡ n.bytes = λ i y. bytes_over values n.bytes same y i in
    ap (λ (b : ℕ → ℕ). memory_of m.rights b) bytes ∙ ap (λ (r : ℕ → Option ℕ). memory_of r n.bytes) (sym rights)
  where
    memory_of : (ℕ → Option ℕ) → (ℕ → ℕ) → Memory
    memory_of r b = record { rights = r; bytes = b }

-- ---- lists
pub get_within : {X : Type 0} (xs ys : List X) (k : ℕ) → k < length xs → slice_get (xs ++ ys) k ≡ slice_get xs k
get_within [] ys k h = absurd (omega (arith, h))
get_within (x ∷ xs) ys zero h = refl
get_within (x ∷ xs) ys (suc k) h = get_within xs ys k (omega (arith, h))

pub take-set : (n : ℕ) (xs : List ℕ) (i v : ℕ) → take n (set xs i v) ≡ set (take n xs) i v
take-set zero xs i v = refl
take-set (suc n) [] i v = refl
take-set (suc n) (x ∷ xs) zero v = refl
take-set (suc n) (x ∷ xs) (suc i) v = ap (λ ys. x ∷ ys) (take-set n xs i v)

pub map_same : {Y : Type 0} (f g : ℕ → Y) (xs : List ℕ) → ((k i : ℕ) → slice_get xs k ≡ Some i → f i ≡ g i) → map f xs ≡ map g xs
map_same f g [] same = refl
map_same {Y} f g (x ∷ xs) same =
    ap (λ (y : Y). y ∷ map f xs) (same zero x refl) ∙ ap (λ (ys : List Y). g x ∷ ys) (map_same f g xs (λ k i e. same (suc k) i e))

-- ---- a key with another word at a hart's number, and other things shared
module _ (n number word shared_id : ℕ) (key next : List ℕ) (long : length key ≡ n + 1) (next_is : next ≡ set (set key number word) n shared_id) where
  pub taken : take n next ≡ set (take n key) number word
  taken = ap (take n) next_is ∙ take-set-le n (set key number word) n shared_id (omega arith) ∙ take-set n key number word

  pub shared_after : slice_index next n ≡ shared_id
  shared_after = ap (λ (xs : List ℕ). slice_index xs n) next_is
      ∙ get_or-set_same (set key number word) n shared_id 0 (let a = length-set key number word in omega (arith, a, long))

-- ---- who is chosen
-- none past the harts of a key
pub unmarked_past : (n : ℕ) (key : List ℕ) (k : ℕ) → n ≤ k → chosen_by_key n key k ≡ false
unmarked_past n key k past =
    ap chosen_worded (get_or_past (take n key) k 0 (let few = length-take n key in omega (arith, few, past)))

-- by a key with another word at a hart's number
module _ (n number word : ℕ) (key next : List ℕ) (low : number < n) (long : length key ≡ n + 1)
    (taken_is : take n next ≡ set (take n key) number word) where
  word_here : slice_index (take n next) number ≡ word
  word_here = ap (λ (xs : List ℕ). slice_index xs number) taken_is
      ∙ get_or-set_same (take n key) number word 0 (let a = length-take-le n key (omega (arith, long)) in omega (arith, a, low))

  word_other : (k : ℕ) → number ≢ k → slice_index (take n next) k ≡ slice_index (take n key) k
  word_other k other = ap (λ (xs : List ℕ). slice_index xs k) taken_is ∙ get_or-set_other (take n key) number k word 0 (λ e. other (sym e))

  -- the hart of an odd word, and who was chosen before
  pub chosen_after : chosen_worded word ≡ true → (k : ℕ) → chosen_by_key n next k ≡ ((number == k) || chosen_by_key n key k)
  chosen_after marked k = elim (cases_eq number k) [
    | inl is ↦ ap (chosen_by_key n next) (sym is) ∙ ap chosen_worded word_here ∙ marked
        ∙ ap (λ b. b || chosen_by_key n key k) (sym (eq-eqb number k is))
    | inr other ↦ ap chosen_worded (word_other k other) ∙ ap (λ b. b || chosen_by_key n key k) (sym (ne_eqb number k other))
  ]

  -- the same harts, where the mark stays
  pub chosen_stays : chosen_worded word ≡ chosen_worded (slice_index key number) → (k : ℕ) → chosen_by_key n next k ≡ chosen_by_key n key k
  chosen_stays same k = elim (cases_eq number k) [
    | inl is ↦ subst (λ j. chosen_by_key n next j ≡ chosen_by_key n key j) is
        (ap chosen_worded word_here ∙ same ∙ ap chosen_worded (sym (get_or-take n key number 0 low)))
    | inr other ↦ ap chosen_worded (word_other k other)
  ]

-- ---- a turn changes its hart alone
step_of_sets : (w : World) (c : Choice) (o : Option HartValue) (v : HartValue) → set (step_of w c o).harts c.hart v ≡ set w.harts c.hart v
step_of_sets w c None v = refl
step_of_sets w c (Some u) v = set-set w.harts c.hart (stepped c.hart c.refuse (site u w.memory w.reserved)).hart v

step_sets : (w : World) (c : Choice) (v : HartValue) → set (step w c).harts c.hart v ≡ set w.harts c.hart v
unfolding step
step_sets w c v = step_of_sets w c (slice_get w.harts c.hart) v

run_sets : (h n : ℕ) (w : World) (v : HartValue) → slice_get (run w (plain_choices h n)).harts h ≡ Some v
    → (run w (plain_choices h n)).harts ≡ set w.harts h v
unfolding run
run_sets h zero w v there = sym (set-get_or w.harts h v) ∙ ap (set w.harts h) (get_or_from_slice_get w.harts h v v there)
run_sets h (suc n) w v there =
    let c : Choice = record { hart = h; refuse = false } in run_sets h n (step w c) v there ∙ step_sets w c v

pub turn_sets : (habits : Habits) (w : World) (c : Choice) (v : HartValue) → slice_get (world_turned habits w c).harts c.hart ≡ Some v
    → (world_turned habits w c).harts ≡ set w.harts c.hart v
turn_sets habits w c v there = run_sets c.hart (stride_by_habit habits (step w c) c.hart) (step w c) v there ∙ step_sets w c v
