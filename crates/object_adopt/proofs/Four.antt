-- The Rounds object: four adopt-commit objects in a row, its first and last instructions, and those
-- that lead from one object to the next.
use Rattle.std.proofs.Common.{◌≡◌, ◌≢◌, ℕ, zero, suc, ◌+◌, ◌-◌, ◌*◌, ◌<◌, ◌≤◌, Bool, true, false, List, length, Some, refl, ap, ◌⊎◌, inl, inr, arith, eq-eqb, ne_eqb}
use Rattle.image.specs.Image.{ImageValue}
use Rattle.mem_store.specs.Access.{fetched}
use Rattle.hart_reservations.specs.Marks.{Marks}
use Rattle.isa_table.specs.Decoded.{decoded}
use Rattle.hart_step.specs.Hart.{HartValue, Registers, put}
use Rattle.hart_step.specs.Values.{wrap}
use Rattle.hart_step.specs.declared.hart.HartState.TheVariants.{Exited}
use Rattle.machine.specs.World.{World}
use Rattle.object_library.specs.declared.kind.Kind.TheVariants.{Rounds}
use Rattle.object_library.specs.Images.{rounds_words, rounds_image, image_of, IsSame}
use Rattle.object_library.specs.Rules.{KeepsAdoptCommit, EndsAfter, EveryRun, is_exited, is_faulted}
use Rattle.object_library.proofs.Runs.{same_runs, equal_runs, wider_ends}
use Rattle.object_library.proofs.Shape.{on, shaped_memory}
use Rattle.object_library.proofs.Harts.{hart_at, turn}
use Rattle.object_adopt.proofs.Flat.{flat}
use Rattle.object_adopt.proofs.Instructions.{Point, At1, At2, At3, At4, At5, At6, At7, At8, At9, At10, At11, At12, At13, At14, At15, At16, At17, At18, At19, At20, At21, At22, At23, At24, At25, At26, At27, At28, At29, At30, place, code, stand}
use Rattle.object_adopt.proofs.Object.{View, New}
use Rattle.object_adopt.proofs.Chain.{Program, Ghosts, Inv, Result, FactsAt, obj, view_at, world, quiet, next}
use Rattle.object_adopt.proofs.Rule.{Closed, End, chain_agrees, chain_ends, small_value, small_good, zero_or_one}

data Rest : Type 0 where
  At0 AtFour AtTest AtBase AtLess AtMore AtOut AtGood AtCall AtEnd Out : Rest

abbrev rest : Rest → Registers → HartValue
rest At0 x = on x 0x10000
rest AtFour x = on x 0x10004
rest AtTest x = on x 0x10080
rest AtBase x = on x 0x10084
rest AtLess x = on x 0x10088
rest AtMore x = on x 0x1008C
rest AtOut x = on x 0x10090
rest AtGood x = on x 0x10094
rest AtCall x = on x 0x10098
rest AtEnd x = on x 0x1009C
rest Out x = record { registers = x; pc = 0x1009C; state = Exited (x 10) }

-- what a hart has spent at most that comes to round r
abbrev begin : (n r : ℕ) → ℕ
begin n zero = 2
begin n (suc r) = begin n r + 14 * n + 19

abbrev First : (n : ℕ) (v : View) (h : ℕ) → Registers → Type 0
First n v h x = record { zero_is : x 0 ≡ 0; me : x 10 ≡ h; mine : x 11 ≡ v.input; many : x 12 ≡ n; new : New v.ghost v.input; unmarked : v.mark ≡ 0 }

abbrev Tail : (n : ℕ) (v : View) (h : ℕ) → Registers → Type 0
Tail n v h x = record { zero_is : x 0 ≡ 0; me : x 10 ≡ h; many : x 12 ≡ n; passed : v.ghost.passed ≡ n; value : x 11 ≡ v.ghost.value; good : x 19 ≡ v.ghost.good }

abbrev Last : (n r : ℕ) (v : View) → Type 0
Last n r v = record { passed : v.ghost.passed ≡ n; last : (v.ghost.good ≡ 1) ⊎ (suc r ≡ 4) }

abbrev Holds : (n : ℕ) (now : Type 0) (r : ℕ) (v : View) (h : ℕ) → Rest → Registers → Type 0
Holds n now r v h At0 x = First n v h x × (v.spent ≤ 0) × (r ≡ 0)
Holds n now r v h AtFour x = First n v h x × (v.spent ≤ 1) × (r ≡ 0) × (x 8 ≡ 0x11000)
Holds n now r v h AtTest x = Tail n v h x × (x 8 ≡ 0x11000 + 512 * r) × (x 21 + r ≡ 4) × (v.spent ≤ begin n r + 15 + 14 * n)
Holds n now r v h AtBase x = Tail n v h x × (x 8 ≡ 0x11000 + 512 * r) × (x 21 + r ≡ 4) × (v.spent ≤ begin n r + 16 + 14 * n)
Holds n now r v h AtLess x = Tail n v h x × (x 8 ≡ 0x11000 + 512 * suc r) × (x 21 + r ≡ 4) × (v.spent ≤ begin n r + 17 + 14 * n)
Holds n now r v h AtMore x = Tail n v h x × (x 8 ≡ 0x11000 + 512 * suc r) × (x 21 + suc r ≡ 4) × (v.spent ≤ begin n r + 18 + 14 * n)
Holds n now r v h AtOut x = Last n r v × (x 0 ≡ 0) × (x 11 ≡ v.ghost.value) × (x 19 ≡ v.ghost.good) × (v.spent ≤ begin n r + 19 + 14 * n)
Holds n now r v h AtGood x = Last n r v × (x 0 ≡ 0) × (x 10 ≡ v.ghost.value) × (x 19 ≡ v.ghost.good) × (v.spent ≤ begin n r + 20 + 14 * n)
Holds n now r v h AtCall x = Last n r v × (x 0 ≡ 0) × (x 10 ≡ v.ghost.value) × (x 11 ≡ v.ghost.good) × (v.spent ≤ begin n r + 21 + 14 * n)
Holds n now r v h AtEnd x = Last n r v × (x 17 ≡ 93) × (x 10 ≡ v.ghost.value) × (x 11 ≡ v.ghost.good) × (v.spent ≤ begin n r + 22 + 14 * n)
Holds n now r v h Out x = Last n r v × now × (x 10 ≡ v.ghost.value) × (x 11 ≡ v.ghost.good)

-- the last round begins here at the latest
begin_most : (n r : ℕ) → r < 4 → begin n r ≤ 59 + 42 * n
begin_most n zero lt = omega arith
begin_most n (suc zero) lt = omega arith
begin_most n (suc (suc zero)) lt = omega arith
begin_most n (suc (suc (suc zero))) lt = omega arith
begin_most n (suc (suc (suc (suc r)))) lt = absurd (omega arith)

fetched_at : (size : ℕ) (words : ℕ → ℕ) (p : Point) → place p < 116 → fetched (shaped_memory rounds_words size words) (0x10008 + place p) ≡ Some (code p)
fetched_at size words At1 small = refl
fetched_at size words At2 small = refl
fetched_at size words At3 small = refl
fetched_at size words At4 small = refl
fetched_at size words At5 small = refl
fetched_at size words At6 small = refl
fetched_at size words At7 small = refl
fetched_at size words At8 small = refl
fetched_at size words At9 small = refl
fetched_at size words At10 small = refl
fetched_at size words At11 small = refl
fetched_at size words At12 small = refl
fetched_at size words At13 small = refl
fetched_at size words At14 small = refl
fetched_at size words At15 small = refl
fetched_at size words At16 small = refl
fetched_at size words At17 small = refl
fetched_at size words At18 small = refl
fetched_at size words At19 small = refl
fetched_at size words At20 small = refl
fetched_at size words At21 small = refl
fetched_at size words At22 small = refl
fetched_at size words At23 small = refl
fetched_at size words At24 small = refl
fetched_at size words At25 small = refl
fetched_at size words At26 small = refl
fetched_at size words At27 small = refl
fetched_at size words At28 small = refl
fetched_at size words At29 small = refl
fetched_at size words At30 small = absurd (omega arith)

abbrev program : (n : ℕ) → n ≤ 32 → Program n
program n few = record {
  text = rounds_words;
  zeros = 2048;
  first = 0x10008;
  shift = 0;
  rounds = 4;
  begin = begin n;
  left = λ r. 4 - r;
  Rest = Rest;
  rest = rest;
  Holds = Holds n;
  short = omega arith;
  low = omega arith;
  even = refl;
  few = few;
  near = omega arith;
  size = λ r lt. (omega arith, lt);
  fetch = λ words p small. fetched_at 2048 words p small;
}

module _ (n : ℕ) (few : n ≤ 32) (now : ℕ → Type 0) (input : ℕ → ℕ) (spent : ℕ → ℕ) (harts : List HartValue) (reserved : Marks) (g : Ghosts)
    (inv : Inv n (program n few) now input spent harts g) (h : ℕ) (lt : h < n) (refuse : Bool) (mine : now h) where
  abbrev c : Program n
  c = program n few

  abbrev before : World
  before = world n c now harts (flat 0 g.words) reserved

  abbrev To : Type 0
  To = Result n c now input spent harts reserved g inv h lt (turn before h refuse (hart_at harts h))

  abbrev At : ℕ → (Point ⊎ Rest) → Registers → Type 0
  At cost p x = FactsAt n c now (obj n c now g (g.round h)) (view_at n c now g cost (g.round h) h) (g.round h) h p x

  early : g.round h < 4
  early = inv.all.early h lt

  past : (x : Registers) → hart_at harts h ≡ stand 0x10008 At30 x → At (spent h) (inl At30) x → To
  unfolding decoded
  past x e f = let z = early in quiet n c now input spent harts reserved g inv h lt (inr AtTest) (put x 11 (wrap (x 20 + 0))) _ (ap (turn before h refuse) e) (
    record { zero_is = f.0.zero_is; me = f.0.me; many = f.0.many; passed = f.1; value = (let a = small_value n c now input spent harts g inv h lt in omega arith); good = f.3 },
    (let b = f.0.base in omega arith),
    (let l = f.0.left in omega arith),
    omega arith,
  )

  test : (x : Registers) → hart_at harts h ≡ rest AtTest x → At (spent h) (inr AtTest) x → ((g.ghosts (g.round h) h).good ≡ 1) ⊎ ((g.ghosts (g.round h) h).good ≡ 0) → To
  unfolding decoded
  test x e f (inl p) = quiet n c now input spent harts reserved g inv h lt (inr AtOut) x _ (rw (e, ne_eqb (x 19) (x 0) (λ q. absurd (let a = f.0.good in let z = f.0.zero_is in omega arith))))
      (record { passed = f.0.passed; last = inl p }, f.0.zero_is, f.0.value, f.0.good, omega arith)
  test x e f (inr p) = quiet n c now input spent harts reserved g inv h lt (inr AtBase) x _ (rw (e, eq-eqb (x 19) (x 0) (let a = f.0.good in let z = f.0.zero_is in omega arith)))
      (f.0, f.1, f.2, omega arith)

  more : (x : Registers) → hart_at harts h ≡ rest AtMore x → At (spent h) (inr AtMore) x → (suc (g.round h) < 4) ⊎ (suc (g.round h) ≡ 4) → To
  unfolding decoded
  more x e f (inl p) = next n c now input spent harts reserved g inv h lt x _ (rw (e, ne_eqb (x 21) (x 0) (λ q. absurd (let z = f.0.zero_is in omega arith)))) p mine f.0.passed
      (small_value n c now input spent harts g inv h lt)
      (record { zero_is = f.0.zero_is; base = omega (arith, f.1); me = f.0.me; many = f.0.many; left = omega arith }) f.0.value (omega arith)
  more x e f (inr p) = quiet n c now input spent harts reserved g inv h lt (inr AtOut) x _ (rw (e, eq-eqb (x 21) (x 0) (let z = f.0.zero_is in omega arith)))
      (record { passed = f.0.passed; last = inr p }, f.0.zero_is, f.0.value, f.0.good, omega arith)

  any_more : (suc (g.round h) < 4) ⊎ (suc (g.round h) ≡ 4)
  any_more = go (g.round h) early
    where
      go : (r : ℕ) → r < 4 → (suc r < 4) ⊎ (suc r ≡ 4)
      go r under = grind arith

  moves : (q : Rest) (x : Registers) → hart_at harts h ≡ rest q x → At (spent h) (inr q) x → To
  unfolding decoded
  moves At0 x e f = quiet n c now input spent harts reserved g inv h lt (inr AtFour) (put x 8 0x11000) _ (ap (turn before h refuse) e) (f.0, omega arith, f.2, refl)
  moves AtFour x e f = quiet n c now input spent harts reserved g inv h lt (inl At1) (put x 21 (wrap (x 0 + 4))) _ (ap (turn before h refuse) e) (
    record {
      frame = record { zero_is = f.0.zero_is; base = omega arith; me = f.0.me; many = f.0.many; left = (let z = f.0.zero_is in omega arith) };
      mine = f.0.mine;
      new = f.0.new;
      unmarked = f.0.unmarked;
    },
    (let b : begin n (g.round h) ≡ 2 = ap (begin n) f.2 in omega arith),
  )
  moves AtTest x e f = test x e f (zero_or_one n c now input spent harts g inv h lt)
  moves AtBase x e f = let z = early in quiet n c now input spent harts reserved g inv h lt (inr AtLess) (put x 8 (wrap (x 8 + 512))) _ (ap (turn before h refuse) e) (f.0, omega arith, f.2, omega arith)
  moves AtLess x e f = let z = early in quiet n c now input spent harts reserved g inv h lt (inr AtMore) (put x 21 (wrap (x 21 + 0xFFFFFFFF))) _ (ap (turn before h refuse) e) (f.0, f.1, omega arith, omega arith)
  moves AtMore x e f = more x e f any_more
  moves AtOut x e f = quiet n c now input spent harts reserved g inv h lt (inr AtGood) (put x 10 (wrap (x 11 + 0))) _ (ap (turn before h refuse) e)
      (f.0, f.1, (let a = small_value n c now input spent harts g inv h lt in omega arith), f.3, omega arith)
  moves AtGood x e f = quiet n c now input spent harts reserved g inv h lt (inr AtCall) (put x 11 (wrap (x 19 + 0))) _ (ap (turn before h refuse) e)
      (f.0, f.1, f.2, (let a = small_good n c now input spent harts g inv h lt in omega arith), omega arith)
  moves AtCall x e f = quiet n c now input spent harts reserved g inv h lt (inr AtEnd) (put x 17 (wrap (x 0 + 93))) _ (ap (turn before h refuse) e) (f.0, omega arith, f.2, f.3, omega arith)
  moves AtEnd x e f = quiet n c now input spent harts reserved g inv h lt (inr Out) x _ (rw (e, eq-eqb (x 17) 93 f.1)) (f.0, mine, f.2, f.3)
  moves Out x e f = quiet n c now input spent harts reserved g inv h lt (inr Out) x _ (ap (turn before h refuse) e) f

ended : (n : ℕ) (now : Type 0) (r : ℕ) (v : View) (h : ℕ) (q : Rest) (x : Registers) → r < 4 → is_exited (rest q x).state ≡ true → Holds n now r v h q x → End n 4 now r v (rest q x).registers
ended n now r v h Out x lt e f = record { mine = f.1; passed = f.0.passed; value = f.2; good = f.3; last = f.0.last }
ended n now r v h q x lt e f = absurd (let z : false ≡ true = e in cc)

never : (q : Rest) (x : Registers) → is_faulted (rest q x).state ≡ false
never Out x = refl
never q x = refl

over : (n : ℕ) (now : Type 0) (r : ℕ) (v : View) (h : ℕ) (q : Rest) (x : Registers) → r < 4 → 82 + 56 * n ≤ v.spent → Holds n now r v h q x → is_exited (rest q x).state ≡ true
over n now r v h Out x lt many f = refl
over n now r v h At0 x lt many f = absurd (omega arith)
over n now r v h AtFour x lt many f = absurd (omega arith)
over n now r v h q x lt many f = absurd (let b = begin_most n r lt in omega arith)

closed : (n : ℕ) (few : n ≤ 32) → Closed n (program n few) (82 + 56 * n)
closed n few = record {
  begin = At0;
  begin_is = λ x. refl;
  begins = λ now k i. (
    record { zero_is = refl; me = omega arith; mine = refl; many = refl; new = record { none_cleared = refl; sign_two = refl; unpassed = refl; good_one = refl; own_value = refl }; unmarked = refl },
    omega arith,
    refl,
  );
  some = omega arith;
  ended = λ now r v h q x lt e f. ended n now r v h q x lt e f;
  never = never;
  over = λ now r v h q x lt many f. over n now r v h q x lt many f;
  within = λ r lt. (let b = begin_most n r lt in omega arith);
  past_moves = λ now input spent harts reserved g inv h lt refuse mine x e f. past n few now input spent harts reserved g inv h lt refuse mine x e f;
  rest_moves = λ now input spent harts reserved g inv h lt refuse mine q x e f. moves n few now input spent harts reserved g inv h lt refuse mine q x e f;
}

pub always_agrees : EveryRun (λ n. n ≤ 32) rounds_image KeepsAdoptCommit
always_agrees inputs choices few fits there =
    chain_agrees inputs choices (program (length inputs) few) (82 + 56 * length inputs) (closed (length inputs) few) fits there

pub always_ends : EveryRun (λ n. n ≤ 32) rounds_image (EndsAfter (λ n r. 82 + 56 * n))
always_ends inputs choices few fits there h d lt many =
    chain_ends inputs choices (program (length inputs) few) (82 + 56 * length inputs) (closed (length inputs) few) fits there h d lt many

-- ---- of any image that is the object's
pub agrees_in : (m : ImageValue) → IsSame m (image_of Rounds) → EveryRun (λ n. n ≤ 32) m KeepsAdoptCommit
agrees_in m same = same_runs (λ n. n ≤ 32) KeepsAdoptCommit m rounds_image same always_agrees

pub ends_in : (m : ImageValue) → IsSame m (image_of Rounds) → EveryRun (λ n. n ≤ 32) m (EndsAfter (λ n r. 82 + 56 * n))
ends_in m same = same_runs (λ n. n ≤ 32) (EndsAfter (λ n r. 82 + 56 * n)) m rounds_image same always_ends

below_numeral : (n r : ℕ) → 82 + 56 * n ≤ 80 * n + 108
below_numeral n r = omega arith

pub bounded_in : (m : ImageValue) → IsSame m (image_of Rounds) → EveryRun (λ n. n ≤ 32) m (EndsAfter (λ n r. 80 * n + 108))
bounded_in m same = wider_ends (λ n. n ≤ 32) m (λ n r. 82 + 56 * n) (λ n r. 80 * n + 108) below_numeral (ends_in m same)

-- ---- of the image that is made
pub made_agrees : (m : ImageValue) → m ≡ image_of Rounds → EveryRun (λ n. n ≤ 32) m KeepsAdoptCommit
made_agrees m same = equal_runs (λ n. n ≤ 32) KeepsAdoptCommit m rounds_image same always_agrees

pub made_ends : (m : ImageValue) → m ≡ image_of Rounds → EveryRun (λ n. n ≤ 32) m (EndsAfter (λ n r. 82 + 56 * n))
made_ends m same = equal_runs (λ n. n ≤ 32) (EndsAfter (λ n r. 82 + 56 * n)) m rounds_image same always_ends

pub made_bounded : (m : ImageValue) → m ≡ image_of Rounds → EveryRun (λ n. n ≤ 32) m (EndsAfter (λ n r. 80 * n + 108))
made_bounded m same = wider_ends (λ n. n ≤ 32) m (λ n r. 82 + 56 * n) (λ n r. 80 * n + 108) below_numeral (made_ends m same)
