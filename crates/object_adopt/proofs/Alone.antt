-- The AdoptCommit object: one object, and its first and last instructions.
use Rattle.std.proofs.Common.{◌≡◌, ℕ, ◌+◌, ◌-◌, ◌*◌, ◌<◌, ◌≤◌, Bool, true, false, List, length, Some, refl, ap, ◌⊎◌, inl, inr, arith, eq-eqb}
use Rattle.image.specs.Image.{ImageValue}
use Rattle.mem_store.specs.Access.{fetched}
use Rattle.hart_reservations.specs.Marks.{Marks}
use Rattle.isa_table.specs.Decoded.{decoded}
use Rattle.hart_step.specs.Hart.{HartValue, Registers, put}
use Rattle.hart_step.specs.Values.{wrap}
use Rattle.hart_step.specs.declared.hart.HartState.TheVariants.{Exited}
use Rattle.machine.specs.World.{World}
use Rattle.object_library.specs.declared.kind.Kind.TheVariants.{AdoptCommit}
use Rattle.object_library.specs.Images.{adopt_words, adopt_image, image_of, IsSame}
use Rattle.object_library.specs.Rules.{KeepsAdoptCommit, EndsAfter, EveryRun, is_exited, is_faulted}
use Rattle.object_library.proofs.Runs.{same_runs, equal_runs, wider_ends}
use Rattle.object_library.proofs.Shape.{on, shaped_memory}
use Rattle.object_library.proofs.Harts.{hart_at, turn}
use Rattle.object_adopt.proofs.Flat.{flat}
use Rattle.object_adopt.proofs.Instructions.{Point, At1, At2, At3, At4, At5, At6, At7, At8, At9, At10, At11, At12, At13, At14, At15, At16, At17, At18, At19, At20, At21, At22, At23, At24, At25, At26, At27, At28, At29, At30, place, code, stand}
use Rattle.object_adopt.proofs.Object.{View, New}
use Rattle.object_adopt.proofs.Chain.{Program, Ghosts, Inv, Result, FactsAt, obj, view_at, world, quiet}
use Rattle.object_adopt.proofs.Rule.{Closed, End, chain_agrees, chain_ends, small_value, small_good}

data Rest : Type 0 where
  At0 At31 At32 At33 Out : Rest

abbrev rest : Rest → Registers → HartValue
rest At0 x = on x 0x10000
rest At31 x = on x 0x1007C
rest At32 x = on x 0x10080
rest At33 x = on x 0x10084
rest Out x = record { registers = x; pc = 0x10084; state = Exited (x 10) }

abbrev Holds : (n : ℕ) (now : Type 0) (r : ℕ) (v : View) (h : ℕ) → Rest → Registers → Type 0
Holds n now r v h At0 x = (x 0 ≡ 0) × (x 10 ≡ h) × (x 11 ≡ v.input) × (x 12 ≡ n) × (x 21 ≡ 0) × New v.ghost v.input × (v.mark ≡ 0) × (v.spent ≤ 0) × (r ≡ 0)
Holds n now r v h At31 x = (x 0 ≡ 0) × (v.ghost.passed ≡ n) × (x 10 ≡ v.ghost.value) × (x 19 ≡ v.ghost.good) × (v.spent ≤ 16 + 14 * n)
Holds n now r v h At32 x = (x 0 ≡ 0) × (v.ghost.passed ≡ n) × (x 10 ≡ v.ghost.value) × (x 11 ≡ v.ghost.good) × (v.spent ≤ 17 + 14 * n)
Holds n now r v h At33 x = (x 17 ≡ 93) × (v.ghost.passed ≡ n) × (x 10 ≡ v.ghost.value) × (x 11 ≡ v.ghost.good) × (v.spent ≤ 18 + 14 * n)
Holds n now r v h Out x = now × (v.ghost.passed ≡ n) × (x 10 ≡ v.ghost.value) × (x 11 ≡ v.ghost.good)

fetched_at : (size : ℕ) (words : ℕ → ℕ) (p : Point) → place p < 116 → fetched (shaped_memory adopt_words size words) (0x10004 + place p) ≡ Some (code p)
fetched_at size words At1 small = refl
fetched_at size words At2 small = refl
fetched_at size words At3 small = refl
fetched_at size words At4 small = refl
fetched_at size words At5 small = refl
fetched_at size words At6 small = refl
fetched_at size words At7 small = refl
fetched_at size words At8 small = refl
fetched_at size words At9 small = refl
fetched_at size words At10 small = refl
fetched_at size words At11 small = refl
fetched_at size words At12 small = refl
fetched_at size words At13 small = refl
fetched_at size words At14 small = refl
fetched_at size words At15 small = refl
fetched_at size words At16 small = refl
fetched_at size words At17 small = refl
fetched_at size words At18 small = refl
fetched_at size words At19 small = refl
fetched_at size words At20 small = refl
fetched_at size words At21 small = refl
fetched_at size words At22 small = refl
fetched_at size words At23 small = refl
fetched_at size words At24 small = refl
fetched_at size words At25 small = refl
fetched_at size words At26 small = refl
fetched_at size words At27 small = refl
fetched_at size words At28 small = refl
fetched_at size words At29 small = refl
fetched_at size words At30 small = absurd (omega arith)

abbrev program : (n slots : ℕ) → slots ≤ 32 → n ≤ slots → Program n
program n slots few room = record {
  text = adopt_words;
  zeros = 16 * slots;
  first = 0x10004;
  shift = 0;
  rounds = 1;
  begin = λ r. 1;
  left = λ r. 0;
  Rest = Rest;
  rest = rest;
  Holds = Holds n;
  short = omega arith;
  low = omega arith;
  even = refl;
  few = omega arith;
  near = omega arith;
  size = λ r lt. (omega arith, omega arith);
  fetch = λ words p small. fetched_at (16 * slots) words p small;
}

module _ (n slots : ℕ) (few : slots ≤ 32) (room : n ≤ slots) (now : ℕ → Type 0) (input : ℕ → ℕ) (spent : ℕ → ℕ) (harts : List HartValue) (reserved : Marks) (g : Ghosts)
    (inv : Inv n (program n slots few room) now input spent harts g) (h : ℕ) (lt : h < n) (refuse : Bool) (mine : now h) where
  abbrev c : Program n
  c = program n slots few room

  abbrev before : World
  before = world n c now harts (flat 0 g.words) reserved

  abbrev To : Type 0
  To = Result n c now input spent harts reserved g inv h lt (turn before h refuse (hart_at harts h))

  abbrev At : ℕ → (Point ⊎ Rest) → Registers → Type 0
  At cost p x = FactsAt n c now (obj n c now g (g.round h)) (view_at n c now g cost (g.round h) h) (g.round h) h p x

  first_round : g.round h < 1 → g.round h ≡ 0
  first_round under = omega arith

  past : (x : Registers) → hart_at harts h ≡ stand 0x10004 At30 x → At (spent h) (inl At30) x → To
  unfolding decoded
  past x e f = quiet n c now input spent harts reserved g inv h lt (inr At31) (put x 10 (wrap (x 20 + 0))) _ (ap (turn before h refuse) e)
      (f.0.zero_is, f.1, (let a = small_value n c now input spent harts g inv h lt in omega arith), f.3, omega arith)

  moves : (q : Rest) (x : Registers) → hart_at harts h ≡ rest q x → At (spent h) (inr q) x → To
  unfolding decoded
  moves At0 x e f = quiet n c now input spent harts reserved g inv h lt (inl At1) (put x 8 0x11000) _ (ap (turn before h refuse) e) (
    record { frame = record { zero_is = f.0; base = (let z = f.8 in omega arith); me = f.1; many = f.3; left = f.4 }; mine = f.2; new = f.5; unmarked = f.6 },
    omega arith,
  )
  moves At31 x e f = quiet n c now input spent harts reserved g inv h lt (inr At32) (put x 11 (wrap (x 19 + 0))) _ (ap (turn before h refuse) e)
      (f.0, f.1, f.2, (let a = small_good n c now input spent harts g inv h lt in omega arith), omega arith)
  moves At32 x e f = quiet n c now input spent harts reserved g inv h lt (inr At33) (put x 17 (wrap (x 0 + 93))) _ (ap (turn before h refuse) e) (omega arith, f.1, f.2, f.3, omega arith)
  moves At33 x e f = quiet n c now input spent harts reserved g inv h lt (inr Out) x _ (rw (e, eq-eqb (x 17) 93 f.0)) (mine, f.1, f.2, f.3)
  moves Out x e f = quiet n c now input spent harts reserved g inv h lt (inr Out) x _ (ap (turn before h refuse) e) f

ended : (n : ℕ) (now : Type 0) (r : ℕ) (v : View) (h : ℕ) (q : Rest) (x : Registers) → r < 1 → is_exited (rest q x).state ≡ true → Holds n now r v h q x → End n 1 now r v (rest q x).registers
ended n now r v h Out x lt e f = record { mine = f.0; passed = f.1; value = f.2; good = f.3; last = inr (omega arith) }
ended n now r v h q x lt e f = absurd (let z : false ≡ true = e in cc)

never : (q : Rest) (x : Registers) → is_faulted (rest q x).state ≡ false
never Out x = refl
never q x = refl

over : (n : ℕ) (now : Type 0) (r : ℕ) (v : View) (h : ℕ) (q : Rest) (x : Registers) → 19 + 14 * n ≤ v.spent → Holds n now r v h q x → is_exited (rest q x).state ≡ true
over n now r v h Out x many f = refl
over n now r v h q x many f = absurd (omega arith)

closed : (n slots : ℕ) (few : slots ≤ 32) (room : n ≤ slots) → Closed n (program n slots few room) (19 + 14 * n)
closed n slots few room = record {
  begin = At0;
  begin_is = λ x. refl;
  begins = λ now k i. (refl, omega arith, refl, refl, refl, record { none_cleared = refl; sign_two = refl; unpassed = refl; good_one = refl; own_value = refl }, refl, omega arith, refl);
  some = omega arith;
  ended = λ now r v h q x lt e f. ended n now r v h q x lt e f;
  never = never;
  over = λ now r v h q x lt many f. over n now r v h q x many f;
  within = λ r lt. omega arith;
  past_moves = λ now input spent harts reserved g inv h lt refuse mine x e f. past n slots few room now input spent harts reserved g inv h lt refuse mine x e f;
  rest_moves = λ now input spent harts reserved g inv h lt refuse mine q x e f. moves n slots few room now input spent harts reserved g inv h lt refuse mine q x e f;
}

pub always_agrees : (slots : ℕ) → slots ≤ 32 → EveryRun (λ n. n ≤ slots) (adopt_image slots) KeepsAdoptCommit
always_agrees slots few inputs choices room fits there =
    chain_agrees inputs choices (program (length inputs) slots few room) (19 + 14 * length inputs) (closed (length inputs) slots few room) fits there

pub always_ends : (slots : ℕ) → slots ≤ 32 → EveryRun (λ n. n ≤ slots) (adopt_image slots) (EndsAfter (λ n r. 19 + 14 * n))
always_ends slots few inputs choices room fits there h d lt many =
    chain_ends inputs choices (program (length inputs) slots few room) (19 + 14 * length inputs) (closed (length inputs) slots few room) fits there h d lt many

-- ---- of any image that is the object's
pub agrees_in : (slots : ℕ) (m : ImageValue) → slots ≤ 32 → IsSame m (adopt_image slots) → EveryRun (λ n. n ≤ slots) m KeepsAdoptCommit
agrees_in slots m few same = same_runs (λ n. n ≤ slots) KeepsAdoptCommit m (adopt_image slots) same (always_agrees slots few)

pub ends_in : (slots : ℕ) (m : ImageValue) → slots ≤ 32 → IsSame m (adopt_image slots) → EveryRun (λ n. n ≤ slots) m (EndsAfter (λ n r. 19 + 14 * n))
ends_in slots m few same = same_runs (λ n. n ≤ slots) (EndsAfter (λ n r. 19 + 14 * n)) m (adopt_image slots) same (always_ends slots few)

below_numeral : (n r : ℕ) → 19 + 14 * n ≤ 20 * n + 27
below_numeral n r = omega arith

pub bounded_in : (slots : ℕ) (m : ImageValue) → slots ≤ 32 → IsSame m (adopt_image slots) → EveryRun (λ n. n ≤ slots) m (EndsAfter (λ n r. 20 * n + 27))
bounded_in slots m few same = wider_ends (λ n. n ≤ slots) m (λ n r. 19 + 14 * n) (λ n r. 20 * n + 27) below_numeral (ends_in slots m few same)

-- ---- of the image that is made
pub made : (m : ImageValue) → m ≡ image_of AdoptCommit → EveryRun (λ n. n ≤ 32) m KeepsAdoptCommit × EveryRun (λ n. n ≤ 32) m (EndsAfter (λ n r. 19 + 14 * n))
made m same = (
  equal_runs (λ n. n ≤ 32) KeepsAdoptCommit m (adopt_image 32) same (always_agrees 32 (omega arith)),
  equal_runs (λ n. n ≤ 32) (EndsAfter (λ n r. 19 + 14 * n)) m (adopt_image 32) same (always_ends 32 (omega arith)),
)

pub made_bounded : (m : ImageValue) → m ≡ image_of AdoptCommit → EveryRun (λ n. n ≤ 32) m (EndsAfter (λ n r. 20 * n + 27))
made_bounded m same = wider_ends (λ n. n ≤ 32) m (λ n r. 19 + 14 * n) (λ n r. 20 * n + 27) below_numeral (made m same).1
