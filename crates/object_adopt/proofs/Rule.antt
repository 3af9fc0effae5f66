-- Every run of a program that chains adopt-commit objects meets the rule.
use Rattle.std.proofs.Common.{◌≡◌, ◌≢◌, ℕ, zero, suc, ◌+◌, ◌-◌, ◌*◌, ◌^◌, ◌<◌, ◌≤◌, Bool, true, false, List, [], ◌∷◌, length, get_or, Option, Some, None, refl, sym, ap, ◌∙◌, ◌⊎◌, inl, inr, arith, subst}
use Rattle.std.specs.List.{AllByRecursion, All, Contains, slice_get}
use Rattle.std.proofs.lemmas.List.Elements.{recursion_from_All}
use Rattle.std.proofs.lemmas.List.{get_or-map, length-map}
use Rattle.std.proofs.lemmas.Option.{slice_get-get_or}
use Rattle.image.specs.Image.{ImageValue}
use Rattle.mem_store.specs.Memory.{Memory}
use Rattle.hart_reservations.specs.Marks.{Marks}
use Rattle.hart_step.specs.Hart.{HartValue, Registers}
use Rattle.machine.specs.World.{World, step, run}
use Rattle.machine.specs.Start.{started, first_harts, first_registers}
use Rattle.machine.specs.declared.choice.Choice.{Choice}
use Rattle.object_library.specs.Images.{object_image}
use Rattle.machine.specs.Chosen.{chosen, own}
use Rattle.object_library.specs.Rules.{KeepsAdoptCommit, AreAlike, IsProposed, HasExited, is_exited, is_faulted, value_of, flag_of}
use Rattle.object_library.proofs.Shape.{on, shaped_memory, first_memory}
use Rattle.object_library.proofs.Harts.{hart_at, turn, step-turn, all_harts, same_default, first_at, first_count, bump, spent_after, spent_own}
use Rattle.object_adopt.proofs.Flat.{flat, flat_zero}
use Rattle.object_adopt.proofs.Records.{Ghost, Chain, later, Marked, Valued, Good, mark_of}
use Rattle.object_adopt.proofs.Instructions.{Point, At30, place, stand}
use Rattle.object_adopt.proofs.Object.{View, at_most}
use Rattle.object_adopt.proofs.Chain.{Program, Ghosts, Was, Global, Inv, Reached, Result, FactsAt, obj, view_at, stands, world}
use Rattle.object_adopt.proofs.Moves.{moves}

-- what holds of a hart that has exited
pub record End (n rounds : ℕ) (now : Type 0) (r : ℕ) (v : View) (x : Registers) : Type 0 where
  pub mine : now
  pub passed : v.ghost.passed ≡ n
  pub value : x 10 ≡ v.ghost.value
  pub good : x 11 ≡ v.ghost.good
  pub last : (v.ghost.good ≡ 1) ⊎ (suc r ≡ rounds)

abbrev pub first_ghost : ℕ → Ghost
first_ghost i = record { cleared = 0; sign = 2; passed = 0; good = 1; value = i }

-- what a program shows of its own places
pub record Closed (n : ℕ) (c : Program n) (bound : ℕ) : Type 1 where
  pub begin : c.Rest
  pub begin_is : (x : Registers) → c.rest begin x ≡ on x 0x10000
  pub begins : (now : Type 0) (k i : ℕ) → c.Holds now 0 (record { value = 0; presence = 0; mark = 0; ghost = first_ghost i; spent = 0; input = i }) k begin (first_registers (0 + k) i n)
  pub some : 0 < c.rounds
  pub ended : (now : Type 0) (r : ℕ) (v : View) (h : ℕ) (q : c.Rest) (x : Registers) → r < c.rounds → is_exited (c.rest q x).state ≡ true → c.Holds now r v h q x →
      End n c.rounds now r v (c.rest q x).registers
  pub never : (q : c.Rest) (x : Registers) → is_faulted (c.rest q x).state ≡ false
  pub over : (now : Type 0) (r : ℕ) (v : View) (h : ℕ) (q : c.Rest) (x : Registers) → r < c.rounds → bound ≤ v.spent → c.Holds now r v h q x → is_exited (c.rest q x).state ≡ true
  pub within : (r : ℕ) → r < c.rounds → c.begin r + 14 + 14 * n < bound
  pub past_moves : (now : ℕ → Type 0) (input : ℕ → ℕ) (spent : ℕ → ℕ) (harts : List HartValue) (reserved : Marks) (g : Ghosts) (inv : Inv n c now input spent harts g) (h : ℕ) (lt : h < n) (refuse : Bool) → now h →
      (x : Registers) → hart_at harts h ≡ stand c.first At30 x → FactsAt n c now (obj n c now g (g.round h)) (view_at n c now g (spent h) (g.round h) h) (g.round h) h (inl At30) x →
      Result n c now input spent harts reserved g inv h lt (turn (world n c now harts (flat c.shift g.words) reserved) h refuse (hart_at harts h))
  pub rest_moves : (now : ℕ → Type 0) (input : ℕ → ℕ) (spent : ℕ → ℕ) (harts : List HartValue) (reserved : Marks) (g : Ghosts) (inv : Inv n c now input spent harts g) (h : ℕ) (lt : h < n) (refuse : Bool) → now h →
      (q : c.Rest) (x : Registers) → hart_at harts h ≡ c.rest q x → FactsAt n c now (obj n c now g (g.round h)) (view_at n c now g (spent h) (g.round h) h) (g.round h) h (inr q) x →
      Result n c now input spent harts reserved g inv h lt (turn (world n c now harts (flat c.shift g.words) reserved) h refuse (hart_at harts h))

chosen_mark : (n : ℕ) (input : ℕ → ℕ) (was : ℕ → Type 0) (words : ℕ → ℕ) (gh : Ghost) (k : ℕ) → Marked n input was words gh k → mark_of words k ≡ 2 → was k
chosen_mark n input was words gh k (inl p) e = absurd (let q = p.0 in omega arith)
chosen_mark n input was words gh k (inr (inl p)) e = absurd (let q = p.0 in omega arith)
chosen_mark n input was words gh k (inr (inr p)) e = p.was_chosen

-- what a hart's value and whether it may commit are at most
module _ (n : ℕ) (c : Program n) (now : ℕ → Type 0) (input : ℕ → ℕ) (spent : ℕ → ℕ) (harts : List HartValue) (g : Ghosts) (inv : Inv n c now input spent harts g) (h : ℕ) (lt : h < n) where
  pub small_value : (g.ghosts (g.round h) h).value < 2 ^ 32
  small_value = go ((inv.all.sound (g.round h)).valued h lt)
    where
      go : Valued n (g.given (g.round h)) (g.words (g.round h)) (g.ghosts (g.round h) h) h → (g.ghosts (g.round h) h).value < 2 ^ 32
      go (inl v) = let a = inv.all.fits (g.round h) h lt in omega arith
      go (inr v) = let a = inv.all.fits (g.round h) v.0 v.1 in let e = v.3 in omega arith

  pub zero_or_one : ((g.ghosts (g.round h) h).good ≡ 1) ⊎ ((g.ghosts (g.round h) h).good ≡ 0)
  zero_or_one = go ((inv.all.sound (g.round h)).good h lt)
    where
      go : Good n (g.given (g.round h)) (Was n now g.round (g.round h)) (g.ghosts (g.round h) h) → ((g.ghosts (g.round h) h).good ≡ 1) ⊎ ((g.ghosts (g.round h) h).good ≡ 0)
      go (inl p) = inl p
      go (inr p) = inr p.0

  pub small_good : (g.ghosts (g.round h) h).good < 2
  small_good = go zero_or_one
    where
      go : ((g.ghosts (g.round h) h).good ≡ 1) ⊎ ((g.ghosts (g.round h) h).good ≡ 0) → (g.ghosts (g.round h) h).good < 2
      go (inl p) = omega arith
      go (inr p) = omega arith

-- THE RULE, OF AN INVARIANT

module _ (inputs : List ℕ) (all : List Choice) (rounds : ℕ) (g : Ghosts) (good : Global (length inputs) rounds (λ k. Contains (chosen all) k) (λ k. get_or inputs k 0) g) where
  abbrev n : ℕ
  n = length inputs

  abbrev now : ℕ → Type 0
  now k = Contains (chosen all) k

  abbrev was : ℕ → ℕ → Type 0
  was = Was n now g.round

  abbrev pub Brought : ℕ → Type 0
  Brought v = (m : ℕ) × now m × (slice_get inputs m ≡ Some v)

  value_from : (s : ℕ) → ((k : ℕ) → was s k → Brought (g.given s k)) → (k : ℕ) → was s k → Brought (g.ghosts s k).value
  value_from s each k w = go ((good.sound s).valued k w.small)
    where
      go : Valued n (g.given s) (g.words s) (g.ghosts s k) k → Brought (g.ghosts s k).value
      go (inl v) = let b = each k w in (b.0, b.1, b.2 ∙ ap (λ (u : ℕ). Some u) (sym v))
      go (inr v) = let b = each v.0 (chosen_mark n (g.given s) (was s) (g.words s) (g.ghosts s v.0) v.0 ((good.sound s).marked v.0 v.1) v.2) in (b.0, b.1, b.2 ∙ ap (λ (u : ℕ). Some u) (sym v.3))

  given_from : (s k : ℕ) → was s k → Brought (g.given s k)
  given_from zero k w = (k, w.among, slice_get-get_or inputs k 0 w.small ∙ ap (λ (u : ℕ). Some u) (sym (good.first k w.small)))
  given_from (suc s) k w =
      let d = good.done s k w.small (let z = w.came in omega arith) in
      let b = value_from s (given_from s) k (record { among = w.among; small = w.small; came = (let z = w.came in omega arith) }) in
      (b.0, b.1, b.2 ∙ ap (λ (u : ℕ). Some u) (sym d.keeps))

  chain : Chain n g.given was g.words g.ghosts
  chain = record {
    sound = good.sound;
    brings = λ s k small w.
        let d = good.done s k small (let z = w.came in omega arith) in
        (d.all, d.keeps, record { among = w.among; small = w.small; came = (let z = w.came in omega arith) });
    marks = λ s k small two. chosen_mark n (g.given s) (was s) (g.words s) (g.ghosts s k) k ((good.sound s).marked k small) two;
  }

  follows : (s t h k : ℕ) → s ≤ t → h < n → (g.ghosts s h).passed ≡ n → (g.ghosts s h).good ≡ 1 → k < n → was t k → (g.ghosts t k).passed ≡ n → (g.ghosts t k).value ≡ g.given s h
  follows s t h k le lh over one lk there done =
      let e : (t - s) + s ≡ t = omega arith in
      subst (λ (u : ℕ). was u k → (g.ghosts u k).passed ≡ n → (g.ghosts u k).value ≡ g.given s h) e
      (λ there done. later n g.given was g.words g.ghosts chain s h lh over one (t - s) k lk there done) there done

  abbrev pub EndOf : ℕ → Registers → Type 0
  EndOf k x = End n rounds (now k) (g.round k) (record { value = g.words (g.round k) (4 * k); presence = g.words (g.round k) (4 * k + 1); mark = g.words (g.round k) (4 * k + 2); ghost = g.ghosts (g.round k) k; spent = 0; input = g.given (g.round k) k }) x

  there : (k : ℕ) → k < n → now k → was (g.round k) k
  there k lk w = record { among = w; small = lk; came = omega arith }

  pub valid : (h : ℕ) (x : Registers) → h < n → EndOf h x → Brought (x 10)
  valid h x lh f = let b = value_from (g.round h) (given_from (g.round h)) h (there h lh f.mine) in (b.0, b.1, b.2 ∙ ap (λ (u : ℕ). Some u) (sym f.value))

  pub answered : (h : ℕ) (x : Registers) → h < n → EndOf h x → (x 11 ≡ 0) ⊎ (x 11 ≡ 1)
  answered h x lh f = go ((good.sound (g.round h)).good h lh)
    where
      go : Good n (g.given (g.round h)) (was (g.round h)) (g.ghosts (g.round h) h) → (x 11 ≡ 0) ⊎ (x 11 ≡ 1)
      go (inl p) = inr (f.good ∙ p)
      go (inr p) = inl (f.good ∙ p.0)

  pub committed : (h k : ℕ) (x y : Registers) → h < n → k < n → EndOf h x → EndOf k y → x 11 ≡ 1 → y 10 ≡ x 10
  committed h k x y lh lk f e one = go (order (g.round h) (g.round k))
    where
      order : (a b : ℕ) → (a ≤ b) ⊎ (b < a)
      order a b = grind arith

      one_good : (g.ghosts (g.round h) h).good ≡ 1
      one_good = sym f.good ∙ one

      go : (g.round h ≤ g.round k) ⊎ (g.round k < g.round h) → y 10 ≡ x 10
      go (inl le) =
          e.value ∙ follows (g.round h) (g.round k) h k le lh f.passed one_good lk (there k lk e.mine) e.passed
          ∙ sym (follows (g.round h) (g.round h) h h (omega arith) lh f.passed one_good lh (there h lh f.mine) f.passed) ∙ sym f.value
      go (inr under) = by_last e.last
        where
          by_last : ((g.ghosts (g.round k) k).good ≡ 1) ⊎ (suc (g.round k) ≡ rounds) → y 10 ≡ x 10
          by_last (inl its) =
              e.value ∙ follows (g.round k) (g.round k) k k (omega arith) lk e.passed its lk (there k lk e.mine) e.passed
              ∙ sym (follows (g.round k) (g.round h) k h (omega arith) lk e.passed its lh (there h lh f.mine) f.passed) ∙ sym f.value
          by_last (inr last) = absurd (let z = good.early h lh in omega arith)

  pub convergent : AreAlike inputs all → (h : ℕ) (x : Registers) → h < n → EndOf h x → x 11 ≡ 1
  convergent alike h x lh f = go ((good.sound (g.round h)).good h lh)
    where
      go : Good n (g.given (g.round h)) (was (g.round h)) (g.ghosts (g.round h) h) → x 11 ≡ 1
      go (inl p) = f.good ∙ p
      go (inr p) =
          let m = p.1 in
          let a = given_from (g.round h) m.j m.first in
          let b = given_from (g.round h) m.k m.second in
          let e : ◌≡◌ {A = Option ℕ} (Some (g.given (g.round h) m.j)) (Some (g.given (g.round h) m.k)) = sym a.2 ∙ alike a.0 b.0 a.1 b.1 ∙ b.2 in
          absurd (m.apart (let i : g.given (g.round h) m.j ≡ g.given (g.round h) m.k = cc in i))

-- RUNS

record Fit (inputs : List ℕ) (all : List Choice) : Type 0 where
  fits : (h : ℕ) → h < length inputs → get_or inputs h 0 < 2 ^ 32

module _ (inputs : List ℕ) (all : List Choice) (c : Program (length inputs)) (bound : ℕ) (shut : Closed (length inputs) c bound) where
  abbrev present : ℕ → Type 0
  present k = Contains (chosen all) k

  abbrev brought : ℕ → ℕ
  brought k = get_or inputs k 0

  abbrev Arrives : (ℕ → ℕ) → World → Type 0
  Arrives spent w = Reached (length inputs) c present brought spent w

  one : (spent : ℕ → ℕ) (harts : List HartValue) (reserved : Marks) (g : Ghosts) (inv : Inv (length inputs) c present brought spent harts g) (h : ℕ) → h < length inputs → (refuse : Bool) → present h →
      (p : Point ⊎ c.Rest) (x : Registers) → hart_at harts h ≡ stands (length inputs) c present p x →
      FactsAt (length inputs) c present (obj (length inputs) c present g (g.round h)) (view_at (length inputs) c present g (spent h) (g.round h) h) (g.round h) h p x →
      Arrives (bump h spent) (turn (world (length inputs) c present harts (flat c.shift g.words) reserved) h refuse (hart_at harts h))
  one spent harts reserved g inv h lt refuse mine (inl p) x e f = at_point (by_place p) p x e f
    where
      by_place : (p : Point) → (place p < 116) ⊎ (place p ≢ place p ⊎ (p ≡ At30))
      by_place At30 = inr (inr refl)
      by_place p = inl (omega arith)

      at_point : {q : Point} → (place q < 116) ⊎ (place q ≢ place q ⊎ (q ≡ At30)) → (p : Point) (x : Registers) → hart_at harts h ≡ stand c.first p x →
          FactsAt (length inputs) c present (obj (length inputs) c present g (g.round h)) (view_at (length inputs) c present g (spent h) (g.round h) h) (g.round h) h (inl p) x →
          Arrives (bump h spent) (turn (world (length inputs) c present harts (flat c.shift g.words) reserved) h refuse (hart_at harts h))
      at_point z At30 x e f = shut.past_moves present brought spent harts reserved g inv h lt refuse mine x e f
      at_point z p x e f = moves (length inputs) c present brought spent harts reserved g inv h lt refuse mine c.few c.low (c.size (g.round h) (inv.all.early h lt)).1 c.near (c.size (g.round h) (inv.all.early h lt)).0
          p x (omega arith) e f
  one spent harts reserved g inv h lt refuse mine (inr q) x e f = shut.rest_moves present brought spent harts reserved g inv h lt refuse mine q x e f

  steps : (spent : ℕ → ℕ) (w : World) (ch : Choice) → ch.hart < length inputs → present ch.hart → Arrives spent w → Arrives (bump ch.hart spent) (step w ch)
  steps spent w ch lt mine r =
      let l = r.inv.each ch.hart lt in
      let there : ch.hart < length r.harts = omega (arith, r.inv.count) in
      subst (λ (v : World). Arrives (bump ch.hart spent) (step v ch)) (sym r.is)
      (subst (λ (v : World). Arrives (bump ch.hart spent) v) (sym (step-turn (world (length inputs) c present r.harts (flat c.shift r.g.words) r.reserved) ch there))
      (one spent r.harts r.reserved r.g r.inv ch.hart lt ch.refuse mine l.point l.regs l.is l.facts))

  runs : (rest : List Choice) (spent : ℕ → ℕ) (w : World) → AllByRecursion (λ ch. record { there : ch.hart < length inputs; among : Contains (chosen all) ch.hart }) rest → Arrives spent w →
      Arrives (spent_after rest spent) (run w rest)
  unfolding run
  runs [] spent w ok r = r
  runs (ch ∷ cs) spent w ok r = runs cs (bump ch.hart spent) (step w ch) ok.1 (steps spent w ch ok.0.there ok.0.among r)

  abbrev image : ImageValue
  image = object_image c.text c.zeros

  starts : All (λ x. x < 2 ^ 32) inputs → Arrives (λ k. 0) (started image inputs)
  unfolding started
  starts fits = record {
    harts = first_harts 0x10000 (length inputs) 0 inputs;
    reserved = λ h. None;
    g = record { words = λ s k. 0; ghosts = λ s k. first_ghost (get_or inputs k 0); given = λ s k. get_or inputs k 0; round = λ k. 0 };
    is = ap (λ (m : Memory). record { harts = first_harts 0x10000 (length inputs) 0 inputs; memory = m; reserved = λ h. None }) (first_memory c.text c.zeros c.short ∙ ap (λ (ws : ℕ → ℕ). shaped_memory c.text c.zeros ws) (flat_zero c.shift));
    inv = record {
      count = first_count 0x10000 (length inputs) 0 inputs;
      all = record {
        sound = λ s. record {
          shown = λ k small. inl (refl, refl);
          signed = λ k small. inl refl;
          marked = λ k small. inl (refl, refl);
          valued = λ k small. inl refl;
          good = λ k small. inl refl;
          owned = λ k small p q. absurd (omega arith);
          agree = λ a b la lb p. absurd (omega arith);
          follow = λ a b la lb p. absurd (omega arith);
        };
        first = λ k small. refl;
        fits = λ s k small. fits k 0 small;
        early = λ k small. shut.some;
        fresh = λ s k small p. record { down = refl; unmarked = refl; uncleared = refl; unpassed = refl };
        done = λ s k small p. absurd (omega arith);
      };
      each = λ k small. record {
        point = inr shut.begin;
        regs = first_registers (0 + k) (get_or inputs k 0) (length inputs);
        is = first_at 0x10000 (length inputs) 0 inputs k small ∙ sym (shut.begin_is (first_registers (0 + k) (get_or inputs k 0) (length inputs)));
        facts = shut.begins (present k) k (get_or inputs k 0);
      };
    };
  }

  module _ (fits : All (λ x. x < 2 ^ 32) inputs) (there : All (λ ch. ch.hart < length inputs) all) where
    reached : Arrives (spent_after all (λ k. 0)) (run (started image inputs) all)
    reached =
        runs all (λ k. 0) (started image inputs)
        (recursion_from_All (λ ch. record { there : ch.hart < length inputs; among : Contains (chosen all) ch.hart }) all
        (λ k d small. record { there = there k d small; among = (k, rw length-map small, get_or-map (λ ch. ch.hart) all k d _ small) }))
        (starts fits)

    end_of : (spent : ℕ → ℕ) (harts : List HartValue) (g : Ghosts) (inv : Inv (length inputs) c present brought spent harts g) (h : ℕ) → h < length inputs → HasExited (hart_at harts h) →
        EndOf inputs all c.rounds g inv.all h (hart_at harts h).registers
    end_of spent harts g inv h lt q =
        let l = inv.each h lt in
        subst (λ (t : HartValue). EndOf inputs all c.rounds g inv.all h t.registers) (sym l.is)
        (at l.point l.regs (ap (λ (t : HartValue). is_exited t.state) (sym l.is) ∙ q) l.facts)
      where
        at : (p : Point ⊎ c.Rest) (x : Registers) → is_exited (stands (length inputs) c present p x).state ≡ true →
            FactsAt (length inputs) c present (obj (length inputs) c present g (g.round h)) (view_at (length inputs) c present g (spent h) (g.round h) h) (g.round h) h p x →
            EndOf inputs all c.rounds g inv.all h (stands (length inputs) c present p x).registers
        at (inl p) x e f = absurd (let z : false ≡ true = e in cc)
        at (inr p) x e f =
            let d = shut.ended (present h) (g.round h) (view_at (length inputs) c present g (spent h) (g.round h) h) h p x (inv.all.early h lt) e f in
            record { mine = d.mine; passed = d.passed; value = d.value; good = d.good; last = d.last }

    unfaulted : (p : Point ⊎ c.Rest) (x : Registers) → is_faulted (stands (length inputs) c present p x).state ≡ false
    unfaulted (inl p) x = refl
    unfaulted (inr q) x = shut.never q x

    module _ (spent : ℕ → ℕ) (harts : List HartValue) (g : Ghosts) (inv : Inv (length inputs) c present brought spent harts g) where
      within : (h : ℕ) → h < length harts → h < length inputs
      within h lt = omega (arith, inv.count)

      meets : KeepsAdoptCommit inputs all harts
      meets = record {
        valid = all_harts (λ t. HasExited t → IsProposed inputs all (value_of t)) harts
            (λ h lt q. valid inputs all c.rounds g inv.all h (hart_at harts h).registers (within h lt) (end_of spent harts g inv h (within h lt) q));
        answered = all_harts (λ t. HasExited t → (flag_of t ≡ 0) ⊎ (flag_of t ≡ 1)) harts
            (λ h lt q. answered inputs all c.rounds g inv.all h (hart_at harts h).registers (within h lt) (end_of spent harts g inv h (within h lt) q));
        committed = all_harts (λ t. All (λ u. HasExited t → HasExited u → flag_of t ≡ 1 → value_of t ≡ value_of u) harts) harts
            (λ h lh. all_harts (λ u. HasExited (hart_at harts h) → HasExited u → flag_of (hart_at harts h) ≡ 1 → value_of (hart_at harts h) ≡ value_of u) harts
            (λ k lk p q one. sym (committed inputs all c.rounds g inv.all h k (hart_at harts h).registers (hart_at harts k).registers (within h lh) (within k lk)
            (end_of spent harts g inv h (within h lh) p) (end_of spent harts g inv k (within k lk) q) one)));
        convergent = λ alike. all_harts (λ t. HasExited t → flag_of t ≡ 1) harts
            (λ h lt q. convergent inputs all c.rounds g inv.all alike h (hart_at harts h).registers (within h lt) (end_of spent harts g inv h (within h lt) q));
        sound = all_harts (λ t. is_faulted t.state ≡ false) harts (λ h lt.
            let l = inv.each h (within h lt) in
            ap (λ (t : HartValue). is_faulted t.state) l.is ∙ unfaulted l.point l.regs);
      }

    pub chain_agrees : KeepsAdoptCommit inputs all (run (started image inputs) all).harts
    chain_agrees =
        let r = reached in
        subst (λ (w : World). KeepsAdoptCommit inputs all w.harts) (sym r.is) (meets (spent_after all (λ k. 0)) r.harts r.g r.inv)

    pub chain_ends : (h : ℕ) (d : HartValue) → h < length inputs → bound ≤ own all h → HasExited (get_or (run (started image inputs) all).harts h d)
    chain_ends h d lt many =
        let r = reached in
        let l = r.inv.each h lt in
        let spent : spent_after all (λ k. 0) h ≡ 0 + own all h = spent_own all (λ k. 0) h in
        let inside : h < length r.harts = omega (arith, r.inv.count) in
        subst (λ (w : World). HasExited (get_or w.harts h d)) (sym r.is)
        (subst HasExited (same_default r.harts h d inside)
        (subst HasExited (sym l.is)
        (over r.g (spent_after all (λ k. 0) h) (omega (arith, spent)) (r.inv.all.early h lt) l.point l.regs l.facts)))
      where
        over : (g : Ghosts) (spent : ℕ) → bound ≤ spent → g.round h < c.rounds → (p : Point ⊎ c.Rest) (x : Registers) →
            FactsAt (length inputs) c present (obj (length inputs) c present g (g.round h)) (view_at (length inputs) c present g spent (g.round h) h) (g.round h) h p x →
            HasExited (stands (length inputs) c present p x)
        over g spent much early (inl p) x f = absurd (let b = shut.within (g.round h) early in let a = at_most (obj (length inputs) c present g (g.round h)) (view_at (length inputs) c present g spent (g.round h) h) h p x lt f in omega arith)
        over g spent much early (inr q) x f = shut.over (present h) (g.round h) (view_at (length inputs) c present g spent (g.round h) h) h q x early much f
