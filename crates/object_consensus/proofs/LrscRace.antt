-- Every run of the race by load-reserved and store-conditional, with any number of harts: an
-- invariant by program point, and the bound on own steps.
use Rattle.std.proofs.Common.{◌≡◌, ◌≢◌, ℕ, ◌+◌, ◌*◌, ◌%◌, ◌^◌, ◌<◌, ◌≤◌, Bool, true, false, not, ◌&&◌, List, [], ◌∷◌, length, get_or, set, Option, Some, None, refl, sym, ap, ◌∙◌, ◌⊎◌, inl, inr, arith, eq-eqb, ne_eqb, subst}
use Rattle.std.specs.List.{AllByRecursion, All, Contains}
use Rattle.std.proofs.lemmas.List.Elements.{recursion_from_All}
use Rattle.std.proofs.lemmas.List.{length-set, get_or-map, length-map}
use Rattle.std.proofs.lemmas.Option.{slice_get-get_or}
use Rattle.image.specs.Image.{ImageValue}
use Rattle.mem_store.specs.Memory.{Memory}
use Rattle.hart_reservations.specs.Marks.{names, word_of, with_mark, without_mark}
use Rattle.isa_table.specs.Decoded.{decoded}
use Rattle.hart_step.specs.Hart.{HartValue, Registers, put}
use Rattle.hart_step.specs.Values.{wrap}
use Rattle.hart_step.specs.declared.hart.HartState.TheVariants.{Exited}
use Rattle.machine.specs.World.{World, step, run}
use Rattle.machine.specs.Start.{started, first_harts, first_registers}
use Rattle.machine.specs.declared.choice.Choice.{Choice}
use Rattle.object_library.specs.declared.kind.Kind.TheVariants.{LrSc}
use Rattle.object_library.specs.Images.{lrsc_words, lrsc_image, image_of, IsSame}
use Rattle.machine.specs.Chosen.{chosen}
use Rattle.object_library.specs.Rules.{KeepsConsensus, HasExited, IsProposed, EndsAfter, EveryRun, is_exited, is_faulted, value_of, flag_of}
use Rattle.object_library.proofs.Runs.{same_runs, equal_runs, wider_ends}
use Rattle.object_library.proofs.Shape.{on, shaped, shaped_bytes, shaped_rights, word, word_at, may_load, may_store, stored_at, with_word, stores_word, stored_by, first_memory}
use Rattle.object_library.proofs.Harts.{hart_at, turn, step-turn, same_or_not, each_set, all_harts, same_default, first_at, first_count, bump, bump_if, bump_same, bump_other, bump_if_other, spent_after, refused_after, spent_own, refused_own, lost, lost_same, lost_other}

data Point : Type 0 where
  At0 At1 At2 At3 At4 At5 At6 At7 At8 At9 At10 At11 At12 At13 At14 At15 Out : Point

abbrev stand : Point → Registers → HartValue
stand At0 x = on x 0x10000
stand At1 x = on x 0x10004
stand At2 x = on x 0x10008
stand At3 x = on x 0x1000C
stand At4 x = on x 0x10010
stand At5 x = on x 0x10014
stand At6 x = on x 0x10018
stand At7 x = on x 0x1001C
stand At8 x = on x 0x10020
stand At9 x = on x 0x10024
stand At10 x = on x 0x10028
stand At11 x = on x 0x1002C
stand At12 x = on x 0x10030
stand At13 x = on x 0x10034
stand At14 x = on x 0x10038
stand At15 x = on x 0x1003C
stand Out x = record { registers = x; pc = 0x1003C; state = Exited (x 10) }

abbrev input : List ℕ → ℕ → ℕ
input inputs h = get_or inputs h 0

-- what a hart's facts look at, beside its registers: its slot, its reservation, its choices so far
-- and those of them that refused
record View : Type 0 where
  slot : ℕ
  kept : Option ℕ
  spent : ℕ
  refused : ℕ

-- the word that they race for
abbrev W : ℕ
W = 0x11000

abbrev Early : List ℕ → Option ℕ → ℕ → Registers → Type 0
Early inputs winner h x = record { zero_is : x 0 ≡ 0; me : x 10 ≡ h; mine : x 11 ≡ input inputs h; early : winner ≢ Some h }

-- from the store of the input to the end of the race
abbrev Racing : List ℕ → Option ℕ → View → ℕ → Registers → Type 0
Racing inputs winner v h x = record { start : Early inputs winner h x; base : x 8 ≡ W; wrote : v.slot ≡ input inputs h; mark : x 6 ≡ h + 1 }

abbrev Late : Option ℕ → ℕ → Registers → Type 0
Late winner k x = record { zero_is : x 0 ≡ 0; won : winner ≡ Some k }

-- at most b choices so far, but for four for each refusal
abbrev Within : View → ℕ → Type 0
Within v b = v.spent ≤ b + 4 * v.refused

-- nobody has won and the reservation stands, or somebody has and it is gone
abbrev Holding : Option ℕ → View → Type 0
Holding winner v = (winner ≡ None × v.kept ≡ Some W) ⊎ ((k : ℕ) × winner ≡ Some k × v.kept ≡ None)

-- no winner and so many choices, or a winner and so many more
abbrev Either : Option ℕ → View → ℕ → ℕ → Type 0
Either winner v a b = (winner ≡ None × Within v a) ⊎ ((k : ℕ) × winner ≡ Some k × Within v b)

abbrev Facts : (inputs : List ℕ) (winner : Option ℕ) (v : View) (h : ℕ) → Point → Registers → Type 0
Facts inputs winner v h At0 x = Early inputs winner h x × Within v 0
Facts inputs winner v h At1 x = Early inputs winner h x × Within v 1 × (x 8 ≡ W)
Facts inputs winner v h At2 x = Early inputs winner h x × Within v 2 × (x 8 ≡ W) × (x 5 ≡ 4 * h)
Facts inputs winner v h At3 x = Early inputs winner h x × Within v 3 × (x 8 ≡ W) × (x 5 ≡ W + 4 * h)
Facts inputs winner v h At4 x = Early inputs winner h x × Within v 4 × (x 8 ≡ W) × (v.slot ≡ input inputs h)
Facts inputs winner v h At5 x = Racing inputs winner v h x × Either winner v 5 9
Facts inputs winner v h At6 x = Racing inputs winner v h x × ((x 7 ≡ 0 × Within v 6 × Holding winner v) ⊎ ((k : ℕ) × winner ≡ Some k × x 7 ≡ k + 1 × Within v 10))
Facts inputs winner v h At7 x = Racing inputs winner v h x × Within v 7 × Holding winner v
Facts inputs winner v h At8 x = (x 0 ≡ 0) × (x 8 ≡ W) × (x 6 ≡ h + 1) × ((x 28 ≡ 0 × winner ≡ Some h × Within v 8) ⊎ (x 28 ≡ 1 × Racing inputs winner v h x × Either winner v 4 8))
Facts inputs winner v h At9 x = Late winner h x × Within v 9 × (x 8 ≡ W) × (x 6 ≡ h + 1)
Facts inputs winner v h At10 x = (k : ℕ) × Late winner k x × Within v 11 × (x 8 ≡ W) × (x 7 ≡ k + 1)
Facts inputs winner v h At11 x = (k : ℕ) × Late winner k x × Within v 12 × (x 8 ≡ W) × (x 7 ≡ 4 * (k + 1))
Facts inputs winner v h At12 x = (k : ℕ) × Late winner k x × Within v 13 × (x 7 ≡ W + 4 * (k + 1))
Facts inputs winner v h At13 x = (k : ℕ) × Late winner k x × Within v 14 × (x 10 ≡ input inputs k)
Facts inputs winner v h At14 x = (k : ℕ) × Late winner k x × Within v 15 × (x 10 ≡ input inputs k) × (x 11 ≡ 1)
Facts inputs winner v h At15 x = (k : ℕ) × Late winner k x × Within v 16 × (x 10 ≡ input inputs k) × (x 11 ≡ 1) × (x 17 ≡ 93)
Facts inputs winner v h Out x = (k : ℕ) × Late winner k x × (x 10 ≡ input inputs k) × (x 11 ≡ 1)

-- what the winner left
record Taken (inputs : List ℕ) (all : List Choice) (words : ℕ → ℕ) (k : ℕ) : Type 0 where
  taken : words 0 ≡ k + 1
  known : k < length inputs
  left : words (k + 1) ≡ input inputs k
  was_chosen : Contains (chosen all) k

abbrev Shared : (inputs : List ℕ) (all : List Choice) → Option ℕ → (ℕ → ℕ) → Type 0
Shared inputs all None words = words 0 ≡ 0
Shared inputs all (Some k) words = Taken inputs all words k

record Local (inputs : List ℕ) (winner : Option ℕ) (v : View) (h : ℕ) (hart : HartValue) : Type 0 where
  point : Point
  regs : Registers
  stands : hart ≡ stand point regs
  facts : Facts inputs winner v h point regs

record Ground : Type 0 where
  words : ℕ → ℕ
  reserved : ℕ → Option ℕ
  winner : Option ℕ

abbrev view : (spent refused : ℕ → ℕ) → Ground → ℕ → View
view spent refused g k = record { slot = g.words (k + 1); kept = g.reserved k; spent = spent k; refused = refused k }

record Inv (inputs : List ℕ) (all : List Choice) (spent refused : ℕ → ℕ) (harts : List HartValue) (g : Ground) : Type 0 where
  count : length harts ≡ length inputs
  shared : Shared inputs all g.winner g.words
  held : (k : ℕ) → (g.reserved k ≡ None) ⊎ (g.reserved k ≡ Some W)
  each : (k : ℕ) → k < length inputs → Local inputs g.winner (view spent refused g k) k (hart_at harts k)

abbrev world : ℕ → List HartValue → Ground → World
world slots harts g = shaped lrsc_words (4 + 4 * slots) harts g.words g.reserved

record Reached (slots : ℕ) (inputs : List ℕ) (all : List Choice) (spent refused : ℕ → ℕ) (w : World) : Type 0 where
  harts : List HartValue
  ground : Ground
  is : w ≡ world slots harts ground
  inv : Inv inputs all spent refused harts ground

record Fit (slots : ℕ) (inputs : List ℕ) : Type 0 where
  few : slots ≤ 32
  room : length inputs ≤ slots
  fits : (h : ℕ) → h < length inputs → get_or inputs h 0 < 2 ^ 32

taken_by : (inputs : List ℕ) (all : List Choice) (words : ℕ → ℕ) (winner : Option ℕ) (k : ℕ) → winner ≡ Some k → Shared inputs all winner words → Taken inputs all words k
taken_by inputs all words winner k e s = subst (λ (o : Option ℕ). Shared inputs all o words) e s

free_by : (inputs : List ℕ) (all : List Choice) (words : ℕ → ℕ) (winner : Option ℕ) → winner ≡ None → Shared inputs all winner words → words 0 ≡ 0
free_by inputs all words winner e s = subst (λ (o : Option ℕ). Shared inputs all o words) e s

too_late : {A : Type 0} (k : ℕ) → ◌≡◌ {A = Option ℕ} None (Some k) → A
too_late k q = absurd (cc)

-- HART h WINS: what the others know

early_still : (h k : ℕ) (x : Registers) (inputs : List ℕ) → k ≢ h → Early inputs None k x → Early inputs (Some h) k x
early_still h k x inputs ne f = record { zero_is = f.zero_is; me = f.me; mine = f.mine; early = λ (q : ◌≡◌ {A = Option ℕ} (Some h) (Some k)). ne (cc) }

-- the reservation is gone
abbrev robbed : View → View
robbed v = record { slot = v.slot; kept = lost W v.kept; spent = v.spent; refused = v.refused }

racing_still : (h k : ℕ) (v : View) (x : Registers) (inputs : List ℕ) → k ≢ h → Racing inputs None v k x → Racing inputs (Some h) (robbed v) k x
racing_still h k v x inputs ne f = record { start = early_still h k x inputs ne f.start; base = f.base; wrote = f.wrote; mark = f.mark }

either_still : (h : ℕ) (v : View) (a b : ℕ) → a ≤ b → Either None v a b → Either (Some h) (robbed v) a b
either_still h v a b le (inl f) = inr (h, refl, omega (arith, f.1))
either_still h v a b le (inr f) = too_late f.0 f.1

holding_still : (h : ℕ) (v : View) → Holding None v → Holding (Some h) (robbed v)
holding_still h v (inl f) = inr (h, refl, lost_same W v.kept (inr f.1))
holding_still h v (inr f) = too_late f.0 f.1

keeps : (inputs : List ℕ) (v : View) (h k : ℕ) (p : Point) (x : Registers) → k ≢ h → Facts inputs None v k p x → Facts inputs (Some h) (robbed v) k p x
keeps inputs v h k At0 x ne f = (early_still h k x inputs ne f.0, f.1)
keeps inputs v h k At1 x ne f = (early_still h k x inputs ne f.0, f.1, f.2)
keeps inputs v h k At2 x ne f = (early_still h k x inputs ne f.0, f.1, f.2, f.3)
keeps inputs v h k At3 x ne f = (early_still h k x inputs ne f.0, f.1, f.2, f.3)
keeps inputs v h k At4 x ne f = (early_still h k x inputs ne f.0, f.1, f.2, f.3)
keeps inputs v h k At5 x ne f = (racing_still h k v x inputs ne f.0, either_still h v 5 9 (omega arith) f.1)
keeps inputs v h k At6 x ne f = (racing_still h k v x inputs ne f.0, by_read f.1)
  where
    by_read : (x 7 ≡ 0 × Within v 6 × Holding None v) ⊎ ((j : ℕ) × ◌≡◌ {A = Option ℕ} None (Some j) × x 7 ≡ j + 1 × Within v 10) →
        (x 7 ≡ 0 × Within (robbed v) 6 × Holding (Some h) (robbed v)) ⊎ ((j : ℕ) × ◌≡◌ {A = Option ℕ} (Some h) (Some j) × x 7 ≡ j + 1 × Within (robbed v) 10)
    by_read (inl g) = inl (g.0, g.1, holding_still h v g.2)
    by_read (inr g) = too_late g.0 g.1
keeps inputs v h k At7 x ne f = (racing_still h k v x inputs ne f.0, f.1, holding_still h v f.2)
keeps inputs v h k At8 x ne f = (f.0, f.1, f.2, by_result f.3)
  where
    by_result : (x 28 ≡ 0 × ◌≡◌ {A = Option ℕ} None (Some k) × Within v 8) ⊎ (x 28 ≡ 1 × Racing inputs None v k x × Either None v 4 8) →
        (x 28 ≡ 0 × ◌≡◌ {A = Option ℕ} (Some h) (Some k) × Within (robbed v) 8) ⊎ (x 28 ≡ 1 × Racing inputs (Some h) (robbed v) k x × Either (Some h) (robbed v) 4 8)
    by_result (inl g) = too_late k g.1
    by_result (inr g) = inr (g.0, racing_still h k v x inputs ne g.1, either_still h v 4 8 (omega arith) g.2)
keeps inputs v h k At9 x ne f = too_late k f.0.won
keeps inputs v h k p x ne f = too_late f.0 f.1.won

wins : (inputs : List ℕ) (v : View) (h k : ℕ) (hart : HartValue) → k ≢ h → Local inputs None v k hart → Local inputs (Some h) (robbed v) k hart
wins inputs v h k hart ne l = record { point = l.point; regs = l.regs; stands = l.stands; facts = keeps inputs v h k l.point l.regs ne l.facts }

-- a hart's store to its own slot leaves what the winner left
shared_slot : (inputs : List ℕ) (all : List Choice) (winner : Option ℕ) (words : ℕ → ℕ) (h v : ℕ) → winner ≢ Some h →
    Shared inputs all winner words → Shared inputs all winner (with_word words (h + 1) v)
shared_slot inputs all None words h v early s = rw (ne_eqb 0 (h + 1) (omega arith)) s
shared_slot inputs all (Some k) words h v early s = record {
  taken = rw (ne_eqb 0 (h + 1) (omega arith)) s.taken;
  known = s.known;
  left = rw (ne_eqb (k + 1) (h + 1) (λ e. early (ap (λ (n : ℕ). Some n) (let e' : k ≡ h = omega arith in e')))) s.left;
  was_chosen = s.was_chosen;
}

stored_elsewhere : (h k a : ℕ) (reserved : ℕ → Option ℕ) → W ≢ word_of a → (reserved k ≡ None) ⊎ (reserved k ≡ Some W) →
    (stored_by h a reserved k ≡ None) ⊎ (stored_by h a reserved k ≡ Some W)
stored_elsewhere h k a reserved apart held = go (same_or_not k h)
  where
    go : (k ≡ h) ⊎ (k ≢ h) → (stored_by h a reserved k ≡ None) ⊎ (stored_by h a reserved k ≡ Some W)
    go (inl e) = rw (eq-eqb k h e) held
    go (inr ne) = rw (ne_eqb k h ne, lost_other W (word_of a) (reserved k) held apart) held

-- the count of refusals after a choice
record Counted (refuse : Bool) (before after : ℕ) : Type 0 where
  more : before ≤ after
  exact : refuse ≡ true → after ≡ before + 1

counted : (refuse : Bool) (h : ℕ) (refused : ℕ → ℕ) → Counted refuse (refused h) (bump_if refuse h refused h)
counted true h refused = rw (eq-eqb h h refl) (record { more = omega arith; exact = λ e. refl })
counted false h refused = rw (eq-eqb h h refl) (record { more = omega arith; exact = λ e. absurd (let q : ◌≡◌ {A = Bool} false true = e in cc) })

module _ (slots : ℕ) (inputs : List ℕ) (all : List Choice) (fit : Fit slots inputs) (spent refused : ℕ → ℕ) (harts : List HartValue) (g : Ground)
    (inv : Inv inputs all spent refused harts g) (h : ℕ) (lt : h < length inputs) (refuse : Bool) (chosen_now : Contains (chosen all) h)
    (q : ℕ) (q_is : bump_if refuse h refused h ≡ q) (q_ok : Counted refuse (refused h) q) where
  abbrev before : World
  before = world slots harts g

  abbrev Result : World → Type 0
  Result w = Reached slots inputs all (bump h spent) (bump_if refuse h refused) w

  abbrev mine_after : Ground → View
  mine_after g' = record { slot = g'.words (h + 1); kept = g'.reserved h; spent = spent h + 1; refused = q }

  changes : (g' : Ground) (p : Point) (y : Registers) (w : World) → w ≡ world slots (set harts h (stand p y)) g' →
      Shared inputs all g'.winner g'.words → ((k : ℕ) → (g'.reserved k ≡ None) ⊎ (g'.reserved k ≡ Some W)) →
      Facts inputs g'.winner (mine_after g') h p y →
      ((k : ℕ) → k < length inputs → k ≢ h → Local inputs g'.winner (view spent refused g' k) k (hart_at harts k)) → Result w
  changes g' p y w e shared held f others = record {
    harts = set harts h (stand p y);
    ground = g';
    is = e;
    inv = record {
      count = length-set harts h (stand p y) ∙ inv.count;
      shared = shared;
      held = held;
      each = each_set (length inputs) (λ k hart. Local inputs g'.winner (view (bump h spent) (bump_if refuse h refused) g' k) k hart) harts h (stand p y) inv.count lt
          (record { point = p; regs = y; stands = refl; facts = rw (bump_same h spent, q_is) f })
          (λ k small ne. rw (bump_other h k spent ne, bump_if_other refuse h k refused ne) (others k small ne));
    };
  }

  -- a step that changes the hart alone
  quiet : (p : Point) (y : Registers) (w : World) → w ≡ world slots (set harts h (stand p y)) g → Facts inputs g.winner (mine_after g) h p y → Result w
  quiet p y w e f = changes g p y w e inv.shared inv.held f (λ k small _. inv.each k small)

  bounds : record { few : slots ≤ 32; room : h < slots; more : refused h ≤ q }
  bounds = let a = fit.few in let b = fit.room in record { few = a; room = omega arith; more = q_ok.more }

  known : (k : ℕ) → g.winner ≡ Some k → record { few : slots ≤ 32; there : k < slots }
  known k e = let t = taken_by inputs all g.words g.winner k e inv.shared in let n : k < length inputs = t.known in let a = fit.few in let b = fit.room in
      record { few = a; there = omega arith }

  moves : (p : Point) (x : Registers) → hart_at harts h ≡ stand p x → Facts inputs g.winner (view spent refused g h) h p x →
      Result (turn before h refuse (hart_at harts h))
  unfolding decoded
  moves At0 x e f = let b = bounds in quiet At1 (put x 8 W) _ (ap (turn before h refuse) e) (f.0, omega arith, refl)
  moves At1 x e f = let b = bounds in quiet At2 (put x 5 (wrap (x 10 * 4))) _ (ap (turn before h refuse) e) (f.0, omega arith, f.2, omega arith)
  moves At2 x e f = let b = bounds in quiet At3 (put x 5 (wrap (x 5 + x 8))) _ (ap (turn before h refuse) e) (f.0, omega arith, f.2, omega arith)
  moves At3 x e f =
      let b = bounds in
      let is : wrap (x 5 + 4) ≡ W + 4 * (h + 1) = omega arith in
      let apart : W ≢ word_of (wrap (x 5 + 4)) = omega arith in
      changes (record { words = with_word g.words (h + 1) (x 11); reserved = stored_by h (wrap (x 5 + 4)) g.reserved; winner = g.winner }) At4 x _
      (ap (turn before h refuse) e
      ∙ stores_word lrsc_words (4 + 4 * slots) harts g.words g.reserved h (h + 1) (wrap (x 5 + 4)) (x 11) x x 0x1000C 0x10010 (omega arith) (omega arith) is)
      (shared_slot inputs all g.winner g.words h (x 11) f.0.early inv.shared)
      (λ k. stored_elsewhere h k (wrap (x 5 + 4)) g.reserved apart (inv.held k))
      (f.0, omega arith, f.2, rw (eq-eqb (h + 1) (h + 1) refl) f.0.mine)
      (λ k small ne. rw (ne_eqb (k + 1) (h + 1) (λ q. ne (omega arith)), ne_eqb k h ne, lost_other W (word_of (wrap (x 5 + 4))) (g.reserved k) (inv.held k) apart) (inv.each k small))
  moves At4 x e f = let b = bounds in quiet At5 (put x 6 (wrap (x 10 + 1))) _ (ap (turn before h refuse) e)
      (record { start = f.0; base = f.2; wrote = f.3; mark = omega arith }, by_winner g.winner inv.shared)
    where
      by_winner : (o : Option ℕ) → Shared inputs all o g.words → Either o (mine_after g) 5 9
      by_winner None sh = inl (refl, (let m = q_ok.more in let w = f.1 in omega arith))
      by_winner (Some k) sh = inr (k, refl, (let m = q_ok.more in let w = f.1 in omega arith))
  moves At5 x e f = changes (record { words = g.words; reserved = with_mark g.reserved h (x 8); winner = g.winner }) At6 y _
      (rw (e, may_load lrsc_words (4 + 4 * slots) g.words 0 (x 8) (omega arith) (omega arith) at_zero))
      inv.shared (λ k. held_still k (same_or_not k h)) (f.0, by_winner f.1)
      (λ k small ne. rw (ne_eqb k h ne) (inv.each k small))
    where
      at_zero : x 8 ≡ 0x11000 + 4 * 0
      at_zero = let b = f.0.base in omega arith

      y : Registers
      y = put x 7 (word (shaped_bytes lrsc_words (4 + 4 * slots) g.words) (x 8))

      read : word (shaped_bytes lrsc_words (4 + 4 * slots) g.words) (x 8) ≡ g.words 0 % 2 ^ 32
      read = word_at lrsc_words (4 + 4 * slots) g.words 0 (x 8) (omega arith) at_zero

      slot : with_mark g.reserved h (x 8) h ≡ Some W
      slot = rw (eq-eqb h h refl) (ap (λ (n : ℕ). Some n) f.0.base)

      held_still : (k : ℕ) → (k ≡ h) ⊎ (k ≢ h) → (with_mark g.reserved h (x 8) k ≡ None) ⊎ (with_mark g.reserved h (x 8) k ≡ Some W)
      held_still k (inl e) = inr (rw e slot)
      held_still k (inr ne) = rw (ne_eqb k h ne) (inv.held k)

      v' : View
      v' = mine_after (record { words = g.words; reserved = with_mark g.reserved h (x 8); winner = g.winner })

      by_winner : Either g.winner (view spent refused g h) 5 9 →
          (y 7 ≡ 0 × Within v' 6 × Holding g.winner v') ⊎ ((k : ℕ) × g.winner ≡ Some k × y 7 ≡ k + 1 × Within v' 10)
      by_winner (inl w) =
          let free = free_by inputs all g.words g.winner w.0 inv.shared in
          let m = q_ok.more in
          inl ((let r = read in omega arith), omega (arith, w.1), inl (w.0, slot))
      by_winner (inr w) =
          let t = taken_by inputs all g.words g.winner w.0 w.1 inv.shared in
          let taken : g.words 0 ≡ w.0 + 1 = t.taken in
          let known : w.0 < length inputs = t.known in
          let m = q_ok.more in
          let b = fit.few in let c = fit.room in
          inr (w.0, w.1, (let r = read in omega arith), omega (arith, w.2))
  moves At6 x e f = by_read f.1
    where
      z : x 0 ≡ 0
      z = f.0.start.zero_is

      by_read : (x 7 ≡ 0 × Within (view spent refused g h) 6 × Holding g.winner (view spent refused g h)) ⊎ ((k : ℕ) × g.winner ≡ Some k × x 7 ≡ k + 1 × Within (view spent refused g h) 10) →
          Result (turn before h refuse (hart_at harts h))
      by_read (inl w) = let m = q_ok.more in quiet At7 x _ (rw (e, eq-eqb (x 7) (x 0) (omega (arith, z, w.0)))) (f.0, omega (arith, w.1), w.2)
      by_read (inr w) = let m = q_ok.more in quiet At10 x _ (rw (e, ne_eqb (x 7) (x 0) (omega (arith, z, w.2)))) (w.0, record { zero_is = z; won = w.1 }, omega (arith, w.3), f.0.base, w.2)
  moves At7 x e f = by_holding f.2 refuse refl
    where
      at_zero : x 8 ≡ 0x11000 + 4 * 0
      at_zero = let b = f.0.base in omega arith

      same_word : word_of (x 8) ≡ W
      same_word = let b = f.0.base in omega arith

      won : Ground
      won = record { words = with_word g.words 0 (x 6); reserved = without_mark (stored_by h (x 8) g.reserved) h; winner = Some h }

      lost_it : Ground
      lost_it = record { words = g.words; reserved = without_mark g.reserved h; winner = g.winner }

      other_slot : (k : ℕ) → with_word g.words 0 (x 6) (k + 1) ≡ g.words (k + 1)
      other_slot k = rw (ne_eqb (k + 1) 0 (omega arith))

      works : (names (g.reserved h) (x 8) && not refuse) ≡ true → turn before h refuse (hart_at harts h) ≡ world slots (set harts h (stand At8 (put x 28 0))) won
      works t = rw (e, may_store lrsc_words (4 + 4 * slots) g.words 0 (x 8) (omega arith) (omega arith) at_zero, t)
          (ap (λ (b : ℕ → ℕ). record {
            harts = set harts h (stand At8 (put x 28 0));
            memory = record { rights = shaped_rights lrsc_words (4 + 4 * slots); bytes = b };
            reserved = without_mark (stored_by h (x 8) g.reserved) h;
          }) (stored_at lrsc_words (4 + 4 * slots) g.words 0 (x 8) (x 6) (omega arith) at_zero))

      fails : (names (g.reserved h) (x 8) && not refuse) ≡ false → turn before h refuse (hart_at harts h) ≡ world slots (set harts h (stand At8 (put x 28 1))) lost_it
      fails t = rw (e, may_store lrsc_words (4 + 4 * slots) g.words 0 (x 8) (omega arith) (omega arith) at_zero, t)

      taken_off : (k : ℕ) → (k ≡ h) ⊎ (k ≢ h) → without_mark (stored_by h (x 8) g.reserved) h k ≡ None
      taken_off k (inl e) = rw (eq-eqb k h e)
      taken_off k (inr ne) = rw (ne_eqb k h ne, same_word) (lost_same W (g.reserved k) (inv.held k))

      let_go : (k : ℕ) → (k ≡ h) ⊎ (k ≢ h) → (without_mark g.reserved h k ≡ None) ⊎ (without_mark g.reserved h k ≡ Some W)
      let_go k (inl e) = rw (eq-eqb k h e) (inl refl)
      let_go k (inr ne) = rw (ne_eqb k h ne) (inv.held k)

      lose : (names (g.reserved h) (x 8) && not refuse) ≡ false → Either g.winner (mine_after lost_it) 4 8 → Result (turn before h refuse (hart_at harts h))
      lose t b = changes lost_it At8 (put x 28 1) _ (fails t) inv.shared (λ k. let_go k (same_or_not k h))
          (f.0.start.zero_is, f.0.base, f.0.mark, inr (refl, f.0, b))
          (λ k small ne. rw (ne_eqb k h ne) (inv.each k small))

      by_holding : Holding g.winner (view spent refused g h) → (b : Bool) → refuse ≡ b → Result (turn before h refuse (hart_at harts h))
      by_holding (inl w) true r = lose (rw (w.1, eq-eqb W (x 8) (sym f.0.base), r)) (inl (w.0, (let x = q_ok.exact r in let b = f.1 in omega arith)))
      by_holding (inr w) b r = lose (rw w.2) (inr (w.0, w.1, (let m = q_ok.more in let b = f.1 in omega arith)))
      by_holding (inl w) false r =
          let m = q_ok.more in
          changes won At8 (put x 28 0) _ (works (rw (w.1, r, eq-eqb W (x 8) (sym f.0.base))))
          (record { taken = f.0.mark; known = lt; left = other_slot h ∙ f.0.wrote; was_chosen = chosen_now })
          (λ k. inl (taken_off k (same_or_not k h)))
          (f.0.start.zero_is, f.0.base, f.0.mark, inl (refl, refl, omega (arith, f.1)))
          (λ k small ne. rw (ne_eqb k h ne, same_word, other_slot k) (wins inputs (view spent refused g k) h k (hart_at harts k) ne
          (subst (λ (o : Option ℕ). Local inputs o (view spent refused g k) k (hart_at harts k)) w.0 (inv.each k small))))
  moves At8 x e f = by_result f.3
    where
      again : Either g.winner (view spent refused g h) 4 8 → Either g.winner (mine_after g) 5 9
      again (inl w) = let m = q_ok.more in inl (w.0, omega (arith, w.1))
      again (inr w) = let m = q_ok.more in inr (w.0, w.1, omega (arith, w.2))

      by_result : (x 28 ≡ 0 × g.winner ≡ Some h × Within (view spent refused g h) 8) ⊎ (x 28 ≡ 1 × Racing inputs g.winner (view spent refused g h) h x × Either g.winner (view spent refused g h) 4 8) →
          Result (turn before h refuse (hart_at harts h))
      by_result (inl w) = let m = q_ok.more in quiet At9 x _ (rw (e, eq-eqb (x 28) (x 0) (omega (arith, f.0, w.0)))) (record { zero_is = f.0; won = w.1 }, omega (arith, w.2), f.1, f.2)
      by_result (inr w) = quiet At5 x _ (rw (e, ne_eqb (x 28) (x 0) (omega (arith, f.0, w.0)))) (w.1, again w.2)
  moves At9 x e f = let b = bounds in quiet At10 (put x 7 (wrap (x 6 + 0))) _ (ap (turn before h refuse) e) (h, f.0, omega arith, f.2, omega arith)
  moves At10 x e f = let b = bounds in let k = known f.0 f.1.won in quiet At11 (put x 7 (wrap (x 7 * 4))) _ (ap (turn before h refuse) e) (f.0, f.1, omega arith, f.3, omega arith)
  moves At11 x e f = let b = bounds in let k = known f.0 f.1.won in quiet At12 (put x 7 (wrap (x 7 + x 8))) _ (ap (turn before h refuse) e) (f.0, f.1, omega arith, omega arith)
  moves At12 x e f =
      let b = bounds in
      let t = taken_by inputs all g.words g.winner f.0 f.1.won inv.shared in
      let k = known f.0 f.1.won in
      let left : g.words (f.0 + 1) ≡ input inputs f.0 = t.left in
      let small = fit.fits f.0 t.known in
      let is : wrap (x 7 + 0) ≡ 0x11000 + 4 * (f.0 + 1) = omega arith in
      quiet At13 (put x 10 (word (shaped_bytes lrsc_words (4 + 4 * slots) g.words) (wrap (x 7 + 0)))) _
      (rw (e, may_load lrsc_words (4 + 4 * slots) g.words (f.0 + 1) (wrap (x 7 + 0)) (omega arith) (omega arith) is))
      (f.0, f.1, omega arith, word_at lrsc_words (4 + 4 * slots) g.words (f.0 + 1) (wrap (x 7 + 0)) (omega arith) is ∙ omega arith)
  moves At13 x e f = let b = bounds in quiet At14 (put x 11 (wrap (x 0 + 1))) _ (ap (turn before h refuse) e) (f.0, f.1, omega arith, f.3, omega arith)
  moves At14 x e f = let b = bounds in quiet At15 (put x 17 (wrap (x 0 + 93))) _ (ap (turn before h refuse) e) (f.0, f.1, omega arith, f.3, f.4, omega arith)
  moves At15 x e f = quiet Out x _ (rw (e, eq-eqb (x 17) 93 f.5)) (f.0, f.1, f.3, f.4)
  moves Out x e f = quiet Out x _ (ap (turn before h refuse) e) f

-- one step, of any world that was reached
steps : (slots : ℕ) (inputs : List ℕ) (all : List Choice) (spent refused : ℕ → ℕ) (w : World) (c : Choice) → Fit slots inputs → c.hart < length inputs →
    Contains (chosen all) c.hart → Reached slots inputs all spent refused w →
    Reached slots inputs all (bump c.hart spent) (bump_if c.refuse c.hart refused) (step w c)
steps slots inputs all spent refused w c fit lt now r =
    let l = r.inv.each c.hart lt in
    let there : c.hart < length r.harts = omega (arith, r.inv.count) in
    subst (λ (v : World). Reached slots inputs all (bump c.hart spent) (bump_if c.refuse c.hart refused) (step v c)) (sym r.is)
    (subst (λ (v : World). Reached slots inputs all (bump c.hart spent) (bump_if c.refuse c.hart refused) v) (sym (step-turn (world slots r.harts r.ground) c there))
    (moves slots inputs all fit spent refused r.harts r.ground r.inv c.hart lt c.refuse now (bump_if c.refuse c.hart refused c.hart) refl
    (counted c.refuse c.hart refused) l.point l.regs l.stands l.facts))

-- whole runs: the choices that are left are among all
runs : (slots : ℕ) (inputs : List ℕ) (all : List Choice) (rest : List Choice) (spent refused : ℕ → ℕ) (w : World) → Fit slots inputs →
    AllByRecursion (λ c. record { there : c.hart < length inputs; among : Contains (chosen all) c.hart }) rest → Reached slots inputs all spent refused w →
    Reached slots inputs all (spent_after rest spent) (refused_after rest refused) (run w rest)
unfolding run
runs slots inputs all [] spent refused w fit ok r = r
runs slots inputs all (c ∷ cs) spent refused w fit ok r =
    runs slots inputs all cs (bump c.hart spent) (bump_if c.refuse c.hart refused) (step w c) fit ok.1 (steps slots inputs all spent refused w c fit ok.0.there ok.0.among r)

begins : (slots : ℕ) (inputs : List ℕ) (all : List Choice) → Reached slots inputs all (λ k. 0) (λ k. 0) (started (lrsc_image slots) inputs)
unfolding started
begins slots inputs all =
    record {
      harts = first_harts 0x10000 (length inputs) 0 inputs;
      ground = record { words = λ k. 0; reserved = λ h. None; winner = None };
      is = ap (λ (m : Memory). record { harts = first_harts 0x10000 (length inputs) 0 inputs; memory = m; reserved = λ h. None }) (first_memory lrsc_words (4 + 4 * slots) (omega arith));
      inv = record {
        count = first_count 0x10000 (length inputs) 0 inputs;
        shared = refl;
        held = λ k. inl refl;
        each = λ k small. record {
          point = At0;
          regs = first_registers (0 + k) (get_or inputs k 0) (length inputs);
          stands = first_at 0x10000 (length inputs) 0 inputs k small;
          facts = (record { zero_is = refl; me = omega arith; mine = refl; early = λ (q : ◌≡◌ {A = Option ℕ} None (Some k)). (cc) }, omega arith);
        };
      };
    }

-- a hart that has exited is at the end
at_end : (inputs : List ℕ) (winner : Option ℕ) (v : View) (h : ℕ) (p : Point) (x : Registers) → is_exited (stand p x).state ≡ true → Facts inputs winner v h p x →
    Facts inputs winner v h Out x
at_end inputs winner v h Out x e f = f
at_end inputs winner v h p x e f = absurd (let q : false ≡ true = e in cc)

never_faulted : (p : Point) (x : Registers) → is_faulted (stand p x).state ≡ false
never_faulted Out x = refl
never_faulted p x = refl

regs_of : (p : Point) (x : Registers) → (stand p x).registers ≡ x
regs_of Out x = refl
regs_of p x = refl

-- a hart with so many choices is at the end
over : (inputs : List ℕ) (winner : Option ℕ) (v : View) (h : ℕ) (p : Point) (x : Registers) → 17 + 4 * v.refused ≤ v.spent → Facts inputs winner v h p x → is_exited (stand p x).state ≡ true
over inputs winner v h Out x many f = refl
over inputs winner v h At5 x many f = absurd (by_winner f.1)
  where
    by_winner : Either winner v 5 9 → ⊥
    by_winner (inl w) = omega (arith, w.1)
    by_winner (inr w) = omega (arith, w.2)
over inputs winner v h At6 x many f = absurd (by_read f.1)
  where
    by_read : (x 7 ≡ 0 × Within v 6 × Holding winner v) ⊎ ((k : ℕ) × winner ≡ Some k × x 7 ≡ k + 1 × Within v 10) → ⊥
    by_read (inl w) = omega (arith, w.1)
    by_read (inr w) = omega (arith, w.3)
over inputs winner v h At8 x many f = absurd (by_result f.3)
  where
    by_either : Either winner v 4 8 → ⊥
    by_either (inl w) = omega (arith, w.1)
    by_either (inr w) = omega (arith, w.2)

    by_result : (x 28 ≡ 0 × winner ≡ Some h × Within v 8) ⊎ (x 28 ≡ 1 × Racing inputs winner v h x × Either winner v 4 8) → ⊥
    by_result (inl w) = omega (arith, w.2)
    by_result (inr w) = by_either w.2
over inputs winner v h p x many f = absurd (omega arith)

module _ (inputs : List ℕ) (all : List Choice) (spent refused : ℕ → ℕ) (harts : List HartValue) (g : Ground) (inv : Inv inputs all spent refused harts g) where
  end : (h : ℕ) → h < length inputs → HasExited (hart_at harts h) → Facts inputs g.winner (view spent refused g h) h Out (hart_at harts h).registers
  end h lt q =
      let l = inv.each h lt in
      let f = at_end inputs g.winner (view spent refused g h) h l.point l.regs (ap (λ (t : HartValue). is_exited t.state) (sym l.stands) ∙ q) l.facts in
      subst (λ (t : HartValue). Facts inputs g.winner (view spent refused g h) h Out t.registers) (sym l.stands)
      (subst (λ (y : Registers). Facts inputs g.winner (view spent refused g h) h Out y) (sym (regs_of l.point l.regs)) f)

  proposed : (h : ℕ) → h < length inputs → HasExited (hart_at harts h) → IsProposed inputs all (value_of (hart_at harts h))
  proposed h lt q =
      let f = end h lt q in
      let t = taken_by inputs all g.words g.winner f.0 f.1.won inv.shared in
      (f.0, t.was_chosen, slice_get-get_or inputs f.0 0 t.known ∙ ap (λ (v : ℕ). Some v) (sym f.2))

  same_value : (h k : ℕ) → h < length inputs → k < length inputs → HasExited (hart_at harts h) → HasExited (hart_at harts k) → value_of (hart_at harts h) ≡ value_of (hart_at harts k)
  same_value h k hs ks p q =
      let f = end h hs p in
      let e = end k ks q in
      let same : ◌≡◌ {A = Option ℕ} (Some f.0) (Some e.0) = sym f.1.won ∙ e.1.won in
      f.2 ∙ ap (input inputs) (let i : f.0 ≡ e.0 = cc in i) ∙ sym e.2

  within : (h : ℕ) → h < length harts → h < length inputs
  within h lt = omega (arith, inv.count)

  consensus : KeepsConsensus inputs all harts
  consensus = record {
    valid = all_harts (λ t. HasExited t → IsProposed inputs all (value_of t)) harts (λ h lt. proposed h (within h lt));
    agreed = all_harts (λ t. All (λ u. HasExited t → HasExited u → value_of t ≡ value_of u) harts) harts
        (λ h hs. all_harts (λ u. HasExited (hart_at harts h) → HasExited u → value_of (hart_at harts h) ≡ value_of u) harts
        (λ k ks. same_value h k (within h hs) (within k ks)));
    decided = all_harts (λ t. HasExited t → flag_of t ≡ 1) harts (λ h lt q. (end h (within h lt) q).3);
    sound = all_harts (λ t. is_faulted t.state ≡ false) harts (λ h lt.
        let l = inv.each h (within h lt) in
        ap (λ (t : HartValue). is_faulted t.state) l.stands ∙ never_faulted l.point l.regs);
  }

  exits : (h : ℕ) → h < length inputs → 17 + 4 * refused h ≤ spent h → HasExited (hart_at harts h)
  exits h lt many =
      let l = inv.each h lt in
      ap (λ (t : HartValue). is_exited t.state) l.stands ∙ over inputs g.winner (view spent refused g h) h l.point l.regs many l.facts

module _ (slots : ℕ) (inputs : List ℕ) (choices : List Choice) (few : slots ≤ 32) (room : length inputs ≤ slots) (fits : All (λ x. x < 2 ^ 32) inputs)
    (there : All (λ c. c.hart < length inputs) choices) where
  reached : Reached slots inputs choices (spent_after choices (λ k. 0)) (refused_after choices (λ k. 0)) (run (started (lrsc_image slots) inputs) choices)
  reached =
      runs slots inputs choices choices (λ k. 0) (λ k. 0) (started (lrsc_image slots) inputs) (record { few = few; room = room; fits = λ h lt. fits h 0 lt })
      (recursion_from_All (λ c. record { there : c.hart < length inputs; among : Contains (chosen choices) c.hart }) choices
      (λ k d small. record { there = there k d small; among = (k, rw length-map small, get_or-map (λ c. c.hart) choices k d _ small) }))
      (begins slots inputs choices)

  lrsc_agrees : KeepsConsensus inputs choices (run (started (lrsc_image slots) inputs) choices).harts
  lrsc_agrees =
      let r = reached in
      subst (λ (w : World). KeepsConsensus inputs choices w.harts) (sym r.is)
      (consensus inputs choices (spent_after choices (λ k. 0)) (refused_after choices (λ k. 0)) r.harts r.ground r.inv)

  lrsc_ends : EndsAfter (λ n r. 17 + 4 * r) inputs choices (run (started (lrsc_image slots) inputs) choices).harts
  lrsc_ends h d lt many =
      let r = reached in
      let inside : h < length r.harts = omega (arith, r.inv.count) in
      subst (λ (w : World). HasExited (get_or w.harts h d)) (sym r.is)
      (subst HasExited (same_default r.harts h d inside)
      (exits inputs choices (spent_after choices (λ k. 0)) (refused_after choices (λ k. 0)) r.harts r.ground r.inv h lt
      (omega (arith, spent_own choices (λ k. 0) h, refused_own choices (λ k. 0) h))))

pub always_agrees : (slots : ℕ) → slots ≤ 32 → EveryRun (λ n. n ≤ slots) (lrsc_image slots) KeepsConsensus
always_agrees slots few inputs choices room fits there = lrsc_agrees slots inputs choices few room fits there

pub always_ends : (slots : ℕ) → slots ≤ 32 → EveryRun (λ n. n ≤ slots) (lrsc_image slots) (EndsAfter (λ n r. 17 + 4 * r))
always_ends slots few inputs choices room fits there = lrsc_ends slots inputs choices few room fits there

-- ---- of any image that is the object's
pub agrees_in : (slots : ℕ) (m : ImageValue) → slots ≤ 32 → IsSame m (lrsc_image slots) → EveryRun (λ n. n ≤ slots) m KeepsConsensus
agrees_in slots m few same = same_runs (λ n. n ≤ slots) KeepsConsensus m (lrsc_image slots) same (always_agrees slots few)

pub ends_in : (slots : ℕ) (m : ImageValue) → slots ≤ 32 → IsSame m (lrsc_image slots) → EveryRun (λ n. n ≤ slots) m (EndsAfter (λ n r. 17 + 4 * r))
ends_in slots m few same = same_runs (λ n. n ≤ slots) (EndsAfter (λ n r. 17 + 4 * r)) m (lrsc_image slots) same (always_ends slots few)

below_numeral : (n r : ℕ) → 17 + 4 * r ≤ 21 + 4 * r
below_numeral n r = omega arith

pub bounded_in : (slots : ℕ) (m : ImageValue) → slots ≤ 32 → IsSame m (lrsc_image slots) → EveryRun (λ n. n ≤ slots) m (EndsAfter (λ n r. 21 + 4 * r))
bounded_in slots m few same = wider_ends (λ n. n ≤ slots) m (λ n r. 17 + 4 * r) (λ n r. 21 + 4 * r) below_numeral (ends_in slots m few same)

-- ---- of the image that is made
pub made : (m : ImageValue) → m ≡ image_of LrSc → EveryRun (λ n. n ≤ 32) m KeepsConsensus × EveryRun (λ n. n ≤ 32) m (EndsAfter (λ n r. 17 + 4 * r))
made m same = (
  equal_runs (λ n. n ≤ 32) KeepsConsensus m (lrsc_image 32) same (always_agrees 32 (omega arith)),
  equal_runs (λ n. n ≤ 32) (EndsAfter (λ n r. 17 + 4 * r)) m (lrsc_image 32) same (always_ends 32 (omega arith)),
)

pub made_bounded : (m : ImageValue) → m ≡ image_of LrSc → EveryRun (λ n. n ≤ 32) m (EndsAfter (λ n r. 21 + 4 * r))
made_bounded m same = wider_ends (λ n. n ≤ 32) m (λ n r. 17 + 4 * r) (λ n r. 21 + 4 * r) below_numeral (made m same).1
