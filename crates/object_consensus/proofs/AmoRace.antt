-- Every run of the races by one atomic instruction, Swap and Add: an invariant by program point,
-- and the bound on own steps.
use Rattle.std.proofs.Common.{◌≡◌, ◌≢◌, ℕ, zero, suc, ◌+◌, ◌*◌, ◌/◌, ◌%◌, ◌^◌, ◌<◌, ◌≤◌, Bool, true, false, List, [], ◌∷◌, length, get_or, set, Option, Some, None, refl, sym, ap, ◌∙◌, ◌⊎◌, inl, inr, arith, eq-eqb, ne_eqb, subst}
use Rattle.std.specs.List.{AllByRecursion, All, Contains}
use Rattle.std.proofs.lemmas.List.Elements.{recursion_from_All}
use Rattle.std.proofs.lemmas.List.{length-set, get_or-map, length-map}
use Rattle.std.proofs.lemmas.Option.{slice_get-get_or}
use Rattle.image.specs.Image.{ImageValue}
use Rattle.mem_store.specs.Memory.{Memory}
use Rattle.mem_store.specs.Access.{fetched}
use Rattle.hart_reservations.specs.Marks.{Marks}
use Rattle.isa_table.specs.Decoded.{decoded}
use Rattle.isa_table.specs.declared.instr.Instr.{Instr}
use Rattle.isa_table.specs.declared.instr.Instr.TheVariants.{Amo}
use Rattle.isa_table.specs.declared.mnemonic.AmoOp.{AmoOp}
use Rattle.isa_table.specs.declared.mnemonic.AmoOp.TheVariants.{Amoswap, Amoadd}
use Rattle.hart_step.specs.Hart.{HartValue, Registers, put}
use Rattle.hart_step.specs.Values.{wrap, bitwise, one_of, amo_result}
use Rattle.hart_step.specs.Effect.{Site}
use Rattle.hart_step.specs.Step.{at_word, executed}
use Rattle.hart_step.specs.declared.hart.HartState.TheVariants.{Exited}
use Rattle.machine.specs.World.{World, placed, step, run}
use Rattle.machine.specs.Start.{started, first_harts, first_registers}
use Rattle.machine.specs.declared.choice.Choice.{Choice}
use Rattle.object_library.specs.declared.kind.Kind.TheVariants.{Swap, Add}
use Rattle.object_library.specs.Images.{race_words, race_image, swap_image, add_image, image_of, IsSame}
use Rattle.machine.specs.Chosen.{chosen, own}
use Rattle.object_library.specs.Rules.{KeepsConsensus, HasExited, IsProposed, EndsAfter, EveryRun, is_exited, is_faulted, value_of, flag_of}
use Rattle.object_library.proofs.Runs.{same_runs, equal_runs, wider_ends}
use Rattle.object_library.proofs.Shape.{on, sight, shaped, shaped_bytes, shaped_memory, word, word_at, may_load, with_word, stores_word, stored_by, first_memory}
use Rattle.object_library.proofs.Harts.{hart_at, turn, step-turn, each_set, all_harts, same_default, first_at, first_count, bump, bump_same, bump_other, spent_after, spent_own}

data Point : Type 0 where
  At0 At1 At2 At3 At4 At5 At6 At7 At8 At9 At10 At11 At12 At13 At14 Out : Point

abbrev stand : Point → Registers → HartValue
stand At0 x = on x 0x10000
stand At1 x = on x 0x10004
stand At2 x = on x 0x10008
stand At3 x = on x 0x1000C
stand At4 x = on x 0x10010
stand At5 x = on x 0x10014
stand At6 x = on x 0x10018
stand At7 x = on x 0x1001C
stand At8 x = on x 0x10020
stand At9 x = on x 0x10024
stand At10 x = on x 0x10028
stand At11 x = on x 0x1002C
stand At12 x = on x 0x10030
stand At13 x = on x 0x10034
stand At14 x = on x 0x10038
stand Out x = record { registers = x; pc = 0x10038; state = Exited (x 10) }

-- which instruction it is: one that makes 1 of 0 and 1
record Race : Type 0 where
  code : ℕ
  op : AmoOp
  short : code < 2 ^ 32
  means : decoded code ≡ Some (Amo op false false 7 8 6)
  first : amo_result op 0 1 ≡ 1

abbrev world : Race → List HartValue → (ℕ → ℕ) → Marks → World
world c harts words reserved = shaped (race_words c.code) 12 harts words reserved

abbrev input : List ℕ → ℕ → ℕ
input inputs h = get_or inputs h 0

-- before the swap: what hart h knows
abbrev Early : List ℕ → Option ℕ → (z h : ℕ) → Registers → Type 0
Early inputs winner z h x = record { zero_is : x 0 ≡ 0; me : x 10 ≡ h; mine : x 11 ≡ input inputs h; early : winner ≢ Some h; one : (k : ℕ) → winner ≡ Some k → z ≡ 1 }

-- after it, there is a winner
abbrev Late : Option ℕ → ℕ → Registers → Type 0
Late winner k x = record { zero_is : x 0 ≡ 0; won : winner ≡ Some k }

-- what stands in the registers of hart h at each point. s is the word in its slot
abbrev Facts : (inputs : List ℕ) (winner : Option ℕ) (s z t h : ℕ) → Point → Registers → Type 0
Facts inputs winner s z t h At0 x = Early inputs winner z h x × (t ≤ 0)
Facts inputs winner s z t h At1 x = Early inputs winner z h x × (x 8 ≡ 0x11000) × (t ≤ 1)
Facts inputs winner s z t h At2 x = Early inputs winner z h x × (x 8 ≡ 0x11000) × (x 5 ≡ 4 * h) × (t ≤ 2)
Facts inputs winner s z t h At3 x = Early inputs winner z h x × (x 8 ≡ 0x11000) × (x 5 ≡ 0x11000 + 4 * h) × (t ≤ 3)
Facts inputs winner s z t h At4 x = Early inputs winner z h x × (x 8 ≡ 0x11000) × (s ≡ input inputs h) × (t ≤ 4)
Facts inputs winner s z t h At5 x = Early inputs winner z h x × (x 8 ≡ 0x11000) × (s ≡ input inputs h) × (x 6 ≡ 1) × (t ≤ 5)
Facts inputs winner s z t h At6 x = (k : ℕ) × Late winner k x × (x 8 ≡ 0x11000) × (x 10 ≡ h) × (x 11 ≡ input inputs h) × ((h ≡ k × x 7 ≡ 0) ⊎ (h ≢ k × x 7 ≡ 1)) × (t ≤ 6)
Facts inputs winner s z t h At7 x = (k : ℕ) × Late winner k x × (x 8 ≡ 0x11000) × (x 10 ≡ h) × (h ≢ k) × (t ≤ 7)
Facts inputs winner s z t h At8 x = (k : ℕ) × Late winner k x × (x 8 ≡ 0x11000) × (x 5 ≡ k) × (t ≤ 8)
Facts inputs winner s z t h At9 x = (k : ℕ) × Late winner k x × (x 8 ≡ 0x11000) × (x 5 ≡ 4 * k) × (t ≤ 9)
Facts inputs winner s z t h At10 x = (k : ℕ) × Late winner k x × (x 5 ≡ 0x11000 + 4 * k) × (t ≤ 10)
Facts inputs winner s z t h At11 x = (k : ℕ) × Late winner k x × (x 11 ≡ input inputs k) × (t ≤ 11)
Facts inputs winner s z t h At12 x = (k : ℕ) × Late winner k x × (x 10 ≡ input inputs k) × (t ≤ 12)
Facts inputs winner s z t h At13 x = (k : ℕ) × Late winner k x × (x 10 ≡ input inputs k) × (x 11 ≡ 1) × (t ≤ 13)
Facts inputs winner s z t h At14 x = (k : ℕ) × Late winner k x × (x 10 ≡ input inputs k) × (x 11 ≡ 1) × (x 17 ≡ 93) × (t ≤ 14)
Facts inputs winner s z t h Out x = (k : ℕ) × Late winner k x × (x 10 ≡ input inputs k) × (x 11 ≡ 1)

-- what the winner left
record Taken (inputs : List ℕ) (all : List Choice) (words : ℕ → ℕ) (k : ℕ) : Type 0 where
  known : k < 2
  left : words (k + 1) ≡ input inputs k
  was_chosen : Contains (chosen all) k

abbrev Shared : (inputs : List ℕ) (all : List Choice) → Option ℕ → (ℕ → ℕ) → Type 0
Shared inputs all None words = words 0 ≡ 0
Shared inputs all (Some k) words = Taken inputs all words k

record Local (inputs : List ℕ) (winner : Option ℕ) (s z t h : ℕ) (hart : HartValue) : Type 0 where
  point : Point
  regs : Registers
  stands : hart ≡ stand point regs
  facts : Facts inputs winner s z t h point regs

record Inv (inputs : List ℕ) (all : List Choice) (spent : ℕ → ℕ) (harts : List HartValue) (words : ℕ → ℕ) (winner : Option ℕ) : Type 0 where
  count : length harts ≡ 2
  shared : Shared inputs all winner words
  each : (h : ℕ) → h < 2 → Local inputs winner (words (h + 1)) (words 0) (spent h) h (hart_at harts h)

record Reached (c : Race) (inputs : List ℕ) (all : List Choice) (spent : ℕ → ℕ) (w : World) : Type 0 where
  harts : List HartValue
  words : ℕ → ℕ
  reserved : ℕ → Option ℕ
  winner : Option ℕ
  is : w ≡ world c harts words reserved
  inv : Inv inputs all spent harts words winner

record Small (inputs : List ℕ) : Type 0 where
  both : length inputs ≡ 2
  fits : (h : ℕ) → h < 2 → get_or inputs h 0 < 2 ^ 32

early_still : (h k z z' : ℕ) (x : Registers) (inputs : List ℕ) → k ≢ h → z' ≡ 1 → Early inputs None z k x → Early inputs (Some h) z' k x
early_still h k z z' x inputs ne one f = record { zero_is = f.zero_is; me = f.me; mine = f.mine; early = λ (q : ◌≡◌ {A = Option ℕ} (Some h) (Some k)). ne (cc); one = λ j q. one }

too_late : {A : Type 0} (k : ℕ) (x : Registers) → Late None k x → A
too_late k x l = let q : ◌≡◌ {A = Option ℕ} None (Some k) = l.won in absurd (cc)

taken_by : (inputs : List ℕ) (all : List Choice) (words : ℕ → ℕ) (winner : Option ℕ) (k : ℕ) → winner ≡ Some k → Shared inputs all winner words → Taken inputs all words k
taken_by inputs all words winner k e s = subst (λ (o : Option ℕ). Shared inputs all o words) e s

-- the hart that wins leaves what the others know
keeps : (inputs : List ℕ) (s z z' t h k : ℕ) (p : Point) (x : Registers) → k ≢ h → z' ≡ 1 → Facts inputs None s z t k p x → Facts inputs (Some h) s z' t k p x
keeps inputs s z z' t h k At0 x ne one f = (early_still h k z z' x inputs ne one f.0, f.1)
keeps inputs s z z' t h k At1 x ne one f = (early_still h k z z' x inputs ne one f.0, f.1, f.2)
keeps inputs s z z' t h k At2 x ne one f = (early_still h k z z' x inputs ne one f.0, f.1, f.2, f.3)
keeps inputs s z z' t h k At3 x ne one f = (early_still h k z z' x inputs ne one f.0, f.1, f.2, f.3)
keeps inputs s z z' t h k At4 x ne one f = (early_still h k z z' x inputs ne one f.0, f.1, f.2, f.3)
keeps inputs s z z' t h k At5 x ne one f = (early_still h k z z' x inputs ne one f.0, f.1, f.2, f.3, f.4)
keeps inputs s z z' t h k p x ne one f = too_late f.0 x f.1

-- of two harts, one has won and the other changes the word: a third is none
alone : (inputs : List ℕ) (s z z' t w h k : ℕ) (p : Point) (x : Registers) → w < 2 → h < 2 → k < 2 → k ≢ h → w ≢ h → Facts inputs (Some w) s z t k p x → Facts inputs (Some w) s z' t k p x
alone inputs s z z' t w h k At0 x lw lh lk ne nw f = absurd (f.0.early (ap (λ (n : ℕ). Some n) (let e : w ≡ k = omega arith in e)))
alone inputs s z z' t w h k At1 x lw lh lk ne nw f = absurd (f.0.early (ap (λ (n : ℕ). Some n) (let e : w ≡ k = omega arith in e)))
alone inputs s z z' t w h k At2 x lw lh lk ne nw f = absurd (f.0.early (ap (λ (n : ℕ). Some n) (let e : w ≡ k = omega arith in e)))
alone inputs s z z' t w h k At3 x lw lh lk ne nw f = absurd (f.0.early (ap (λ (n : ℕ). Some n) (let e : w ≡ k = omega arith in e)))
alone inputs s z z' t w h k At4 x lw lh lk ne nw f = absurd (f.0.early (ap (λ (n : ℕ). Some n) (let e : w ≡ k = omega arith in e)))
alone inputs s z z' t w h k At5 x lw lh lk ne nw f = absurd (f.0.early (ap (λ (n : ℕ). Some n) (let e : w ≡ k = omega arith in e)))
alone inputs s z z' t w h k p x lw lh lk ne nw f = f

-- a hart's store to its own slot leaves what the winner left
shared_slot : (inputs : List ℕ) (all : List Choice) (winner : Option ℕ) (words : ℕ → ℕ) (h v : ℕ) → winner ≢ Some h →
    Shared inputs all winner words → Shared inputs all winner (with_word words (h + 1) v)
shared_slot inputs all None words h v early s = rw (ne_eqb 0 (h + 1) (omega arith)) s
shared_slot inputs all (Some k) words h v early s = record {
  known = s.known;
  left = rw (ne_eqb (k + 1) (h + 1) (λ e. early (ap (λ (n : ℕ). Some n) (let e' : k ≡ h = omega arith in e')))) s.left;
  was_chosen = s.was_chosen;
}

flip : (h k : ℕ) → h < 2 → k < 2 → h ≢ k → bitwise 32 one_of h 1 ≡ k
unfolding bitwise
flip zero zero hs ks ne = absurd (ne refl)
flip zero (suc zero) hs ks ne = refl
flip zero (suc (suc k)) hs ks ne = absurd (omega arith)
flip (suc zero) zero hs ks ne = refl
flip (suc zero) (suc zero) hs ks ne = absurd (ne refl)
flip (suc zero) (suc (suc k)) hs ks ne = absurd (omega arith)
flip (suc (suc h)) k hs ks ne = absurd (omega arith)

module _ (c : Race) (inputs : List ℕ) (all : List Choice) (fit : Small inputs) (spent : ℕ → ℕ) (harts : List HartValue) (words : ℕ → ℕ) (reserved : ℕ → Option ℕ)
    (h : ℕ) (lt : h < 2) (refuse : Bool) (chosen_now : Contains (chosen all) h) where
  abbrev before : World
  before = world c harts words reserved

  abbrev To : World → Type 0
  To w = Reached c inputs all (bump h spent) w

  changes : (winner : Option ℕ) → length harts ≡ 2 → (p : Point) (y : Registers) (words' : ℕ → ℕ) (reserved' : ℕ → Option ℕ) (w : World) →
      w ≡ world c (set harts h (stand p y)) words' reserved' → Shared inputs all winner words' → Facts inputs winner (words' (h + 1)) (words' 0) (spent h + 1) h p y →
      ((k : ℕ) → k < 2 → k ≢ h → Local inputs winner (words' (k + 1)) (words' 0) (spent k) k (hart_at harts k)) → To w
  changes winner count p y words' reserved' w e shared f others = record {
    harts = set harts h (stand p y);
    words = words';
    reserved = reserved';
    winner = winner;
    is = e;
    inv = record {
      count = rw length-set count;
      shared = shared;
      each = each_set 2 (λ k hart. Local inputs winner (words' (k + 1)) (words' 0) (bump h spent k) k hart) harts h (stand p y) count lt
          (record { point = p; regs = y; stands = refl; facts = rw (bump_same h spent) f }) (λ k small ne. rw (bump_other h k spent ne) (others k small ne));
    };
  }

  swaps : (winner : Option ℕ) → Inv inputs all spent harts words winner → (x : Registers) → hart_at harts h ≡ stand At5 x →
      Facts inputs winner (words (h + 1)) (words 0) (spent h) h At5 x → To (turn before h refuse (hart_at harts h))
  swaps winner inv x e f = by_winner winner inv.count inv.shared inv.each f
    where
      at_zero : ((x 8 ≡ 0x11000)) → x 8 ≡ 0x11000 + 4 * 0
      at_zero q = omega arith

      old : ℕ
      old = word (shaped_bytes (race_words c.code) 12 words) (x 8)

      read : (x 8 ≡ 0x11000) → old ≡ words 0 % 2 ^ 32
      read q = word_at (race_words c.code) 12 words 0 (x 8) (omega arith) (at_zero q)

      y : Registers
      y = put x 7 old

      new : ℕ
      new = amo_result c.op old (x 6)

      sees : Site
      sees = sight (race_words c.code) 12 (on x 0x10014) words reserved

      whole : 0 + c.code % 256 * 256 ^ 0 + c.code / 2 ^ 8 % 256 * 256 ^ 1 + c.code / 2 ^ 16 % 256 * 256 ^ 2 + c.code / 2 ^ 24 % 256 * 256 ^ 3 ≡ c.code
      whole = let s = c.short in omega arith

      fetches : fetched (shaped_memory (race_words c.code) 12 words) 0x10014 ≡ Some c.code
      fetches = ap (λ (v : ℕ). Some v) whole

      does : (x 8 ≡ 0x11000) → turn before h refuse (hart_at harts h) ≡ world c (set harts h (stand At6 y)) (with_word words 0 new) (stored_by h (x 8) reserved)
      does q =
          ap (turn before h refuse) e ∙ ap (λ (o : Option ℕ). placed before h (at_word o sees h refuse x 0x10014)) fetches
          ∙ ap (λ (o : Option Instr). placed before h (executed o sees h refuse x 0x10014)) c.means
          ∙ stores_word (race_words c.code) 12 harts words reserved h 0 (x 8) new x y 0x10014 0x10018 (omega arith) (omega arith) (at_zero q)

      other_slot : (k : ℕ) → with_word words 0 new (k + 1) ≡ words (k + 1)
      other_slot k = rw (ne_eqb (k + 1) 0 (omega arith))

      by_winner : (winner : Option ℕ) → length harts ≡ 2 → Shared inputs all winner words →
          ((k : ℕ) → k < 2 → Local inputs winner (words (k + 1)) (words 0) (spent k) k (hart_at harts k)) → Facts inputs winner (words (h + 1)) (words 0) (spent h) h At5 x →
          To (turn before h refuse (hart_at harts h))
      by_winner None count shared each f =
          let r = read f.1 in
          let zero_read : old ≡ 0 = (let z : words 0 ≡ 0 = shared in omega arith) in
          let now_one : new ≡ 1 = ap (λ (v : ℕ). amo_result c.op v (x 6)) zero_read ∙ ap (λ (v : ℕ). amo_result c.op 0 v) f.3 ∙ c.first in
          changes (Some h) count At6 y (with_word words 0 new) _ _ (does f.1)
          (record { known = lt; left = other_slot h ∙ f.2; was_chosen = chosen_now })
          (h, record { zero_is = f.0.zero_is; won = refl }, f.1, f.0.me, f.0.mine, inl (refl, zero_read), omega arith)
          (λ k small ne.
          let l = each k small in
          rw (other_slot k)
          (record { point = l.point; regs = l.regs; stands = l.stands; facts = keeps inputs (words (k + 1)) (words 0) new (spent k) h k l.point l.regs ne now_one l.facts }))
      by_winner (Some w) count shared each f =
          let r = read f.1 in
          let z : words 0 ≡ 1 = f.0.one w refl in
          let other : w ≢ h = (λ q. f.0.early (ap (λ (n : ℕ). Some n) q)) in
          changes (Some w) count At6 y (with_word words 0 new) _ _ (does f.1)
          (record { known = shared.known; left = other_slot w ∙ shared.left; was_chosen = shared.was_chosen })
          (w, record { zero_is = f.0.zero_is; won = refl }, f.1, f.0.me, f.0.mine, inr ((λ q. other (sym q)), omega arith), omega arith)
          (λ k small ne.
          let l = each k small in
          rw (other_slot k)
          (record { point = l.point; regs = l.regs; stands = l.stands; facts = alone inputs (words (k + 1)) (words 0) new (spent k) w h k l.point l.regs shared.known lt small ne other l.facts }))

  module _ (winner : Option ℕ) (inv : Inv inputs all spent harts words winner) where
    -- a step that changes neither the words nor the winner
    quiet : (p : Point) (y : Registers) (w : World) → w ≡ world c (set harts h (stand p y)) words reserved → Facts inputs winner (words (h + 1)) (words 0) (spent h + 1) h p y → To w
    quiet p y w e f = changes winner inv.count p y words reserved w e inv.shared f (λ k small _. inv.each k small)

    winner_is : (k : ℕ) → winner ≡ Some k → Taken inputs all words k
    winner_is k e = taken_by inputs all words winner k e inv.shared

    moves : (p : Point) (x : Registers) → hart_at harts h ≡ stand p x → Facts inputs winner (words (h + 1)) (words 0) (spent h) h p x →
        To (turn before h refuse (hart_at harts h))
    unfolding decoded
    moves At0 x e f = quiet At1 (put x 8 0x11000) _ (ap (turn before h refuse) e) (f.0, refl, omega arith)
    moves At1 x e f = quiet At2 (put x 5 (wrap (x 10 * 4))) _ (ap (turn before h refuse) e)
        (f.0, f.1, (let me : x 10 ≡ h = f.0.me in omega arith), omega arith)
    moves At2 x e f = quiet At3 (put x 5 (wrap (x 5 + x 8))) _ (ap (turn before h refuse) e) (f.0, f.1, omega arith, omega arith)
    moves At3 x e f = changes winner inv.count At4 x (with_word words (h + 1) (x 11)) (stored_by h (wrap (x 5 + 4)) reserved) _
        (ap (turn before h refuse) e ∙ stores_word (race_words c.code) 12 harts words reserved h (h + 1) (wrap (x 5 + 4)) (x 11) x x 0x1000C 0x10010 (omega arith) (omega arith) (omega arith))
        (shared_slot inputs all winner words h (x 11) f.0.early inv.shared)
        (rw (ne_eqb 0 (h + 1) (omega arith), eq-eqb (h + 1) (h + 1) refl) (f.0, f.1, f.0.mine, omega arith))
        (λ k small ne. rw (ne_eqb 0 (h + 1) (omega arith), ne_eqb (k + 1) (h + 1) (λ q. ne (omega arith))) (inv.each k small))
    moves At4 x e f = quiet At5 (put x 6 (wrap (x 0 + 1))) _ (ap (turn before h refuse) e)
        (f.0, f.1, f.2, (let z : x 0 ≡ 0 = f.0.zero_is in omega arith), omega arith)
    moves At5 x e f = swaps winner inv x e f
    moves At6 x e f = branches f.5
      where
        z : x 0 ≡ 0
        z = f.1.zero_is

        branches : ((h ≡ f.0 × x 7 ≡ 0) ⊎ (h ≢ f.0 × x 7 ≡ 1)) → To (turn before h refuse (hart_at harts h))
        branches (inl g) = quiet At11 x _ (rw (e, eq-eqb (x 7) (x 0) (omega arith))) (f.0, f.1, f.4 ∙ ap (input inputs) g.0, omega arith)
        branches (inr g) = quiet At7 x _ (rw (e, ne_eqb (x 7) (x 0) (omega arith))) (f.0, f.1, f.2, f.3, g.0, omega arith)
    moves At7 x e f = quiet At8 (put x 5 (bitwise 32 one_of (x 10) 1)) _ (ap (turn before h refuse) e)
        (f.0, f.1, f.2, ap (λ (v : ℕ). bitwise 32 one_of v 1) f.3 ∙ flip h f.0 lt (winner_is f.0 f.1.won).known f.4, omega arith)
    moves At8 x e f = quiet At9 (put x 5 (wrap (x 5 * 4))) _ (ap (turn before h refuse) e)
        (f.0, f.1, f.2, (let small : f.0 < 2 = (winner_is f.0 f.1.won).known in omega arith), omega arith)
    moves At9 x e f = quiet At10 (put x 5 (wrap (x 5 + x 8))) _ (ap (turn before h refuse) e)
        (f.0, f.1, (let small : f.0 < 2 = (winner_is f.0 f.1.won).known in omega arith), omega arith)
    moves At10 x e f =
        let w = winner_is f.0 f.1.won in
        let small : f.0 < 2 = w.known in
        let is : wrap (x 5 + 4) ≡ 0x11000 + 4 * (f.0 + 1) = omega arith in
        quiet At11 (put x 11 (word (shaped_bytes (race_words c.code) 12 words) (wrap (x 5 + 4)))) _
        (rw (e, may_load (race_words c.code) 12 words (f.0 + 1) (wrap (x 5 + 4)) (omega arith) (omega arith) is))
        (f.0, f.1, word_at (race_words c.code) 12 words (f.0 + 1) (wrap (x 5 + 4)) (omega arith) is ∙ (let l : words (f.0 + 1) ≡ input inputs f.0 = w.left in let s = fit.fits f.0 small in omega arith), omega arith)
    moves At11 x e f = quiet At12 (put x 10 (wrap (x 11 + 0))) _ (ap (turn before h refuse) e) (f.0, f.1, (let q = f.2 in let s = fit.fits f.0 (winner_is f.0 f.1.won).known in omega arith), omega arith)
    moves At12 x e f = quiet At13 (put x 11 (wrap (x 0 + 1))) _ (ap (turn before h refuse) e) (f.0, f.1, f.2, (let z : x 0 ≡ 0 = f.1.zero_is in omega arith), omega arith)
    moves At13 x e f = quiet At14 (put x 17 (wrap (x 0 + 93))) _ (ap (turn before h refuse) e) (f.0, f.1, f.2, f.3, (let z : x 0 ≡ 0 = f.1.zero_is in omega arith), omega arith)
    moves At14 x e f = quiet Out x _ (rw (e, eq-eqb (x 17) 93 f.4)) (f.0, f.1, f.2, f.3)
    moves Out x e f = quiet Out x _ (ap (turn before h refuse) e) f

-- one step, of any world that was reached
steps : (c : Race) (inputs : List ℕ) (all : List Choice) (spent : ℕ → ℕ) (w : World) (ch : Choice) → Small inputs → ch.hart < 2 → Contains (chosen all) ch.hart → Reached c inputs all spent w →
    Reached c inputs all (bump ch.hart spent) (step w ch)
steps c inputs all spent w ch fit lt now r =
    let l = r.inv.each ch.hart lt in
    let there : ch.hart < length r.harts = omega (arith, r.inv.count) in
    subst (λ (v : World). Reached c inputs all (bump ch.hart spent) (step v ch)) (sym r.is)
    (subst (λ (v : World). Reached c inputs all (bump ch.hart spent) v) (sym (step-turn (world c r.harts r.words r.reserved) ch there))
    (moves c inputs all fit spent r.harts r.words r.reserved ch.hart lt ch.refuse now r.winner r.inv l.point l.regs l.stands l.facts))

-- whole runs: the choices that are left are among all
runs : (c : Race) (inputs : List ℕ) (all : List Choice) (rest : List Choice) (spent : ℕ → ℕ) (w : World) → Small inputs →
    AllByRecursion (λ ch. record { there : ch.hart < 2; among : Contains (chosen all) ch.hart }) rest → Reached c inputs all spent w → Reached c inputs all (spent_after rest spent) (run w rest)
unfolding run
runs c inputs all [] spent w fit ok r = r
runs c inputs all (ch ∷ cs) spent w fit ok r = runs c inputs all cs (bump ch.hart spent) (step w ch) fit ok.1 (steps c inputs all spent w ch fit ok.0.there ok.0.among r)

begins : (c : Race) (inputs : List ℕ) (all : List Choice) → Small inputs → Reached c inputs all (λ k. 0) (started (race_image c.code) inputs)
unfolding started
begins c inputs all fit =
    let both = fit.both in
    record {
      harts = first_harts 0x10000 (length inputs) 0 inputs;
      words = λ k. 0;
      reserved = λ h. None;
      winner = None;
      is = ap (λ (m : Memory). record { harts = first_harts 0x10000 (length inputs) 0 inputs; memory = m; reserved = λ h. None }) (first_memory (race_words c.code) 12 (omega arith));
      inv = record {
        count = first_count 0x10000 (length inputs) 0 inputs ∙ both;
        shared = refl;
        each = λ k small. record {
          point = At0;
          regs = first_registers (0 + k) (get_or inputs k 0) (length inputs);
          stands = first_at 0x10000 (length inputs) 0 inputs k (omega arith);
          facts = (record { zero_is = refl; me = omega arith; mine = refl; early = λ (q : ◌≡◌ {A = Option ℕ} None (Some k)). (cc); one = λ j (q : ◌≡◌ {A = Option ℕ} None (Some j)). absurd (cc) }, omega arith);
        };
      };
    }

-- a hart that has exited is at the end
at_end : (inputs : List ℕ) (winner : Option ℕ) (s z t h : ℕ) (p : Point) (x : Registers) → is_exited (stand p x).state ≡ true → Facts inputs winner s z t h p x →
    Facts inputs winner s z t h Out x
at_end inputs winner s z t h Out x e f = f
at_end inputs winner s z t h p x e f = absurd (let q : false ≡ true = e in cc)

never_faulted : (p : Point) (x : Registers) → is_faulted (stand p x).state ≡ false
never_faulted Out x = refl
never_faulted p x = refl

regs_of : (p : Point) (x : Registers) → (stand p x).registers ≡ x
regs_of Out x = refl
regs_of p x = refl

over : (inputs : List ℕ) (winner : Option ℕ) (s z t h : ℕ) (p : Point) (x : Registers) → 15 ≤ t → Facts inputs winner s z t h p x → is_exited (stand p x).state ≡ true
over inputs winner s z t h Out x many f = refl
over inputs winner s z t h p x many f = absurd (omega arith)

module _ (inputs : List ℕ) (all : List Choice) (fit : Small inputs) (spent : ℕ → ℕ) (harts : List HartValue) (words : ℕ → ℕ) (winner : Option ℕ) (inv : Inv inputs all spent harts words winner) where
  end : (h : ℕ) → h < 2 → HasExited (hart_at harts h) → Facts inputs winner (words (h + 1)) (words 0) (spent h) h Out (hart_at harts h).registers
  end h lt q =
      let l = inv.each h lt in
      let f = at_end inputs winner (words (h + 1)) (words 0) (spent h) h l.point l.regs (ap (λ (t : HartValue). is_exited t.state) (sym l.stands) ∙ q) l.facts in
      subst (λ (t : HartValue). Facts inputs winner (words (h + 1)) (words 0) (spent h) h Out t.registers) (sym l.stands)
      (subst (λ (y : Registers). Facts inputs winner (words (h + 1)) (words 0) (spent h) h Out y) (sym (regs_of l.point l.regs)) f)

  proposed : (h : ℕ) → h < 2 → HasExited (hart_at harts h) → IsProposed inputs all (value_of (hart_at harts h))
  proposed h lt q =
      let f = end h lt q in
      let t = taken_by inputs all words winner f.0 f.1.won inv.shared in
      let small : f.0 < length inputs = omega (arith, t.known, fit.both) in
      (f.0, t.was_chosen, slice_get-get_or inputs f.0 0 small ∙ ap (λ (v : ℕ). Some v) (sym f.2))

  same_value : (h k : ℕ) → h < 2 → k < 2 → HasExited (hart_at harts h) → HasExited (hart_at harts k) → value_of (hart_at harts h) ≡ value_of (hart_at harts k)
  same_value h k hs ks p q =
      let f = end h hs p in
      let g = end k ks q in
      let same : ◌≡◌ {A = Option ℕ} (Some f.0) (Some g.0) = sym f.1.won ∙ g.1.won in
      f.2 ∙ ap (input inputs) (let e : f.0 ≡ g.0 = cc in e) ∙ sym g.2

  within : (h : ℕ) → h < length harts → h < 2
  within h lt = omega (arith, inv.count)

  consensus : KeepsConsensus inputs all harts
  consensus = record {
    valid = all_harts (λ t. HasExited t → IsProposed inputs all (value_of t)) harts (λ h lt. proposed h (within h lt));
    agreed = all_harts (λ t. All (λ u. HasExited t → HasExited u → value_of t ≡ value_of u) harts) harts
        (λ h hs. all_harts (λ u. HasExited (hart_at harts h) → HasExited u → value_of (hart_at harts h) ≡ value_of u) harts
        (λ k ks. same_value h k (within h hs) (within k ks)));
    decided = all_harts (λ t. HasExited t → flag_of t ≡ 1) harts (λ h lt q. (end h (within h lt) q).3);
    sound = all_harts (λ t. is_faulted t.state ≡ false) harts (λ h lt.
        let l = inv.each h (within h lt) in
        ap (λ (t : HartValue). is_faulted t.state) l.stands ∙ never_faulted l.point l.regs);
  }

  exits : (h : ℕ) → h < 2 → 15 ≤ spent h → HasExited (hart_at harts h)
  exits h lt many =
      let l = inv.each h lt in
      ap (λ (t : HartValue). is_exited t.state) l.stands ∙ over inputs winner (words (h + 1)) (words 0) (spent h) h l.point l.regs many l.facts

module _ (c : Race) (inputs : List ℕ) (choices : List Choice) (both : length inputs ≡ 2) (fits : All (λ x. x < 2 ^ 32) inputs) (there : All (λ ch. ch.hart < length inputs) choices) where
  fit : Small inputs
  fit = record { both = both; fits = λ h lt. fits h 0 (omega arith) }

  reached : Reached c inputs choices (spent_after choices (λ k. 0)) (run (started (race_image c.code) inputs) choices)
  reached =
      runs c inputs choices choices (λ k. 0) (started (race_image c.code) inputs) fit
      (recursion_from_All (λ ch. record { there : ch.hart < 2; among : Contains (chosen choices) ch.hart }) choices
      (λ k d small. record { there = (let t = there k d small in omega arith); among = (k, rw length-map small, get_or-map (λ ch. ch.hart) choices k d _ small) }))
      (begins c inputs choices fit)

  race_agrees : KeepsConsensus inputs choices (run (started (race_image c.code) inputs) choices).harts
  race_agrees =
      let r = reached in
      subst (λ (w : World). KeepsConsensus inputs choices w.harts) (sym r.is)
      (consensus inputs choices fit (spent_after choices (λ k. 0)) r.harts r.words r.winner r.inv)

  race_ends : EndsAfter (λ n r. 15) inputs choices (run (started (race_image c.code) inputs) choices).harts
  race_ends h d lt many =
      let r = reached in
      let spent : spent_after choices (λ k. 0) h ≡ 0 + own choices h = spent_own choices (λ k. 0) h in
      let small : h < 2 = omega arith in
      let inside : h < length r.harts = omega (arith, r.inv.count) in
      subst (λ (w : World). HasExited (get_or w.harts h d)) (sym r.is)
      (subst HasExited (same_default r.harts h d inside)
      (exits inputs choices fit (spent_after choices (λ k. 0)) r.harts r.words r.winner r.inv h small (omega (arith, spent))))

means_swap : decoded 0x086423AF ≡ Some (Amo Amoswap false false 7 8 6)
unfolding decoded
means_swap = refl

means_add : decoded 0x006423AF ≡ Some (Amo Amoadd false false 7 8 6)
unfolding decoded
means_add = refl

abbrev swap : Race
swap = record { code = 0x086423AF; op = Amoswap; short = omega arith; means = means_swap; first = refl }

abbrev add : Race
add = record { code = 0x006423AF; op = Amoadd; short = omega arith; means = means_add; first = refl }

pub swap_agrees : EveryRun (λ n. n ≡ 2) swap_image KeepsConsensus
swap_agrees inputs choices = race_agrees swap inputs choices

pub swap_ends : EveryRun (λ n. n ≡ 2) swap_image (EndsAfter (λ n r. 15))
swap_ends inputs choices = race_ends swap inputs choices

pub add_agrees : EveryRun (λ n. n ≡ 2) add_image KeepsConsensus
add_agrees inputs choices = race_agrees add inputs choices

pub add_ends : EveryRun (λ n. n ≡ 2) add_image (EndsAfter (λ n r. 15))
add_ends inputs choices = race_ends add inputs choices

-- ---- of any image that is the object's
pub swap_agrees_in : (m : ImageValue) → IsSame m (image_of Swap) → EveryRun (λ n. n ≡ 2) m KeepsConsensus
swap_agrees_in m same = same_runs (λ n. n ≡ 2) KeepsConsensus m swap_image same swap_agrees

pub swap_ends_in : (m : ImageValue) → IsSame m (image_of Swap) → EveryRun (λ n. n ≡ 2) m (EndsAfter (λ n r. 15))
swap_ends_in m same = same_runs (λ n. n ≡ 2) (EndsAfter (λ n r. 15)) m swap_image same swap_ends

pub add_agrees_in : (m : ImageValue) → IsSame m (image_of Add) → EveryRun (λ n. n ≡ 2) m KeepsConsensus
add_agrees_in m same = same_runs (λ n. n ≡ 2) KeepsConsensus m add_image same add_agrees

pub add_ends_in : (m : ImageValue) → IsSame m (image_of Add) → EveryRun (λ n. n ≡ 2) m (EndsAfter (λ n r. 15))
add_ends_in m same = same_runs (λ n. n ≡ 2) (EndsAfter (λ n r. 15)) m add_image same add_ends

below_numeral : (n r : ℕ) → 15 ≤ 18
below_numeral n r = omega arith

pub swap_bounded_in : (m : ImageValue) → IsSame m (image_of Swap) → EveryRun (λ n. n ≡ 2) m (EndsAfter (λ n r. 18))
swap_bounded_in m same = wider_ends (λ n. n ≡ 2) m (λ n r. 15) (λ n r. 18) below_numeral (swap_ends_in m same)

pub add_bounded_in : (m : ImageValue) → IsSame m (image_of Add) → EveryRun (λ n. n ≡ 2) m (EndsAfter (λ n r. 18))
add_bounded_in m same = wider_ends (λ n. n ≡ 2) m (λ n r. 15) (λ n r. 18) below_numeral (add_ends_in m same)

-- ---- of the image that is made
pub swap_made : (m : ImageValue) → m ≡ image_of Swap → EveryRun (λ n. n ≡ 2) m KeepsConsensus × EveryRun (λ n. n ≡ 2) m (EndsAfter (λ n r. 15))
swap_made m same = (equal_runs (λ n. n ≡ 2) KeepsConsensus m swap_image same swap_agrees, equal_runs (λ n. n ≡ 2) (EndsAfter (λ n r. 15)) m swap_image same swap_ends)

pub add_made : (m : ImageValue) → m ≡ image_of Add → EveryRun (λ n. n ≡ 2) m KeepsConsensus × EveryRun (λ n. n ≡ 2) m (EndsAfter (λ n r. 15))
add_made m same = (equal_runs (λ n. n ≡ 2) KeepsConsensus m add_image same add_agrees, equal_runs (λ n. n ≡ 2) (EndsAfter (λ n r. 15)) m add_image same add_ends)

pub swap_made_bounded : (m : ImageValue) → m ≡ image_of Swap → EveryRun (λ n. n ≡ 2) m (EndsAfter (λ n r. 18))
swap_made_bounded m same = wider_ends (λ n. n ≡ 2) m (λ n r. 15) (λ n r. 18) below_numeral (swap_made m same).1

pub add_made_bounded : (m : ImageValue) → m ≡ image_of Add → EveryRun (λ n. n ≡ 2) m (EndsAfter (λ n r. 18))
add_made_bounded m same = wider_ends (λ n. n ≡ 2) m (λ n r. 15) (λ n r. 18) below_numeral (add_made m same).1
