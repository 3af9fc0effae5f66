-- Harts that pass through one object, wherever it stands: a chain of one object without places of
-- its own.
use Rattle.std.proofs.Common.{◌≡◌, ◌≢◌, ℕ, ◌+◌, ◌*◌, ◌%◌, ◌^◌, ◌<◌, ◌≤◌, Bool, if◌then◌else◌, ◌==◌, List, [], ◌∷◌, length, get_or, refl, sym, ap, ◌∙◌, ◌⊎◌, inl, inr, arith, subst}
use Rattle.std.specs.List.{AllByRecursion, All, Contains}
use Rattle.std.proofs.lemmas.List.Elements.{recursion_from_All}
use Rattle.std.proofs.lemmas.List.{get_or-map, length-map}
use Rattle.mem_store.specs.Memory.{Memory}
use Rattle.hart_reservations.specs.Marks.{Marks}
use Rattle.hart_step.specs.Hart.{HartValue, Registers}
use Rattle.hart_step.specs.declared.hart.HartState.TheVariants.{Running}
use Rattle.machine.specs.World.{World, step, run}
use Rattle.machine.specs.declared.choice.Choice.{Choice}
use Rattle.machine.specs.Chosen.{chosen, own}
use Rattle.object_library.specs.Rules.{IsProposed}
use Rattle.object_library.proofs.Shape.{on, shaped_memory, first_memory}
use Rattle.object_library.proofs.Harts.{nobody, hart_at, turn, step-turn, all_harts, bump, spent_after, spent_own}
use Rattle.object_adopt.specs.Passage.{InEveryPassage, IsBounded, KeepsPassage, StayBefore, HasObject, AllEnter, base_of, untouched, past_of}
use Rattle.object_adopt.proofs.Flat.{flat, flat_zero}
use Rattle.object_adopt.proofs.Instructions.{Point, At1, At30, place}
use Rattle.object_adopt.proofs.Object.{at_most}
use Rattle.object_adopt.proofs.Chain.{Program, Ghosts, Inv, Reached, FactsAt, obj, view_at, stands, world}
use Rattle.object_adopt.proofs.Moves.{moves}
use Rattle.object_adopt.proofs.Rule.{EndOf, first_ghost, valid, answered, committed, convergent}
use Rattle.object_adopt.proofs.TextWords.{object_fetched}

-- who has not come out stands at an instruction of the object
inside : (first : ℕ) (p : Point) → first + place p ≢ first + 116 → place p < 116
inside first At30 apart = absurd (apart refl)
inside first p apart = omega arith

-- a hart's value and flag, where the rule of exits has them
abbrev answer_of : Registers → Registers
answer_of x r = if r == 10 then x 20 else x 19

module _ (text : List ℕ) (zeros index shift count : ℕ) (inputs : List ℕ) (few : length inputs ≤ 32) (object : HasObject text zeros index shift (length inputs)) where
  abbrev lone : Program (length inputs)
  lone = record {
    text = text;
    zeros = zeros;
    first = 0x10000 + 4 * index;
    shift = shift;
    rounds = 1;
    begin = λ r. 0;
    left = λ r. count;
    Rest = Unit {0};
    rest = λ q x. on x 0;
    Holds = λ now r v h q x. ⊥;
    short = omega (arith, object.short);
    low = omega (arith, object.short, object.whole);
    even = omega arith;
    few = few;
    near = omega (arith, object.room, object.few);
    size = λ r lt. (omega (arith, object.room), omega arith);
    fetch = λ words p under. object_fetched text zeros index object.short object.whole object.same words p under;
  }

  abbrev past : ℕ
  past = past_of index

  module _ (all : List Choice) where
    abbrev present : ℕ → Type 0
    present k = Contains (chosen all) k

    abbrev brought : ℕ → ℕ
    brought k = get_or inputs k 0

    abbrev Arrives : (ℕ → ℕ) → World → Type 0
    Arrives spent w = Reached (length inputs) lone present brought spent w

    one : (spent : ℕ → ℕ) (harts : List HartValue) (reserved : Marks) (g : Ghosts) (inv : Inv (length inputs) lone present brought spent harts g) (h : ℕ) → h < length inputs → (refuse : Bool) → present h →
        (p : Point ⊎ Unit {0}) (x : Registers) → hart_at harts h ≡ stands (length inputs) lone present p x →
        FactsAt (length inputs) lone present (obj (length inputs) lone present g (g.round h)) (view_at (length inputs) lone present g (spent h) (g.round h) h) (g.round h) h p x →
        (hart_at harts h).pc ≢ past → Arrives (bump h spent) (turn (world (length inputs) lone present harts (flat shift g.words) reserved) h refuse (hart_at harts h))
    one spent harts reserved g inv h lt refuse mine (inl p) x e f away =
        moves (length inputs) lone present brought spent harts reserved g inv h lt refuse mine lone.few lone.low (lone.size (g.round h) (inv.all.early h lt)).1 lone.near
        (lone.size (g.round h) (inv.all.early h lt)).0 p x (inside (0x10000 + 4 * index) p (λ q. away (ap (λ (t : HartValue). t.pc) e ∙ q))) e f
    one spent harts reserved g inv h lt refuse mine (inr q) x e f away = absurd f

    steps : (spent : ℕ → ℕ) (w : World) (ch : Choice) → ch.hart < length inputs → present ch.hart → ((d : HartValue) → (get_or w.harts ch.hart d).pc ≢ past) → Arrives spent w →
        Arrives (bump ch.hart spent) (step w ch)
    steps spent w ch lt mine away r =
        let l = r.inv.each ch.hart lt in
        let there : ch.hart < length r.harts = omega (arith, r.inv.count) in
        let off : (hart_at r.harts ch.hart).pc ≢ past = subst (λ (v : World). (hart_at v.harts ch.hart).pc ≢ past) r.is (away nobody) in
        subst (λ (v : World). Arrives (bump ch.hart spent) (step v ch)) (sym r.is)
        (subst (λ (v : World). Arrives (bump ch.hart spent) v) (sym (step-turn (world (length inputs) lone present r.harts (flat shift r.g.words) r.reserved) ch there))
        (one spent r.harts r.reserved r.g r.inv ch.hart lt ch.refuse mine l.point l.regs l.is l.facts off))

    runs : (rest : List Choice) (spent : ℕ → ℕ) (w : World) → AllByRecursion (λ ch. record { there : ch.hart < length inputs; among : Contains (chosen all) ch.hart }) rest → StayBefore past w rest →
        Arrives spent w → Arrives (spent_after rest spent) (run w rest)
    unfolding run
    runs [] spent w ok stay r = r
    runs (ch ∷ cs) spent w ok stay r = runs cs (bump ch.hart spent) (step w ch) ok.1 stay.1 (steps spent w ch ok.0.there ok.0.among stay.0 r)

    module _ (harts : List HartValue) (reserved : Marks) (fits : All (λ x. x < 2 ^ 32) inputs) (enter : AllEnter index shift count inputs harts) where
      starts : Arrives (λ k. 0) (untouched text zeros harts reserved)
      starts = record {
        harts = harts;
        reserved = reserved;
        g = record { words = λ s k. 0; ghosts = λ s k. first_ghost (get_or inputs k 0); given = λ s k. get_or inputs k 0; round = λ k. 0 };
        is = ap (λ (m : Memory). record { harts = harts; memory = m; reserved = reserved }) (first_memory text zeros lone.short ∙ ap (λ (ws : ℕ → ℕ). shaped_memory text zeros ws) (flat_zero shift));
        inv = record {
          count = enter.number;
          all = record {
            sound = λ s. record {
              shown = λ k small. inl (refl, refl);
              signed = λ k small. inl refl;
              marked = λ k small. inl (refl, refl);
              valued = λ k small. inl refl;
              good = λ k small. inl refl;
              owned = λ k small p q. absurd (omega arith);
              agree = λ a b la lb p. absurd (omega arith);
              follow = λ a b la lb p. absurd (omega arith);
            };
            first = λ k small. refl;
            fits = λ s k small. fits k 0 small;
            early = λ k small. omega arith;
            fresh = λ s k small p. record { down = refl; unmarked = refl; uncleared = refl; unpassed = refl };
            done = λ s k small p. absurd (omega arith);
          };
          each = λ k small.
              let e = enter.each k nobody small in
              let at_first : 0x10000 + 4 * index ≡ 0x10000 + 4 * index + 0 = omega arith in
              record {
                point = inl At1;
                regs = e.registers;
                is = e.stands ∙ ap (λ (pc : ℕ). on e.registers pc) at_first;
                facts = (
                  record {
                    frame = record { zero_is = e.zero_is; base = omega (arith, e.base_is); me = e.number_is; many = e.harts_are; left = e.count_is };
                    mine = e.value_is;
                    new = record { none_cleared = refl; sign_two = refl; unpassed = refl; good_one = refl; own_value = refl };
                    unmarked = refl;
                  },
                  omega arith,
                );
              };
        };
      }

      module _ (there : All (λ ch. ch.hart < length inputs) all) (stay : StayBefore past (untouched text zeros harts reserved) all) where
        reached : Arrives (spent_after all (λ k. 0)) (run (untouched text zeros harts reserved) all)
        reached =
            runs all (λ k. 0) (untouched text zeros harts reserved)
            (recursion_from_All (λ ch. record { there : ch.hart < length inputs; among : Contains (chosen all) ch.hart }) all
            (λ k d small. record { there = there k d small; among = (k, rw length-map small, get_or-map (λ ch. ch.hart) all k d _ small) }))
            stay starts

    -- where the harts stand that an invariant holds of
    module _ (spent : ℕ → ℕ) (harts : List HartValue) (g : Ghosts) (inv : Inv (length inputs) lone present brought spent harts g) where
      end_of : (h : ℕ) → h < length inputs → (hart_at harts h).pc ≡ past → EndOf inputs all 1 g inv.all h (answer_of (hart_at harts h).registers)
      end_of h lt q =
          let l = inv.each h lt in
          subst (λ (t : HartValue). EndOf inputs all 1 g inv.all h (answer_of t.registers)) (sym l.is)
          (at l.point l.regs (ap (λ (t : HartValue). t.pc) (sym l.is) ∙ q) l.facts)
        where
          at_point : (p : Point) (x : Registers) → 0x10000 + 4 * index + place p ≡ past →
              FactsAt (length inputs) lone present (obj (length inputs) lone present g (g.round h)) (view_at (length inputs) lone present g (spent h) (g.round h) h) (g.round h) h (inl p) x →
              EndOf inputs all 1 g inv.all h (answer_of x)
          at_point At30 x e f = record { mine = f.5.among; passed = f.1; value = f.2; good = f.3; last = inr (let early : g.round h < 1 = inv.all.early h lt in omega arith) }
          at_point p x e f = absurd (omega arith)

          at : (p : Point ⊎ Unit {0}) (x : Registers) → (stands (length inputs) lone present p x).pc ≡ past →
              FactsAt (length inputs) lone present (obj (length inputs) lone present g (g.round h)) (view_at (length inputs) lone present g (spent h) (g.round h) h) (g.round h) h p x →
              EndOf inputs all 1 g inv.all h (answer_of (stands (length inputs) lone present p x).registers)
          at (inl p) x e f = at_point p x e f
          at (inr q) x e f = absurd f

      frame_of : (h : ℕ) → h < length inputs → (hart_at harts h).pc ≡ past →
          ((hart_at harts h).registers 8 ≡ base_of shift) × ((hart_at harts h).registers 12 ≡ length inputs) × ((hart_at harts h).registers 21 ≡ count)
      frame_of h lt q =
          let l = inv.each h lt in
          subst (λ (t : HartValue). (t.registers 8 ≡ base_of shift) × (t.registers 12 ≡ length inputs) × (t.registers 21 ≡ count)) (sym l.is)
          (at l.point l.regs (ap (λ (t : HartValue). t.pc) (sym l.is) ∙ q) l.facts)
        where
          at_point : (p : Point) (x : Registers) → 0x10000 + 4 * index + place p ≡ past →
              FactsAt (length inputs) lone present (obj (length inputs) lone present g (g.round h)) (view_at (length inputs) lone present g (spent h) (g.round h) h) (g.round h) h (inl p) x →
              (x 8 ≡ base_of shift) × (x 12 ≡ length inputs) × (x 21 ≡ count)
          at_point At30 x e f =
              let early : g.round h < 1 = inv.all.early h lt in
              let base : x 8 ≡ 0x11000 + 4 * shift + 512 * g.round h = f.0.base in
              (omega arith, f.0.many, f.0.left)
          at_point p x e f = absurd (omega arith)

          at : (p : Point ⊎ Unit {0}) (x : Registers) → (stands (length inputs) lone present p x).pc ≡ past →
              FactsAt (length inputs) lone present (obj (length inputs) lone present g (g.round h)) (view_at (length inputs) lone present g (spent h) (g.round h) h) (g.round h) h p x →
              ((stands (length inputs) lone present p x).registers 8 ≡ base_of shift) × ((stands (length inputs) lone present p x).registers 12 ≡ length inputs)
              × ((stands (length inputs) lone present p x).registers 21 ≡ count)
          at (inl p) x e f = at_point p x e f
          at (inr q) x e f = absurd f

      within : (h : ℕ) → h < length harts → h < length inputs
      within h lt = omega (arith, inv.count)

      still_runs : (p : Point ⊎ Unit {0}) (x : Registers) → (stands (length inputs) lone present p x).state ≡ Running
      still_runs (inl p) x = refl
      still_runs (inr q) x = refl

      meets : KeepsPassage past (base_of shift) count inputs all harts
      meets = record {
        valid = all_harts (λ t. t.pc ≡ past → IsProposed inputs all (t.registers 20)) harts
            (λ h lt q. valid inputs all 1 g inv.all h (answer_of (hart_at harts h).registers) (within h lt) (end_of h (within h lt) q));
        answered = all_harts (λ t. t.pc ≡ past → (t.registers 19 ≡ 0) ⊎ (t.registers 19 ≡ 1)) harts
            (λ h lt q. answered inputs all 1 g inv.all h (answer_of (hart_at harts h).registers) (within h lt) (end_of h (within h lt) q));
        committed = all_harts (λ t. All (λ u. t.pc ≡ past → u.pc ≡ past → t.registers 19 ≡ 1 → t.registers 20 ≡ u.registers 20) harts) harts
            (λ h lh. all_harts (λ u. (hart_at harts h).pc ≡ past → u.pc ≡ past → (hart_at harts h).registers 19 ≡ 1 → (hart_at harts h).registers 20 ≡ u.registers 20) harts
            (λ k lk p q one. sym (committed inputs all 1 g inv.all h k (answer_of (hart_at harts h).registers) (answer_of (hart_at harts k).registers) (within h lh) (within k lk)
            (end_of h (within h lh) p) (end_of k (within k lk) q) one)));
        convergent = λ alike. all_harts (λ t. t.pc ≡ past → t.registers 19 ≡ 1) harts
            (λ h lt q. convergent inputs all 1 g inv.all alike h (answer_of (hart_at harts h).registers) (within h lt) (end_of h (within h lt) q));
        framed = all_harts (λ t. t.pc ≡ past → (t.registers 8 ≡ base_of shift) × (t.registers 12 ≡ length inputs) × (t.registers 21 ≡ count)) harts
            (λ h lt q. frame_of h (within h lt) q);
        sound = all_harts (λ t. t.state ≡ Running) harts (λ h lt.
            let l = inv.each h (within h lt) in
            ap (λ (t : HartValue). t.state) l.is ∙ still_runs l.point l.regs);
      }

      most : (h : ℕ) → h < length inputs → spent h ≤ 14 + 14 * length inputs
      most h lt = let l = inv.each h lt in at l.point l.regs l.facts
        where
          at : (p : Point ⊎ Unit {0}) (x : Registers) →
              FactsAt (length inputs) lone present (obj (length inputs) lone present g (g.round h)) (view_at (length inputs) lone present g (spent h) (g.round h) h) (g.round h) h p x →
              spent h ≤ 14 + 14 * length inputs
          at (inl p) x f =
              let a = at_most (obj (length inputs) lone present g (g.round h)) (view_at (length inputs) lone present g (spent h) (g.round h) h) h p x lt f in
              omega arith
          at (inr q) x f = absurd f

pub passage_kept : InEveryPassage KeepsPassage
passage_kept text zeros index shift count inputs harts reserved choices few fits object enter there stay =
    let r = reached text zeros index shift count inputs few object choices harts reserved fits enter there stay in
    subst (λ (w : World). KeepsPassage (past_of index) (base_of shift) count inputs choices w.harts) (sym r.is)
    (meets text zeros index shift count inputs few object choices (spent_after choices (λ k. 0)) r.harts r.g r.inv)

pub passage_bounded : InEveryPassage IsBounded
passage_bounded text zeros index shift count inputs harts reserved choices few fits object enter there stay h lt =
    let r = reached text zeros index shift count inputs few object choices harts reserved fits enter there stay in
    let spent : spent_after choices (λ k. 0) h ≡ 0 + own choices h = spent_own choices (λ k. 0) h in
    let a = most text zeros index shift count inputs few object choices (spent_after choices (λ k. 0)) r.harts r.g r.inv h lt in
    omega (arith, spent, a)
