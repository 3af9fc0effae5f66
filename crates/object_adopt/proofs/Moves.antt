-- The steps of a hart at the instructions of an adopt-commit object.
use Rattle.std.proofs.Common.{◌≡◌, ◌≢◌, ℕ, ◌+◌, ◌-◌, ◌*◌, ◌%◌, ◌^◌, ◌<◌, ◌≤◌, Bool, true, false, not, List, set, Option, Some, refl, sym, ap, ◌∙◌, ◌⊎◌, inl, inr, arith, eq-eqb, ne_eqb}
use Rattle.hart_reservations.specs.Marks.{Marks}
use Rattle.isa_table.specs.Decoded.{decoded}
use Rattle.isa_table.specs.declared.instr.Instr.{Instr}
use Rattle.isa_table.specs.declared.instr.Instr.TheVariants.{Branch, Load, Store}
use Rattle.isa_table.specs.declared.mnemonic.BranchOp.{BranchOp}
use Rattle.isa_table.specs.declared.mnemonic.BranchOp.TheVariants.{Beq, Bne}
use Rattle.isa_table.specs.declared.mnemonic.LoadOp.TheVariants.{Lw}
use Rattle.isa_table.specs.declared.mnemonic.StoreOp.TheVariants.{Sw}
use Rattle.hart_step.specs.Hart.{HartValue, Registers, put}
use Rattle.hart_step.specs.Values.{wrap, is_taken}
use Rattle.hart_step.specs.Effect.{goes_on}
use Rattle.hart_step.specs.Step.{executed}
use Rattle.machine.specs.World.{World}
use Rattle.object_library.proofs.Shape.{shaped_bytes, word, word_at, with_word, stored_by}
use Rattle.object_library.proofs.Harts.{hart_at, turn, same_or_not}
use Rattle.object_adopt.proofs.Flat.{flat, flat_at, flat_with, at_round}
use Rattle.object_adopt.proofs.Records.{Ghost, Sound, with_ghost, presence_of, mark_of, Shown, Signed, Marked, Valued, Good, Mixed, Agree, twos, clears, passes, writes_value, writes_presence, writes_mark, other_word, this_word}
use Rattle.object_adopt.proofs.Instructions.{Point, At1, At2, At3, At4, At5, At6, At7, At8, At9, At10, At11, At12, At13, At14, At15, At16, At17, At18, At19, At20, At21, At22, At23, At24, At25, At26, At27, At28, At29, At30, place, code, stand, sees, goes, taken, passed_by, gets, puts}
use Rattle.object_adopt.proofs.Object.{Facts}
use Rattle.object_adopt.proofs.Chain.{Program, Ghosts, Was, Inv, Result, obj, view_at, world, quiet, inside, ghostly, Aside, Held, after, obj_after}

module _ (n : ℕ) (c : Program n) (now : ℕ → Type 0) (input : ℕ → ℕ) (spent : ℕ → ℕ) (harts : List HartValue) (reserved : Marks) (g : Ghosts) (inv : Inv n c now input spent harts g) (h : ℕ) (lt : h < n)
    (refuse : Bool) (among : now h) (few : n ≤ 32) (low : c.first < 0x20000) (in_four : g.round h < 4) (little : c.shift < 2 ^ 24) (room : 4 * c.shift + 512 * g.round h + 16 * n ≤ c.zeros) where
  abbrev r : ℕ
  r = g.round h

  abbrev base : ℕ
  base = 0x11000 + 4 * c.shift + 512 * g.round h

  abbrev words : ℕ → ℕ
  words = g.words (g.round h)

  abbrev ghosts : ℕ → Ghost
  ghosts = g.ghosts (g.round h)

  abbrev inp : ℕ → ℕ
  inp = g.given (g.round h)

  abbrev was : ℕ → Type 0
  was = Was n now g.round (g.round h)

  snd : Sound n inp was words ghosts
  snd = inv.all.sound r

  here : was h
  here = record { among = among; small = lt; came = omega arith }

  fits : (k : ℕ) → k < n → inp k < 2 ^ 32
  fits k small = inv.all.fits r k small

  abbrev before : World
  before = world n c now harts (flat c.shift g.words) reserved

  abbrev To : Type 0
  To = Result n c now input spent harts reserved g inv h lt (turn before h refuse (hart_at harts h))

  abbrev Here : Point → Registers → Type 0
  Here p x = Facts (obj n c now g r) (view_at n c now g (spent h) r h) h p x

  abbrev bytes : ℕ → ℕ
  bytes = shaped_bytes c.text c.zeros (flat c.shift g.words)

  abbrev Becomes : Point → Registers → Type 0
  Becomes q y = turn before h refuse (hart_at harts h) ≡ world n c now (set harts h (stand c.first q y)) (flat c.shift g.words) reserved

  quiet_at : (p : Point) (y : Registers) → Becomes p y → Facts (obj n c now g r) (view_at n c now g (spent h + 1) r h) h p y → To
  quiet_at p y e f = quiet n c now input spent harts reserved g inv h lt (inl p) y _ e f

  ghostly_at : (gh : Ghost) (p : Point) (y : Registers) → Becomes p y → Sound n inp was words (with_ghost ghosts h gh) →
      Facts (obj n c now g r) (after n c now input spent harts reserved g inv h lt words gh) h p y → To
  ghostly_at gh p y e sound f = ghostly n c now input spent harts reserved g inv h lt gh (inl p) y _ e sound f

  far : (a imm b : ℕ) → (a + imm) % 2 ^ 32 ≡ b → b < 200 → wrap (c.first + a + imm) ≡ c.first + b
  far a imm b e small = omega arith

  aligned : (a imm b : ℕ) → (a + imm) % 2 ^ 32 ≡ b → b % 4 ≡ 0 → wrap (c.first + a + imm) % 4 ≡ 0
  aligned a imm b e small = let z = c.even in omega arith

  -- an instruction that goes on to the next one, or by imm
  line : (p q : Point) (x y : Registers) → place p < 116 →
      executed (decoded (code p)) (sees c.text c.zeros harts (flat c.shift g.words) reserved h refuse x (c.first + place p)) h refuse x (c.first + place p)
      ≡ goes_on (sees c.text c.zeros harts (flat c.shift g.words) reserved h refuse x (c.first + place p)) y (wrap (c.first + place p + 4)) →
      place q ≡ place p + 4 → hart_at harts h ≡ stand c.first p x → Becomes q y
  line p q x y small does next e =
      goes c.text c.zeros harts (flat c.shift g.words) reserved h refuse x y (c.first + place p) (code p) (c.first + place p + 4) (c.first + place q) does (omega arith) (c.fetch (flat c.shift g.words) p small) e

  jump : (p q : Point) (x y : Registers) (imm : ℕ) → place p < 116 →
      executed (decoded (code p)) (sees c.text c.zeros harts (flat c.shift g.words) reserved h refuse x (c.first + place p)) h refuse x (c.first + place p)
      ≡ goes_on (sees c.text c.zeros harts (flat c.shift g.words) reserved h refuse x (c.first + place p)) y (wrap (c.first + place p + imm)) →
      (place p + imm) % 2 ^ 32 ≡ place q → place q < 200 → hart_at harts h ≡ stand c.first p x → Becomes q y
  jump p q x y imm small does next near e =
      goes c.text c.zeros harts (flat c.shift g.words) reserved h refuse x y (c.first + place p) (code p) (c.first + place p + imm) (c.first + place q) does (far (place p) imm (place q) next near) (c.fetch (flat c.shift g.words) p small) e

  branch_to : (p q : Point) (x : Registers) (op : BranchOp) (rs1 rs2 imm : ℕ) → place p < 116 → decoded (code p) ≡ Some (Branch op rs1 rs2 imm) → (place p + imm) % 2 ^ 32 ≡ place q → place q < 200 → place q % 4 ≡ 0 →
      is_taken op (x rs1) (x rs2) ≡ true → hart_at harts h ≡ stand c.first p x → Becomes q x
  branch_to p q x op rs1 rs2 imm small means next near even so e =
      jump p q x x imm small
      (ap (λ (o : Option Instr). executed o (sees c.text c.zeros harts (flat c.shift g.words) reserved h refuse x (c.first + place p)) h refuse x (c.first + place p)) means
      ∙ taken c.text c.zeros harts (flat c.shift g.words) reserved h refuse x (c.first + place p) op rs1 rs2 imm so (aligned (place p) imm (place q) next even)) next near e

  branch_by : (p q : Point) (x : Registers) (op : BranchOp) (rs1 rs2 imm : ℕ) → place p < 116 → decoded (code p) ≡ Some (Branch op rs1 rs2 imm) → place q ≡ place p + 4 →
      is_taken op (x rs1) (x rs2) ≡ false → hart_at harts h ≡ stand c.first p x → Becomes q x
  branch_by p q x op rs1 rs2 imm small means next so e =
      line p q x x small
      (ap (λ (o : Option Instr). executed o (sees c.text c.zeros harts (flat c.shift g.words) reserved h refuse x (c.first + place p)) h refuse x (c.first + place p)) means
      ∙ passed_by c.text c.zeros harts (flat c.shift g.words) reserved h refuse x (c.first + place p) op rs1 rs2 imm so) next e

  load : (p q : Point) (x : Registers) (rd rs1 imm k : ℕ) → place p < 116 → decoded (code p) ≡ Some (Load Lw rd rs1 imm) → place q ≡ place p + 4 → 4 * k + 4 ≤ 16 * n →
      wrap (x rs1 + imm) ≡ base + 4 * k → hart_at harts h ≡ stand c.first p x → Becomes q (put x rd (word bytes (wrap (x rs1 + imm))))
  load p q x rd rs1 imm k small means next within is e =
      let s = c.short in
      line p q x (put x rd (word bytes (wrap (x rs1 + imm)))) small
      (ap (λ (o : Option Instr). executed o (sees c.text c.zeros harts (flat c.shift g.words) reserved h refuse x (c.first + place p)) h refuse x (c.first + place p)) means
      ∙ gets c.text c.zeros harts (flat c.shift g.words) reserved h refuse x (c.first + place p) rd rs1 imm (c.shift + (128 * g.round h + k)) s (omega arith) (omega arith)) next e

  -- what it brings
  loads : (k a : ℕ) → 4 * k + 4 ≤ 16 * n → a ≡ base + 4 * k → (v : ℕ) → words k ≡ v → v < 2 ^ 32 → word bytes a ≡ v
  loads k a within is v q small =
      let e = flat_at c.shift g.words r k (c.shift + (128 * g.round h + k)) (omega arith) refl in
      word_at c.text c.zeros (flat c.shift g.words) (c.shift + (128 * g.round h + k)) a (omega arith) (omega arith) ∙ rw e (omega arith)

  store : (p q : Point) (x : Registers) (rs1 rs2 imm k v : ℕ) → place p < 116 → decoded (code p) ≡ Some (Store Sw rs1 rs2 imm) → place q ≡ place p + 4 → 4 * k + 4 ≤ 16 * n →
      wrap (x rs1 + imm) ≡ base + 4 * k → x rs2 ≡ v → hart_at harts h ≡ stand c.first p x →
      turn before h refuse (hart_at harts h) ≡ world n c now (set harts h (stand c.first q x)) (flat c.shift (at_round g.words r (with_word words k v))) (stored_by h (wrap (x rs1 + imm)) reserved)
  store p q x rs1 rs2 imm k v small means next within is what e =
      let s = c.short in
      puts c.text c.zeros harts (flat c.shift g.words) reserved h refuse x (c.first + place p) (code p) (c.first + place q) rs1 rs2 imm (c.shift + (128 * g.round h + k)) means s (omega arith) (omega arith) (omega arith)
      (c.fetch (flat c.shift g.words) p small) e
      ∙ ap (λ (ws : ℕ → ℕ). world n c now (set harts h (stand c.first q x)) ws (stored_by h (wrap (x rs1 + imm)) reserved))
      (flat_with c.shift g.words r k (c.shift + (128 * g.round h + k)) (x rs2) (omega arith) refl ∙ ap (λ (u : ℕ). flat c.shift (at_round g.words r (with_word words k u))) what)

  stored : (p q : Point) (x : Registers) (rs1 rs2 imm k v : ℕ) → place p < 116 → decoded (code p) ≡ Some (Store Sw rs1 rs2 imm) → place q ≡ place p + 4 → 4 * k + 4 ≤ 16 * n →
      wrap (x rs1 + imm) ≡ base + 4 * k → x rs2 ≡ v → hart_at harts h ≡ stand c.first p x → Sound n inp was (with_word words k v) ghosts →
      Aside n c now input spent harts reserved g inv h lt (with_word words k v) → Held n c now input spent harts reserved g inv h lt (with_word words k v) →
      Facts (obj_after n c now input spent harts reserved g inv h lt (with_word words k v)) (after n c now input spent harts reserved g inv h lt (with_word words k v) (ghosts h)) h q x → To
  stored p q x rs1 rs2 imm k v small means next within is what e sound aside held f =
      inside n c now input spent harts reserved g inv h lt (with_word words k v) (stored_by h (wrap (x rs1 + imm)) reserved) ghosts (ghosts h) (inl q) x _
      (store p q x rs1 rs2 imm k v small means next within is what e) sound refl (λ j ne. refl) aside held f

  six : (x : Registers) → hart_at harts h ≡ stand c.first At6 x → Here At6 x → To
  unfolding decoded
  six x e f =
      let is : wrap (x 9 + 0) ≡ base + 4 * (4 * h) = omega arith in
      stored At6 At7 x 9 11 0 (4 * h) (inp h) (omega arith) refl refl (omega arith) is f.0.mine e
      (writes_value n inp was words ghosts snd h lt)
      (λ k ne. record {
        value = other_word words (4 * h) (inp h) (4 * k) (λ q. ne (omega arith));
        presence = other_word words (4 * h) (inp h) (4 * k + 1) (omega arith);
        mark = other_word words (4 * h) (inp h) (4 * k + 2) (omega arith);
      })
      (record { up = λ j q. other_word words (4 * h) (inp h) (4 * j + 1) (omega arith) ∙ q; mark = λ j c ne q. other_word words (4 * h) (inp h) (4 * j + 2) (omega arith) ∙ q }) (
        record { frame = f.0.frame; mine = f.0.mine; new = f.0.new; unmarked = other_word words (4 * h) (inp h) (4 * h + 2) (omega arith) ∙ f.0.unmarked },
        f.1,
        f.2,
        this_word words (4 * h) (inp h),
        omega arith,
      )

  eight : (x : Registers) → hart_at harts h ≡ stand c.first At8 x → Here At8 x → To
  unfolding decoded
  eight x e f =
      let is : wrap (x 9 + 4) ≡ base + 4 * (4 * h + 1) = omega arith in
      stored At8 At9 x 9 7 4 (4 * h + 1) 1 (omega arith) refl refl (omega arith) is f.4 e
      (writes_presence n inp was words ghosts snd h lt f.3 here)
      (λ k ne. record {
        value = other_word words (4 * h + 1) 1 (4 * k) (omega arith);
        presence = other_word words (4 * h + 1) 1 (4 * k + 1) (λ q. ne (omega arith));
        mark = other_word words (4 * h + 1) 1 (4 * k + 2) (omega arith);
      })
      (record { up = λ j q. up j (same_or_not j h) q; mark = λ j c ne q. other_word words (4 * h + 1) 1 (4 * j + 2) (omega arith) ∙ q }) (
        record { frame = f.0.frame; mine = f.0.mine; new = f.0.new; unmarked = other_word words (4 * h + 1) 1 (4 * h + 2) (omega arith) ∙ f.0.unmarked },
        f.1,
        f.2,
        other_word words (4 * h + 1) 1 (4 * h) (omega arith) ∙ f.3,
        this_word words (4 * h + 1) 1,
        omega arith,
      )
    where
      up : (j : ℕ) → (j ≡ h) ⊎ (j ≢ h) → presence_of words j ≡ 1 → with_word words (4 * h + 1) 1 (4 * j + 1) ≡ 1
      up j (inl q) p = rw (eq-eqb (4 * j + 1) (4 * h + 1) (omega arith))
      up j (inr ne) p = other_word words (4 * h + 1) 1 (4 * j + 1) (λ q. ne (omega arith)) ∙ p

  ten : (x : Registers) → hart_at harts h ≡ stand c.first At10 x → Here At10 x → To
  unfolding decoded
  ten x e f = by_shown (snd.shown f.0 f.2.there)
    where
      is : wrap (x 5 + 4) ≡ base + 4 * (4 * f.0 + 1)
      is = omega arith

      within : 4 * (4 * f.0 + 1) + 4 ≤ 16 * n
      within = omega arith

      y : Registers
      y = put x 7 (word bytes (wrap (x 5 + 4)))

      does : Becomes At11 y
      does = load At10 At11 x 7 5 4 (4 * f.0 + 1) (omega arith) refl refl within is e

      gh : Ghost
      gh = record { cleared = f.0 + 1; sign = (ghosts h).sign; passed = (ghosts h).passed; good = (ghosts h).good; value = (ghosts h).value }

      by_shown : Shown n inp was words (ghosts f.0) f.0 → To
      by_shown (inl p) = ghostly_at gh At11 y does
          (clears n inp was words ghosts snd h lt gh (inr (f.1.up, f.1.wrote, here)) (snd.signed h lt) f.1.unmarked f.1.unpassed f.1.good_one f.1.own_value agree)
          (f.0, f.1, f.2, inl (loads (4 * f.0 + 1) (wrap (x 5 + 4)) within is 0 p.0 (omega arith), refl), omega arith)
        where
          agree : (k : ℕ) → k < n → k ≢ h → Agree n inp gh (ghosts k) h k
          agree k small ne below above mine other = go (same_or_not k f.0)
            where
              go : (k ≡ f.0) ⊎ (k ≢ f.0) → inp h ≡ inp k
              go (inl q) = absurd (let z : (ghosts k).cleared ≡ 0 = ap (λ (m : ℕ). (ghosts m).cleared) q ∙ p.1 in omega arith)
              go (inr ne) = snd.agree h k lt small (omega arith) above mine other
      by_shown (inr p) = quiet_at At11 y does (f.0, f.1, f.2, inr (loads (4 * f.0 + 1) (wrap (x 5 + 4)) within is 1 p.0 (omega arith), f.3, p.0), omega arith)

  eleven : (x : Registers) → hart_at harts h ≡ stand c.first At11 x → Here At11 x → To
  unfolding decoded
  eleven x e f = go f.3
    where
      z : x 0 ≡ 0
      z = f.1.frame.zero_is

      go : ((x 7 ≡ 0 × (ghosts h).cleared ≡ f.0 + 1) ⊎ (x 7 ≡ 1 × (ghosts h).cleared ≡ f.0 × presence_of words f.0 ≡ 1)) → To
      go (inl g) = quiet_at At15 x (branch_to At11 At15 x Beq 7 0 16 (omega arith) refl refl (omega arith) refl (eq-eqb (x 7) (x 0) (omega (arith, z, g.0))) e) (f.0, f.1, f.2, g.1, omega arith)
      go (inr g) = quiet_at At12 x (branch_by At11 At12 x Beq 7 0 16 (omega arith) refl refl (ne_eqb (x 7) (x 0) (omega (arith, z, g.0))) e) (f.0, f.1, f.2, g.1, g.2, omega arith)

  twelve : (x : Registers) → hart_at harts h ≡ stand c.first At12 x → Here At12 x → To
  unfolding decoded
  twelve x e f = by_shown (snd.shown f.0 f.2.there)
    where
      is : wrap (x 5 + 0) ≡ base + 4 * (4 * f.0)
      is = omega arith

      within : 4 * (4 * f.0) + 4 ≤ 16 * n
      within = omega arith

      by_shown : Shown n inp was words (ghosts f.0) f.0 → To
      by_shown (inl p) = absurd (let q = p.0 in let r = f.4 in omega arith)
      by_shown (inr p) = quiet_at At13 (put x 28 (word bytes (wrap (x 5 + 0))))
          (load At12 At13 x 28 5 0 (4 * f.0) (omega arith) refl refl within is e)
          (f.0, f.1, f.2, f.3, loads (4 * f.0) (wrap (x 5 + 0)) within is (inp f.0) p.1 (fits f.0 f.2.there), p.2, omega arith)

  thirteen : (x : Registers) → hart_at harts h ≡ stand c.first At13 x → Here At13 x → To
  unfolding decoded
  thirteen x e f = go (same_or_not (x 28) (x 11))
    where
      gh : Ghost
      gh = record { cleared = f.0 + 1; sign = (ghosts h).sign; passed = (ghosts h).passed; good = (ghosts h).good; value = (ghosts h).value }

      alike : x 28 ≡ x 11 → inp f.0 ≡ inp h
      alike q = sym f.4 ∙ q ∙ f.1.mine

      agree : x 28 ≡ x 11 → (k : ℕ) → k < n → k ≢ h → Agree n inp gh (ghosts k) h k
      agree q k small ne below above mine other = by_place (same_or_not k f.0)
        where
          by_place : (k ≡ f.0) ⊎ (k ≢ f.0) → inp h ≡ inp k
          by_place (inl r) = sym (alike q) ∙ ap inp (sym r)
          by_place (inr ne) = snd.agree h k lt small (omega arith) above mine other

      go : (x 28 ≡ x 11) ⊎ (x 28 ≢ x 11) → To
      go (inl q) = ghostly_at gh At15 x (branch_to At13 At15 x Beq 28 11 8 (omega arith) refl refl (omega arith) refl (eq-eqb (x 28) (x 11) q) e)
          (clears n inp was words ghosts snd h lt gh (inr (f.1.up, f.1.wrote, here)) (snd.signed h lt) f.1.unmarked f.1.unpassed f.1.good_one f.1.own_value (agree q))
          (f.0, f.1, f.2, refl, omega arith)
      go (inr ne) = quiet_at At14 x (branch_by At13 At14 x Beq 28 11 8 (omega arith) refl refl (ne_eqb (x 28) (x 11) ne) e) (f.0, f.1, f.2, (λ q. ne (f.4 ∙ q ∙ sym f.1.mine)), f.5, omega arith)

  fourteen : (x : Registers) → hart_at harts h ≡ stand c.first At14 x → Here At14 x → To
  unfolding decoded
  fourteen x e f = ghostly_at gh At15 (put x 18 (wrap (x 0 + 1))) (line At14 At15 x _ (omega arith) refl refl e)
      (clears n inp was words ghosts snd h lt gh (inr (f.1.up, f.1.wrote, here))
      (inr (refl, record { j = f.0; k = h; first = f.4; second = here; apart = f.3 })) f.1.unmarked f.1.unpassed f.1.good_one f.1.own_value
      (λ k small ne below above mine other. absurd (omega arith))) (
        f.0,
        record {
          frame = f.1.frame;
          mine = f.1.mine;
          record_at = f.1.record_at;
          end_at = f.1.end_at;
          wrote = f.1.wrote;
          up = f.1.up;
          unmarked = f.1.unmarked;
          sign_is = (let z : x 0 ≡ 0 = f.1.frame.zero_is in omega arith);
          unpassed = f.1.unpassed;
          good_one = f.1.good_one;
          own_value = f.1.own_value;
        },
        f.2,
        refl,
        omega arith,
      )
    where
      gh : Ghost
      gh = record { cleared = f.0 + 1; sign = 1; passed = (ghosts h).passed; good = (ghosts h).good; value = (ghosts h).value }

  sixteen : (x : Registers) → hart_at harts h ≡ stand c.first At16 x → Here At16 x → To
  unfolding decoded
  sixteen x e f = go (same_or_not (f.0 + 1) (n))
    where
      go : (f.0 + 1 ≡ n) ⊎ (f.0 + 1 ≢ n) → To
      go (inl q) = quiet_at At17 x (branch_by At16 At17 x Bne 5 6 4294967272 (omega arith) refl refl (ap not (eq-eqb (x 5) (x 6) (omega arith))) e) (f.1, f.4 ∙ q, omega arith)
      go (inr ne) = quiet_at At10 x (branch_to At16 At10 x Bne 5 6 4294967272 (omega arith) refl refl (omega arith) refl (ap not (ne_eqb (x 5) (x 6) (omega arith))) e) (f.0 + 1, f.1, record { there = omega arith; place = f.3 }, f.4, omega arith)

  seventeen : (x : Registers) → hart_at harts h ≡ stand c.first At17 x → Here At17 x → To
  unfolding decoded
  seventeen x e f =
      let is : wrap (x 9 + 8) ≡ base + 4 * (4 * h + 2) = omega arith in
      stored At17 At18 x 9 18 8 (4 * h + 2) (ghosts h).sign (omega arith) refl refl (omega arith) is f.0.sign_is e
      (writes_mark n inp was words ghosts snd h lt f.0.unmarked f.0.wrote here f.1 f.0.unpassed)
      (λ k ne. record {
        value = other_word words (4 * h + 2) (ghosts h).sign (4 * k) (omega arith);
        presence = other_word words (4 * h + 2) (ghosts h).sign (4 * k + 1) (omega arith);
        mark = other_word words (4 * h + 2) (ghosts h).sign (4 * k + 2) (λ q. ne (omega arith));
      })
      (record { up = λ j q. other_word words (4 * h + 2) (ghosts h).sign (4 * j + 1) (omega arith) ∙ q; mark = λ j c nz q. stays j c (same_or_not j h) nz q }) (
        record {
          frame = f.0.frame;
          mine = f.0.mine;
          end_at = f.0.end_at;
          marked = (λ q. signed_not (snd.signed h lt) (sym (this_word words (4 * h + 2) (ghosts h).sign) ∙ q));
          unpassed = f.0.unpassed;
          good_one = f.0.good_one;
          own_value = f.0.own_value;
        },
        omega arith,
      )
    where
      stays : (j c : ℕ) → (j ≡ h) ⊎ (j ≢ h) → c ≢ 0 → mark_of words j ≡ c → with_word words (4 * h + 2) (ghosts h).sign (4 * j + 2) ≡ c
      stays j c (inl r) nz q = absurd (nz (sym q ∙ ap (mark_of words) r ∙ f.0.unmarked))
      stays j c (inr ne) nz q = other_word words (4 * h + 2) (ghosts h).sign (4 * j + 2) (λ r. ne (omega arith)) ∙ q

      signed_not : Signed n inp was (ghosts h) → (ghosts h).sign ≢ 0
      signed_not (inl p) q = omega arith
      signed_not (inr p) q = absurd (let r = p.0 in omega arith)

  -- the mark of j is known, and hart h passes it
  step_past : (gh : Ghost) (j : ℕ) → j < n → gh.cleared ≡ (ghosts h).cleared → gh.sign ≡ (ghosts h).sign → mark_of words h ≢ 0 → (ghosts h).passed ≡ j → gh.passed ≡ j + 1 →
      Valued n inp words gh h → Good n inp was gh → (gh.good ≡ 1 → (ghosts h).good ≡ 1) →
      (h ≡ j → gh.good ≡ 1 → mark_of words h ≡ 2) →
      ((k : ℕ) → k < n → k < j → mark_of words k ≡ 2 → (ghosts h).value ≡ inp k → gh.value ≡ inp k) →
      (mark_of words j ≡ 2 → gh.value ≡ inp j) →
      (h < (ghosts j).passed → gh.good ≡ 1 → mark_of words h ≡ 2 → (ghosts j).value ≡ inp h) →
      Sound n inp was words (with_ghost ghosts h gh)
  step_past gh j small same_cleared same_sign marked at_j is valued good before_good own old said back =
      passes n inp was words ghosts snd h lt gh same_cleared same_sign marked valued good
      (λ p g. own_mark (same_or_not h j) p g)
      (λ k sk ne p q g m. left k sk (same_or_not k j) p q g m)
      (λ k sk ne p q g m. right k sk (same_or_not k j) p q g m)
    where
      own_mark : (h ≡ j) ⊎ (h ≢ j) → h < gh.passed → gh.good ≡ 1 → mark_of words h ≡ 2
      own_mark (inl e) p g = own e g
      own_mark (inr ne) p g = snd.owned h lt (omega arith) (before_good g)

      left : (k : ℕ) → k < n → (k ≡ j) ⊎ (k ≢ j) → k < gh.passed → h < (ghosts k).passed → (ghosts k).good ≡ 1 → mark_of words k ≡ 2 → gh.value ≡ inp k
      left k sk (inl e) p q g m = said (ap (mark_of words) (sym e) ∙ m) ∙ ap inp (sym e)
      left k sk (inr ne) p q g m = old k sk (omega arith) m (snd.follow h k lt sk (omega arith) q g m)

      right : (k : ℕ) → k < n → (k ≡ j) ⊎ (k ≢ j) → h < (ghosts k).passed → k < gh.passed → gh.good ≡ 1 → mark_of words h ≡ 2 → (ghosts k).value ≡ inp h
      right k sk (inl e) p q g m = ap (λ (n : ℕ). (ghosts n).value) e ∙ back (rw (← e) p) g m
      right k sk (inr ne) p q g m = snd.follow k h sk lt p (omega arith) (before_good g) m

  twenty_two : (x : Registers) → hart_at harts h ≡ stand c.first At22 x → Here At22 x → To
  unfolding decoded
  twenty_two x e f = by_mark (snd.marked f.0 f.2.there)
    where
      is : wrap (x 5 + 8) ≡ base + 4 * (4 * f.0 + 2)
      is = omega arith

      within : 4 * (4 * f.0 + 2) + 4 ≤ 16 * n
      within = omega arith

      y : Registers
      y = put x 7 (word bytes (wrap (x 5 + 8)))

      does : Becomes At23 y
      does = load At22 At23 x 7 5 8 (4 * f.0 + 2) (omega arith) refl refl within is e

      gh : Ghost
      gh = record { cleared = (ghosts h).cleared; sign = (ghosts h).sign; passed = f.0 + 1; good = (ghosts h).good; value = (ghosts h).value }

      by_mark : Marked n inp was words (ghosts f.0) f.0 → To
      by_mark (inl p) = ghostly_at gh At23 y does
          (step_past gh f.0 f.2.there refl refl f.1.marked f.3 refl (snd.valued h lt) (snd.good h lt) (λ g. g)
          (λ q g. absurd (f.1.marked (ap (mark_of words) q ∙ p.0)))
          (λ k sk below m v. v)
          (λ m. absurd (let z = p.0 in omega arith))
          (λ above g m. absurd (let z = p.1 in omega arith)))
          (f.0, f.1, f.2, inl (loads (4 * f.0 + 2) (wrap (x 5 + 8)) within is 0 p.0 (omega arith), refl), omega arith)
      by_mark (inr (inl p)) = quiet_at At23 y does (f.0, f.1, f.2, inr (inl (loads (4 * f.0 + 2) (wrap (x 5 + 8)) within is 1 p.0 (omega arith), f.3, p.0)), omega arith)
      by_mark (inr (inr p)) = quiet_at At23 y does (f.0, f.1, f.2, inr (inr (loads (4 * f.0 + 2) (wrap (x 5 + 8)) within is 2 p.two (omega arith), f.3, p.two)), omega arith)

  twenty_three : (x : Registers) → hart_at harts h ≡ stand c.first At23 x → Here At23 x → To
  unfolding decoded
  twenty_three x e f = go f.3
    where
      z : x 0 ≡ 0
      z = f.1.frame.zero_is

      go : ((x 7 ≡ 0 × (ghosts h).passed ≡ f.0 + 1) ⊎ ((x 7 ≡ 1 × (ghosts h).passed ≡ f.0 × mark_of words f.0 ≡ 1) ⊎ (x 7 ≡ 2 × (ghosts h).passed ≡ f.0 × mark_of words f.0 ≡ 2))) →
          To
      go (inl g) = quiet_at At28 x (branch_to At23 At28 x Beq 7 0 20 (omega arith) refl refl (omega arith) refl (eq-eqb (x 7) (x 0) (omega (arith, z, g.0))) e) (f.0, f.1, f.2, g.1, omega arith)
      go (inr (inl g)) = quiet_at At24 x (branch_by At23 At24 x Beq 7 0 20 (omega arith) refl refl (ne_eqb (x 7) (x 0) (omega (arith, z, g.0))) e) (f.0, f.1, f.2, g.1, inl (g.0, g.2), omega arith)
      go (inr (inr g)) = quiet_at At24 x (branch_by At23 At24 x Beq 7 0 20 (omega arith) refl refl (ne_eqb (x 7) (x 0) (omega (arith, z, g.0))) e) (f.0, f.1, f.2, g.1, inr (g.0, g.2), omega arith)

  twenty_four : (x : Registers) → hart_at harts h ≡ stand c.first At24 x → Here At24 x → To
  unfolding decoded
  twenty_four x e f = go f.4
    where
      one : x 29 ≡ 1
      one = f.1.one_is

      go : ((x 7 ≡ 1 × mark_of words f.0 ≡ 1) ⊎ (x 7 ≡ 2 × mark_of words f.0 ≡ 2)) → To
      go (inl g) = quiet_at At25 x (branch_by At24 At25 x Bne 7 29 12 (omega arith) refl refl (ap not (eq-eqb (x 7) (x 29) (omega (arith, one, g.0)))) e) (f.0, f.1, f.2, f.3, g.1, omega arith)
      go (inr g) = quiet_at At27 x (branch_to At24 At27 x Bne 7 29 12 (omega arith) refl refl (omega arith) refl (ap not (ne_eqb (x 7) (x 29) (omega (arith, one, g.0)))) e) (f.0, f.1, f.2, f.3, g.1, omega arith)

  twenty_five : (x : Registers) → hart_at harts h ≡ stand c.first At25 x → Here At25 x → To
  unfolding decoded
  twenty_five x e f = ghostly_at gh At26 (put x 19 (wrap (x 0 + 0))) (line At25 At26 x _ (omega arith) refl refl e)
      (step_past gh f.0 f.2.there refl refl f.1.marked f.3 refl (snd.valued h lt) (inr (refl, mixed (snd.marked f.0 f.2.there)))
      (λ g. absurd (omega arith)) (λ q g. absurd (omega arith)) (λ k sk below m v. v) (λ m. absurd (let r = f.4 in omega arith)) (λ above g m. absurd (omega arith))) (
        f.0,
        record { frame = f.1.frame; end_at = f.1.end_at; one_is = f.1.one_is; marked = f.1.marked; good_is = (let z : x 0 ≡ 0 = f.1.frame.zero_is in omega arith); value_is = f.1.value_is },
        f.2,
        refl,
        omega arith,
      )
    where
      gh : Ghost
      gh = record { cleared = (ghosts h).cleared; sign = (ghosts h).sign; passed = f.0 + 1; good = 0; value = (ghosts h).value }

      mixed : Marked n inp was words (ghosts f.0) f.0 → Mixed n inp was
      mixed (inl p) = absurd (let q = p.0 in let r = f.4 in omega arith)
      mixed (inr (inl p)) = p.1
      mixed (inr (inr p)) = absurd (let q = p.two in let r = f.4 in omega arith)

  twenty_seven : (x : Registers) → hart_at harts h ≡ stand c.first At27 x → Here At27 x → To
  unfolding decoded
  twenty_seven x e f = by_mark (snd.marked f.0 f.2.there)
    where
      is : wrap (x 5 + 0) ≡ base + 4 * (4 * f.0)
      is = omega arith

      within : 4 * (4 * f.0) + 4 ≤ 16 * n
      within = omega arith

      y : Registers
      y = put x 20 (word bytes (wrap (x 5 + 0)))

      does : Becomes At28 y
      does = load At27 At28 x 20 5 0 (4 * f.0) (omega arith) refl refl within is e

      gh : Ghost
      gh = record { cleared = (ghosts h).cleared; sign = (ghosts h).sign; passed = f.0 + 1; good = (ghosts h).good; value = inp f.0 }

      back : (Valued n inp words (ghosts f.0) f.0) → mark_of words h ≡ 2 → (ghosts f.0).value ≡ inp h
      back (inl v) m = v ∙ twos n inp was words ghosts snd f.0 h f.2.there lt f.4 m
      back (inr v) m = v.3 ∙ twos n inp was words ghosts snd v.0 h v.1 lt v.2 m

      by_mark : Marked n inp was words (ghosts f.0) f.0 → To
      by_mark (inl p) = absurd (let q = p.0 in let r = f.4 in omega arith)
      by_mark (inr (inl p)) = absurd (let q = p.0 in let r = f.4 in omega arith)
      by_mark (inr (inr p)) = ghostly_at gh At28 y does
          (step_past gh f.0 f.2.there refl refl f.1.marked f.3 refl (inr (f.0, f.2.there, f.4, refl)) (snd.good h lt) (λ g. g)
          (λ q g. ap (mark_of words) q ∙ f.4)
          (λ k sk below m v. twos n inp was words ghosts snd f.0 k f.2.there sk f.4 m)
          (λ m. refl)
          (λ above g m. back (snd.valued f.0 f.2.there) m)) (
            f.0,
            record {
              frame = f.1.frame;
              end_at = f.1.end_at;
              one_is = f.1.one_is;
              marked = f.1.marked;
              good_is = f.1.good_is;
              value_is = loads (4 * f.0) (wrap (x 5 + 0)) within is (inp f.0) p.wrote (fits f.0 f.2.there);
            },
            f.2,
            refl,
            omega arith,
          )

  twenty_nine : (x : Registers) → hart_at harts h ≡ stand c.first At29 x → Here At29 x → To
  unfolding decoded
  twenty_nine x e f = go (same_or_not (f.0 + 1) (n))
    where
      last : x 6 ≡ base + 16 * n
      last = f.1.end_at

      go : (f.0 + 1 ≡ n) ⊎ (f.0 + 1 ≢ n) → To
      go (inl q) = quiet_at At30 x (branch_by At29 At30 x Bne 5 6 4294967268 (omega arith) refl refl (ap not (eq-eqb (x 5) (x 6) (omega arith))) e) (f.1.frame, f.4 ∙ q, f.1.value_is, f.1.good_is, omega arith, here)
      go (inr ne) = quiet_at At22 x (branch_to At29 At22 x Bne 5 6 4294967268 (omega arith) refl refl (omega arith) refl (ap not (ne_eqb (x 5) (x 6) (omega arith))) e) (f.0 + 1, f.1, record { there = omega arith; place = f.3 }, f.4, omega arith)

  small_value : Valued n inp words (ghosts h) h → (ghosts h).value < 2 ^ 32
  small_value (inl v) = let a = fits h lt in omega arith
  small_value (inr v) = let a = fits v.0 v.1 in let c = v.3 in omega arith

  small_good : Good n inp was (ghosts h) → (ghosts h).good < 2
  small_good (inl g) = omega arith
  small_good (inr g) = let c = g.0 in omega arith

  pub moves : (p : Point) (x : Registers) → place p < 116 → hart_at harts h ≡ stand c.first p x → Here p x → To
  unfolding decoded
  moves At1 x _ e f = quiet_at At2 (put x 9 (wrap (x 10 * 16))) (line At1 At2 x _ (omega arith) refl refl e) (f.0, omega arith, omega arith)
  moves At2 x _ e f = quiet_at At3 (put x 9 (wrap (x 9 + x 8))) (line At2 At3 x _ (omega arith) refl refl e) (f.0, omega arith, omega arith)
  moves At3 x _ e f = quiet_at At4 (put x 6 (wrap (x 12 * 16))) (line At3 At4 x _ (omega arith) refl refl e) (f.0, f.1, omega arith, omega arith)
  moves At4 x _ e f = quiet_at At5 (put x 6 (wrap (x 6 + x 8))) (line At4 At5 x _ (omega arith) refl refl e)
      (f.0, record { record_at = f.1; end_at = omega arith }, omega arith)
  moves At5 x _ e f = quiet_at At6 (put x 18 (wrap (x 0 + 2))) (line At5 At6 x _ (omega arith) refl refl e) (f.0, f.1, omega arith, omega arith)
  moves At6 x _ e f = six x e f
  moves At7 x _ e f = quiet_at At8 (put x 7 (wrap (x 0 + 1))) (line At7 At8 x _ (omega arith) refl refl e) (f.0, f.1, f.2, f.3, omega arith, omega arith)
  moves At8 x _ e f = eight x e f
  moves At9 x _ e f = quiet_at At10 (put x 5 (wrap (x 8 + 0))) (line At9 At10 x _ (omega arith) refl refl e) (
    0,
    record {
      frame = f.0.frame;
      mine = f.0.mine;
      record_at = f.1.record_at;
      end_at = f.1.end_at;
      wrote = f.3;
      up = f.4;
      unmarked = f.0.unmarked;
      sign_is = f.2 ∙ sym f.0.new.sign_two;
      unpassed = f.0.new.unpassed;
      good_one = f.0.new.good_one;
      own_value = f.0.new.own_value;
    },
    record { there = omega arith; place = omega arith },
    f.0.new.none_cleared,
    omega arith,
  )
  moves At10 x _ e f = ten x e f
  moves At11 x _ e f = eleven x e f
  moves At12 x _ e f = twelve x e f
  moves At13 x _ e f = thirteen x e f
  moves At14 x _ e f = fourteen x e f
  moves At15 x _ e f = quiet_at At16 (put x 5 (wrap (x 5 + 16))) (line At15 At16 x _ (omega arith) refl refl e) (f.0, f.1, f.2.there, omega arith, f.3, omega arith)
  moves At16 x _ e f = sixteen x e f
  moves At17 x _ e f = seventeen x e f
  moves At18 x _ e f = quiet_at At19 (put x 19 (wrap (x 0 + 1))) (line At18 At19 x _ (omega arith) refl refl e) (f.0, omega arith, omega arith)
  moves At19 x _ e f = quiet_at At20 (put x 20 (wrap (x 11 + 0))) (line At19 At20 x _ (omega arith) refl refl e) (f.0, f.1, (let a = fits h lt in omega arith), omega arith)
  moves At20 x _ e f = quiet_at At21 (put x 5 (wrap (x 8 + 0))) (line At20 At21 x _ (omega arith) refl refl e) (f.0, f.1, f.2, omega arith, omega arith)
  moves At21 x _ e f = quiet_at At22 (put x 29 (wrap (x 0 + 1))) (line At21 At22 x _ (omega arith) refl refl e) (
    0,
    record { frame = f.0.frame; end_at = f.0.end_at; one_is = omega arith; marked = f.0.marked; good_is = f.1 ∙ sym f.0.good_one; value_is = f.2 ∙ sym f.0.own_value },
    record { there = omega arith; place = omega arith },
    f.0.unpassed,
    omega arith,
  )
  moves At22 x _ e f = twenty_two x e f
  moves At23 x _ e f = twenty_three x e f
  moves At24 x _ e f = twenty_four x e f
  moves At25 x _ e f = twenty_five x e f
  moves At26 x _ e f = quiet_at At28 (put x 0 (wrap (c.first + 100 + 4))) (jump At26 At28 x _ 8 (omega arith) (rw (eq-eqb (wrap (c.first + 100 + 8) % 4) 0 (aligned 100 8 108 refl refl))) refl (omega arith) e) (f.0, f.1, f.2, f.3, omega arith)
  moves At27 x _ e f = twenty_seven x e f
  moves At28 x _ e f = quiet_at At29 (put x 5 (wrap (x 5 + 16))) (line At28 At29 x _ (omega arith) refl refl e) (f.0, f.1, f.2.there, omega arith, f.3, omega arith)
  moves At29 x _ e f = twenty_nine x e f
  moves At30 x small e f = absurd (omega arith)
