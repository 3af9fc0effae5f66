-- One adopt-commit object: what holds of a hart at each of its instructions.
use Rattle.std.proofs.Common.{◌≡◌, ◌≢◌, ℕ, ◌+◌, ◌*◌, ◌<◌, ◌≤◌, sym, ◌∙◌, ◌⊎◌, inl, inr, arith}
use Rattle.hart_step.specs.Hart.{Registers}
use Rattle.object_adopt.proofs.Records.{Ghost, presence_of, mark_of}
use Rattle.object_adopt.proofs.Instructions.{Point, At1, At2, At3, At4, At5, At6, At7, At8, At9, At10, At11, At12, At13, At14, At15, At16, At17, At18, At19, At20, At21, At22, At23, At24, At25, At26, At27, At28, At29, At30}

-- an object: for how many harts, where its records are, what a hart has spent that comes to it,
-- what its register 21 is then, what each hart brings, which harts came, and its words
pub record Obj : Type 1 where
  pub n : ℕ
  pub base : ℕ
  pub began : ℕ
  pub left : ℕ
  pub input : ℕ → ℕ
  pub was : ℕ → Type 0
  pub words : ℕ → ℕ

-- a hart's own words there, what is kept of it, how often it was chosen, and what it brought
pub record View : Type 0 where
  pub value : ℕ
  pub presence : ℕ
  pub mark : ℕ
  pub ghost : Ghost
  pub spent : ℕ
  pub input : ℕ

-- the registers that the object leaves alone
abbrev pub Frame : Obj → ℕ → Registers → Type 0
Frame o h x = record { zero_is : x 0 ≡ 0; base : x 8 ≡ o.base; me : x 10 ≡ h; many : x 12 ≡ o.n; left : x 21 ≡ o.left }

abbrev pub New : Ghost → ℕ → Type 0
New gh input = record { none_cleared : gh.cleared ≡ 0; sign_two : gh.sign ≡ 2; unpassed : gh.passed ≡ 0; good_one : gh.good ≡ 1; own_value : gh.value ≡ input }

abbrev pub Entry : Obj → View → ℕ → Registers → Type 0
Entry o v h x = record { frame : Frame o h x; mine : x 11 ≡ v.input; new : New v.ghost v.input; unmarked : v.mark ≡ 0 }

abbrev pub Framed : Obj → ℕ → Registers → Type 0
Framed o h x = record { record_at : x 9 ≡ o.base + 16 * h; end_at : x 6 ≡ o.base + 16 * o.n }

-- the first loop
abbrev pub Looking : Obj → View → ℕ → Registers → Type 0
Looking o v h x = record {
  frame : Frame o h x;
  mine : x 11 ≡ v.input;
  record_at : x 9 ≡ o.base + 16 * h;
  end_at : x 6 ≡ o.base + 16 * o.n;
  wrote : v.value ≡ v.input;
  up : v.presence ≡ 1;
  unmarked : v.mark ≡ 0;
  sign_is : x 18 ≡ v.ghost.sign;
  unpassed : v.ghost.passed ≡ 0;
  good_one : v.ghost.good ≡ 1;
  own_value : v.ghost.value ≡ v.input;
}

abbrev pub Spot : Obj → ℕ → Registers → Type 0
Spot o j x = record { there : j < o.n; place : x 5 ≡ o.base + 16 * j }

abbrev pub Marking : Obj → View → ℕ → Registers → Type 0
Marking o v h x = record {
  frame : Frame o h x;
  mine : x 11 ≡ v.input;
  end_at : x 6 ≡ o.base + 16 * o.n;
  marked : v.mark ≢ 0;
  unpassed : v.ghost.passed ≡ 0;
  good_one : v.ghost.good ≡ 1;
  own_value : v.ghost.value ≡ v.input;
}

-- the second loop
abbrev pub Passing : Obj → View → ℕ → Registers → Type 0
Passing o v h x = record {
  frame : Frame o h x;
  end_at : x 6 ≡ o.base + 16 * o.n;
  one_is : x 29 ≡ 1;
  marked : v.mark ≢ 0;
  good_is : x 19 ≡ v.ghost.good;
  value_is : x 20 ≡ v.ghost.value;
}

-- past the object
abbrev pub Past : Obj → View → (h : ℕ) → Registers → Type 0
Past o v h x = Frame o h x × (v.ghost.passed ≡ o.n) × (x 20 ≡ v.ghost.value) × (x 19 ≡ v.ghost.good) × (v.spent ≤ o.began + 14 + 14 * o.n) × o.was h

abbrev pub Facts : Obj → View → (h : ℕ) → Point → Registers → Type 0
Facts o v h At1 x = Entry o v h x × (v.spent ≤ o.began + 0)
Facts o v h At2 x = Entry o v h x × (x 9 ≡ 16 * h) × (v.spent ≤ o.began + 1)
Facts o v h At3 x = Entry o v h x × (x 9 ≡ o.base + 16 * h) × (v.spent ≤ o.began + 2)
Facts o v h At4 x = Entry o v h x × (x 9 ≡ o.base + 16 * h) × (x 6 ≡ 16 * o.n) × (v.spent ≤ o.began + 3)
Facts o v h At5 x = Entry o v h x × Framed o h x × (v.spent ≤ o.began + 4)
Facts o v h At6 x = Entry o v h x × Framed o h x × (x 18 ≡ 2) × (v.spent ≤ o.began + 5)
Facts o v h At7 x = Entry o v h x × Framed o h x × (x 18 ≡ 2) × (v.value ≡ v.input) × (v.spent ≤ o.began + 6)
Facts o v h At8 x = Entry o v h x × Framed o h x × (x 18 ≡ 2) × (v.value ≡ v.input) × (x 7 ≡ 1) × (v.spent ≤ o.began + 7)
Facts o v h At9 x = Entry o v h x × Framed o h x × (x 18 ≡ 2) × (v.value ≡ v.input) × (v.presence ≡ 1) × (v.spent ≤ o.began + 8)
Facts o v h At10 x = (j : ℕ) × Looking o v h x × Spot o j x × (v.ghost.cleared ≡ j) × (v.spent ≤ o.began + 9 + 7 * j)
Facts o v h At11 x = (j : ℕ) × Looking o v h x × Spot o j x × ((x 7 ≡ 0 × v.ghost.cleared ≡ j + 1) ⊎ (x 7 ≡ 1 × v.ghost.cleared ≡ j × presence_of o.words j ≡ 1)) × (v.spent ≤ o.began + 10 + 7 * j)
Facts o v h At12 x = (j : ℕ) × Looking o v h x × Spot o j x × (v.ghost.cleared ≡ j) × (presence_of o.words j ≡ 1) × (v.spent ≤ o.began + 11 + 7 * j)
Facts o v h At13 x = (j : ℕ) × Looking o v h x × Spot o j x × (v.ghost.cleared ≡ j) × (x 28 ≡ o.input j) × o.was j × (v.spent ≤ o.began + 12 + 7 * j)
Facts o v h At14 x = (j : ℕ) × Looking o v h x × Spot o j x × (o.input j ≢ v.input) × o.was j × (v.spent ≤ o.began + 13 + 7 * j)
Facts o v h At15 x = (j : ℕ) × Looking o v h x × Spot o j x × (v.ghost.cleared ≡ j + 1) × (v.spent ≤ o.began + 14 + 7 * j)
Facts o v h At16 x = (j : ℕ) × Looking o v h x × (j < o.n) × (x 5 ≡ o.base + 16 * (j + 1)) × (v.ghost.cleared ≡ j + 1) × (v.spent ≤ o.began + 15 + 7 * j)
Facts o v h At17 x = Looking o v h x × (v.ghost.cleared ≡ o.n) × (v.spent ≤ o.began + 9 + 7 * o.n)
Facts o v h At18 x = Marking o v h x × (v.spent ≤ o.began + 10 + 7 * o.n)
Facts o v h At19 x = Marking o v h x × (x 19 ≡ 1) × (v.spent ≤ o.began + 11 + 7 * o.n)
Facts o v h At20 x = Marking o v h x × (x 19 ≡ 1) × (x 20 ≡ v.input) × (v.spent ≤ o.began + 12 + 7 * o.n)
Facts o v h At21 x = Marking o v h x × (x 19 ≡ 1) × (x 20 ≡ v.input) × (x 5 ≡ o.base) × (v.spent ≤ o.began + 13 + 7 * o.n)
Facts o v h At22 x = (j : ℕ) × Passing o v h x × Spot o j x × (v.ghost.passed ≡ j) × (v.spent ≤ o.began + 14 + 7 * o.n + 7 * j)
Facts o v h At23 x = (j : ℕ) × Passing o v h x × Spot o j x
    × ((x 7 ≡ 0 × v.ghost.passed ≡ j + 1) ⊎ ((x 7 ≡ 1 × v.ghost.passed ≡ j × mark_of o.words j ≡ 1) ⊎ (x 7 ≡ 2 × v.ghost.passed ≡ j × mark_of o.words j ≡ 2)))
    × (v.spent ≤ o.began + 15 + 7 * o.n + 7 * j)
Facts o v h At24 x = (j : ℕ) × Passing o v h x × Spot o j x × (v.ghost.passed ≡ j)
    × ((x 7 ≡ 1 × mark_of o.words j ≡ 1) ⊎ (x 7 ≡ 2 × mark_of o.words j ≡ 2)) × (v.spent ≤ o.began + 16 + 7 * o.n + 7 * j)
Facts o v h At25 x = (j : ℕ) × Passing o v h x × Spot o j x × (v.ghost.passed ≡ j) × (mark_of o.words j ≡ 1) × (v.spent ≤ o.began + 17 + 7 * o.n + 7 * j)
Facts o v h At26 x = (j : ℕ) × Passing o v h x × Spot o j x × (v.ghost.passed ≡ j + 1) × (v.spent ≤ o.began + 18 + 7 * o.n + 7 * j)
Facts o v h At27 x = (j : ℕ) × Passing o v h x × Spot o j x × (v.ghost.passed ≡ j) × (mark_of o.words j ≡ 2) × (v.spent ≤ o.began + 17 + 7 * o.n + 7 * j)
Facts o v h At28 x = (j : ℕ) × Passing o v h x × Spot o j x × (v.ghost.passed ≡ j + 1) × (v.spent ≤ o.began + 19 + 7 * o.n + 7 * j)
Facts o v h At29 x = (j : ℕ) × Passing o v h x × (j < o.n) × (x 5 ≡ o.base + 16 * (j + 1)) × (v.ghost.passed ≡ j + 1) × (v.spent ≤ o.began + 20 + 7 * o.n + 7 * j)
Facts o v h At30 x = Past o v h x

-- what other harts' steps leave: presences, marks, who came, and what they brought
pub record Stable (input input' : ℕ → ℕ) (was was' : ℕ → Type 0) (words words' : ℕ → ℕ) : Type 0 where
  pub up : (j : ℕ) → presence_of words j ≡ 1 → presence_of words' j ≡ 1
  pub mark : (j c : ℕ) → c ≢ 0 → mark_of words j ≡ c → mark_of words' j ≡ c
  pub same : (j : ℕ) → was j → input' j ≡ input j
  pub more : (j : ℕ) → was j → was' j

abbrev pub then_is : Obj → (input' : ℕ → ℕ) (was' : ℕ → Type 0) (words' : ℕ → ℕ) → Obj
then_is o input' was' words' = record { n = o.n; base = o.base; began = o.began; left = o.left; input = input'; was = was'; words = words' }

pub keeps : (o : Obj) (input' : ℕ → ℕ) (was' : ℕ → Type 0) (words' : ℕ → ℕ) (v : View) (h : ℕ) (p : Point) (x : Registers) →
    Stable o.input input' o.was was' o.words words' → Facts o v h p x → Facts (then_is o input' was' words') v h p x
keeps o input' was' words' v h At11 x s f = (f.0, f.1, f.2, go f.3, f.4)
  where
    go : (x 7 ≡ 0 × v.ghost.cleared ≡ f.0 + 1) ⊎ (x 7 ≡ 1 × v.ghost.cleared ≡ f.0 × presence_of o.words f.0 ≡ 1) →
        (x 7 ≡ 0 × v.ghost.cleared ≡ f.0 + 1) ⊎ (x 7 ≡ 1 × v.ghost.cleared ≡ f.0 × presence_of words' f.0 ≡ 1)
    go (inl g) = inl g
    go (inr g) = inr (g.0, g.1, s.up f.0 g.2)
keeps o input' was' words' v h At12 x s f = (f.0, f.1, f.2, f.3, s.up f.0 f.4, f.5)
keeps o input' was' words' v h At13 x s f = (f.0, f.1, f.2, f.3, f.4 ∙ sym (s.same f.0 f.5), s.more f.0 f.5, f.6)
keeps o input' was' words' v h At14 x s f = (f.0, f.1, f.2, (λ q. f.3 (sym (s.same f.0 f.4) ∙ q)), s.more f.0 f.4, f.5)
keeps o input' was' words' v h At23 x s f = (f.0, f.1, f.2, go f.3, f.4)
  where
    go : ((x 7 ≡ 0 × v.ghost.passed ≡ f.0 + 1) ⊎ ((x 7 ≡ 1 × v.ghost.passed ≡ f.0 × mark_of o.words f.0 ≡ 1) ⊎ (x 7 ≡ 2 × v.ghost.passed ≡ f.0 × mark_of o.words f.0 ≡ 2))) →
        ((x 7 ≡ 0 × v.ghost.passed ≡ f.0 + 1) ⊎ ((x 7 ≡ 1 × v.ghost.passed ≡ f.0 × mark_of words' f.0 ≡ 1) ⊎ (x 7 ≡ 2 × v.ghost.passed ≡ f.0 × mark_of words' f.0 ≡ 2)))
    go (inl g) = inl g
    go (inr (inl g)) = inr (inl (g.0, g.1, s.mark f.0 1 (omega arith) g.2))
    go (inr (inr g)) = inr (inr (g.0, g.1, s.mark f.0 2 (omega arith) g.2))
keeps o input' was' words' v h At24 x s f = (f.0, f.1, f.2, f.3, go f.4, f.5)
  where
    go : (x 7 ≡ 1 × mark_of o.words f.0 ≡ 1) ⊎ (x 7 ≡ 2 × mark_of o.words f.0 ≡ 2) → (x 7 ≡ 1 × mark_of words' f.0 ≡ 1) ⊎ (x 7 ≡ 2 × mark_of words' f.0 ≡ 2)
    go (inl g) = inl (g.0, s.mark f.0 1 (omega arith) g.1)
    go (inr g) = inr (g.0, s.mark f.0 2 (omega arith) g.1)
keeps o input' was' words' v h At25 x s f = (f.0, f.1, f.2, f.3, s.mark f.0 1 (omega arith) f.4, f.5)
keeps o input' was' words' v h At27 x s f = (f.0, f.1, f.2, f.3, s.mark f.0 2 (omega arith) f.4, f.5)
keeps o input' was' words' v h At30 x s f = (f.0, f.1, f.2, f.3, f.4, s.more h f.5)
keeps o input' was' words' v h p x s f = f

-- who is in the object has spent no more than this
pub at_most : (o : Obj) (v : View) (h : ℕ) (p : Point) (x : Registers) → h < o.n → Facts o v h p x → v.spent ≤ o.began + 14 + 14 * o.n
at_most o v h At10 x lt f = let j = f.2.there in omega (arith, f.4)
at_most o v h At11 x lt f = let j = f.2.there in omega (arith, f.4)
at_most o v h At23 x lt f = let j = f.2.there in omega (arith, f.4)
at_most o v h At30 x lt f = f.4
at_most o v h p x lt f = omega arith
