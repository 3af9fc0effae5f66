-- A chain of adopt-commit objects that the harts go through one after another: its invariant, and
-- the forms of its changes.
use Rattle.std.proofs.Common.{◌≡◌, ◌≢◌, ℕ, suc, ◌+◌, ◌-◌, ◌*◌, ◌%◌, ◌^◌, ◌<◌, ◌≤◌, if◌then◌else◌, ◌==◌, List, length, set, Some, refl, sym, ap, ◌∙◌, ◌⊎◌, inl, inr, arith, eq-eqb, ne_eqb, subst}
use Rattle.std.proofs.lemmas.List.{length-set}
use Rattle.mem_store.specs.Access.{fetched}
use Rattle.hart_reservations.specs.Marks.{Marks}
use Rattle.hart_step.specs.Hart.{HartValue, Registers}
use Rattle.machine.specs.World.{World}
use Rattle.object_library.proofs.Shape.{shaped, shaped_memory}
use Rattle.object_library.proofs.Harts.{hart_at, same_or_not, each_set, bump, bump_same, bump_other}
use Rattle.object_adopt.proofs.Flat.{flat, at_round}
use Rattle.object_adopt.proofs.Records.{Ghost, Sound, with_ghost, presence_of, mark_of, enters, widens, Marked}
use Rattle.object_adopt.proofs.Instructions.{Point, At1, place, code, stand}
use Rattle.object_adopt.proofs.Object.{Obj, View, Facts, Frame, Stable, then_is, keeps}

-- a program that has the object's instructions from `first` on, for n harts: how many data words
-- stand before its first object, how many objects it chains, 512 bytes apart, what a hart has spent
-- that comes to each, its register 21 then; its other places, and what holds of a hart there. Only
-- its own view counts
pub record Program (n : ℕ) : Type 1 where
  pub text : List ℕ
  pub zeros : ℕ
  pub first : ℕ
  pub shift : ℕ
  pub rounds : ℕ
  pub begin : ℕ → ℕ
  pub left : ℕ → ℕ
  pub Rest : Type 0
  pub rest : Rest → Registers → HartValue
  pub Holds : (now : Type 0) (r : ℕ) (v : View) (h : ℕ) → Rest → Registers → Type 0
  pub short : 4 * length text ≤ 4096
  pub low : first < 0x20000
  pub even : first % 4 ≡ 0
  pub few : n ≤ 32
  pub near : shift < 2 ^ 24
  pub size : (r : ℕ) → r < rounds → 4 * shift + 512 * r + 16 * n ≤ zeros × r < 4
  pub fetch : (words : ℕ → ℕ) (p : Point) → place p < 116 → fetched (shaped_memory text zeros words) (first + place p) ≡ Some (code p)

-- what is kept beside the machine: the words by object, and for each object and hart its ghost and
-- what it brings; and which object it is at
pub record Ghosts : Type 0 where
  pub words : ℕ → ℕ → ℕ
  pub ghosts : ℕ → ℕ → Ghost
  pub given : ℕ → ℕ → ℕ
  pub round : ℕ → ℕ

abbrev pub Was : (n : ℕ) (now : ℕ → Type 0) (round : ℕ → ℕ) → (s k : ℕ) → Type 0
Was n now round s k = record { among : now k; small : k < n; came : s ≤ round k }

abbrev pub Fresh : (ℕ → ℕ) → Ghost → ℕ → Type 0
Fresh words gh k = record { down : presence_of words k ≡ 0; unmarked : mark_of words k ≡ 0; uncleared : gh.cleared ≡ 0; unpassed : gh.passed ≡ 0 }

abbrev pub Done : (n : ℕ) (next : ℕ) → Ghost → Type 0
Done n next gh = record { all : gh.passed ≡ n; keeps : next ≡ gh.value }

-- what holds beside the harts' places
pub record Global (n rounds : ℕ) (now : ℕ → Type 0) (input : ℕ → ℕ) (g : Ghosts) : Type 0 where
  pub sound : (s : ℕ) → Sound n (g.given s) (Was n now g.round s) (g.words s) (g.ghosts s)
  pub first : (k : ℕ) → k < n → g.given 0 k ≡ input k
  pub fits : (s k : ℕ) → k < n → g.given s k < 2 ^ 32
  pub early : (k : ℕ) → k < n → g.round k < rounds
  pub fresh : (s k : ℕ) → k < n → g.round k < s → Fresh (g.words s) (g.ghosts s k) k
  pub done : (s k : ℕ) → k < n → s < g.round k → Done n (g.given (suc s) k) (g.ghosts s k)

module _ (n : ℕ) (c : Program n) (now : ℕ → Type 0) where
  abbrev pub obj : Ghosts → ℕ → Obj
  obj g s = record { n = n; base = 0x11000 + 4 * c.shift + 512 * s; began = c.begin s; left = c.left s; input = g.given s; was = Was n now g.round s; words = g.words s }

  abbrev pub view_at : Ghosts → (spent s k : ℕ) → View
  view_at g spent s k = record { value = g.words s (4 * k); presence = g.words s (4 * k + 1); mark = g.words s (4 * k + 2); ghost = g.ghosts s k; spent = spent; input = g.given s k }

  abbrev pub stands : (Point ⊎ c.Rest) → Registers → HartValue
  stands (inl p) x = stand c.first p x
  stands (inr q) x = c.rest q x

  -- what holds of hart k, which is at object s
  abbrev pub FactsAt : (o : Obj) (v : View) (s k : ℕ) → (Point ⊎ c.Rest) → Registers → Type 0
  FactsAt o v s k (inl p) x = Facts o v k p x
  FactsAt o v s k (inr q) x = c.Holds (now k) s v k q x

  pub record Local (g : Ghosts) (spent : ℕ) (k : ℕ) (hart : HartValue) : Type 0 where
    pub point : Point ⊎ c.Rest
    pub regs : Registers
    pub is : hart ≡ stands point regs
    pub facts : FactsAt (obj g (g.round k)) (view_at g spent (g.round k) k) (g.round k) k point regs

  pub record Inv (input : ℕ → ℕ) (spent : ℕ → ℕ) (harts : List HartValue) (g : Ghosts) : Type 0 where
    pub count : length harts ≡ n
    pub all : Global n c.rounds now input g
    pub each : (k : ℕ) → k < n → Local g (spent k) k (hart_at harts k)

  abbrev pub world : List HartValue → (ℕ → ℕ) → Marks → World
  world harts words reserved = shaped c.text c.zeros harts words reserved

  pub record Reached (input : ℕ → ℕ) (spent : ℕ → ℕ) (w : World) : Type 0 where
    pub harts : List HartValue
    pub reserved : Marks
    pub g : Ghosts
    pub is : w ≡ world harts (flat c.shift g.words) reserved
    pub inv : Inv input spent harts g

  keeps_at : (o : Obj) (input' : ℕ → ℕ) (was' : ℕ → Type 0) (words' : ℕ → ℕ) (v : View) (s k : ℕ) (p : Point ⊎ c.Rest) (x : Registers) →
      Stable o.input input' o.was was' o.words words' → FactsAt o v s k p x → FactsAt (then_is o input' was' words') v s k p x
  keeps_at o input' was' words' v s k (inl p) x stable f = keeps o input' was' words' v k p x stable f
  keeps_at o input' was' words' v s k (inr q) x stable f = f

  -- a step of hart h
  module _ (input : ℕ → ℕ) (spent : ℕ → ℕ) (harts : List HartValue) (reserved : Marks) (g : Ghosts) (inv : Inv input spent harts g) (h : ℕ) (lt : h < n) where
    abbrev pub r : ℕ
    r = g.round h

    abbrev pub Result : World → Type 0
    Result w = Reached input (bump h spent) w

    -- after it, h's own facts and the others'
    changes : (g' : Ghosts) (reserved' : Marks) (p : Point ⊎ c.Rest) (y : Registers) (w : World) → w ≡ world (set harts h (stands p y)) (flat c.shift g'.words) reserved' →
        Global n c.rounds now input g' → FactsAt (obj g' (g'.round h)) (view_at g' (spent h + 1) (g'.round h) h) (g'.round h) h p y →
        ((k : ℕ) → k < n → k ≢ h → (q : Point ⊎ c.Rest) (x : Registers) → FactsAt (obj g (g.round k)) (view_at g (spent k) (g.round k) k) (g.round k) k q x →
        FactsAt (obj g' (g'.round k)) (view_at g' (spent k) (g'.round k) k) (g'.round k) k q x) → Result w
    changes g' reserved' p y w e all f others = record {
      harts = set harts h (stands p y);
      reserved = reserved';
      g = g';
      is = e;
      inv = record {
        count = length-set harts h (stands p y) ∙ inv.count;
        all = all;
        each = each_set n (λ k hart. Local g' (bump h spent k) k hart) harts h (stands p y) inv.count lt
            (record { point = p; regs = y; is = refl; facts = rw (bump_same h spent) f })
            (λ k small ne. still k small ne (inv.each k small));
      };
    }
      where
        still : (k : ℕ) → k < n → k ≢ h → Local g (spent k) k (hart_at harts k) → Local g' (bump h spent k) k (hart_at harts k)
        still k small ne l = rw (bump_other h k spent ne) (record { point = l.point; regs = l.regs; is = l.is; facts = others k small ne l.point l.regs l.facts })

    -- that changes the hart alone
    pub quiet : (p : Point ⊎ c.Rest) (y : Registers) (w : World) → w ≡ world (set harts h (stands p y)) (flat c.shift g.words) reserved →
        FactsAt (obj g r) (view_at g (spent h + 1) r h) r h p y → Result w
    quiet p y w e f = changes g reserved p y w e inv.all f (λ k small ne q x f. f)

    -- the words of the others are as they were
    abbrev pub Aside : (ℕ → ℕ) → Type 0
    Aside words' = (k : ℕ) → k ≢ h → record { value : words' (4 * k) ≡ g.words r (4 * k); presence : words' (4 * k + 1) ≡ g.words r (4 * k + 1); mark : words' (4 * k + 2) ≡ g.words r (4 * k + 2) }

    abbrev pub Held : (ℕ → ℕ) → Type 0
    Held words' = record { up : (j : ℕ) → presence_of (g.words r) j ≡ 1 → presence_of words' j ≡ 1; mark : (j m : ℕ) → m ≢ 0 → mark_of (g.words r) j ≡ m → mark_of words' j ≡ m }

    abbrev pub after : (ℕ → ℕ) → Ghost → View
    after words' gh = record { value = words' (4 * h); presence = words' (4 * h + 1); mark = words' (4 * h + 2); ghost = gh; spent = spent h + 1; input = g.given r h }

    abbrev pub obj_after : (ℕ → ℕ) → Obj
    obj_after words' = then_is (obj g r) (g.given r) (Was n now g.round r) words'

    -- that changes the words or the ghosts of the hart's object
    pub inside : (words' : ℕ → ℕ) (reserved' : Marks) (ghosts' : ℕ → Ghost) (gh : Ghost) (p : Point ⊎ c.Rest) (y : Registers) (w : World) →
        w ≡ world (set harts h (stands p y)) (flat c.shift (at_round g.words r words')) reserved' → Sound n (g.given r) (Was n now g.round r) words' ghosts' →
        ghosts' h ≡ gh → ((k : ℕ) → k ≢ h → ghosts' k ≡ g.ghosts r k) → Aside words' → Held words' →
        FactsAt (obj_after words') (after words' gh) r h p y → Result w
    inside words' reserved' ghosts' gh p y w e sound mine others aside held f =
        changes g' reserved' p y w e all own (λ k small ne q x f. still (g.round k) k small ne (same_or_not (g.round k) r) q x f)
      where
        g' : Ghosts
        g' = record { words = at_round g.words r words'; ghosts = at_round g.ghosts r ghosts'; given = g.given; round = g.round }

        own : FactsAt (obj g' r) (view_at g' (spent h + 1) r h) r h p y
        own = rw (eq-eqb r r refl, mine) f

        still : (s k : ℕ) → k < n → k ≢ h → (s ≡ r) ⊎ (s ≢ r) → (q : Point ⊎ c.Rest) (x : Registers) → FactsAt (obj g s) (view_at g (spent k) s k) s k q x →
            FactsAt (obj g' s) (view_at g' (spent k) s k) s k q x
        still s k small ne (inl e) q x f =
            let a = aside k ne in
            rw (eq-eqb s r e, e, others k ne, a.value, a.presence, a.mark)
            (keeps_at (obj g r) (g.given r) (Was n now g.round r) words' (view_at g (spent k) r k) r k q x
            (record { up = held.up; mark = held.mark; same = λ j w. refl; more = λ j w. w })
            (subst (λ (t : ℕ). FactsAt (obj g t) (view_at g (spent k) t k) t k q x) e f))
        still s k small ne (inr ns) q x f = rw (ne_eqb s r ns) f

        fresh : (s k : ℕ) → k < n → g.round k < s → (s ≡ r) ⊎ (s ≢ r) → Fresh (g'.words s) (g'.ghosts s k) k
        fresh s k small under (inl e) =
            let ne : k ≢ h = (λ q. absurd (let z : g.round k ≡ r = ap g.round q in omega arith)) in
            let a = aside k ne in
            rw (eq-eqb s r e, others k ne, a.presence, a.mark) (subst (λ (t : ℕ). Fresh (g.words t) (g.ghosts t k) k) e (inv.all.fresh s k small under))
        fresh s k small under (inr ns) = rw (ne_eqb s r ns) (inv.all.fresh s k small under)

        done : (s k : ℕ) → k < n → s < g.round k → (s ≡ r) ⊎ (s ≢ r) → Done n (g.given (suc s) k) (g'.ghosts s k)
        done s k small under (inl e) =
            let ne : k ≢ h = (λ q. absurd (let z : g.round k ≡ r = ap g.round q in omega arith)) in
            rw (eq-eqb s r e, others k ne) (subst (λ (t : ℕ). Done n (g.given (suc s) k) (g.ghosts t k)) e (inv.all.done s k small under))
        done s k small under (inr ns) = rw (ne_eqb s r ns) (inv.all.done s k small under)

        each_sound : (s : ℕ) → (s ≡ r) ⊎ (s ≢ r) → Sound n (g.given s) (Was n now g.round s) (g'.words s) (g'.ghosts s)
        each_sound s (inl e) = rw (eq-eqb s r e) (subst (λ (t : ℕ). Sound n (g.given t) (Was n now g.round t) words' ghosts') (sym e) sound)
        each_sound s (inr ns) = rw (ne_eqb s r ns) (inv.all.sound s)

        all : Global n c.rounds now input g'
        all = record {
          sound = λ s. each_sound s (same_or_not s r);
          first = inv.all.first;
          fits = inv.all.fits;
          early = inv.all.early;
          fresh = λ s k small under. fresh s k small under (same_or_not s r);
          done = λ s k small under. done s k small under (same_or_not s r);
        }

    -- that changes what is kept of the hart
    pub ghostly : (gh : Ghost) (p : Point ⊎ c.Rest) (y : Registers) (w : World) → w ≡ world (set harts h (stands p y)) (flat c.shift g.words) reserved →
        Sound n (g.given r) (Was n now g.round r) (g.words r) (with_ghost (g.ghosts r) h gh) →
        FactsAt (obj g r) (after (g.words r) gh) r h p y → Result w
    ghostly gh p y w e sound f =
        inside (g.words r) reserved (with_ghost (g.ghosts r) h gh) gh p y w (e ∙ ap (λ (ws : ℕ → ℕ → ℕ). world (set harts h (stands p y)) (flat c.shift ws) reserved) same) sound
        (rw (eq-eqb h h refl)) (λ k ne. rw (ne_eqb k h ne)) (λ k ne. record { value = refl; presence = refl; mark = refl })
        (record { up = λ j q. q; mark = λ j m nz q. q }) f
      where
        same : g.words ≡ at_round g.words r (g.words r)
        same = λ i s. each s (same_or_not s r) i
          where
            each : (s : ℕ) → (s ≡ r) ⊎ (s ≢ r) → g.words s ≡ at_round g.words r (g.words r) s
            each s (inl e) = rw (eq-eqb s r e, e)
            each s (inr ne) = rw (ne_eqb s r ne)

    abbrev pub brought : ℕ
    brought = (g.ghosts r h).value

    abbrev pub entered : Ghost
    entered = record { cleared = 0; sign = 2; passed = 0; good = 1; value = brought }

    abbrev pub given_next : ℕ → ℕ
    given_next k = if k == h then brought else g.given (suc r) k

    abbrev pub gn : Ghosts
    gn = record {
      words = g.words;
      ghosts = at_round g.ghosts (suc r) (with_ghost (g.ghosts (suc r)) h entered);
      given = at_round g.given (suc r) given_next;
      round = λ k. if k == h then suc r else g.round k;
    }

    -- that comes to the next object, with its value
    pub next : (y : Registers) (w : World) → w ≡ world (set harts h (stands (inl At1) y)) (flat c.shift g.words) reserved → suc r < c.rounds → now h →
        (g.ghosts r h).passed ≡ n → brought < 2 ^ 32 → Frame (obj g (suc r)) h y → y 11 ≡ brought → spent h + 1 ≤ c.begin (suc r) → Result w
    next y w e more_to_come mine all_passed fit frame has cost =
        changes gn reserved (inl At1) y w e all own (λ k small ne q x f. rw (ne_eqb k h ne) (others (g.round k) k ne q x f))
      where
        own : FactsAt (obj gn (gn.round h)) (view_at gn (spent h + 1) (gn.round h) h) (gn.round h) h (inl At1) y
        own =
            let f = inv.all.fresh (suc r) h lt (omega arith) in
            rw (eq-eqb h h refl, eq-eqb (suc r) (suc r) refl, eq-eqb h h refl) (
              record { frame = frame; mine = has; new = record { none_cleared = refl; sign_two = refl; unpassed = refl; good_one = refl; own_value = refl }; unmarked = f.unmarked },
              omega arith,
            )

        ghosts_other : (s k : ℕ) → k ≢ h → (s ≡ suc r) ⊎ (s ≢ suc r) → gn.ghosts s k ≡ g.ghosts s k
        ghosts_other s k ne (inl e) = rw (eq-eqb s (suc r) e, ne_eqb k h ne) (ap (λ (t : ℕ). g.ghosts t k) (sym e))
        ghosts_other s k ne (inr ns) = rw (ne_eqb s (suc r) ns)

        given_other : (s k : ℕ) → k ≢ h → (s ≡ suc r) ⊎ (s ≢ suc r) → gn.given s k ≡ g.given s k
        given_other s k ne (inl e) = rw (eq-eqb s (suc r) e, ne_eqb k h ne) (ap (λ (t : ℕ). g.given t k) (sym e))
        given_other s k ne (inr ns) = rw (ne_eqb s (suc r) ns)

        came : (s k : ℕ) → (k ≡ h) ⊎ (k ≢ h) → s ≤ g.round k → s ≤ gn.round k
        came s k (inl e) under = rw (eq-eqb k h e) (let z : g.round k ≡ r = ap g.round e in omega arith)
        came s k (inr ne) under = rw (ne_eqb k h ne) under

        more : (s k : ℕ) → Was n now g.round s k → Was n now gn.round s k
        more s k w = record { among = w.among; small = w.small; came = came s k (same_or_not k h) w.came }

        same : (s k : ℕ) → (k ≡ h) ⊎ (k ≢ h) → s ≤ g.round k → gn.given s k ≡ g.given s k
        same s k (inl e) under = rw (ne_eqb s (suc r) (λ q. absurd (let z : g.round k ≡ r = ap g.round e in omega arith)))
        same s k (inr ne) under = given_other s k ne (same_or_not s (suc r))

        others : (s k : ℕ) → k ≢ h → (q : Point ⊎ c.Rest) (x : Registers) → FactsAt (obj g s) (view_at g (spent k) s k) s k q x → FactsAt (obj gn s) (view_at gn (spent k) s k) s k q x
        others s k ne q x f =
            let seen : Ghost → ℕ → View = (λ gh i. record { value = g.words s (4 * k); presence = g.words s (4 * k + 1); mark = g.words s (4 * k + 2); ghost = gh; spent = spent k; input = i }) in
            subst (λ (gh : Ghost). FactsAt (obj gn s) (seen gh (gn.given s k)) s k q x) (sym (ghosts_other s k ne (same_or_not s (suc r))))
            (subst (λ (i : ℕ). FactsAt (obj gn s) (seen (g.ghosts s k) i) s k q x) (sym (given_other s k ne (same_or_not s (suc r))))
            (keeps_at (obj g s) (gn.given s) (Was n now gn.round s) (g.words s) (view_at g (spent k) s k) s k q x
            (record { up = λ j p. p; mark = λ j m nz p. p; same = λ j w. same s j (same_or_not j h) w.came; more = more s }) f))

        sound : (s : ℕ) → (s ≡ suc r) ⊎ (s ≢ suc r) → Sound n (gn.given s) (Was n now gn.round s) (gn.words s) (gn.ghosts s)
        sound s (inl e) = subst (λ (t : ℕ). Sound n (gn.given t) (Was n now gn.round t) (gn.words t) (gn.ghosts t)) (sym e)
            (let f = inv.all.fresh (suc r) h lt (omega arith) in
            rw (eq-eqb (suc r) (suc r) refl)
            (enters n (g.given (suc r)) given_next (Was n now g.round (suc r)) (Was n now gn.round (suc r)) (g.words (suc r)) (g.ghosts (suc r)) h entered lt (inv.all.sound (suc r))
            (λ w. absurd (let z = w.came in omega arith)) (λ k ne. rw (ne_eqb k h ne)) (more (suc r)) f.down f.unmarked f.uncleared f.unpassed
            (λ k small two. marked_was k ((inv.all.sound (suc r)).marked k small) two) refl refl refl refl (rw (eq-eqb h h refl))))
          where
            marked_was : (k : ℕ) → Marked n (g.given (suc r)) (Was n now g.round (suc r)) (g.words (suc r)) (g.ghosts (suc r) k) k → mark_of (g.words (suc r)) k ≡ 2 → Was n now g.round (suc r) k
            marked_was k (inl p) e = absurd (let q = p.0 in omega arith)
            marked_was k (inr (inl p)) e = absurd (let q = p.0 in omega arith)
            marked_was k (inr (inr p)) e = p.was_chosen
        sound s (inr ns) = rw (ne_eqb s (suc r) ns) (widens n (g.given s) (Was n now g.round s) (Was n now gn.round s) (g.words s) (g.ghosts s) (more s) (inv.all.sound s))

        fits : (s k : ℕ) → k < n → (s ≡ suc r) ⊎ (s ≢ suc r) → (k ≡ h) ⊎ (k ≢ h) → gn.given s k < 2 ^ 32
        fits s k small (inl e) (inl q) = rw (eq-eqb s (suc r) e, eq-eqb k h q) fit
        fits s k small (inl e) (inr ne) = rw (eq-eqb s (suc r) e, ne_eqb k h ne) (inv.all.fits (suc r) k small)
        fits s k small (inr ns) q = rw (ne_eqb s (suc r) ns) (inv.all.fits s k small)

        early : (k : ℕ) → k < n → (k ≡ h) ⊎ (k ≢ h) → gn.round k < c.rounds
        early k small (inl e) = rw (eq-eqb k h e) more_to_come
        early k small (inr ne) = rw (ne_eqb k h ne) (inv.all.early k small)

        below : (s k : ℕ) → (k ≡ h) ⊎ (k ≢ h) → gn.round k < s → (k ≡ h × suc r < s) ⊎ (k ≢ h × g.round k < s)
        below s k (inl e) p = inl (e, subst (λ (m : ℕ). m < s) (rw (eq-eqb k h e)) p)
        below s k (inr ne) p = inr (ne, subst (λ (m : ℕ). m < s) (rw (ne_eqb k h ne)) p)

        fresh : (s k : ℕ) → k < n → (k ≡ h × suc r < s) ⊎ (k ≢ h × g.round k < s) → Fresh (g.words s) (gn.ghosts s k) k
        fresh s k small (inl p) = rw (ne_eqb s (suc r) (λ q. absurd (omega arith))) (inv.all.fresh s k small (let z : g.round k ≡ r = ap g.round p.0 in omega arith))
        fresh s k small (inr p) = subst (λ (gh : Ghost). Fresh (g.words s) gh k) (sym (ghosts_other s k p.0 (same_or_not s (suc r)))) (inv.all.fresh s k small p.1)

        above : (s k : ℕ) → (k ≡ h) ⊎ (k ≢ h) → s < gn.round k → (k ≡ h × s < suc r) ⊎ (k ≢ h × s < g.round k)
        above s k (inl e) p = inl (e, subst (λ (m : ℕ). s < m) (rw (eq-eqb k h e)) p)
        above s k (inr ne) p = inr (ne, subst (λ (m : ℕ). s < m) (rw (ne_eqb k h ne)) p)

        done : (s k : ℕ) → k < n → (k ≡ h × s < suc r) ⊎ (k ≢ h × s < g.round k) → (s ≡ r) ⊎ (s ≢ r) → Done n (gn.given (suc s) k) (gn.ghosts s k)
        done s k small (inl p) (inl e) =
            rw (eq-eqb (suc s) (suc r) (omega arith), ne_eqb s (suc r) (λ q. absurd (omega arith)), eq-eqb k h p.0, e, p.0) (record { all = all_passed; keeps = refl })
        done s k small (inl p) (inr ns) =
            rw (ne_eqb (suc s) (suc r) (λ q. ns (omega arith)), ne_eqb s (suc r) (λ q. absurd (omega arith)))
            (inv.all.done s k small (let z : g.round k ≡ r = ap g.round p.0 in omega arith))
        done s k small (inr p) e =
            subst (λ (gh : Ghost). Done n (gn.given (suc s) k) gh) (sym (ghosts_other s k p.0 (same_or_not s (suc r))))
            (subst (λ (i : ℕ). Done n i (g.ghosts s k)) (sym (given_other (suc s) k p.0 (same_or_not (suc s) (suc r)))) (inv.all.done s k small p.1))

        first : (k : ℕ) → k < n → gn.given 0 k ≡ input k
        first k small = rw (ne_eqb 0 (suc r) (λ q. absurd (omega arith))) (inv.all.first k small)

        all : Global n c.rounds now input gn
        all = record {
          sound = λ s. sound s (same_or_not s (suc r));
          first = first;
          fits = λ s k small. fits s k small (same_or_not s (suc r)) (same_or_not k h);
          early = λ k small. early k small (same_or_not k h);
          fresh = λ s k small p. fresh s k small (below s k (same_or_not k h) p);
          done = λ s k small p. done s k small (above s k (same_or_not k h) p) (same_or_not s r);
        }
