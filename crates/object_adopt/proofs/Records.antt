-- The records of an adopt-commit object, over any inputs and any notion of who was there.
use Rattle.std.proofs.Common.{◌≡◌, ◌≢◌, ℕ, zero, suc, ◌+◌, ◌-◌, ◌*◌, ◌<◌, if◌then◌else◌, ◌==◌, refl, sym, ap, ◌∙◌, ◌⊎◌, inl, inr, arith, eq-eqb, ne_eqb, subst}
use Rattle.object_library.proofs.Shape.{with_word}
use Rattle.object_library.proofs.Harts.{same_or_not}

-- two of the harts that were there have different inputs
abbrev pub Mixed : (n : ℕ) (input : ℕ → ℕ) (was : ℕ → Type 0) → Type 0
Mixed n input was = record { j : ℕ; k : ℕ; first : was j; second : was k; apart : input j ≢ input k }

-- what is kept of each hart beside the machine: how many records it has looked at, what it will
-- mark, how many marks it has passed, whether it still may commit, and its value
pub record Ghost : Type 0 where
  pub cleared : ℕ
  pub sign : ℕ
  pub passed : ℕ
  pub good : ℕ
  pub value : ℕ

abbrev pub with_ghost : (ℕ → Ghost) → ℕ → Ghost → ℕ → Ghost
with_ghost ghosts h gh k = if k == h then gh else ghosts k

abbrev pub value_of : (ℕ → ℕ) → ℕ → ℕ
value_of words k = words (4 * k)

abbrev pub presence_of : (ℕ → ℕ) → ℕ → ℕ
presence_of words k = words (4 * k + 1)

abbrev pub mark_of : (ℕ → ℕ) → ℕ → ℕ
mark_of words k = words (4 * k + 2)

-- WHAT HOLDS OF THE RECORDS

abbrev pub Shown : (n : ℕ) (input : ℕ → ℕ) (was : ℕ → Type 0) → (ℕ → ℕ) → Ghost → ℕ → Type 0
Shown n input was words gh k = (presence_of words k ≡ 0 × gh.cleared ≡ 0) ⊎ (presence_of words k ≡ 1 × value_of words k ≡ input k × was k)

abbrev pub Signed : (n : ℕ) (input : ℕ → ℕ) (was : ℕ → Type 0) → Ghost → Type 0
Signed n input was gh = (gh.sign ≡ 2) ⊎ (gh.sign ≡ 1 × Mixed n input was)

abbrev pub Marked : (n : ℕ) (input : ℕ → ℕ) (was : ℕ → Type 0) → (ℕ → ℕ) → Ghost → ℕ → Type 0
Marked n input was words gh k =
    (mark_of words k ≡ 0 × gh.passed ≡ 0) ⊎ ((mark_of words k ≡ 1 × Mixed n input was)
    ⊎ (record { two : mark_of words k ≡ 2; sign_two : gh.sign ≡ 2; all_clear : gh.cleared ≡ n; wrote : value_of words k ≡ input k; was_chosen : was k }))

abbrev pub Valued : (n : ℕ) (input : ℕ → ℕ) → (ℕ → ℕ) → Ghost → ℕ → Type 0
Valued n input words gh k = (gh.value ≡ input k) ⊎ ((m : ℕ) × m < n × mark_of words m ≡ 2 × gh.value ≡ input m)

abbrev pub Good : (n : ℕ) (input : ℕ → ℕ) (was : ℕ → Type 0) → Ghost → Type 0
Good n input was gh = (gh.good ≡ 1) ⊎ (gh.good ≡ 0 × Mixed n input was)

abbrev pub Owned : (ℕ → ℕ) → Ghost → ℕ → Type 0
Owned words gh k = k < gh.passed → gh.good ≡ 1 → mark_of words k ≡ 2

-- harts a and b have looked at one another and will mark 2
abbrev pub Agree : (n : ℕ) (input : ℕ → ℕ) → Ghost → Ghost → ℕ → ℕ → Type 0
Agree n input ga gb a b = b < ga.cleared → a < gb.cleared → ga.sign ≡ 2 → gb.sign ≡ 2 → input a ≡ input b

-- harts a and b have passed one another's marks, and b may commit
abbrev pub Follow : (n : ℕ) (input : ℕ → ℕ) → (ℕ → ℕ) → Ghost → Ghost → ℕ → ℕ → Type 0
Follow n input words ga gb a b = b < ga.passed → a < gb.passed → gb.good ≡ 1 → mark_of words b ≡ 2 → ga.value ≡ input b

pub record Sound (n : ℕ) (input : ℕ → ℕ) (was : ℕ → Type 0) (words : ℕ → ℕ) (ghosts : ℕ → Ghost) : Type 0 where
  pub shown : (k : ℕ) → k < n → Shown n input was words (ghosts k) k
  pub signed : (k : ℕ) → k < n → Signed n input was (ghosts k)
  pub marked : (k : ℕ) → k < n → Marked n input was words (ghosts k) k
  pub valued : (k : ℕ) → k < n → Valued n input words (ghosts k) k
  pub good : (k : ℕ) → k < n → Good n input was (ghosts k)
  pub owned : (k : ℕ) → k < n → Owned words (ghosts k) k
  pub agree : (a b : ℕ) → a < n → b < n → Agree n input (ghosts a) (ghosts b) a b
  pub follow : (a b : ℕ) → a < n → b < n → Follow n input words (ghosts a) (ghosts b) a b

-- two marks of 2 are of equal inputs
pub twos : (n : ℕ) (input : ℕ → ℕ) (was : ℕ → Type 0) (words : ℕ → ℕ) (ghosts : ℕ → Ghost) → Sound n input was words ghosts → (a b : ℕ) → a < n → b < n →
    mark_of words a ≡ 2 → mark_of words b ≡ 2 → input a ≡ input b
twos n input was words ghosts s a b la lb ma mb = go (s.marked a la) (s.marked b lb)
  where
    go : Marked n input was words (ghosts a) a → Marked n input was words (ghosts b) b → input a ≡ input b
    go (inl p) q = absurd (let e = p.0 in omega arith)
    go (inr (inl p)) q = absurd (let e = p.0 in omega arith)
    go (inr (inr p)) (inl q) = absurd (let e = q.0 in omega arith)
    go (inr (inr p)) (inr (inl q)) = absurd (let e = q.0 in omega arith)
    go (inr (inr p)) (inr (inr q)) = s.agree a b la lb (omega (arith, p.all_clear)) (omega (arith, q.all_clear)) p.sign_two q.sign_two

-- THE CHANGES

-- where one hart's ghost changes: what is said of each hart
each_ghost : (n : ℕ) (P : ℕ → Ghost → Type 0) (ghosts : ℕ → Ghost) (h : ℕ) (gh : Ghost) → P h gh → ((k : ℕ) → k < n → k ≢ h → P k (ghosts k)) →
    (k : ℕ) → k < n → P k (with_ghost ghosts h gh k)
each_ghost n P ghosts h gh own others k small = go (same_or_not k h)
  where
    go : (k ≡ h) ⊎ (k ≢ h) → P k (with_ghost ghosts h gh k)
    go (inl e) = rw (eq-eqb k h e) (subst (λ (j : ℕ). P j gh) (sym e) own)
    go (inr ne) = rw (ne_eqb k h ne) (others k small ne)

-- and of each two
pair_ghost : (n : ℕ) (P : ℕ → ℕ → Ghost → Ghost → Type 0) (ghosts : ℕ → Ghost) (h : ℕ) (gh : Ghost) → h < n → P h h gh gh →
    ((k : ℕ) → k < n → k ≢ h → P h k gh (ghosts k)) → ((k : ℕ) → k < n → k ≢ h → P k h (ghosts k) gh) →
    ((a b : ℕ) → a < n → b < n → a ≢ h → b ≢ h → P a b (ghosts a) (ghosts b)) →
    (a b : ℕ) → a < n → b < n → P a b (with_ghost ghosts h gh a) (with_ghost ghosts h gh b)
pair_ghost n P ghosts h gh lt own left right others a b la lb = go (same_or_not a h) (same_or_not b h)
  where
    go : (a ≡ h) ⊎ (a ≢ h) → (b ≡ h) ⊎ (b ≢ h) → P a b (with_ghost ghosts h gh a) (with_ghost ghosts h gh b)
    go (inl p) (inl q) = rw (eq-eqb a h p, eq-eqb b h q) (subst (λ (j : ℕ). P j b gh gh) (sym p) (subst (λ (j : ℕ). P h j gh gh) (sym q) own))
    go (inl p) (inr q) = rw (eq-eqb a h p, ne_eqb b h q) (subst (λ (j : ℕ). P j b gh (ghosts b)) (sym p) (left b lb q))
    go (inr p) (inl q) = rw (ne_eqb a h p, eq-eqb b h q) (subst (λ (j : ℕ). P a j (ghosts a) gh) (sym q) (right a la p))
    go (inr p) (inr q) = rw (ne_eqb a h p, ne_eqb b h q) (others a b la lb p q)

module _ (n : ℕ) (input : ℕ → ℕ) (was : ℕ → Type 0) (words : ℕ → ℕ) (ghosts : ℕ → Ghost) (s : Sound n input was words ghosts) (h : ℕ) (lt : h < n) where
  -- hart h looked at one more record
  pub clears : (gh : Ghost) → Shown n input was words gh h → Signed n input was gh → mark_of words h ≡ 0 → gh.passed ≡ 0 → gh.good ≡ 1 → gh.value ≡ input h →
      ((k : ℕ) → k < n → k ≢ h → Agree n input gh (ghosts k) h k) → Sound n input was words (with_ghost ghosts h gh)
  clears gh shown signed unmarked unpassed good value agree = record {
    shown = each_ghost n (λ k gh. Shown n input was words gh k) ghosts h gh shown (λ k small _. s.shown k small);
    signed = each_ghost n (λ k gh. Signed n input was gh) ghosts h gh signed (λ k small _. s.signed k small);
    marked = each_ghost n (λ k gh. Marked n input was words gh k) ghosts h gh (inl (unmarked, unpassed)) (λ k small _. s.marked k small);
    valued = each_ghost n (λ k gh. Valued n input words gh k) ghosts h gh (inl value) (λ k small _. s.valued k small);
    good = each_ghost n (λ k gh. Good n input was gh) ghosts h gh (inl good) (λ k small _. s.good k small);
    owned = each_ghost n (λ k gh. Owned words gh k) ghosts h gh (λ p. absurd (omega arith)) (λ k small _. s.owned k small);
    agree = pair_ghost n (λ a b ga gb. Agree n input ga gb a b) ghosts h gh lt (λ _ _ _ _. refl) agree
        (λ k small ne p q r t. sym (agree k small ne q p t r)) (λ a b la lb _ _. s.agree a b la lb);
    follow = pair_ghost n (λ a b ga gb. Follow n input words ga gb a b) ghosts h gh lt (λ p. absurd (omega arith)) (λ k small ne p. absurd (omega arith))
        (λ k small ne p q. absurd (omega arith)) (λ a b la lb _ _. s.follow a b la lb);
  }

  -- hart h passed one more mark
  pub passes : (gh : Ghost) → gh.cleared ≡ (ghosts h).cleared → gh.sign ≡ (ghosts h).sign → mark_of words h ≢ 0 → Valued n input words gh h → Good n input was gh → Owned words gh h →
      ((k : ℕ) → k < n → k ≢ h → Follow n input words gh (ghosts k) h k) → ((k : ℕ) → k < n → k ≢ h → Follow n input words (ghosts k) gh k h) →
      Sound n input was words (with_ghost ghosts h gh)
  passes gh same_cleared same_sign marked valued good owned left right = record {
    shown = each_ghost n (λ k gh. Shown n input was words gh k) ghosts h gh (rw same_cleared (s.shown h lt)) (λ k small _. s.shown k small);
    signed = each_ghost n (λ k gh. Signed n input was gh) ghosts h gh (rw same_sign (s.signed h lt)) (λ k small _. s.signed k small);
    marked = each_ghost n (λ k gh. Marked n input was words gh k) ghosts h gh (still (s.marked h lt)) (λ k small _. s.marked k small);
    valued = each_ghost n (λ k gh. Valued n input words gh k) ghosts h gh valued (λ k small _. s.valued k small);
    good = each_ghost n (λ k gh. Good n input was gh) ghosts h gh good (λ k small _. s.good k small);
    owned = each_ghost n (λ k gh. Owned words gh k) ghosts h gh owned (λ k small _. s.owned k small);
    agree = pair_ghost n (λ a b ga gb. Agree n input ga gb a b) ghosts h gh lt (λ _ _ _ _. refl)
        (λ k small ne. rw (same_cleared, same_sign) (s.agree h k lt small)) (λ k small ne. rw (same_cleared, same_sign) (s.agree k h small lt)) (λ a b la lb _ _. s.agree a b la lb);
    follow = pair_ghost n (λ a b ga gb. Follow n input words ga gb a b) ghosts h gh lt (λ p q g m. own_follow valued m) left right
        (λ a b la lb _ _. s.follow a b la lb);
  }
    where
      still : Marked n input was words (ghosts h) h → Marked n input was words gh h
      still (inl p) = absurd (marked p.0)
      still (inr (inl p)) = inr (inl p)
      still (inr (inr p)) = inr (inr (record { two = p.two; sign_two = same_sign ∙ p.sign_two; all_clear = same_cleared ∙ p.all_clear; wrote = p.wrote; was_chosen = p.was_chosen }))

      own_follow : Valued n input words gh h → mark_of words h ≡ 2 → gh.value ≡ input h
      own_follow (inl v) m = v
      own_follow (inr v) m = v.3 ∙ twos n input was words ghosts s v.0 h v.1 lt v.2 m

pub other_word : (words : ℕ → ℕ) (j v q : ℕ) → q ≢ j → with_word words j v q ≡ words q
other_word words j v q ne = rw (ne_eqb q j ne)

pub this_word : (words : ℕ → ℕ) (j v : ℕ) → with_word words j v j ≡ v
this_word words j v = rw (eq-eqb j j refl)

module _ (n : ℕ) (input : ℕ → ℕ) (was : ℕ → Type 0) (words : ℕ → ℕ) (ghosts : ℕ → Ghost) (s : Sound n input was words ghosts) (h : ℕ) (lt : h < n) where
  -- a value or a presence is written
  fills : (words' : ℕ → ℕ) → ((k : ℕ) → mark_of words' k ≡ mark_of words k) →
      ((k : ℕ) → value_of words k ≡ input k → value_of words' k ≡ input k) → ((k : ℕ) → k < n → Shown n input was words' (ghosts k) k) →
      Sound n input was words' ghosts
  fills words' marks values shown = record {
    shown = shown;
    signed = s.signed;
    good = s.good;
    agree = s.agree;
    marked = λ k small. still k (s.marked k small);
    valued = λ k small. by_value k (s.valued k small);
    owned = λ k small p g. marks k ∙ s.owned k small p g;
    follow = λ a b la lb p q g m. s.follow a b la lb p q g (sym (marks b) ∙ m);
  }
    where
      still : (k : ℕ) → Marked n input was words (ghosts k) k → Marked n input was words' (ghosts k) k
      still k (inl p) = inl (marks k ∙ p.0, p.1)
      still k (inr (inl p)) = inr (inl (marks k ∙ p.0, p.1))
      still k (inr (inr p)) = inr (inr (record { two = marks k ∙ p.two; sign_two = p.sign_two; all_clear = p.all_clear; wrote = values k p.wrote; was_chosen = p.was_chosen }))

      by_value : (k : ℕ) → Valued n input words (ghosts k) k → Valued n input words' (ghosts k) k
      by_value k (inl v) = inl v
      by_value k (inr v) = inr (v.0, v.1, marks v.0 ∙ v.2, v.3)

  pub writes_value : Sound n input was (with_word words (4 * h) (input h)) ghosts
  writes_value = fills (with_word words (4 * h) (input h)) (λ k. other_word words (4 * h) (input h) (4 * k + 2) (omega arith))
      (λ k e. kept k (same_or_not k h) e) (λ k small. by_shown k (s.shown k small))
    where
      kept : (k : ℕ) → (k ≡ h) ⊎ (k ≢ h) → value_of words k ≡ input k → with_word words (4 * h) (input h) (4 * k) ≡ input k
      kept k (inl q) e = rw (eq-eqb (4 * k) (4 * h) (omega arith)) (ap input (sym q))
      kept k (inr ne) e = other_word words (4 * h) (input h) (4 * k) (λ q. ne (omega arith)) ∙ e

      by_shown : (k : ℕ) → Shown n input was words (ghosts k) k → Shown n input was (with_word words (4 * h) (input h)) (ghosts k) k
      by_shown k (inl p) = inl (other_word words (4 * h) (input h) (4 * k + 1) (omega arith) ∙ p.0, p.1)
      by_shown k (inr p) = inr (other_word words (4 * h) (input h) (4 * k + 1) (omega arith) ∙ p.0, kept k (same_or_not k h) p.1, p.2)

  pub writes_presence : value_of words h ≡ input h → was h → Sound n input was (with_word words (4 * h + 1) 1) ghosts
  writes_presence wrote now = fills (with_word words (4 * h + 1) 1) (λ k. other_word words (4 * h + 1) 1 (4 * k + 2) (omega arith))
      (λ k e. other_word words (4 * h + 1) 1 (4 * k) (omega arith) ∙ e) (λ k small. by_shown k (same_or_not k h) (s.shown k small))
    where
      by_shown : (k : ℕ) → (k ≡ h) ⊎ (k ≢ h) → Shown n input was words (ghosts k) k → Shown n input was (with_word words (4 * h + 1) 1) (ghosts k) k
      by_shown k (inl q) p = inr (
        rw (eq-eqb (4 * k + 1) (4 * h + 1) (omega arith)),
        other_word words (4 * h + 1) 1 (4 * k) (omega arith) ∙ subst (λ (j : ℕ). value_of words j ≡ input j) (sym q) wrote,
        subst (λ (j : ℕ). was j) (sym q) now,
      )
      by_shown k (inr ne) (inl p) = inl (other_word words (4 * h + 1) 1 (4 * k + 1) (λ q. ne (omega arith)) ∙ p.0, p.1)
      by_shown k (inr ne) (inr p) = inr (other_word words (4 * h + 1) 1 (4 * k + 1) (λ q. ne (omega arith)) ∙ p.0, other_word words (4 * h + 1) 1 (4 * k) (omega arith) ∙ p.1, p.2)

  pub writes_mark : mark_of words h ≡ 0 → value_of words h ≡ input h → was h → (ghosts h).cleared ≡ n → (ghosts h).passed ≡ 0 →
      Sound n input was (with_word words (4 * h + 2) (ghosts h).sign) ghosts
  writes_mark unmarked wrote now all_clear unpassed = record {
    shown = λ k small. by_shown k (s.shown k small);
    signed = s.signed;
    good = s.good;
    agree = s.agree;
    marked = λ k small. by_mark k (same_or_not k h) (s.marked k small);
    valued = λ k small. by_value k (s.valued k small);
    owned = λ k small p g. mark_two k (s.owned k small p g);
    follow = λ a b la lb p q g m. by_follow a b la lb (same_or_not b h) p q g m;
  }
    where
      words' : ℕ → ℕ
      words' = with_word words (4 * h + 2) (ghosts h).sign

      mark_two : (k : ℕ) → mark_of words k ≡ 2 → mark_of words' k ≡ 2
      mark_two k e = go (same_or_not k h)
        where
          go : (k ≡ h) ⊎ (k ≢ h) → mark_of words' k ≡ 2
          go (inl q) = absurd (let z : mark_of words k ≡ 0 = ap (mark_of words) q ∙ unmarked in omega arith)
          go (inr ne) = other_word words (4 * h + 2) (ghosts h).sign (4 * k + 2) (λ q. ne (omega arith)) ∙ e

      by_shown : (k : ℕ) → Shown n input was words (ghosts k) k → Shown n input was words' (ghosts k) k
      by_shown k (inl p) = inl (other_word words (4 * h + 2) (ghosts h).sign (4 * k + 1) (omega arith) ∙ p.0, p.1)
      by_shown k (inr p) = inr (other_word words (4 * h + 2) (ghosts h).sign (4 * k + 1) (omega arith) ∙ p.0, other_word words (4 * h + 2) (ghosts h).sign (4 * k) (omega arith) ∙ p.1, p.2)

      mine : Signed n input was (ghosts h) → Marked n input was words' (ghosts h) h
      mine (inl two) = inr (inr (record {
        two = this_word words (4 * h + 2) (ghosts h).sign ∙ two;
        sign_two = two;
        all_clear = all_clear;
        wrote = other_word words (4 * h + 2) (ghosts h).sign (4 * h) (omega arith) ∙ wrote;
        was_chosen = now;
      }))
      mine (inr one) = inr (inl (this_word words (4 * h + 2) (ghosts h).sign ∙ one.0, one.1))

      by_mark : (k : ℕ) → (k ≡ h) ⊎ (k ≢ h) → Marked n input was words (ghosts k) k → Marked n input was words' (ghosts k) k
      by_mark k (inl q) m = subst (λ (j : ℕ). Marked n input was words' (ghosts j) j) (sym q) (mine (s.signed h lt))
      by_mark k (inr ne) (inl p) = inl (other_word words (4 * h + 2) (ghosts h).sign (4 * k + 2) (λ q. ne (omega arith)) ∙ p.0, p.1)
      by_mark k (inr ne) (inr (inl p)) = inr (inl (other_word words (4 * h + 2) (ghosts h).sign (4 * k + 2) (λ q. ne (omega arith)) ∙ p.0, p.1))
      by_mark k (inr ne) (inr (inr p)) = inr (inr (record {
        two = mark_two k p.two;
        sign_two = p.sign_two;
        all_clear = p.all_clear;
        wrote = other_word words (4 * h + 2) (ghosts h).sign (4 * k) (omega arith) ∙ p.wrote;
        was_chosen = p.was_chosen;
      }))

      by_value : (k : ℕ) → Valued n input words (ghosts k) k → Valued n input words' (ghosts k) k
      by_value k (inl v) = inl v
      by_value k (inr v) = inr (v.0, v.1, mark_two v.0 v.2, v.3)

      by_follow : (a b : ℕ) → a < n → b < n → (b ≡ h) ⊎ (b ≢ h) → Follow n input words' (ghosts a) (ghosts b) a b
      by_follow a b la lb (inl q) p r g m = absurd (let z : (ghosts b).passed ≡ 0 = ap (λ (j : ℕ). (ghosts j).passed) q ∙ unpassed in omega arith)
      by_follow a b la lb (inr ne) p r g m = s.follow a b la lb p r g (sym (other_word words (4 * h + 2) (ghosts h).sign (4 * b + 2) (λ q. ne (omega arith))) ∙ m)

-- a hart that did nothing yet comes in with a value
pub enters : (n : ℕ) (input input' : ℕ → ℕ) (was was' : ℕ → Type 0) (words : ℕ → ℕ) (ghosts : ℕ → Ghost) (h : ℕ) (gh : Ghost) → h < n → Sound n input was words ghosts →
    (was h → ⊥) → ((k : ℕ) → k ≢ h → input' k ≡ input k) → ((k : ℕ) → was k → was' k) →
    presence_of words h ≡ 0 → mark_of words h ≡ 0 → (ghosts h).cleared ≡ 0 → (ghosts h).passed ≡ 0 → ((k : ℕ) → k < n → mark_of words k ≡ 2 → was k) →
    gh.cleared ≡ 0 → gh.passed ≡ 0 → gh.sign ≡ 2 → gh.good ≡ 1 → gh.value ≡ input' h →
    Sound n input' was' words (with_ghost ghosts h gh)
enters n input input' was was' words ghosts h gh lt s absent same more down unmarked uncleared unpassed marks_was c p sg gd v = record {
  shown = each_ghost n (λ k g. Shown n input' was' words g k) ghosts h gh (inl (down, c)) (λ k small ne. shown k ne (s.shown k small));
  signed = each_ghost n (λ k g. Signed n input' was' g) ghosts h gh (inl sg) (λ k small ne. signed k (s.signed k small));
  marked = each_ghost n (λ k g. Marked n input' was' words g k) ghosts h gh (inl (unmarked, p)) (λ k small ne. marked k ne (s.marked k small));
  valued = each_ghost n (λ k g. Valued n input' words g k) ghosts h gh (inl v) (λ k small ne. valued k ne (s.valued k small));
  good = each_ghost n (λ k g. Good n input' was' g) ghosts h gh (inl gd) (λ k small ne. good k (s.good k small));
  owned = each_ghost n (λ k g. Owned words g k) ghosts h gh (λ q. absurd (omega arith)) (λ k small ne. s.owned k small);
  agree = pair_ghost n (λ a b ga gb. Agree n input' ga gb a b) ghosts h gh lt (λ q. absurd (omega arith)) (λ k small ne q. absurd (omega arith)) (λ k small ne q r. absurd (omega arith))
      (λ a b la lb na nb q r t u. same a na ∙ s.agree a b la lb q r t u ∙ sym (same b nb));
  follow = pair_ghost n (λ a b ga gb. Follow n input' words ga gb a b) ghosts h gh lt (λ q. absurd (omega arith)) (λ k small ne q. absurd (omega arith)) (λ k small ne q r. absurd (omega arith))
      (λ a b la lb na nb q r t u. s.follow a b la lb q r t u ∙ sym (same b nb));
}
  where
    other : (k : ℕ) → was k → k ≢ h
    other k w e = absent (subst (λ (j : ℕ). was j) e w)

    mixed : Mixed n input was → Mixed n input' was'
    mixed m = record {
      j = m.j;
      k = m.k;
      first = more m.j m.first;
      second = more m.k m.second;
      apart = λ q. m.apart (sym (same m.j (other m.j m.first)) ∙ q ∙ same m.k (other m.k m.second));
    }

    shown : (k : ℕ) → k ≢ h → Shown n input was words (ghosts k) k → Shown n input' was' words (ghosts k) k
    shown k ne (inl q) = inl q
    shown k ne (inr q) = inr (q.0, q.1 ∙ sym (same k ne), more k q.2)

    signed : (k : ℕ) → Signed n input was (ghosts k) → Signed n input' was' (ghosts k)
    signed k (inl q) = inl q
    signed k (inr q) = inr (q.0, mixed q.1)

    good : (k : ℕ) → Good n input was (ghosts k) → Good n input' was' (ghosts k)
    good k (inl q) = inl q
    good k (inr q) = inr (q.0, mixed q.1)

    marked : (k : ℕ) → k ≢ h → Marked n input was words (ghosts k) k → Marked n input' was' words (ghosts k) k
    marked k ne (inl q) = inl q
    marked k ne (inr (inl q)) = inr (inl (q.0, mixed q.1))
    marked k ne (inr (inr q)) = inr (inr (record { two = q.two; sign_two = q.sign_two; all_clear = q.all_clear; wrote = q.wrote ∙ sym (same k ne); was_chosen = more k q.was_chosen }))

    valued : (k : ℕ) → k ≢ h → Valued n input words (ghosts k) k → Valued n input' words (ghosts k) k
    valued k ne (inl q) = inl (q ∙ sym (same k ne))
    valued k ne (inr q) = inr (q.0, q.1, q.2, q.3 ∙ sym (same q.0 (other q.0 (marks_was q.0 q.1 q.2))))

-- ROUNDS: who commits in a round, the others keep in all later rounds
pub record Chain (n : ℕ) (given : ℕ → ℕ → ℕ) (was : ℕ → ℕ → Type 0) (words : ℕ → ℕ → ℕ) (ghosts : ℕ → ℕ → Ghost) : Type 0 where
  pub sound : (r : ℕ) → Sound n (given r) (was r) (words r) (ghosts r)
  -- who is in the next round has finished this one, and brings its value
  pub brings : (r k : ℕ) → k < n → was (suc r) k → (ghosts r k).passed ≡ n × given (suc r) k ≡ (ghosts r k).value × was r k
  pub marks : (r k : ℕ) → k < n → mark_of (words r) k ≡ 2 → was r k

pub later : (n : ℕ) (given : ℕ → ℕ → ℕ) (was : ℕ → ℕ → Type 0) (words : ℕ → ℕ → ℕ) (ghosts : ℕ → ℕ → Ghost) → Chain n given was words ghosts →
    (r h : ℕ) → h < n → (ghosts r h).passed ≡ n → (ghosts r h).good ≡ 1 →
    (d k : ℕ) → k < n → was (d + r) k → (ghosts (d + r) k).passed ≡ n → (ghosts (d + r) k).value ≡ given r h
later n given was words ghosts c r h lt done good d k small there over = go d k small there over
  where
    two : mark_of (words r) h ≡ 2
    two = (c.sound r).owned h lt (omega arith) good

    value_in : (s k : ℕ) (v : ℕ) → k < n → was s k → ((m : ℕ) → m < n → was s m → given s m ≡ v) → (ghosts s k).value ≡ v
    value_in s k v small there all = by_value ((c.sound s).valued k small)
      where
        by_value : Valued n (given s) (words s) (ghosts s k) k → (ghosts s k).value ≡ v
        by_value (inl q) = q ∙ all k small there
        by_value (inr q) = q.3 ∙ all q.0 q.1 (c.marks s q.0 q.1 q.2)

    first : (s : ℕ) → s ≡ r → (k : ℕ) → k < n → (ghosts s k).passed ≡ n → (ghosts s k).value ≡ given r h
    first s e k small over = subst (λ (q : ℕ). (ghosts q k).passed ≡ n → (ghosts q k).value ≡ given r h) (sym e)
        (λ over. (c.sound r).follow k h small lt (omega arith) (omega arith) good two) over

    go : (d k : ℕ) → k < n → was (d + r) k → (ghosts (d + r) k).passed ≡ n → (ghosts (d + r) k).value ≡ given r h
    go zero k small there over = first (0 + r) (omega arith) k small over
    go (suc d) k small there over =
        let e : suc d + r ≡ suc (d + r) = omega arith in
        subst (λ (s : ℕ). was s k → (ghosts s k).value ≡ given r h) (sym e)
        (λ there. value_in (suc (d + r)) k (given r h) small there (λ m lm wm. (c.brings (d + r) m lm wm).1 ∙ go d m lm (c.brings (d + r) m lm wm).2 (c.brings (d + r) m lm wm).0))
        there

-- more harts were there
pub widens : (n : ℕ) (input : ℕ → ℕ) (was was' : ℕ → Type 0) (words : ℕ → ℕ) (ghosts : ℕ → Ghost) → ((k : ℕ) → was k → was' k) → Sound n input was words ghosts →
    Sound n input was' words ghosts
widens n input was was' words ghosts more s = record {
  shown = λ k small. shown k (s.shown k small);
  signed = λ k small. signed k (s.signed k small);
  marked = λ k small. marked k (s.marked k small);
  valued = s.valued;
  good = λ k small. good k (s.good k small);
  owned = s.owned;
  agree = s.agree;
  follow = s.follow;
}
  where
    mixed : Mixed n input was → Mixed n input was'
    mixed m = record { j = m.j; k = m.k; first = more m.j m.first; second = more m.k m.second; apart = m.apart }

    shown : (k : ℕ) → Shown n input was words (ghosts k) k → Shown n input was' words (ghosts k) k
    shown k (inl q) = inl q
    shown k (inr q) = inr (q.0, q.1, more k q.2)

    signed : (k : ℕ) → Signed n input was (ghosts k) → Signed n input was' (ghosts k)
    signed k (inl q) = inl q
    signed k (inr q) = inr (q.0, mixed q.1)

    good : (k : ℕ) → Good n input was (ghosts k) → Good n input was' (ghosts k)
    good k (inl q) = inl q
    good k (inr q) = inr (q.0, mixed q.1)

    marked : (k : ℕ) → Marked n input was words (ghosts k) k → Marked n input was' words (ghosts k) k
    marked k (inl q) = inl q
    marked k (inr (inl q)) = inr (inl (q.0, mixed q.1))
    marked k (inr (inr q)) = inr (inr (record { two = q.two; sign_two = q.sign_two; all_clear = q.all_clear; wrote = q.wrote; was_chosen = more k q.was_chosen }))
