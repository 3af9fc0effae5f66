-- Words that aren't what they must be, and harts in a section.
use Rattle.std.proofs.Common.{◌≡◌, ℕ, ◌≤◌, Bool, true, false, not, ◌||◌, nat_lt, Option, Some, None, refl, ap, sym, ◌∙◌, inl, inr, arith}
use Rattle.std.proofs.lemmas.Bool.{cases_Bool, cases_lt, le-ltb, lt-ltb}
use Rattle.std.specs.List.{slice_get}
use Rattle.hart_step.specs.Hart.{HartValue}
use Rattle.mem_store.specs.Memory.{Memory}
use Rattle.machine.specs.World.{World}
use Rattle.bank_laws.specs.Banks.{WordBytes}
use Rattle.property_judge.specs.Property.{compares, harts_between, holds_in, is_within}
use Rattle.explore_laws.proofs.ListLemmas.{same_value}
use Rattle.explore_laws.specs.Covering.{WorldCovers}
use Rattle.explore_laws.specs.Quiet.{AreAligned}
use Rattle.explore_space.specs.Habits.{Habits, quiet_by_habit}
use Rattle.explore_space.specs.Resting.{rests_in}
use Rattle.explore_space.proofs.LeaveLemmas.{covers_word}
use Rattle.explore_space.specs.declared.section.Section.{Section}
use Rattle.explore_space.proofs.AheadLemmas.{Ahead, ahead_count, ahead_covers, ahead_same}
use Rattle.explore_space.proofs.StandLemmas.{covered_within, same_counts, within_passes}
use Rattle.explore_space.specs.Failing.{IsUnowned, breaks_asked, breaks_section, breaks_word}
use Rattle.explore_space.specs.Places.{memory_over}
use Rattle.explore_space.specs.declared.question.Always.{Always}

-- a word that belongs to no hart is the same in a world that covers another
pub same_break : (habits : Habits) (always : Option Always) (s w : World) → IsUnowned always habits.owners → AreAligned w
    → WorldCovers (quiet_by_habit habits) s w → breaks_word always s ≡ breaks_word always w
unfolding holds_in
same_break habits None s w unowned aligned covers = refl
same_break habits (Some always) s w unowned aligned covers =
    ap (λ n. not (compares always.comparison n always.number)) (covers_word habits s w always.word aligned covers unowned)

-- ---- neither of two ways to fail
pub fails_not : (a b : Bool) → a || b ≡ false → (a ≡ false) × (b ≡ false)
fails_not true b e = absurd (cc)
fails_not false b e = (refl, e)

pub fails_neither : (a b : Bool) → a ≡ false → b ≡ false → a || b ≡ false
fails_neither a b not_a not_b = rw not_a not_b

-- ---- harts in a section
few_too : (m n : ℕ) → n ≤ m → not (nat_lt m 2) ≡ false → not (nat_lt n 2) ≡ false
few_too m n low few = elim (cases_lt m 2) [
  | inl less ↦ rw (lt-ltb n 2 (omega (arith, less, low))) refl
  | inr more ↦ absurd (let no : true ≡ false = rw (le-ltb m 2 more) at few in cc)
]

module _ (habits : Habits) where
  -- a hart that stands in the section stands there in a world ahead too, and the other way round
  same_within : (section : Section) → habits.section ≡ Some section → (who : ℕ → Bool) (s w : World) → Ahead habits who s w → (h : ℕ)
      (a b : HartValue) → slice_get s.harts h ≡ Some a → slice_get w.harts h ≡ Some b
      → is_within section.from section.to a ≡ is_within section.from section.to b
  same_within section section_is who s w ahead h a b at_a at_b = elim (cases_Bool (is_within section.from section.to b)) [
    | inl there ↦
        ap (is_within section.from section.to)
        (sym (covered_within habits section section_is s w (ahead_covers habits who s w ahead) h b a at_b at_a there))
    | inr not_there ↦ elim (cases_Bool (is_within section.from section.to a)) [
      | inl here ↦ ap (is_within section.from section.to) (by_who (who h) refl here)
      | inr not_here ↦ not_here ∙ sym not_there
    ]
  ]
    where
      by_who : (yes_ : Bool) → who h ≡ yes_ → is_within section.from section.to a ≡ true → a ≡ b
      by_who true is here = same_value a b (slice_get w.harts h) (sym (ahead_same habits who s w ahead h is) ∙ at_a) at_b
      by_who false is here =
          same_value a b (slice_get w.harts h) (ahead.stays h a is at_a (ap (λ o. rests_in o a) section_is ∙ here)) at_b

  ahead_section : (o : Option Section) → habits.section ≡ o → (who : ℕ → Bool) (s w : World) → Ahead habits who s w
      → breaks_section o s ≡ breaks_section o w
  unfolding holds_in
  ahead_section None is who s w ahead = refl
  ahead_section (Some section) is who s w ahead =
      ap (λ n. not (nat_lt n 2)) (same_counts (is_within section.from section.to) s.harts w.harts (ahead_count habits who s w ahead)
      (same_within section is who s w ahead))

  -- a property is broken exactly where it is in a world ahead
  pub ahead_breaks : (always : Option Always) → IsUnowned always habits.owners → (who : ℕ → Bool) (s w : World) → AreAligned w → Ahead habits who s w
      → breaks_asked always habits.section s ≡ breaks_asked always habits.section w
  ahead_breaks always unowned who s w aligned ahead =
      ap (λ b. b || breaks_section habits.section s) (same_break habits always s w unowned aligned (ahead_covers habits who s w ahead))
      ∙ ap (λ b. breaks_word always w || b) (ahead_section habits.section refl who s w ahead)

  -- and it isn't broken where it isn't in a world that covers that one
  covered_section : (o : Option Section) → habits.section ≡ o → (s w : World) → WorldCovers (quiet_by_habit habits) s w → breaks_section o s ≡ false
      → breaks_section o w ≡ false
  unfolding holds_in
  covered_section None is s w covers good = refl
  covered_section (Some section) is s w covers good =
      few_too (harts_between section.from section.to s.harts) (harts_between section.from section.to w.harts)
      (within_passes habits section is s w covers) good

  pub covered_breaks : (always : Option Always) → IsUnowned always habits.owners → (s w : World) → AreAligned w → WorldCovers (quiet_by_habit habits) s w
      → breaks_asked always habits.section s ≡ false → breaks_asked always habits.section w ≡ false
  covered_breaks always unowned s w aligned covers good =
      let both = fails_not (breaks_word always s) (breaks_section habits.section s) good in
      fails_neither (breaks_word always w) (breaks_section habits.section w)
      (sym (same_break habits always s w unowned aligned covers) ∙ both.0) (covered_section habits.section refl s w covers both.1)

-- ---- the memory of a key's world has the image's rights
pub over_rights : (m : Memory) (values : ℕ → WordBytes) → (memory_over m values).rights ≡ m.rights
unfolding memory_over
over_rights m values = refl
