-- One entry more, which is whole.
use Rattle.std.proofs.Common.{◌≡◌, ◌⊎◌, ℕ, ◌+◌, ◌-◌, ◌<◌, true, List, [], ◌∷◌, ◌++◌, length, Option, Some, None, ap, ap₂, sym, subst, ◌∙◌, arith, inl, inr, append_assoc, append-nil}
use Rattle.std.specs.Prelude.{slice_get, unwrap_or, nat_lt, ◌==◌, ◌||◌}
use Rattle.std.proofs.lemmas.Bool.Decides.{nat_tests}
use Rattle.image.specs.Image.{ImageValue}
use Rattle.mem_store.specs.Memory.{Memory}
use Rattle.mem_store.specs.Image.{image_memory, segments_memory}
use Rattle.hart_step.specs.Hart.{hart_of}
use Rattle.hart_local.specs.CodeMemory.{code_in}
use Rattle.hart_local.specs.LocalStep.{class_of, walk}
use Rattle.hart_local.specs.declared.stepping.Class.TheVariants.{Shared}
use Rattle.hart_local.proofs.CodeLemmas.{code_memory}
use Rattle.machine.specs.Chosen.{own}
use Rattle.machine.specs.Start.{started}
use Rattle.machine.specs.World.{run}
use Rattle.machine.specs.declared.choice.Choice.{Choice}
use Rattle.history.specs.declared.entry.Entry.{Entry}
use Rattle.history.specs.History.{entry_choices, expanded}
use Rattle.thread_book.specs.Book.{BookValue, IsSoundBook, hart_in_book, replayed}
use Rattle.thread_book.specs.Segment.{SegmentState}
use Rattle.thread_book.specs.Present.{IsPresented}
use Rattle.thread_run.specs.Own.{own_choices}
use Rattle.thread_run.specs.Total.{all_choices, IsUsedUp, IsRoom}
use Rattle.thread_run.specs.Whole.{IsWhole, AreWhole}

-- an entry that ends before its limit, or with the last choice of its hart's, or with the last that is
-- left
ends_by : (choices limit left room : ℕ) → (nat_lt choices limit || choices == left || choices == room) ≡ true
    → (choices < limit) ⊎ (choices ≡ left) ⊎ (choices ≡ room)
ends_by choices limit left room test = grind (arith, nat_tests)

-- the last choice that is left is the last of the total, or of its hart
last_of : (total room : Option ℕ) (count choices left : ℕ) → IsRoom total count room → choices ≡ unwrap_or room left
    → (choices ≡ left) ⊎ IsUsedUp total (count + choices)
last_of None None count choices left r is = inl is
last_of None (Some room) count choices left r is = absurd r
last_of (Some n) None count choices left r is = absurd r
last_of (Some n) (Some room) count choices left r is = inr (omega (arith, r, is))

-- what a commit requires of a segment, and has tested, in the words of its entry
pub ends_whole : (X : Type 0) (total room : Option ℕ) (count left limit local made budget : ℕ) → (local + 1 < limit → X) → left ≡ budget - made → made < budget
    → IsRoom total count room → (nat_lt (local + 1) limit || local + 1 == left || local + 1 == unwrap_or room left) ≡ true
    → X ⊎ (made + local + 1 ≡ budget) ⊎ IsUsedUp total (count + local + 1)
ends_whole X total room count left limit local made budget whole is some r test =
    let own : local + 1 ≡ left → made + local + 1 ≡ budget = λ e. omega (arith, e, is, some) in
    elim (ends_by (local + 1) limit left (unwrap_or room left) test) [
      | inl more ↦ inl (whole more)
      | inr (inl last) ↦ inr (inl (own last))
      | inr (inr last) ↦ elim (last_of total room count (local + 1) left r last) [
        | inl mine ↦ inr (inl (own mine))
        | inr all ↦ inr (inr (subst (λ (n : ℕ). IsUsedUp total n) (omega arith) all))
      ]
    ]

module _ (image : ImageValue) (inputs : List ℕ) (budget : ℕ) (total : Option ℕ) where
  -- a whole entry behind these choices
  abbrev WholeAt : Entry → List Choice → Type 0
  WholeAt e before = IsWhole (code_in (image_memory image)) budget total (own before e.hart) (length before) (slice_get (run (started image inputs) before).harts e.hart) e.local

  pub whole_more : (before : List Choice) (entries : List Entry) (e : Entry) → AreWhole image inputs budget total before entries
      → WholeAt e (before ++ expanded entries) → AreWhole image inputs budget total before (entries ++ e ∷ [])
  unfolding expanded
  whole_more before [] e all is = (subst (WholeAt e) (append-nil before) is, tt)
  whole_more before (x ∷ entries) e all is = (
    all.0,
    whole_more (before ++ entry_choices x) entries e all.1
        (subst (WholeAt e) (sym (append_assoc before (entry_choices x) (expanded entries))) is),
  )

  -- a book's hart is that of the replay
  at_replay : (b : BookValue) (h : ℕ) → b.image ≡ image → b.inputs ≡ inputs
      → slice_get (run (started image inputs) (expanded b.history)).harts h ≡ hart_in_book b h
  unfolding replayed
  at_replay b h same_image same_inputs =
      sym (ap₂ (λ (i : ImageValue) (xs : List ℕ). slice_get (run (started i xs) (expanded b.history)).harts h) same_image same_inputs)

  -- the segment's code is the image's
  code_of : (b : BookValue) (s : SegmentState) (t : SegmentState) (new_b : BookValue) → b.image ≡ image → IsSoundBook b → IsPresented b s new_b t
      → segments_memory s.code ≡ code_in (image_memory image)
  code_of b s t new_b same_image sound p =
      ap segments_memory p.current.1 ∙ code_memory b.image.entry b.image.segments sound.image
      ∙ ap (λ (i : ImageValue). code_in (image_memory i)) same_image

  -- the entry of a segment that was taken in
  pub entry_whole : (b new_b : BookValue) (s t : SegmentState) (made : ℕ) → b.image ≡ image → b.inputs ≡ inputs → IsSoundBook b
      → IsPresented b s new_b t → own_choices b s.hart ≡ made
      → (class_of (segments_memory s.code) (hart_of s.reached) ≡ Shared) ⊎ (made + s.local + 1 ≡ budget) ⊎ IsUsedUp total (all_choices b + s.local + 1)
      → IsWhole (code_in (image_memory image)) budget total (own (expanded b.history) s.hart) (all_choices b)
      (slice_get (run (started image inputs) (expanded b.history)).harts s.hart) s.local
  entry_whole b new_b s t made same_image same_inputs sound p was ends =
      let code : segments_memory s.code ≡ code_in (image_memory image) = code_of b s t new_b same_image sound p in
      record {
        hart = hart_of s.slot;
        there = at_replay b s.hart same_image same_inputs ∙ p.current.0;
        reached = hart_of s.reached;
        walked = subst (λ (m : Memory). walk m s.local (hart_of s.slot) ≡ Some (hart_of s.reached)) code p.walked;
        ends = subst (λ (n : ℕ). (class_of (code_in (image_memory image)) (hart_of s.reached) ≡ Shared) ⊎ (n + s.local + 1 ≡ budget) ⊎ IsUsedUp total (all_choices b + s.local + 1)) (sym was)
            (subst (λ (m : Memory). (class_of m (hart_of s.reached) ≡ Shared) ⊎ (made + s.local + 1 ≡ budget) ⊎ IsUsedUp total (all_choices b + s.local + 1)) code ends);
      }
