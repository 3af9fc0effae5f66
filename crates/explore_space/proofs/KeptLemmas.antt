-- Parts that are kept once, by their hashes.
use Rattle.std.proofs.Common.{◌≡◌, ◌≢◌, ℕ, Bool, true, false, if◌then◌else◌, List, [], ◌∷◌, ◌++◌, length, Some, ap, sym, ◌∙◌, subst, arith, inl, inr}
use Rattle.std.specs.List.{Contains, slice_get}
use Rattle.image.specs.Image.{ImageValue}
use Rattle.hart_reservations.specs.Marks.{mark_at}
use Rattle.hart_step.specs.Hart.{HartValue, hart_of}
use Rattle.hart_step.specs.declared.hart.Hart.{Hart}
use Rattle.bank_laws.specs.Banks.{WordBytes}
use Rattle.explore_table.proofs.ListLemmas.{get_either}
use Rattle.explore_sites.specs.Cells.{AreCanonical, cell_words}
use Rattle.explore_sites.proofs.CanonLemmas.{cells_tell}
use Rattle.explore_space.specs.Hashes.{AreHashed, HartsHashed, SharedsHashed, hash_of_cells, hash_of_hart, hash_of_marks, hash_of_shared, hash_words}
use Rattle.explore_space.specs.Places.{AreUnlike, HartsDiffer, KeptOnce, SharedsDiffer}
use Rattle.explore_space.specs.declared.shared.Shared.{Shared}
use Rattle.explore_space.proofs.SameLemmas.{AllSoFar, apart_more}

-- ---- hashes of parts
pub none_hashed : {X : Type 0} (hash : X → ℕ) (parts : List X) (hashes : List (List ℕ)) → parts ≡ [] → AreHashed hash parts hashes
none_hashed hash parts hashes none = record { none = λ row absent k x e. absurd (let f = sym (ap (λ xs. slice_get xs k) none) ∙ e in cc) }

-- more hashes
pub hashed_still : {X : Type 0} (hash : X → ℕ) (hashes more_hashes : List (List ℕ)) (parts : List X)
    → ((row : List ℕ) → Contains hashes row → Contains more_hashes row) → AreHashed hash parts hashes → AreHashed hash parts more_hashes
hashed_still hash hashes more_hashes parts more are = record { none = λ row absent. are.none row (λ there. absent (more row there)) }

-- one part more
pub hashed_more : {X : Type 0} (hash : X → ℕ) (hashes : List (List ℕ)) (parts more_parts : List X) (x : X) → more_parts ≡ parts ++ x ∷ []
    → Contains hashes (hash_words (hash x)) → AreHashed hash parts hashes → AreHashed hash more_parts hashes
hashed_more {X} hash hashes parts more_parts x pushed there are = record {
  none = λ row absent k y e. elim (get_either parts x y k (sym (ap (λ (xs : List X). slice_get xs k) pushed) ∙ e)) [
    | inl old ↦ are.none row absent k y old
    | inr last ↦ λ is. absent (subst (Contains hashes) (ap (λ z. hash_words (hash z)) last.1 ∙ is) there)
  ];
}

-- one part more, or none where there was no room
pub hashed_pushed : {X : Type 0} (hash : X → ℕ) (hashes : List (List ℕ)) (parts more_parts : List X) (x : X) (pushed : Bool)
    → more_parts ≡ (if pushed then parts ++ x ∷ [] else parts) → Contains hashes (hash_words (hash x)) → AreHashed hash parts hashes
    → AreHashed hash more_parts hashes
hashed_pushed hash hashes parts more_parts x true items there are = hashed_more hash hashes parts more_parts x items there are
hashed_pushed hash hashes parts more_parts x false items there are = subst (λ xs. AreHashed hash xs hashes) (sym items) are

-- ---- a part whose hash none has
other_hart : (harts : List Hart) (hashes : List (List ℕ)) (hart : Hart) → HartsHashed harts hashes
    → (Contains hashes (hash_words (hash_of_hart (hart_of hart))) → ⊥) → AllSoFar (λ y. hart_of y ≢ hart_of hart) harts (length harts)
other_hart harts hashes hart are absent = record {
  each = λ k y low e same. are.none _ absent k y e (ap (λ (v : HartValue). hash_words (hash_of_hart v)) same);
}

pub harts_differ : (harts more_harts : List Hart) (hashes : List (List ℕ)) (hart : Hart) (pushed : Bool)
    → more_harts ≡ (if pushed then harts ++ hart ∷ [] else harts) → HartsHashed harts hashes
    → (Contains hashes (hash_words (hash_of_hart (hart_of hart))) → ⊥) → HartsDiffer harts → HartsDiffer more_harts
harts_differ harts more_harts hashes hart true items are absent differ =
    apart_more (λ a b. hart_of a ≢ hart_of b) harts more_harts hart (length harts) items (omega arith) (other_hart harts hashes hart are absent) differ
harts_differ harts more_harts hashes hart false items are absent differ = subst HartsDiffer (sym items) differ

module _ {Z : Type 0} (image : ImageValue) (shareds : List (Shared Z)) (shared : Shared Z) where
  other_shared : (hashes : List (List ℕ)) → SharedsHashed shareds hashes → (Contains hashes (hash_words (hash_of_shared shared)) → ⊥)
      → SharedsDiffer image shareds → AreCanonical image shared.cells.items → AllSoFar (λ y. AreUnlike image y shared) shareds (length shareds)
  other_shared hashes are absent differ canonical = record {
    each = λ k y low e marks. elim (cells_tell image y.cells.items shared.cells.items (differ.1 k y e) canonical) [
      | inl same ↦ absurd (are.none _ absent k y e (ap hash_words
          (ap (λ (cells : List (ℕ × WordBytes)). hash_of_marks (hash_of_cells 0 cells) (mark_at y.marks) 32) same
          ∙ ap (λ m. hash_of_marks (hash_of_cells 0 (cell_words shared.cells.items)) m 32) marks)))
      | inr words ↦ words
    ];
  }

  -- a list with one more that is like none of the others
  pub differ_more : (more_shareds : List (Shared Z)) → more_shareds ≡ shareds ++ shared ∷ [] → AreCanonical image shared.cells.items
      → (SharedsDiffer image shareds → AllSoFar (λ y. AreUnlike image y shared) shareds (length shareds))
      → SharedsDiffer image shareds → SharedsDiffer image more_shareds
  differ_more more_shareds pushed canonical unlike differ = (
    apart_more (AreUnlike image) shareds more_shareds shared (length shareds) pushed (omega arith) (unlike differ) differ.0,
    λ k y e. elim (get_either shareds shared y k (sym (ap (λ (xs : List (Shared Z)). slice_get xs k) pushed) ∙ e)) [
      | inl old ↦ differ.1 k y old
      | inr last ↦ subst (λ (s : Shared Z). AreCanonical image s.cells.items) last.1 canonical
    ],
  )

  pub shareds_differ : (more_shareds : List (Shared Z)) (hashes : List (List ℕ)) (pushed : Bool)
      → more_shareds ≡ (if pushed then shareds ++ shared ∷ [] else shareds) → SharedsHashed shareds hashes
      → (Contains hashes (hash_words (hash_of_shared shared)) → ⊥) → AreCanonical image shared.cells.items
      → SharedsDiffer image shareds → SharedsDiffer image more_shareds
  shareds_differ more_shareds hashes true items are absent canonical differ =
      differ_more more_shareds items canonical (λ d. other_shared hashes are absent d canonical) differ
  shareds_differ more_shareds hashes false items are absent canonical differ = subst (SharedsDiffer image) (sym items) differ

-- each is kept once where a hart and what it shares are kept behind others
pub once_kept : {Z : Type 0} (image : ImageValue) (harts more_harts : List Hart) (shareds more_shareds : List (Shared Z)) (part shared : Shared Z) (id : ℕ)
    → slice_get shareds id ≡ Some part → (AreCanonical image part.cells.items → AreCanonical image shared.cells.items)
    → (HartsDiffer harts → HartsDiffer more_harts)
    → (AreCanonical image shared.cells.items → SharedsDiffer image shareds → SharedsDiffer image more_shareds)
    → KeptOnce image harts shareds → KeptOnce image more_harts more_shareds
once_kept image harts more_harts shareds more_shareds part shared id there canonical hart_once shared_once once =
    (hart_once once.0, shared_once (canonical (once.1.1 id part there)) once.1)
