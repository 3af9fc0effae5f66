-- How far a reader comes.
use Rattle.std.proofs.Common.{◌≡◌, ℕ, ◌+◌, ◌<◌, false, is_some, Option, Some, None, List, ◌∷◌, ◌++◌, length, drop, get_or, ap, sym, ◌∙◌, arith, refl}
use Rattle.std.proofs.lemmas.List.{at_drop_more}
use Rattle.gdb_frames.specs.declared.found.Found.{Found}
use Rattle.gdb_frames.specs.Reading.{ReaderState, found_at, state_after}
use Rattle.gdb_frames.specs.Items.{Advances, frames_from, onto}

-- one more byte is read
pub advance_more : (s t next : ReaderState) (bytes : List ℕ) (i b : ℕ) (found : Option Found)
    → Advances s t bytes i None → i < length bytes → b ≡ get_or bytes i 0
    → found ≡ found_at t b → next ≡ state_after t b
    → Advances s next bytes (i + 1) found
unfolding frames_from
advance_more s t next bytes i b found so_far inside is found_is next_is = record {
  within = omega (arith, inside);
  items = λ rest.
      so_far.items rest
      ∙ at_drop_more (λ l. frames_from t (l ++ rest)) bytes i 0 inside
      ∙ ap (λ x. frames_from t (x ∷ (drop (i + 1) bytes ++ rest))) (sym is)
      ∙ ap (λ f. onto f (state_after t b).body (frames_from (state_after t b) (drop (i + 1) bytes ++ rest))) (sym found_is)
      ∙ ap (λ n. onto found n.body (frames_from n (drop (i + 1) bytes ++ rest))) (sym next_is);
}

pub none_of : {A : Type 0} (o : Option A) → is_some o ≡ false → o ≡ None
none_of None e = refl
none_of (Some x) e = absurd (cc)
