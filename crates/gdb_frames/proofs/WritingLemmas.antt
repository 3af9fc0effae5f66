-- Texts with their special bytes escaped.
use Rattle.std.proofs.Common.{◌≡◌, ℕ, ◌+◌, ◌<◌, ◌≤◌, List, ◌++◌, length, drop, get_or, ap, sym, ◌∙◌, append-nil, append_assoc}
use Rattle.std.proofs.lemmas.List.{at_drop_more, at_drop_all}
use Rattle.gdb_frames.specs.Frames.{escape_of, escaped}

-- one more byte of a text is written
pub written_more : (out new text whole : List ℕ) (i : ℕ) → i < length text
    → new ≡ out ++ escape_of (get_or text i 0) → out ++ escaped (drop i text) ≡ whole
    → new ++ escaped (drop (i + 1) text) ≡ whole
unfolding escaped
written_more out new text whole i inside made so_far =
    let rest = escaped (drop (i + 1) text) in
    ap (λ w. w ++ rest) made
    ∙ append_assoc out (escape_of (get_or text i 0)) rest
    ∙ ap (λ w. out ++ w) (sym (at_drop_more escaped text i 0 inside))
    ∙ so_far

-- all bytes of a text are written
pub written_all : (out text whole : List ℕ) (i : ℕ) → length text ≤ i
    → out ++ escaped (drop i text) ≡ whole → out ≡ whole
unfolding escaped
written_all out text whole i ended so_far =
    sym (append-nil out) ∙ ap (λ w. out ++ w) (sym (at_drop_all escaped text i ended)) ∙ so_far
