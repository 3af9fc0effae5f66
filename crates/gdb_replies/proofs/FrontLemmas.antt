-- Texts that begin with others.
use Rattle.std.proofs.Common.{◌≡◌, ℕ, List, ◌++◌, length, drop, ap, sym, refl, ◌∙◌, append_assoc}
use Rattle.std.proofs.lemmas.List.{drop_at}
use Rattle.gdb_replies.specs.Fronts.{BeginsWith}

-- a longer text begins as before
pub still_begins : (old mid new more : List ℕ) → BeginsWith mid old → new ≡ mid ++ more → BeginsWith new old
still_begins old mid new more begins is =
    let rest = drop (length old) mid ++ more in
    let whole : new ≡ old ++ rest
    = is ∙ ap (λ l. l ++ more) begins ∙ append_assoc old (drop (length old) mid) more in
    whole ∙ ap (λ l. old ++ l) (sym (ap (λ l. drop (length old) l) whole ∙ drop_at old rest (length old) refl))
