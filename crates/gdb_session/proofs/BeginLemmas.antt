-- Texts that begin with others.
use Rattle.std.proofs.Common.{◌≡◌, ℕ, List, ◌++◌, length, drop, Result, Ok, Err, OnOk, OnErr, ap, sym, refl, ◌∙◌}
use Rattle.std.proofs.lemmas.List.{drop_at}
use Rattle.gdb_replies.specs.Fronts.{BeginsWith}

begins_by : (old new more : List ℕ) → new ≡ old ++ more → BeginsWith new old
begins_by old new more whole =
    whole
    ∙ ap (λ l. old ++ l)
    (sym (ap (λ l. drop (length old) l) whole ∙ drop_at old more (length old) refl))

-- what stood is still in front, whether all was appended or not
pub begins_anyhow : {T E : Type 0} (pushed : Result T E) (old new more : List ℕ)
    → OnOk pushed (new ≡ old ++ more) → OnErr pushed (BeginsWith new old) → BeginsWith new old
begins_anyhow (Ok t) old new more all kept = begins_by old new more all
begins_anyhow (Err e) old new more all kept = kept
