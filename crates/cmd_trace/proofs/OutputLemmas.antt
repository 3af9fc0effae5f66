-- The written part of a text, piece by piece.
use Rattle.std.proofs.Common.{⊎_elim, ◌≡◌, ℕ, ◌+◌, ◌<◌, ◌≤◌, List, [], ◌++◌, length, take, Option, append-nil, append_assoc, arith, refl, rules, ap, sym, subst, ◌∙◌}
use Rattle.std.proofs.KnownBytes.{Appends-nil, Appends-trans}
use Rattle.std.proofs.Math.Seq.{take-append-add, take-append_seam}
use Rattle.std.proofs.lemmas.Grind.{common_steps}
use Rattle.std.proofs.lemmas.Bool.{cases_lt}
use Rattle.std.proofs.lemmas.List.{take-append-le}
use Rattle.std.specs.Io.KnownBytes.{Appends}
use Rattle.program_open.specs.Answers.{Begins}
use Rattle.cmd_trace.specs.Output.{SoFar}

take_within : (n : ℕ) (ys : List ℕ) → (m : ℕ) × ((m ≤ length ys) × (take m ys ≡ take n ys))
take_within n ys = ⊎_elim
    (λ (lt : n < length ys). (n, (omega arith, refl)))
    (λ (ge : length ys ≤ n). (length ys, (omega arith, whole ge)))
    (cases_lt n (length ys))
  where
    whole : length ys ≤ n → take (length ys) ys ≡ take n ys
    whole ge = search (rules, common_steps, ge)

-- a beginning of what comes next, after what was appended before
begins_in : (old now new : Option (List ℕ)) (xs ys rest : List ℕ) (n : ℕ)
    → Appends old now xs → Appends now new (take n ys) → Begins (xs ++ (ys ++ rest)) old new
begins_in old now new xs ys rest n before more =
    let within = take_within n ys in
    let m = within.0 in
    let part : take (length xs + m) (xs ++ (ys ++ rest)) ≡ xs ++ take n ys
    = take-append-add xs (ys ++ rest) m ∙ ap (λ bytes. xs ++ bytes) (take-append-le m ys rest within.1.0 ∙ within.1.1) in
    (length xs + m, subst (λ bytes. Appends old new bytes) (sym part) (Appends-trans old now new xs (take n ys) before more))

-- nothing was written yet
pub begun_with : (all buffer rest : List ℕ) (start : Option (List ℕ)) → all ≡ buffer ++ rest → SoFar all start start buffer rest
begun_with all buffer rest start is = record { sent = []; appended = Appends-nil start; whole = is }

-- the buffer was written
pub sent_more : (all buffer left rest : List ℕ) (start now new : Option (List ℕ)) → Appends now new buffer → left ≡ []
    → SoFar all start now buffer rest → SoFar all start new left rest
sent_more all buffer left rest start now new more none s = record {
  sent = s.sent ++ buffer;
  appended = Appends-trans start now new s.sent buffer s.appended more;
  whole = s.whole ∙ sym (append_assoc s.sent buffer rest) ∙ ap (λ (l : List ℕ). (s.sent ++ buffer) ++ (l ++ rest)) (sym none);
}

-- a beginning of the buffer was written
pub sent_some : (all buffer rest : List ℕ) (start now new : Option (List ℕ)) (n : ℕ) → Appends now new (take n buffer)
    → SoFar all start now buffer rest → Begins all start new
sent_some all buffer rest start now new n more s =
    subst (λ (text : List ℕ). Begins text start new) (sym s.whole) (begins_in start now new s.sent buffer rest n s.appended more)

-- nothing more was written
pub sent_none : (all buffer rest : List ℕ) (start now : Option (List ℕ)) → SoFar all start now buffer rest → Begins all start now
sent_none all buffer rest start now s =
    (length s.sent, subst (λ bytes. Appends start now bytes) (sym (ap (take (length s.sent)) s.whole ∙ take-append_seam s.sent (buffer ++ rest))) s.appended)

-- the buffer has more bytes
pub waits_more : (all buffer more entry rest : List ℕ) (start now : Option (List ℕ)) → more ≡ buffer ++ entry
    → SoFar all start now buffer (entry ++ rest) → SoFar all start now more rest
waits_more all buffer more entry rest start now is s = record {
  sent = s.sent;
  appended = s.appended;
  whole = s.whole ∙ ap (λ (l : List ℕ). s.sent ++ l) (sym (append_assoc buffer entry rest) ∙ ap (λ (l : List ℕ). l ++ rest) (sym is));
}

-- all was written
pub sent_all : (all buffer : List ℕ) (start now : Option (List ℕ)) → buffer ≡ [] → SoFar all start now buffer [] → Appends start now all
sent_all all buffer start now none s =
    subst (λ (text : List ℕ). Appends start now text)
    (sym (s.whole ∙ ap (λ (l : List ℕ). s.sent ++ l) (append-nil buffer ∙ none) ∙ append-nil s.sent)) s.appended
