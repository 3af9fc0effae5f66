use Rattle.std.proofs.Common.{◌≡◌, ◌+◌, ◌-◌, ◌++◌, length, take, drop, subst, sym, rules, ap, ◌∙◌, List, ℕ, Option}
use Rattle.std.proofs.KnownBytes.{Appends-trans}
use Rattle.std.proofs.Math.Seq.{take-add}
use Rattle.std.proofs.lemmas.Grind.{common_steps}
use Rattle.std.specs.Io.KnownBytes.{Appends}
use Rattle.byte_io.proofs.transfer.write_all.Goals as goal

-- a piece of the rest, after what was written before it
written_on : (a b c : Option (List ℕ)) (bs : List ℕ) (i n : ℕ)
    → Appends a b (take i bs) → Appends b c (take n (take (length bs - i) (drop i bs))) → Appends a c (take (i + n) bs)
written_on a b c bs i n before now =
    let whole : take (length bs - i) (drop i bs) ≡ drop i bs = search (rules, common_steps) in
    let joined : take i bs ++ take n (take (length bs - i) (drop i bs)) ≡ take (i + n) bs
    = ap (λ rest. take i bs ++ take n rest) whole ∙ sym (take-add i n bs) in
    subst (λ xs. Appends a c xs) joined (Appends-trans a b c _ _ before now)

pub pieces-preserved : goal.pieces-preserved
pieces-preserved g c =
    let kept = c.pieces.invariant in
    let wrote = c.in_ok-at.ensures in
    (search (rules, common_steps), written_on _ _ _ _ _ _ kept.1 wrote.bytes, search rules)
