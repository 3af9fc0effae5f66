-- A verdict asks no more of the choices than which harts they choose.
use Rattle.std.proofs.Common.{◌≡◌, ℕ, zero, suc, ◌<◌, Bool, true, false, ◌==◌, List, [], ◌∷◌, length, get_or, refl, sym, ap, ◌∙◌, ◌⊎◌, inl, inr, arith, cond}
use Rattle.std.specs.List.{Contains}
use Rattle.std.specs.Bool.{Decides}
use Rattle.std.proofs.lemmas.Bool.Decides.{Decides-or, Decides-like}
use Rattle.hart_step.specs.Hart.{HartValue}
use Rattle.machine.specs.Chosen.{is_chosen, ChooseAlike}
use Rattle.machine.specs.declared.choice.Choice.{Choice}
use Rattle.object_library.specs.declared.kind.Kind.{Kind}
use Rattle.object_library.specs.declared.kind.Kind.TheVariants.{Swap, Add, LrSc, AdoptCommit, Rounds}
use Rattle.object_library.specs.declared.verdict.Verdict.TheVariants as verdict
use Rattle.machine.specs.Chosen.{chosen}
use Rattle.object_library.specs.Rules.{IsProposed, KeepsConsensus, KeepsAdoptCommit, KeepsRule}
use Rattle.object_library.specs.Judging.{is_kept, verdict_of}
use Rattle.object_library.proofs.JudgeLemmas.{eqb-decides, kept-decides}

chosen-decides : (choices : List Choice) (k : ℕ) → Decides (is_chosen choices k) (Contains (chosen choices) k)
chosen-decides [] k = (λ e. absurd (cc), λ p. absurd (let lt = p.1 in omega arith))
chosen-decides (c ∷ choices) k =
    Decides-like (is_chosen (c ∷ choices) k) to from
    (Decides-or (c.hart == k) (is_chosen choices k) (eqb-decides c.hart k) (chosen-decides choices k))
  where
    to : (c.hart ≡ k) ⊎ Contains (chosen choices) k → Contains (chosen (c ∷ choices)) k
    to (inl e) = (0, omega arith, e)
    to (inr p) = let lt = p.1 in (suc p.0, omega arith, p.2)

    at : (i : ℕ) → i < length (chosen (c ∷ choices)) → get_or (chosen (c ∷ choices)) i k ≡ k → (c.hart ≡ k) ⊎ Contains (chosen choices) k
    at zero lt e = inl e
    at (suc i) lt e = inr (i, omega arith, e)

    from : Contains (chosen (c ∷ choices)) k → (c.hart ≡ k) ⊎ Contains (chosen choices) k
    from p = at p.0 p.1 p.2

moves : (a b : List Choice) → ChooseAlike a b → (k : ℕ) → Contains (chosen a) k → Contains (chosen b) k
moves a b alike k h = (chosen-decides b k).0 (sym (alike k) ∙ (chosen-decides a k).1 h)

flipped : (a b : List Choice) → ChooseAlike a b → ChooseAlike b a
flipped a b alike k = sym (alike k)

module _ (inputs : List ℕ) (a b : List Choice) (harts : List HartValue) (alike : ChooseAlike a b) where
  proposed : (v : ℕ) → IsProposed inputs a v → IsProposed inputs b v
  proposed v p = (p.0, moves a b alike p.0 p.1, p.2)

  consensus : KeepsConsensus inputs a harts → KeepsConsensus inputs b harts
  consensus kept = record {
    valid = λ i d lt e. proposed _ (kept.valid i d lt e);
    agreed = kept.agreed;
    decided = kept.decided;
    sound = kept.sound;
  }

  adopt_commit : KeepsAdoptCommit inputs a harts → KeepsAdoptCommit inputs b harts
  adopt_commit kept = record {
    valid = λ i d lt e. proposed _ (kept.valid i d lt e);
    answered = kept.answered;
    committed = kept.committed;
    convergent = λ same. kept.convergent (λ j k x y. same j k (moves a b alike j x) (moves a b alike k y));
    sound = kept.sound;
  }

keeps : (kind : Kind) (inputs : List ℕ) (a b : List Choice) (harts : List HartValue) → ChooseAlike a b → KeepsRule kind inputs a harts → KeepsRule kind inputs b harts
keeps Swap inputs a b harts alike kept = consensus inputs a b harts alike kept
keeps Add inputs a b harts alike kept = consensus inputs a b harts alike kept
keeps LrSc inputs a b harts alike kept = consensus inputs a b harts alike kept
keeps AdoptCommit inputs a b harts alike kept = adopt_commit inputs a b harts alike kept
keeps Rounds inputs a b harts alike kept = adopt_commit inputs a b harts alike kept

same_bool : (x y : Bool) → (x ≡ true → y ≡ true) → (y ≡ true → x ≡ true) → x ≡ y
same_bool true y f g = sym (f refl)
same_bool false true f g = g refl
same_bool false false f g = refl

-- the same verdict, if the same harts are chosen
pub same_verdict : (kind : Kind) (inputs : List ℕ) (a b : List Choice) (harts : List HartValue) → ChooseAlike a b
    → verdict_of kind inputs a harts ≡ verdict_of kind inputs b harts
same_verdict kind inputs a b harts alike =
    let x = kept-decides kind inputs a harts in
    let y = kept-decides kind inputs b harts in
    ap (λ kept. cond kept verdict.Kept verdict.Broken)
    (same_bool (is_kept kind inputs a harts) (is_kept kind inputs b harts)
    (λ e. y.1 (keeps kind inputs a b harts alike (x.0 e)))
    (λ e. x.1 (keeps kind inputs b a harts (flipped a b alike) (y.0 e))))
