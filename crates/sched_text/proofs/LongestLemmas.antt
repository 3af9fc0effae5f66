-- The longest runs of a list are maximal.
use Rattle.std.proofs.Common.{◌≡◌, ◌≢◌, ℕ, ◌+◌, ◌<◌, ◌≤◌, Bool, true, false, true≢false, List, [], ◌∷◌, refl, sym, subst, ◌∙◌, inl, inr, ⊎_elim, arith, eq-eqb, ltb-true}
use Rattle.std.specs.Prelude.{◌⊎◌, ◌==◌, ◌&&◌, nat_lt, if◌then◌else◌}
use Rattle.std.proofs.lemmas.Bool.{and_from, cases_lt, lt-ltb}
use Rattle.machine.specs.declared.choice.Choice.{Choice}
use Rattle.sched_text.specs.declared.run.Run.{Run}
use Rattle.sched_text.specs.Runs.{choice_run, longest_runs, runs_from, same_choice, same_mark, AreLongest, AreMaximal, EndsBefore}
use Rattle.sched_text.proofs.ExpandLemmas.{longest-counted, longest-expanded}

same_self : (c : Choice) → same_choice c c ≡ true
same_self c = and_from (c.hart == c.hart) (same_mark c.refuse c.refuse) (eq-eqb c.hart c.hart refl) (mark c.refuse)
  where
    mark : (b : Bool) → same_mark b b ≡ true
    mark true = refl
    mark false = refl

differ : (c d : Choice) → same_choice c d ≡ false → c ≢ d
differ c d e same = true≢false (sym (same_self c) ∙ subst (λ (x : Choice). same_choice c x ≡ false) (sym same) e)

full : (n : ℕ) → n ≤ 16777216 → nat_lt n 16777216 ≡ false → n ≡ 16777216
full n high e = ⊎_elim
    (λ (less : n < 16777216). absurd (true≢false (sym (lt-ltb n 16777216 less) ∙ e)))
    (λ (other : 16777216 ≤ n). omega (arith, high, other))
    (cases_lt n 16777216)

-- the first of these runs is of choice d
ends_from : (r : Run) (d : Choice) (m : ℕ) (choices : List Choice) → (r.count ≡ 16777216) ⊎ (r.choice ≢ d) → EndsBefore r (runs_from d m choices)
unfolding runs_from
ends_from r d m [] end = end
ends_from r d m (e ∷ choices) end = by (same_choice d e && nat_lt m 16777216) (ends_from r d (m + 1) choices end)
  where
    by : (b : Bool) → EndsBefore r (runs_from d (m + 1) choices) → EndsBefore r (if b then runs_from d (m + 1) choices else choice_run d m ∷ runs_from e 1 choices)
    by true more = more
    by false more = end

maximal_from : (c : Choice) (n : ℕ) (choices : List Choice) → n ≤ 16777216 → AreMaximal (runs_from c n choices)
unfolding runs_from
maximal_from c n [] high = (tt, tt)
maximal_from c n (d ∷ choices) high =
    by (same_choice c d) refl (nat_lt n 16777216) refl (λ less. maximal_from c (n + 1) choices (omega (arith, less)))
    (maximal_from d 1 choices (omega arith))
  where
    by : (b : Bool) → same_choice c d ≡ b → (k : Bool) → nat_lt n 16777216 ≡ k → (n < 16777216 → AreMaximal (runs_from c (n + 1) choices))
        → AreMaximal (runs_from d 1 choices)
        → AreMaximal (if b && k then runs_from c (n + 1) choices else choice_run c n ∷ runs_from d 1 choices)
    by true e true l more other = more (ltb-true n 16777216 l)
    by true e false l more other = (ends_from (choice_run c n) d 1 choices (inl (full n high l)), other)
    by false e k l more other = (ends_from (choice_run c n) d 1 choices (inr (differ c d e)), other)

pub longest : (choices : List Choice) → AreLongest choices (longest_runs choices)
longest choices = record { stand = longest-expanded choices; counts = longest-counted choices; maximal = maximal choices }
  where
    maximal : (cs : List Choice) → AreMaximal (longest_runs cs)
    maximal [] = tt
    maximal (c ∷ cs) = maximal_from c 1 cs (omega arith)
