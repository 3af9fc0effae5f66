-- How often a hart is chosen.
use Rattle.std.proofs.Common.{◌≡◌, ℕ, zero, suc, ◌+◌, ◌==◌, Bool, true, false, List, [], ◌∷◌, ◌++◌, refl, ap, ◌∙◌, arith, eq-eqb, ne_eqb}
use Rattle.std.specs.Prelude.{if◌then◌else◌}
use Rattle.hart_local.specs.LocalRuns.{plain_choices}
use Rattle.machine.specs.Chosen.{own}
use Rattle.machine.specs.declared.choice.Choice.{Choice}

pub own_joined : (a b : List Choice) (h : ℕ) → own (a ++ b) h ≡ own a h + own b h
own_joined [] b h = omega arith
own_joined (c ∷ a) b h = by (c.hart == h) (own_joined a b h)
  where
    by : (t : Bool) → own (a ++ b) h ≡ own a h + own b h
        → (if t then 1 else 0) + own (a ++ b) h ≡ (if t then 1 else 0) + own a h + own b h
    by true e = omega (arith, e)
    by false e = omega (arith, e)

pub one_own : (c : Choice) (rest : List Choice) (h : ℕ) → c.hart ≡ h → own (c ∷ rest) h ≡ 1 + own rest h
one_own c rest h same = ap (λ (t : Bool). (if t then 1 else 0) + own rest h) (eq-eqb c.hart h same)

pub none_own : (c : Choice) (rest : List Choice) (h : ℕ) → (c.hart ≡ h → ⊥) → own (c ∷ rest) h ≡ own rest h
none_own c rest h other = ap (λ (t : Bool). (if t then 1 else 0) + own rest h) (ne_eqb c.hart h other) ∙ omega arith

pub own_plain : (h n : ℕ) → own (plain_choices h n) h ≡ n
own_plain h zero = refl
own_plain h (suc n) =
    let more = own_plain h n in
    one_own (record { hart = h; refuse = false }) (plain_choices h n) h refl ∙ omega (arith, more)

pub other_plain : (k n h : ℕ) → (k ≡ h → ⊥) → own (plain_choices k n) h ≡ 0
other_plain k zero h other = refl
other_plain k (suc n) h other =
    none_own (record { hart = k; refuse = false }) (plain_choices k n) h other ∙ other_plain k n h other
