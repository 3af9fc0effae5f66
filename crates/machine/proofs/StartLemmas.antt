-- The registers of a hart that starts.
use Rattle.std.proofs.Common.{◌≡◌, ◌≢◌, ℕ, ◌<◌, zero, suc, lit<, eq-eqb, ap, List, get_or, set, replicate, length, eqb, cond, arith, refl, ◌∙◌, ◌⊎◌, inl, inr}
use Rattle.std.proofs.lemmas.Bool.{ne_eqb}
use Rattle.std.proofs.lemmas.Bool.Decides.{nat_tests}
use Rattle.std.proofs.lemmas.List.{get_or-set_same, get_or-set_other}
use Rattle.hart_step.specs.Hart.{registers_of}
use Rattle.machine.specs.Start.{first_registers}

-- zeros, and zeros past them
no_value : (k r : ℕ) → get_or {A = ℕ} (replicate k 0) r 0 ≡ 0
no_value zero r = refl
no_value (suc k) zero = refl
no_value (suc k) (suc r) = no_value k r

-- the array that a hart starts with
abbrev pub first_array : ℕ → ℕ → ℕ → List ℕ
first_array h input n = set (set (set (replicate 32 0) 10 h) 11 input) 12 n

same_or_not : (k h : ℕ) → (k ≡ h) ⊎ (k ≢ h)
same_or_not k h = grind arith

-- a place that was written, or another
at_set : (xs : List ℕ) (i v r : ℕ) → i < length xs → get_or (set xs i v) r 0 ≡ cond (eqb r i) v (get_or xs r 0)
at_set xs i v r inside = elim (same_or_not r i) [
  | inl same ↦ rw (eq-eqb r i same) (rw same (get_or-set_same xs i v 0 inside))
  | inr other ↦ rw (ne_eqb r i other) (get_or-set_other xs i r v 0 other)
]

-- the three places in either order
in_order : (r a b c : ℕ) → cond (eqb r 12) c (cond (eqb r 11) b (cond (eqb r 10) a 0))
    ≡ cond (eqb r 10) a (cond (eqb r 11) b (cond (eqb r 12) c 0))
in_order r a b c = grind (arith, nat_tests)

first_at : (h input n r : ℕ) → get_or (first_array h input n) r 0 ≡ first_registers h input n r
first_at h input n r =
    at_set (set (set (replicate 32 0) 10 h) 11 input) 12 n r (lit< tt)
    ∙ ap (λ (x : ℕ). cond (eqb r 12) n x) (at_set (set (replicate 32 0) 10 h) 11 input r (lit< tt)
    ∙ ap (λ (x : ℕ). cond (eqb r 11) input x) (at_set (replicate 32 0) 10 h r (lit< tt)
    ∙ ap (λ (x : ℕ). cond (eqb r 10) h x) (no_value 32 r)))
    ∙ in_order r h input n

pub registers_of-first : (h input n : ℕ) → registers_of (first_array h input n) ≡ first_registers h input n
registers_of-first h input n = λ i r. first_at h input n r i
