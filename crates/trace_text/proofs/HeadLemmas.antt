use Rattle.std.proofs.Common.{◌≡◌, ℕ, ◌+◌, ◌-◌, ◌<◌, ◌≤◌, suc, List, [], ◌∷◌, ◌++◌, decimal, refl, ap, sym, ◌∙◌, rules, arith}
use Rattle.std.proofs.lemmas.Grind.{common_steps}
use Rattle.hart_step.specs.Hart.{Registers}
use Rattle.trace_text.specs.Head.{head_registers}

-- while registers are left, the next stands first
pub registers_more : (x : Registers) (r : ℕ) → r < 32
    → head_registers x r (32 - r) ≡ 44 ∷ (decimal (x r) ++ head_registers x (r + 1) (32 - (r + 1)))
unfolding head_registers
registers_more x r left =
    let e : 32 - r ≡ suc (32 - (r + 1)) = omega arith in
    rw e refl

-- behind the last stands the bracket
pub registers_done : (x : Registers) (r : ℕ) → 32 ≤ r → head_registers x r (32 - r) ≡ 93 ∷ []
unfolding head_registers
registers_done x r none =
    let e : 32 - r ≡ 0 = omega arith in
    rw e refl

-- one register more
pub next_register : (before comma longer all : List ℕ) (x : Registers) (r value : ℕ) → r < 32 → value ≡ x r
    → comma ≡ before ++ 44 ∷ [] → longer ≡ comma ++ decimal value
    → before ++ head_registers x r (32 - r) ≡ all
    → longer ++ head_registers x (r + 1) (32 - (r + 1)) ≡ all
next_register before comma longer all x r value left is_value is_comma is_longer so_far =
    let rest = head_registers x (r + 1) (32 - (r + 1)) in
    let e : ((before ++ 44 ∷ []) ++ decimal value) ++ rest ≡ before ++ 44 ∷ (decimal value ++ rest) = search (rules, common_steps) in
    ap (λ l. l ++ rest) (is_longer ∙ ap (λ l. l ++ decimal value) is_comma)
    ∙ e ∙ ap (λ v. before ++ 44 ∷ (decimal v ++ rest)) is_value
    ∙ ap (λ l. before ++ l) (sym (registers_more x r left)) ∙ so_far
