-- Tests of each number below a number.
use Rattle.std.proofs.Common.{◌≡◌, ℕ, suc, ◌+◌, Bool, true, ◌&&◌, refl, ap, ap₂, ◌∙◌, arith}
use Rattle.mem_store.specs.Memory.{all_below}

-- of no number
pub all_none : (test : ℕ → Bool) → all_below 0 test ≡ true
all_none test = refl

-- of one number more
pub all_more : (n : ℕ) (test : ℕ → Bool) → all_below n test ≡ true → test n ≡ true → all_below (n + 1) test ≡ true
all_more n test so_far next =
    let e : n + 1 ≡ suc n = omega arith in ap (λ m. all_below m test) e ∙ ap₂ (λ a b. a && b) so_far next
