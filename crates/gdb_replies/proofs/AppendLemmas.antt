-- Texts that are appended one behind the other.
use Rattle.std.proofs.Common.{◌≡◌, ℕ, List, ◌++◌, ap, ◌∙◌, append_assoc}

regroup_three : (old a b c : List ℕ) → ((old ++ a) ++ b) ++ c ≡ old ++ (a ++ (b ++ c))
regroup_three old a b c = simp append_assoc

regroup_five : (old a b c d e : List ℕ)
    → ((old ++ (a ++ (b ++ c))) ++ d) ++ e ≡ old ++ (a ++ (b ++ (c ++ (d ++ e))))
regroup_five old a b c d e = simp append_assoc

-- three texts
pub appended_three : (old a b c x y new : List ℕ) → x ≡ old ++ a → y ≡ x ++ b → new ≡ y ++ c
    → new ≡ old ++ (a ++ (b ++ c))
appended_three old a b c x y new is_x is_y is_new =
    is_new ∙ ap (λ l. l ++ c) (is_y ∙ ap (λ l. l ++ b) is_x) ∙ regroup_three old a b c

-- five texts
pub appended_five : (old a b c d e x y z w new : List ℕ) → x ≡ old ++ a → y ≡ x ++ b → z ≡ y ++ c
    → w ≡ z ++ d → new ≡ w ++ e → new ≡ old ++ (a ++ (b ++ (c ++ (d ++ e))))
appended_five old a b c d e x y z w new is_x is_y is_z is_w is_new =
    is_new ∙ ap (λ l. l ++ e) (is_w ∙ ap (λ l. l ++ d) (appended_three old a b c x y z is_x is_y is_z))
    ∙ regroup_five old a b c d e
