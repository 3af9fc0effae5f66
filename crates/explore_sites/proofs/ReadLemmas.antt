-- The word that a load reads.
use Rattle.std.proofs.Common.{◌≡◌, ◌≢◌, ℕ, ◌+◌, ◌%◌, true, Option, refl, ap, ◌∙◌, eq-eqb}
use Rattle.std.proofs.lemmas.Bool.{ne_eqb}
use Rattle.mem_store.specs.Memory.{Memory, all_below, grants, granted, number_at, to_load}
use Rattle.property_judge.specs.Property.{word_read}

-- none where the address is misaligned
pub misaligned_word : (m : Memory) (a : ℕ) → a % 4 ≢ 0 → word_read m a ≡ 0
misaligned_word m a off = rw (ne_eqb (a % 4) 0 off) refl

-- the one that is there, where each byte may be loaded
pub some_word : (m image : Memory) (a : ℕ) → m.rights ≡ image.rights → a % 4 ≡ 0 → granted to_load image 4 a ≡ true
    → word_read m a ≡ number_at m.bytes 4 a
some_word m image a same aligned may =
    rw (eq-eqb (a % 4) 0 aligned)
    (rw (ap (λ (r : ℕ → Option ℕ). all_below 4 (λ k. grants to_load (r (a + k)))) same ∙ may) refl)
