-- Choices without draws are of harts that exist.
use Rattle.std.proofs.Common.{◌≡◌, ℕ, zero, suc, ◌+◌, ◌%◌, ◌<◌, refl, map, mod-lt}
use Rattle.std.proofs.lemmas.List.Elements.{All-nil, All-cons}
use Rattle.std.specs.List.{All, range_with_len}
use Rattle.machine.specs.declared.choice.Choice.{Choice}
use Rattle.sched_draw.specs.Turns.{plain_choice, turns_from, alone_from}

-- a choice of a step, for each step
each-within : (n : ℕ) (P : ℕ → ℕ) (some : (i : ℕ) → P i < n) (step steps : ℕ)
    → All (λ c. c.hart < n) (map (λ i. plain_choice (P i)) (range_with_len step steps))
each-within n P some step zero = All-nil (λ (c : Choice). c.hart < n)
each-within n P some step (suc steps) =
    All-cons (λ (c : Choice). c.hart < n) (plain_choice (P step)) (map (λ i. plain_choice (P i)) (range_with_len (step + 1) steps)) (some step)
    (each-within n P some (step + 1) steps)

pub turns-within : (n step steps : ℕ) → 0 < n → All (λ c. c.hart < n) (turns_from step n steps)
turns-within n step steps some = each-within n (λ i. i % n) (λ i. mod-lt i some) step steps

pub alone-within : (n hart step steps : ℕ) → hart < n → All (λ c. c.hart < n) (alone_from step hart steps)
alone-within n hart step steps there = each-within n (λ i. hart) (λ i. there) step steps

-- one hart alone takes each step
pub alone-named : (hart step steps : ℕ) → All (λ c. c.hart ≡ hart) (alone_from step hart steps)
alone-named hart step zero = All-nil (λ (c : Choice). c.hart ≡ hart)
alone-named hart step (suc steps) =
    All-cons (λ (c : Choice). c.hart ≡ hart) (plain_choice hart) (alone_from (step + 1) hart steps) refl
    (alone-named hart (step + 1) steps)
