-- The choices of a plain seed, one more at a time.
use Rattle.std.proofs.Common.{◌≡◌, ℕ, suc, ◌+◌, ◌<◌, ◌∷◌, refl, arith, ap, ap₂, sym, mod-lt, ◌∙◌}
use Rattle.std.proofs.lemmas.List.Elements.{All-map}
use Rattle.std.specs.List.{All}
use Rattle.machine.specs.declared.choice.Choice.{Choice}
use Rattle.rand_pcg.specs.Lcg.{Lcg}
use Rattle.rand_pcg.specs.Pcg.{pcg32}
use Rattle.rand_core.specs.Steps.{first_words}
use Rattle.sched_draw.specs.Seeds.{usual_choice_of_word, usual_choices_drawn}

pub drawn-suc : (harts n : ℕ) (g : Lcg)
    → usual_choices_drawn harts (suc n) g ≡ usual_choice_of_word harts (pcg32 g).0 ∷ usual_choices_drawn harts n (pcg32 g).1
unfolding usual_choices_drawn first_words
drawn-suc harts n g = refl

-- a word draws the next choice
pub drawn-next : (harts n : ℕ) (g h : Lcg) (word : ℕ) (c : Choice) → (word, h) ≡ pcg32 g → c ≡ usual_choice_of_word harts word
    → usual_choices_drawn harts (n + 1) g ≡ c ∷ usual_choices_drawn harts n h
drawn-next harts n g h word c took choice =
    let s : n + 1 ≡ suc n = omega arith in
    ap (λ k. usual_choices_drawn harts k g) s ∙ drawn-suc harts n g
    ∙ ap₂ (λ d i. d ∷ usual_choices_drawn harts n i) (ap (λ p. usual_choice_of_word harts p.0) (sym took) ∙ sym choice) (ap (λ p. p.1) (sym took))

word-within : (harts word : ℕ) → 0 < harts → (usual_choice_of_word harts word).hart < harts
unfolding usual_choice_of_word
word-within harts word some = mod-lt word some

-- each choice is of a hart that exists
pub usual-within : (harts steps : ℕ) (g : Lcg) → 0 < harts → All (λ c. c.hart < harts) (usual_choices_drawn harts steps g)
unfolding usual_choices_drawn
usual-within harts steps g some =
    All-map (λ (c : Choice). c.hart < harts) (usual_choice_of_word harts) (first_words pcg32 steps g) (λ i word below. word-within harts _ some)
