-- Drawn choices with refusals, one more at a time.
use Rattle.std.proofs.Common.{◌≡◌, ℕ, zero, suc, ◌+◌, ◌/◌, ◌%◌, ◌==◌, ◌<◌, Bool, true, false, ◌∷◌, refl, arith, ap, ap₂, sym, subst, mod-lt, ◌∙◌}
use Rattle.std.proofs.lemmas.Bool.{eq-eqb}
use Rattle.std.proofs.lemmas.List.Elements.{All-nil, All-cons}
use Rattle.std.specs.List.{All}
use Rattle.machine.specs.declared.choice.Choice.{Choice}
use Rattle.rand_pcg.specs.Lcg.{Lcg}
use Rattle.rand_pcg.specs.Pcg.{pcg32}
use Rattle.rand_core.specs.Steps.{first_words}
use Rattle.sched_draw.specs.Seeds as plain
use Rattle.sched_draw.specs.NoSteps.{no_even, no_usual}
use Rattle.sched_draw.proofs.SeedLemmas as plain_drawn
use Rattle.sched_draw.specs.Refusing.{is_refused, IsOneIn, choice_of_word, even_choices_drawn, even_choices}
use Rattle.sched_draw.specs.declared.refusals.Refusals.{Refusals}
use Rattle.sched_draw.specs.declared.refusals.Refusals.TheVariants.{Never, OneIn}

drawn-suc : (refusals : Refusals) (harts n : ℕ) (g : Lcg)
    → even_choices_drawn refusals harts (suc n) g ≡ choice_of_word refusals harts (pcg32 g).0 ∷ even_choices_drawn refusals harts n (pcg32 g).1
unfolding even_choices_drawn first_words
drawn-suc refusals harts n g = refl

-- a word draws the next choice
pub drawn-next : (refusals : Refusals) (harts n : ℕ) (g h : Lcg) (word : ℕ) (c : Choice) → (word, h) ≡ pcg32 g
    → c ≡ choice_of_word refusals harts word
    → even_choices_drawn refusals harts (n + 1) g ≡ c ∷ even_choices_drawn refusals harts n h
drawn-next refusals harts n g h word c took choice =
    let s : n + 1 ≡ suc n = omega arith in
    ap (λ k. even_choices_drawn refusals harts k g) s ∙ drawn-suc refusals harts n g
    ∙ ap₂ (λ d i. d ∷ even_choices_drawn refusals harts n i) (ap (λ p. choice_of_word refusals harts p.0) (sym took) ∙ sym choice)
    (ap (λ p. p.1) (sym took))

-- ---- what is true of each word's choice is true of all choices
all-drawn : (P : Choice → Type 0) (refusals : Refusals) (harts : ℕ) → ((word : ℕ) → P (choice_of_word refusals harts word))
    → (steps : ℕ) (g : Lcg) → All P (even_choices_drawn refusals harts steps g)
all-drawn P refusals harts each zero g = subst (All P) (sym (no_even refusals harts g)) (All-nil P)
all-drawn P refusals harts each (suc steps) g =
    subst (All P) (sym (drawn-suc refusals harts steps g))
    (All-cons P (choice_of_word refusals harts (pcg32 g).0) (even_choices_drawn refusals harts steps (pcg32 g).1) (each (pcg32 g).0)
    (all-drawn P refusals harts each steps (pcg32 g).1))

word-within : (refusals : Refusals) (harts word : ℕ) → 0 < harts → (choice_of_word refusals harts word).hart < harts
unfolding choice_of_word
word-within refusals harts word some = mod-lt word some

pub drawn-within : (refusals : Refusals) (harts steps : ℕ) (g : Lcg) → 0 < harts → All (λ c. c.hart < harts) (even_choices_drawn refusals harts steps g)
drawn-within refusals harts steps g some =
    all-drawn (λ c. c.hart < harts) refusals harts (λ word. word-within refusals harts word some) steps g

pub even-within : (refusals : Refusals) (harts steps seed : ℕ) → 0 < harts → All (λ c. c.hart < harts) (even_choices refusals harts steps seed)
even-within refusals harts steps seed some = drawn-within refusals harts steps (plain.generator_of seed) some

-- ---- the usual refusals
pub usual-word : (refusals : Refusals) (word : ℕ) → IsOneIn 16 refusals → is_refused refusals word ≡ (word / 65536 % 16 == 0)
unfolding is_refused
usual-word Never word usual = absurd usual
usual-word (OneIn chance) word usual = ap (λ n. word / 65536 % n == 0) usual

usual-choice : (refusals : Refusals) (harts word : ℕ) → IsOneIn 16 refusals → choice_of_word refusals harts word ≡ plain.usual_choice_of_word harts word
unfolding choice_of_word plain.usual_choice_of_word
usual-choice refusals harts word usual =
    ap {A = Bool} {B = Choice} (λ b. record { hart = word % harts; refuse = b }) (usual-word refusals word usual)

usual-drawn : (refusals : Refusals) (harts steps : ℕ) (g : Lcg) → IsOneIn 16 refusals
    → even_choices_drawn refusals harts steps g ≡ plain.usual_choices_drawn harts steps g
usual-drawn refusals harts zero g usual = no_even refusals harts g ∙ sym (no_usual harts g)
usual-drawn refusals harts (suc steps) g usual =
    drawn-suc refusals harts steps g
    ∙ ap₂ (λ c cs. c ∷ cs) (usual-choice refusals harts (pcg32 g).0 usual) (usual-drawn refusals harts steps (pcg32 g).1 usual)
    ∙ sym (plain_drawn.drawn-suc harts steps g)

pub usual-choices : (refusals : Refusals) (harts steps seed : ℕ) → IsOneIn 16 refusals
    → even_choices refusals harts steps seed ≡ plain.seeded_choices harts steps seed
usual-choices refusals harts steps seed usual = usual-drawn refusals harts steps (plain.generator_of seed) usual

-- ---- never, and each time
pub never-word : (word : ℕ) → is_refused Never word ≡ false
unfolding is_refused
never-word word = refl

never-choice : (harts word : ℕ) → (choice_of_word Never harts word).refuse ≡ false
unfolding choice_of_word
never-choice harts word = never-word word

pub never-choices : (harts steps seed : ℕ) → All (λ c. c.refuse ≡ false) (even_choices Never harts steps seed)
never-choices harts steps seed =
    all-drawn (λ c. c.refuse ≡ false) Never harts (never-choice harts) steps (plain.generator_of seed)

mod-1 : (n : ℕ) → n % 1 ≡ 0
mod-1 n = let below : n % 1 < 1 = mod-lt n (omega arith) in omega (arith, below)

pub each-word : (refusals : Refusals) (word : ℕ) → IsOneIn 1 refusals → is_refused refusals word ≡ true
unfolding is_refused
each-word Never word each = absurd each
each-word (OneIn chance) word each =
    ap (λ n. word / 65536 % n == 0) each ∙ eq-eqb (word / 65536 % 1) 0 (mod-1 (word / 65536))

each-choice : (refusals : Refusals) (harts word : ℕ) → IsOneIn 1 refusals → (choice_of_word refusals harts word).refuse ≡ true
unfolding choice_of_word
each-choice refusals harts word each = each-word refusals word each

pub each-choices : (refusals : Refusals) (harts steps seed : ℕ) → IsOneIn 1 refusals
    → All (λ c. c.refuse ≡ true) (even_choices refusals harts steps seed)
each-choices refusals harts steps seed each =
    all-drawn (λ c. c.refuse ≡ true) refusals harts (λ word. each-choice refusals harts word each) steps (plain.generator_of seed)
