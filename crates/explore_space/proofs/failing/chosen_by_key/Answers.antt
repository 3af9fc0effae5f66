use Rattle.std.proofs.Common.{ℕ, cond, eqb, Bool, true, refl, ap, sym, ◌∙◌, arith}
use Rattle.std.proofs.lemmas.Bool.{le-ltb}
use Rattle.std.specs.List.{slice_index}
use Rattle.sched_run.specs.Chosen.{harts_of}
use Rattle.sched_run.specs.declared.chosen.Chosen.{Chosen}
use Rattle.explore_space.specs.Places.{chosen_worded}
use Rattle.explore_space.proofs.MarkLemmas.{mark_more, mark_none}
use Rattle.explore_space.proofs.failing.chosen_by_key.Goals.{then-is_chosen_word, else-is_chosen_word}
use Rattle.explore_space.proofs.failing.chosen_by_key.Goals as goal

pub harts-init : goal.harts-init
harts-init c j = ap (λ (f : ℕ → Bool). f j) c.new-chosen.ensures ∙ sym (rw (le-ltb j 0 (omega arith)) refl)

pub harts-preserved : goal.harts-preserved
harts-preserved c j = elim c.if-is_chosen_word.branch [
  | then-is_chosen_word w ↦
      ap (λ (x : Chosen). harts_of x j) w.chosen-is ∙ ap (λ (f : ℕ → Bool). f j) w.add.ensures
      ∙ ap (λ b. cond (eqb j c.harts.k) true b) (c.harts.invariant j)
      ∙ mark_more (λ i. chosen_worded (slice_index c.args.key.now i)) c.harts.k j (sym c.is_chosen_word.ensures ∙ w.if-is_chosen_word.true)
  | else-is_chosen_word w ↦
      ap (λ (x : Chosen). harts_of x j) w.chosen-is ∙ c.harts.invariant j
      ∙ mark_none (λ i. chosen_worded (slice_index c.args.key.now i)) c.harts.k j (sym c.is_chosen_word.ensures ∙ w.if-is_chosen_word.false)
]
