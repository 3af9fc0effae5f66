use Rattle.std.proofs.Common.{◌≡◌, ◌≢◌, ℕ, List, [], ◌∷◌, ◌++◌, length, get_or, cond, Option, Some, None, ap, sym, ◌∙◌, inl, inr, arith, eq-eqb}
use Rattle.std.proofs.lemmas.Bool.{cases_eq, ne_eqb}
use Rattle.explore_space.specs.Habits.{owners_in}
use Rattle.explore_space.specs.declared.own_words.OwnWord.{OwnWord}
use Rattle.explore_space.proofs.own_words.without.Goals.{then-own-address+in_ok-push, else-own-address}
use Rattle.explore_space.proofs.own_words.without.Goals as goal

-- an entry for another word is added
other_added : (words : List OwnWord) (own : OwnWord) (a : ℕ) → own.word ≢ a → owners_in words a ≡ None → owners_in (words ++ own ∷ []) a ≡ None
other_added [] own a other none = ap (λ b. cond b (Some own.hart) None) (ne_eqb own.word a other)
other_added (first ∷ words) own a other none = elim (cases_eq first.word a) [
  | inl same ↦
      absurd (let some_ : ◌≡◌ {A = Option ℕ} (Some first.hart) None
      = sym (ap (λ b. cond b (Some first.hart) (owners_in words a)) (eq-eqb first.word a same)) ∙ none in cc)
  | inr differs ↦
      let off = ne_eqb first.word a differs in
      ap (λ b. cond b (Some first.hart) (owners_in (words ++ own ∷ []) a)) off
      ∙ other_added words own a other (sym (ap (λ b. cond b (Some first.hart) (owners_in words a)) off) ∙ none)
]

pub words-preserved : goal.words-preserved
words-preserved g c = (
  elim c.if-own-address.branch [
    | then-own-address+in_ok-push w ↦
        let own : OwnWord = get_or c.args.words.now c.words.own-index (record { word = 0; hart = 0 }) in
        ap (λ l. owners_in l.items c.args.address) w.left-is ∙ ap (λ xs. owners_in xs c.args.address) w.in_ok-push.ensures.items
        ∙ other_added c.words.left.items own c.args.address w.if-own-address.true c.words.invariant.0
    | else-own-address w ↦ ap (λ l. owners_in l.items c.args.address) w.left-is ∙ c.words.invariant.0
  ],
  λ none. absurd (let low = c.words-test.true in let nothing = ap length none in omega (arith, low, nothing)),
)
