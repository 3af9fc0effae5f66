use Rattle.std.proofs.Common.{◌+◌, drop, get_or, cond, Some, ap, sym, ◌∙◌, eq-eqb}
use Rattle.std.proofs.lemmas.Bool.{ne_eqb}
use Rattle.std.proofs.lemmas.List.{at_drop_more, at_drop_all}
use Rattle.explore_space.specs.Habits.{owners_in}
use Rattle.explore_space.specs.declared.own_words.OwnWord.{OwnWord}
use Rattle.explore_space.proofs.own_words.owner_of.Goals as goal

pub words-preserved : goal.words-preserved
words-preserved c =
    let ws = c.args.words.now in
    let a = c.args.address in
    let own : OwnWord = get_or ws c.words.own-index (record { word = 0; hart = 0 }) in
    let rest = owners_in (drop (c.words.own-index + 1) ws) a in
    sym (ap (λ b. cond b (Some own.hart) rest) (ne_eqb own.word a c.if-own-address.false))
    ∙ sym (at_drop_more (λ xs. owners_in xs a) ws c.words.own-index (record { word = 0; hart = 0 }) c.words-test.true) ∙ c.words.invariant

pub returns-then-own-address : goal.returns-then-own-address
returns-then-own-address c =
    let ws = c.args.words.now in
    let a = c.args.address in
    let own : OwnWord = get_or ws c.words.own-index (record { word = 0; hart = 0 }) in
    let rest = owners_in (drop (c.words.own-index + 1) ws) a in
    sym (ap (λ b. cond b (Some own.hart) rest) (eq-eqb own.word a c.if-own-address.true))
    ∙ sym (at_drop_more (λ xs. owners_in xs a) ws c.words.own-index (record { word = 0; hart = 0 }) c.words-test.true) ∙ c.words.invariant

pub returns : goal.returns
returns c =
    let ws = c.args.words.now in
    let a = c.args.address in
    sym (at_drop_all (λ xs. owners_in xs a) ws c.words.own-index c.words-test.false) ∙ c.words.invariant
