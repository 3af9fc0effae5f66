use Rattle.std.proofs.Common.{refl, ◌∙◌}
use Rattle.explore_space.proofs.KeepLemmas.{keeps_all, keeps_new, keeps_old}
use Rattle.explore_space.proofs.memo.Memo.keep.Goals as goal

pub returns-in_err-at : goal.returns-in_err-at
returns-in_err-at g c =
    keeps_all c.args.self.now.keys c.args.self.now.answers _ c.args.key.now c.args.answer.now c.in_err-at.ensures.err

pub returns-in_err-push : goal.returns-in_err-push
returns-in_err-push g c =
    keeps_old c.args.self.now.keys c.args.self.now.answers c.add.new.self _ c.in_ok-at.at c.args.key.now c.args.answer.now
    c.args.self.now.even c.in_ok-at.ensures.number
    c.in_err-push.ensures.unchanged

pub returns-in_ok-push : goal.returns-in_ok-push
returns-in_ok-push g c =
    keeps_new c.args.self.now.keys c.args.self.now.answers c.add.new.self _ c.in_ok-at.at c.args.key.now c.args.answer.now
    c.args.self.now.even c.in_ok-at.ensures.number
    (c.if-at-len.true ∙ c.len.ensures) c.in_ok-push.ensures.pushed

pub returns-else-at-len : goal.returns-else-at-len
returns-else-at-len g c =
    keeps_old c.args.self.now.keys c.args.self.now.answers c.add.new.self _ c.in_ok-at.at c.args.key.now c.args.answer.now
    c.args.self.now.even c.in_ok-at.ensures.number
    refl
