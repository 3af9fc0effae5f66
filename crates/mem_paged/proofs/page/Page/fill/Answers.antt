use Rattle.std.proofs.Common.{rules, arith, get_or}
use Rattle.mem_paged.proofs.BuildLemmas.{none_put, one_put}
use Rattle.mem_paged.proofs.page.Page.fill.Goals as goal

pub bytes-init : goal.bytes-init
bytes-init c = λ o. none_put c.args.at c.args.first c.args.bytes.now (get_or c.args.self.now.bytes o 0) o

pub bytes-preserved : goal.bytes-preserved
bytes-preserved c =
    one_put c.bytes.self.bytes c.args.self.now.bytes c.args.at c.bytes.k c.args.first c.byte_or_zero.result c.args.bytes.now (search rules)
    (omega (arith, c.requires.room, c.bytes-test.true)) c.byte_or_zero.ensures c.bytes.invariant
