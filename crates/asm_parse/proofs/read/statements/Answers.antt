use Rattle.std.proofs.Common.{arith}
use Rattle.std.proofs.lemmas.Result.{err_from_is_err_and}
use Rattle.asm_parse.proofs.Sources.{source_refused}
use Rattle.asm_parse.proofs.read.statements.Goals as goal

pub returns-in_err-push_source : goal.returns-in_err-push_source
returns-in_err-push_source g c =
    let p = err_from_is_err_and c.from_residual.result c.from_residual.ensures.1 in
    rw (p.1, p.2) (source_refused c.in_err-push_source.field-0.0 c.sources.statements.items c.args.sources.now c.sources.source _ _ (omega arith) c.in_err-push_source.ensures c.sources.invariant)
