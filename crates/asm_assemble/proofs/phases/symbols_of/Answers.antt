use Rattle.std.proofs.Common.{◌+◌, ◌^◌, arith}
use Rattle.asm_assemble.proofs.Within.{within_more}
use Rattle.asm_assemble.proofs.PlacingLemmas.{gives_placed}
use Rattle.asm_assemble.proofs.phases.symbols_of.Goals as goal

pub heavy_of-heavy-requires-clause-start_small : goal.heavy_of-heavy-requires-clause-start_small
heavy_of-heavy-requires-clause-start_small g c = within_more (2 ^ 62 + 2 ^ 60) (2 ^ 63) c.args.start c.requires.start_small (omega arith)

pub heavy_of-heavy-requires-clause-end_small : goal.heavy_of-heavy-requires-clause-end_small
heavy_of-heavy-requires-clause-end_small g c = c.requires.end_small

pub place-requires : goal.place-requires
place-requires g c = within_more (2 ^ 62 + 2 ^ 60) (2 ^ 63) c.args.start c.requires.start_small (omega arith)

pub returns : goal.returns
returns g c = gives_placed _ c.place.result _ _ _ _ c.args.start c.args.statements.now c.in_ok-globals.ensures c.heavy_of-heavy.ensures c.place.ensures
