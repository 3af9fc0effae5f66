use Rattle.std.proofs.Common.{rules}
use Rattle.hart_local.proofs.CodeLemmas.{made_of_code, refused_for_memory}
use Rattle.hart_local.proofs.image_code.code_image.Goals as goal
use Rattle.hart_local.proofs.image_code.code_image.Goals.{in-Memory, in_default}

pub prove-unreachable-requires : goal.prove-unreachable-requires
prove-unreachable-requires g c = elim c.match-matches.branch [
  | in-Memory w ↦ absurd (let e = w.matches-is in let f = c.if-prove.true in search rules)
  | in_default w ↦ w.in_default.not-Memory
      (refused_for_memory _ _ _ _ c.in_ok-copies.ensures.sound c.in_ok-copies.ensures.rights c.in_ok-copies.ensures.copied (rw c.entry.ensures at c.in-Err.ensures))
]

pub returns-in-Ok-clause-segments : goal.returns-in-Ok-clause-segments
returns-in-Ok-clause-segments g c =
    made_of_code _ _ _ _ c.in_ok-copies.ensures.sound c.in_ok-copies.ensures.rights c.in_ok-copies.ensures.copied (rw c.entry.ensures at c.in-Ok.ensures)
