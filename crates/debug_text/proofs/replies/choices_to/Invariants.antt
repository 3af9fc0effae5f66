use Rattle.std.proofs.Common.{◌≡◌, ◌+◌, ◌==◌, drop}
use Rattle.std.specs.List.{position_or_len}
use Rattle.debug_text.proofs.replies.choices_to.Given as goal

-- the choices so far are of other harts
abbrev pub invariant-choices : goal.invariant-choices
invariant-choices g l = record {
  counted : l.count ≡ l.choice-index + 1;
  left : l.choice-index + position_or_len (λ x. x.hart == l.hart) (drop l.choice-index l.left)
      ≡ position_or_len (λ x. x.hart == l.hart) l.left;
}
