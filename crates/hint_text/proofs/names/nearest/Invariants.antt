use Rattle.std.proofs.Common.{◌≡◌, None, drop, map}
use Rattle.std.specs.Option.{option_map}
use Rattle.hint_text.specs.Nearest.{nearest_below}
use Rattle.hint_text.proofs.names.nearest.Given as goal

-- the best so far, and the names that are left
abbrev pub invariant-names : goal.invariant-names
invariant-names g l =
    nearest_below l.text (option_map (λ name. name.now) l.best) l.least (map (λ name. name.now) (drop l.name-index l.names))
    ≡ nearest_below l.text None l.bound (map (λ name. name.now) l.names)
