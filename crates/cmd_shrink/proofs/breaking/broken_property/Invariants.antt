use Rattle.std.proofs.Common.{◌≡◌, drop}
use Rattle.cmd_shrink.specs.Failure.{broken_property}
use Rattle.cmd_shrink.proofs.breaking.broken_property.Given as goal

-- the properties that are left decide
abbrev pub invariant-properties : goal.invariant-properties
invariant-properties g l =
    broken_property (drop l.property-index l.properties) l.image l.inputs l.choices
    ≡ broken_property l.properties l.image l.inputs l.choices
