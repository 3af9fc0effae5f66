use Rattle.std.proofs.Common.{◌≡◌, ◌++◌, drop, map}
use Rattle.trace_text.specs.Composites.{more_elements}
use Rattle.cmd_properties.specs.Objects.{judged_object}
use Rattle.cmd_properties.proofs.objects.push_more_judged.Given as goal

-- the text so far, and then the properties that are left
abbrev pub invariant-properties : goal.invariant-properties
invariant-properties g l = l.out.items ++ more_elements (map judged_object (drop l.each-index l.judged))
    ≡ l.initial.out.items ++ more_elements (map judged_object l.judged)
