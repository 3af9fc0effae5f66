use Rattle.std.proofs.Common.{◌≡◌, ◌++◌, drop, map}
use Rattle.trace_text.specs.Composites.{more_elements}
use Rattle.trace_text.specs.Head.{hart_object, symbol_object, then_of}
use Rattle.trace_text.proofs.harts.push_more_harts.Given as goal

-- the text so far, and then the harts that are left
abbrev pub invariant-harts : goal.invariant-harts
invariant-harts g l = l.out.items ++ more_elements (map hart_object (map then_of (drop l.hart-index l.harts))) ≡ l.initial.out.items ++ more_elements (map hart_object (map then_of l.harts))
