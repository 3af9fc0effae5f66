use Rattle.std.proofs.Common.{◌≡◌, ◌++◌, drop, map, string_bytes}
use Rattle.hart_step.specs.Hart.{hart_of}
use Rattle.campaign_runs.specs.Elements.{elements_after}
use Rattle.campaign_runs.specs.Members.{elements_text, results_objects}
use Rattle.campaign_runs.proofs.members.push_result_elements.Given as goal

-- the text so far, and then the results that are left
abbrev pub invariant-loop-number : goal.invariant-loop-number
invariant-loop-number g l =
    string_bytes l.text ++ elements_after l.before (results_objects l.number (map hart_of (drop l.number l.harts)))
    ≡ string_bytes l.initial.text ++ elements_text (results_objects 0 (map hart_of l.harts))
