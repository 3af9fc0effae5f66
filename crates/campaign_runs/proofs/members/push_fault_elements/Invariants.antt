use Rattle.std.proofs.Common.{◌≡◌, ◌++◌, drop, map, string_bytes}
use Rattle.hart_step.specs.Hart.{hart_of}
use Rattle.campaign_runs.specs.Elements.{elements_after}
use Rattle.campaign_runs.specs.Members.{elements_text, faults_objects}
use Rattle.campaign_runs.proofs.members.push_fault_elements.Given as goal

-- the text so far, and then the faults that are left
abbrev pub invariant-harts : goal.invariant-harts
invariant-harts g l =
    string_bytes l.text ++ elements_after l.before (faults_objects (map hart_of (drop l.hart-index l.harts)))
    ≡ string_bytes l.initial.text ++ elements_text (faults_objects (map hart_of l.harts))
