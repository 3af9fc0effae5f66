use Rattle.std.proofs.Common.{◌++◌, append_assoc, ap, codes, map, string_bytes, ◌∙◌}
use Rattle.hart_step.specs.Hart.{hart_of}
use Rattle.campaign_runs.specs.Members.{elements_text, faults_objects}
use Rattle.campaign_runs.proofs.members.push_faults.Goals as goal

-- the member's head, and then the elements
pub returns : goal.returns
returns g c =
    let rest = elements_text (faults_objects (map hart_of c.args.harts.now)) ++ codes "]" in
    c.in_ok-push_fault_elements.ensures ∙ ap (λ text. text ++ rest) c.in_ok-push_str.ensures.bytes
    ∙ append_assoc (string_bytes c.args.text.now) (codes ",\"faults\":[") rest
