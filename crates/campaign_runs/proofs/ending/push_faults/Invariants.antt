use Rattle.std.proofs.Common.{◌≡◌, ◌++◌, drop, map, string_bytes}
use Rattle.hart_step.specs.Hart.{hart_of}
use Rattle.campaign_runs.specs.Ending.{faults_of}
use Rattle.campaign_runs.proofs.ending.push_faults.Given as goal

-- the text so far, and then the words of the harts that are left
abbrev pub invariant-harts : goal.invariant-harts
invariant-harts g l = string_bytes l.text ++ faults_of (map hart_of (drop l.hart-index l.harts))
    ≡ string_bytes l.initial.text ++ faults_of (map hart_of l.harts)
