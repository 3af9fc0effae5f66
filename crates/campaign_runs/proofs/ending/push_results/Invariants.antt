use Rattle.std.proofs.Common.{◌≡◌, ◌++◌, drop, map, string_bytes}
use Rattle.hart_step.specs.Hart.{hart_of}
use Rattle.campaign_runs.specs.Ending.{results_from}
use Rattle.campaign_runs.proofs.ending.push_results.Given as goal

-- the text so far, and then the words of the harts that are left
abbrev pub invariant-loop-number : goal.invariant-loop-number
invariant-loop-number g l =
    string_bytes l.text ++ results_from l.number (map hart_of (drop l.number l.harts))
    ≡ string_bytes l.initial.text ++ results_from 0 (map hart_of l.harts)
