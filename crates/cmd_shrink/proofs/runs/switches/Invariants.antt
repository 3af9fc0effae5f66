use Rattle.std.proofs.Common.{◌≡◌, ◌+◌, ◌-◌, ◌<◌, drop}
use Rattle.cmd_shrink.specs.Switches.{switches}
use Rattle.cmd_shrink.proofs.runs.switches.Given as goal

-- those so far, and those that are left
abbrev pub invariant-choices : goal.invariant-choices
invariant-choices l = record {
  few : l.count < l.at;
  all : l.count + switches (drop (l.at - 1) l.choices) ≡ switches l.choices;
}
