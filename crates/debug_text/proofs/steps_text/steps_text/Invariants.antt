use Rattle.std.proofs.Common.{◌≡◌, ◌++◌, string_bytes, drop}
use Rattle.std.specs.List.{flat_map}
use Rattle.debug_text.specs.Texts.{step_entry}
use Rattle.debug_text.proofs.steps_text.steps_text.Given as goal

-- the text so far, and then the lines that are left
abbrev pub invariant-views : goal.invariant-views
invariant-views g l = string_bytes l.text ++ flat_map step_entry (drop l.view-index l.views) ≡ flat_map step_entry l.views
