use Rattle.std.proofs.Common.{◌≡◌, ◌-◌, ◌≤◌, true, length, drop, map, string_bytes}
use Rattle.std.specs.List.{list_all}
use Rattle.std.specs.Str.{is_utf8}
use Rattle.cmd_asm.specs.Sources.{all_known}
use Rattle.cmd_asm.proofs.SourcesLemmas.{ReadSoFar}
use Rattle.cmd_asm.proofs.sources.read_sources.Given as goal

abbrev pub invariant-sources : goal.invariant-sources
invariant-sources g l =
    (l.place ≤ length l.initial.sources)
    × (length l.sources ≡ length l.initial.sources)
    × (map g.S.Source.failures l.sources ≡ map g.S.Source.failures l.initial.sources)
    × ReadSoFar (all_known (map g.S.Source.left l.initial.sources)) (map string_bytes l.texts.items)
    (all_known (map g.S.Source.left (drop l.place l.sources)))
    × (list_all is_utf8 (map string_bytes l.texts.items) ≡ true)
    × (length l.texts.items ≡ l.place)

abbrev pub decreases-sources : goal.decreases-sources
decreases-sources g l = length l.initial.sources - l.place
