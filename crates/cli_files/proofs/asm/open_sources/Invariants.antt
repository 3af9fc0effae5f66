use Rattle.std.proofs.Common.{◌≡◌, ◌-◌, ◌^◌, ◌<◌, All, length, map}
use Rattle.cli_files.proofs.asm.open_sources.Given as goal

-- no source has failed yet, and there is one for each path so far
abbrev pub invariant-paths : goal.invariant-paths
invariant-paths g l = All (λ n. n < 2 ^ 64 - 1) (map (λ s. s.failures) l.sources.items) × (length l.sources.items ≡ l.path-index)
