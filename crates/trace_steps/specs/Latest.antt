-- The word that each hart reserved last.
use Rattle.std.specs.Prelude.{ℕ, slice_index}
use Rattle.trace_steps.specs.declared.latest.Latest.{Latest}

-- the word that each hart reserved last
abbrev pub latest_words : Latest → ℕ → ℕ
latest_words l = slice_index l.words
