-- The logs of harts, one after another, and segments that are referred to.
use Rattle.std.specs.Prelude.{List, map}
use Rattle.std.specs.Borrow.{Bor}
use Rattle.bank_laws.specs.Segments.{LoggedSegment}

-- the segments of each log
abbrev pub segment_logs : List (Bor (List LoggedSegment)) → List (List LoggedSegment)
segment_logs logs = map (λ log. log.now) logs

-- the segments that are referred to
abbrev pub borrowed_segments : List (Bor LoggedSegment) → List LoggedSegment
borrowed_segments segments = map (λ e. e.now) segments
