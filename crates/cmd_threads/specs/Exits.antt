-- Runs of an object on threads with enough budget.
use Rattle.std.specs.Prelude.{ℕ, ◌<◌, ◌≤◌, length}
use Rattle.std.specs.List.{All}
use Rattle.machine.specs.Chosen.{refusals}
use Rattle.history.specs.History.{expanded}
use Rattle.object_library.specs.Rules.{HasExited, KeepsRule}
use Rattle.object_library.specs.declared.kind.Kind.{Kind}
use Rattle.thread_book.specs.Book.{BookValue, world_of}
use Rattle.cmd_run.specs.Enough.{enough}

-- a budget is at least the bound of each hart of a book, for an object of a kind
abbrev pub IsBudgetEnough : Kind → ℕ → BookValue → Type 0
IsBudgetEnough kind budget b =
    (h : ℕ) → h < length b.inputs → enough kind (length b.inputs) (refusals (expanded b.history) h) ≤ budget

-- each hart of a book has exited, and the rule of a kind is kept
pub record ExitsKept (kind : Kind) (b : BookValue) : Type 0 where
  pub exited : All HasExited (world_of b).harts
  pub kept : KeepsRule kind b.inputs (expanded b.history) (world_of b).harts
