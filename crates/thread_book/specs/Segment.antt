-- A segment as contracts see it.
use Rattle.std.specs.Prelude.{ℕ, Bool, List}
use Rattle.image.specs.Segment.{SegmentValue}
use Rattle.hart_step.specs.declared.hart.Hart.{Hart}

-- a hart, the slot and the code that it began with, the number of its local steps, the hart after
-- them, and whether a store-conditional of the step after them fails
pub record SegmentState : Type 0 where
  pub hart : ℕ
  pub slot : Hart
  pub code : List SegmentValue
  pub local : ℕ
  pub reached : Hart
  pub refuse : Bool
