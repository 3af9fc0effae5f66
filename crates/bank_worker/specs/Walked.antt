-- A hart that has walked ahead of its log.
use Rattle.std.specs.Prelude.{◌≡◌}
use Rattle.image.specs.Image.{ImageValue}
use Rattle.hart_step.specs.Hart.{hart_of}
use Rattle.bank_laws.specs.HartLogs.{local_hart}
use Rattle.bank_hart_log.specs.HartLog.{HartLogValue, StepsAreLocal, image_table, last_segment_stamp, logged_slot}
use Rattle.bank_worker.specs.declared.step.NextSegment.{NextSegment}
use Rattle.bank_worker.specs.declared.step.Walked.{Walked}

-- a segment is of the log's hart, whose last stamp is the log's
pub record IsNextOf (l : HartLogValue) (n : NextSegment) : Type 0 where
  pub number : n.hart ≡ l.hart
  pub stamp : n.last_stamp ≡ last_segment_stamp l.log

-- the steps walked ahead are local steps of the log's hart, whose last stamp is the log's
pub record IsWalked (image : ImageValue) (l : HartLogValue) (w : Walked) : Type 0 where
  pub same_image : l.image ≡ image
  pub number : w.next.hart ≡ l.hart
  pub local : StepsAreLocal l.image w.next.local (logged_slot l).hart
  pub reached : hart_of w.slot.hart ≡ local_hart (image_table l.image) w.next.local (logged_slot l).hart
  pub named : w.slot.named ≡ (logged_slot l).named
  pub stamp : w.next.last_stamp ≡ last_segment_stamp l.log
