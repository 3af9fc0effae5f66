-- What an image tells of a hart's next step.
use Rattle.std.specs.Prelude.{◌≡◌, ◌%◌, true, Some, None}
use Rattle.std.specs.Option.{is_some}
use Rattle.mem_store.specs.Memory.{Memory}
use Rattle.hart_step.specs.Hart.{HartValue}
use Rattle.bank_step.specs.Told.{as_touch}
use Rattle.explore_sites.specs.Own.{code_ahead, touch_ahead}
use Rattle.explore_sites.specs.declared.touch.NextTouch.{NextTouch}
use Rattle.explore_sites.specs.declared.touch.NextTouch.TheVariants.{Unknown, Nothing, Word}

-- some word must be read to know the hart's instruction; or none must, and the hart's next step
-- touches nothing, or this word
abbrev pub TellsTouch : Memory → HartValue → NextTouch → Type 0
TellsTouch m v Unknown = is_some (code_ahead m v) ≡ true
TellsTouch m v Nothing = (code_ahead m v ≡ None) × (touch_ahead m v ≡ None)
TellsTouch m v (Word t) =
    (code_ahead m v ≡ None) × (touch_ahead m v ≡ Some (as_touch t)) × (t.word % 4 ≡ 0)
