-- How a seed draws choices, by texts.
use Rattle.std.specs.Prelude.{◌≡◌, ℕ, ◌<◌, ◌⊎◌, Bool, true, false, List, drop, Option, Some, None, codes, if◌then◌else◌}
use Rattle.std.specs.Borrow.{Bor}
use Rattle.std.specs.Str.{bytes_eq}
use Rattle.std.specs.declared.result.Result.{Result}
use Rattle.std.specs.declared.result.Result.TheVariants.{Ok, Err}
use Rattle.text_items.specs.Numbers.{before_byte, from_byte}
use Rattle.cli_args.specs.Inputs.{input_of}
use Rattle.sched_draw.specs.Limits.{most_depth, most_mean, most_one_in}
use Rattle.sched_draw.specs.Refusing.{IsOneIn}
use Rattle.sched_draw.specs.Schedules.{follows}
use Rattle.sched_draw.specs.declared.change_points.ChangePoints.{ChangePoints}
use Rattle.sched_draw.specs.declared.change_points.ChangePoints.TheVariants.{Anywhere, Within}
use Rattle.sched_draw.specs.declared.order.Order.{Order}
use Rattle.sched_draw.specs.declared.order.Order.TheVariants.{Even, Bursts, Priorities, Mixed}
use Rattle.sched_draw.specs.declared.refusals.Refusals.{Refusals}
use Rattle.sched_draw.specs.declared.refusals.Refusals.TheVariants.{Never}
use Rattle.sched_draw.specs.declared.schedule.Draw.{Draw}
use Rattle.cli_values.specs.declared.draw.DrawFault.{DrawFault}
use Rattle.cli_values.specs.declared.draw.DrawFault.TheVariants as draw
use Rattle.cli_values.specs.declared.draw.OrderFault.{OrderFault}
use Rattle.cli_values.specs.declared.draw.OrderFault.TheVariants.{Unknown, BadMean, BadDepth}

-- the number after a word and a colon, in a text that begins with this word: one or more decimal
-- digits, below 2 ^ 32
abbrev pub named_in : List ℕ → List ℕ → Option ℕ
named_in word text =
    if bytes_eq (before_byte 58 text) word then input_of (drop 1 (from_byte 58 text)) else None

-- the mean of bursts and the depth of priorities in a text
abbrev pub mean_in : List ℕ → Option ℕ
mean_in text = named_in (codes "bursts") text

abbrev pub depth_in : List ℕ → Option ℕ
depth_in text = named_in (codes "priorities") text

-- the order of the harts that a text gives, or why it gives none
abbrev pub OrderSaid : List ℕ → Result Order OrderFault → Type 0
OrderSaid text (Ok Even) = bytes_eq text (codes "even") ≡ true
OrderSaid text (Ok (Bursts mean)) = mean_in text ≡ Some mean.choices
OrderSaid text (Ok (Priorities depth)) = depth_in text ≡ Some depth.number
OrderSaid text (Ok Mixed) = bytes_eq text (codes "mixed") ≡ true
OrderSaid text (Err BadMean) = (n : ℕ) × (mean_in text ≡ Some n) × ((n ≡ 0) ⊎ (most_mean < n))
OrderSaid text (Err BadDepth) = (n : ℕ) × (depth_in text ≡ Some n) × ((n ≡ 0) ⊎ (most_depth < n))
OrderSaid text (Err Unknown) =
    (bytes_eq text (codes "even") ≡ false) × (bytes_eq text (codes "mixed") ≡ false)
    × (mean_in text ≡ None) × (depth_in text ≡ None)

-- the same, and `Even` if there is no text
abbrev pub MeansOrder : Option (Bor (List ℕ)) → Result Order OrderFault → Type 0
MeansOrder None order = order ≡ Ok Even
MeansOrder (Some text) order = OrderSaid text.now order

-- the refusals that a text gives, or that it gives none
abbrev pub RefusalsSaid : List ℕ → Option Refusals → Type 0
RefusalsSaid text None = (bytes_eq text (codes "never") ≡ false)
    × ((named_in (codes "one-in") text ≡ None)
    ⊎ ((n : ℕ) × (named_in (codes "one-in") text ≡ Some n) × ((n ≡ 0) ⊎ (most_one_in < n))))
RefusalsSaid text (Some Never) = bytes_eq text (codes "never") ≡ true
RefusalsSaid text (Some refusals) =
    (n : ℕ) × (named_in (codes "one-in") text ≡ Some n) × IsOneIn n refusals

-- the same, and one in 16 if there is no text
abbrev pub MeansRefusals : Option (Bor (List ℕ)) → Option Refusals → Type 0
MeansRefusals None None = ⊥
MeansRefusals None (Some refusals) = IsOneIn 16 refusals
MeansRefusals (Some text) refusals = RefusalsSaid text.now refusals

-- where change points lie by a text, or that it doesn't say so
abbrev pub PointsSaid : List ℕ → Option ChangePoints → Type 0
PointsSaid text None = (input_of text ≡ None) ⊎ (input_of text ≡ Some 0)
PointsSaid text (Some Anywhere) = ⊥
PointsSaid text (Some (Within first)) = input_of text ≡ Some first.count

-- the same, and anywhere if there is no text
abbrev pub MeansPoints : Option (Bor (List ℕ)) → Option ChangePoints → Type 0
MeansPoints None points = points ≡ Some Anywhere
MeansPoints (Some text) points = PointsSaid text.now points

-- an order has change points, or none are asked for
abbrev pub has_points : Order → ChangePoints → Bool
has_points order Anywhere = true
has_points order (Within first) = follows order

-- how a seed draws, by three texts
abbrev pub IsDraw : Option (Bor (List ℕ)) → Option (Bor (List ℕ)) → Option (Bor (List ℕ)) → Draw → Type 0
IsDraw order refusals within d =
    MeansOrder order (Ok d.order) × MeansRefusals refusals (Some d.refusals)
    × MeansPoints within (Some d.points) × (has_points d.order d.points ≡ true)

-- why three texts give no draw: a fault of the refusals comes first, then one of the order, then the
-- number, and last that there are no change points
abbrev pub IsNoDraw : Option (Bor (List ℕ)) → Option (Bor (List ℕ)) → Option (Bor (List ℕ)) → DrawFault → Type 0
IsNoDraw order refusals within draw.Refusals = MeansRefusals refusals None
IsNoDraw order refusals within (draw.Order fault) =
    ((some : Refusals) × MeansRefusals refusals (Some some)) × MeansOrder order (Err fault)
IsNoDraw order refusals within draw.Within =
    ((some : Refusals) × MeansRefusals refusals (Some some))
    × ((some : Order) × MeansOrder order (Ok some)) × MeansPoints within None
IsNoDraw order refusals within draw.NoPoints =
    ((some : Refusals) × MeansRefusals refusals (Some some))
    × ((some : Order) × (points : ChangePoints) × MeansOrder order (Ok some)
    × MeansPoints within (Some points) × (has_points some points ≡ false))
