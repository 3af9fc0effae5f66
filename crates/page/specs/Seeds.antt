-- The draws, choices and campaigns that the numbers of a call ask for.
use Rattle.std.specs.Prelude.{◌≡◌, ℕ, ◌+◌, ◌^◌, ◌<◌, ◌≤◌, ◌⊎◌, Option, Some, None}
use Rattle.cmd_schedule.specs.declared.plan.SeedPlan.{SeedPlan}
use Rattle.campaign_runs.specs.Properties.{no_properties}
use Rattle.campaign_runs.specs.Words.{no_named_words}
use Rattle.run_hangs.specs.declared.asked.Hangs.TheVariants.{Unasked}
use Rattle.cmd_form.specs.declared.form.Form.TheVariants.{Text}
use Rattle.campaign_runs.specs.declared.campaign.Campaign.{Campaign}
use Rattle.page.specs.Asked.{expect_numbered, report_numbered}
use Rattle.page.specs.declared.seeds.AskedCampaign.{AskedCampaign}
use Rattle.page.specs.declared.seeds.AskedChoices.{AskedChoices}
use Rattle.page.specs.declared.seeds.AskedDraw.{AskedDraw}
use Rattle.sched_draw.specs.Limits.{most_depth, most_mean, most_one_in}
use Rattle.sched_draw.specs.declared.change_points.ChangePoints.TheVariants.{Anywhere}
use Rattle.sched_draw.specs.declared.order.Order.{Order}
use Rattle.sched_draw.specs.declared.order.Order.TheVariants.{Even, Bursts, Priorities, Mixed}
use Rattle.sched_draw.specs.declared.refusals.Refusals.{Refusals}
use Rattle.sched_draw.specs.declared.refusals.Refusals.TheVariants.{Never, OneIn}
use Rattle.sched_draw.specs.declared.schedule.Draw.{Draw}

-- a number is none of 1 to the most
abbrev pub IsOutside : ℕ → ℕ → Type 0
IsOutside most n = (n ≡ 0) ⊎ (most < n)

-- the order with this number, bursts with this mean and priorities with this depth; that there is
-- none
abbrev pub AsksOrder : ℕ → ℕ → Option Order → Type 0
AsksOrder order number (Some Even) = order ≡ 0
AsksOrder order number (Some (Bursts mean)) = (order ≡ 1) × (mean.choices ≡ number)
AsksOrder order number (Some (Priorities depth)) = (order ≡ 2) × (depth.number ≡ number)
AsksOrder order number (Some Mixed) = order ≡ 3
AsksOrder order number None =
    ((order ≡ 1) × IsOutside most_mean number) ⊎ (((order ≡ 2) × IsOutside most_depth number) ⊎ (3 < order))

-- a refusal with a chance of one in so many, or never for 0; that there is none
abbrev pub AsksRefusals : ℕ → Option Refusals → Type 0
AsksRefusals one_in (Some Never) = one_in ≡ 0
AsksRefusals one_in (Some (OneIn chance)) = chance.one_in ≡ one_in
AsksRefusals one_in None = most_one_in < one_in

-- the draw that is asked for, or that there is none
abbrev pub AsksDraw : AskedDraw → Option Draw → Type 0
AsksDraw asked (Some draw) =
    AsksOrder asked.order asked.number (Some draw.order) × AsksRefusals asked.one_in (Some draw.refusals)
    × (draw.points ≡ Anywhere)
AsksDraw asked None = AsksOrder asked.order asked.number None ⊎ AsksRefusals asked.one_in None

-- the choices of a seed that are asked for, or that there are none
abbrev pub AsksChoices : AskedChoices → Option SeedPlan → Type 0
AsksChoices asked (Some plan) =
    AsksDraw asked.draw (Some plan.draw) × (plan.steps ≡ asked.steps) × (plan.seed ≡ asked.seed)
AsksChoices asked None = AsksDraw asked.draw None

-- the campaign that is asked for, reported as text, without properties of one's own, without
-- deciding which runs hang and without words of memory, or that there is none: its seeds go past
-- 2 ^ 64 - 1, or a number is one of nothing
abbrev pub AsksCampaign : AskedCampaign → Option Campaign → Type 0
AsksCampaign asked (Some campaign) = (campaign.first ≡ asked.first) × (campaign.count ≡ asked.count)
    × (campaign.steps ≡ asked.steps) × AsksDraw asked.draw (Some campaign.draw)
    × (expect_numbered asked.rule asked.exit ≡ Some campaign.expect)
    × (campaign.properties ≡ no_properties) × (campaign.hangs ≡ Unasked) × (campaign.words ≡ no_named_words)
    × (report_numbered asked.report ≡ Some campaign.report) × (campaign.form ≡ Text)
    × (campaign.first + campaign.count ≤ 2 ^ 64)
AsksCampaign asked None = AsksDraw asked.draw None
    ⊎ ((expect_numbered asked.rule asked.exit ≡ None)
    ⊎ ((report_numbered asked.report ≡ None) ⊎ (2 ^ 64 < asked.first + asked.count)))
