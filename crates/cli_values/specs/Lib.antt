pub mod Draws
pub mod Schedules
pub mod Seconds
pub mod CampaignPlans
pub mod Reports
pub mod Explorations
pub mod JobCounts
pub mod Bounds
