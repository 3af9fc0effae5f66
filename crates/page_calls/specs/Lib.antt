pub mod Explored
pub mod Replies
pub mod Shown
pub mod Sessions
