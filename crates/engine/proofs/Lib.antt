pub mod RunLaws
pub mod Turns
pub mod Stretch
pub mod ChildLaws
pub mod Decisions
pub mod NodeLaws
pub mod JobLaws
