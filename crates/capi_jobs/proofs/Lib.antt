pub mod JobsLaws
pub mod Outcomes
