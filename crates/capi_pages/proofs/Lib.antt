pub mod StartsLaws
pub mod Outcomes
