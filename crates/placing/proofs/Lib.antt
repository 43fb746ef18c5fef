pub mod SearchLaws
pub mod FitLaws
pub mod PlacingLaws
pub mod Outcomes
