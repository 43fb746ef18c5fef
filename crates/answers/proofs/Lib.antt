pub mod BoolLaws
pub mod PickLaws
pub mod TestsLaws
pub mod KeepingLaws
pub mod ListingLaws
pub mod Outcomes
