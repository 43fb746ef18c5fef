pub mod PlacesLaws
pub mod Outcomes
