pub mod Cases
pub mod Jobs
