pub mod PlanLaws
pub mod FileWritten
pub mod Refusals
pub mod MoreMemory
pub mod WholeSlice
pub mod Footprint
pub mod Outcomes
