pub mod LinesLaws
pub mod Refusals
pub mod LineWritten
pub mod LongerGuest
pub mod HolesUntouched
pub mod WholeSlice
pub mod AnyCapacity
pub mod Outcomes
