-- The entry points of loads. In reading order.

-- what contracts are written with
pub mod Values
pub mod Options
pub mod Parts
pub mod Loads
pub mod Refusals
pub mod Saved
pub mod States
-- what theorems are stated with besides
pub mod StateKept
