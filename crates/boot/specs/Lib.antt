-- A boot in which nothing is lost. In reading order.

-- what contracts are written with
pub mod Rows
pub mod Blobs
pub mod Kernel
pub mod Checks
pub mod Entering
pub mod Plan
pub mod Pvh
pub mod Tree
pub mod ZeroPage
pub mod Putting
-- what theorems are stated with
pub mod There
