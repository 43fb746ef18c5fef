-- Loads of bzImages. In reading order.

-- what contracts are written with
pub mod SetupHeader
pub mod Header
pub mod Kernel
pub mod Plan
pub mod Answers
pub mod Parts
pub mod Protocol
-- what theorems are stated with beside it
pub mod Copied
pub mod Returned
pub mod Footprint
pub mod WholeSlice
