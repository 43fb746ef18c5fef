-- Loads of arm64 Images. In reading order.

-- what contracts are written with
pub mod Image
pub mod Plan
pub mod Answers
pub mod Parts
pub mod Memory
-- what theorems are stated with beside it
pub mod Footprint
pub mod WholeSlice
