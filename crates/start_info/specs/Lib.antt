-- The PVH start block. In reading order.

-- what contracts are written with
pub mod Kinds
pub mod Parts
pub mod Writing
pub mod Checking
pub mod Answers
-- what theorems are stated with beside it
pub mod Rule
