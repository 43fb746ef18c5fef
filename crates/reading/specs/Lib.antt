-- A reader of an image, and note headers. In reading order.

-- what contracts are written with
pub mod Places
pub mod Readers
pub mod Notes
-- what theorems are stated with beside it
pub mod Outcome
